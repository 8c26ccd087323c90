-- The two dashes before an option's name, and the `=` behind it.
use Rattle.std.proofs.Common.{◌≡◌, ◌∙◌, ◌==◌, ◌||◌, ℕ, Bool, true, false, not, cond, List, [], ◌∷◌, ◌++◌, take, drop}
use Rattle.std.proofs.Common.{Option, Some, None, codes, refl, sym, ap, arith, take-append-drop}
use Rattle.std.specs.List.{list_any}
use Rattle.std.specs.Str.{bytes_eq}
use Rattle.std.proofs.lemmas.Bool.Decides.{nat_tests}
use Rattle.std.proofs.lemmas.Bool.{and_parts}
use Rattle.std.proofs.lemmas.Option.{cond_some}
use Rattle.std.proofs.lemmas.Slice.Eq.{bytes_eq-Decides}
use Rattle.text_fields.specs.Reading.{after_front, behind, cut_at}
use Rattle.halo_words.specs.Table.{is_plain}
use Rattle.halo_words.specs.Sound.{is_name}
use Rattle.halo_words.specs.Reading.{named}

or_parts : (a b : Bool) → (a || b) ≡ false → (a ≡ false) × (b ≡ false)
or_parts true b is = absurd (cc)
or_parts false b is = (refl, is)

not_true : (b : Bool) → not b ≡ true → b ≡ false
not_true true is = absurd (cc)
not_true false is = refl

-- what stands behind two dashes
pub dashes : (rest : List ℕ) → after_front (codes "--") (codes "--" ++ rest) ≡ Some rest
unfolding after_front
dashes rest = refl

pub behind_dashes : (word rest : List ℕ) → after_front (codes "--") word ≡ Some rest → word ≡ codes "--" ++ rest
unfolding after_front
behind_dashes word rest is =
    let parts = cond_some (bytes_eq (take 2 word) (codes "--")) (drop 2 word) rest is in
    let front : take 2 word ≡ codes "--" = (bytes_eq-Decides (take 2 word) (codes "--")).0 parts.0 in
    sym (take-append-drop 2 word) ∙ (ap (λ a. a ++ drop 2 word) front ∙ ap (λ b. codes "--" ++ b) parts.1)

-- a plain text has no dashes before it
pub plain_has_none : (word : List ℕ) → is_plain word ≡ true → after_front (codes "--") word ≡ None
plain_has_none word plain = by_found (after_front (codes "--") word) refl
  where
    by_found : (o : Option (List ℕ)) → after_front (codes "--") word ≡ o → o ≡ None
    by_found None is = refl
    by_found (Some rest) is =
        absurd (let w : word ≡ 45 ∷ 45 ∷ rest =
        behind_dashes word rest is in let f : is_plain (45 ∷ 45 ∷ rest) ≡ true = ap is_plain (sym w) ∙ plain in cc)

module _ (name : List ℕ) where
  -- a name without `=`
  uncut : (bytes : List ℕ) → list_any (λ (b : ℕ). b == 61) bytes ≡ false → cut_at 61 bytes ≡ None
  uncut [] none = refl
  uncut (b ∷ bytes) none =
      let parts = or_parts (b == 61) (list_any (λ (x : ℕ). x == 61) bytes) none in
      let here : (b == 61) ≡ false = parts.0 in
      rw (here, uncut bytes parts.1) refl

  cut_behind : (bytes value : List ℕ) → list_any (λ (b : ℕ). b == 61) bytes ≡ false
      → cut_at 61 (bytes ++ (61 ∷ value)) ≡ Some (bytes, value)
  cut_behind [] value none = refl
  cut_behind (b ∷ bytes) value none =
      let parts = or_parts (b == 61) (list_any (λ (x : ℕ). x == 61) bytes) none in
      let here : (b == 61) ≡ false = parts.0 in
      rw (here, cut_behind bytes value parts.1) refl

  no_equals : is_name name ≡ true → list_any (λ (b : ℕ). b == 61) name ≡ false
  no_equals is = not_true _ (and_parts _ _ is).1

  pub apart_uncut : is_name name ≡ true → cut_at 61 name ≡ None
  apart_uncut is = uncut name (no_equals is)

  pub joined_cut : (value : List ℕ) → is_name name ≡ true → cut_at 61 (name ++ (61 ∷ value)) ≡ Some (name, value)
  joined_cut value is = cut_behind name value (no_equals is)

  -- the name of an option's word
  pub named_apart : is_name name ≡ true → named (codes "--" ++ name) ≡ name ∷ []
  unfolding named
  named_apart is = rw (dashes name, apart_uncut is) refl

  pub named_joined : (value : List ℕ) → is_name name ≡ true → named (codes "--" ++ (name ++ (61 ∷ value))) ≡ name ∷ []
  unfolding named
  named_joined value is = rw (dashes (name ++ (61 ∷ value)), joined_cut value is) refl

pub named_plain : (word : List ℕ) → is_plain word ≡ true → named word ≡ []
unfolding named
named_plain word plain = rw (plain_has_none word plain) refl

later_parts : (b : ℕ) (bytes : List ℕ) (parts : List ℕ × List ℕ) (o : Option (List ℕ × List ℕ))
    → behind b o ≡ Some parts
    → ((found : List ℕ × List ℕ) → o ≡ Some found → bytes ≡ found.0 ++ (61 ∷ found.1))
    → b ∷ bytes ≡ parts.0 ++ (61 ∷ parts.1)
later_parts b bytes parts None is whole = absurd (cc)
later_parts b bytes parts (Some found) is whole =
    let same : parts ≡ (b ∷ found.0, found.1) = cc in
    rw same (ap (λ r. b ∷ r) (whole found refl))

parts_by : (b : ℕ) (bytes : List ℕ) (parts : List ℕ × List ℕ) (test : Bool) → (b == 61) ≡ test
    → cond test (Some ([], bytes)) (behind b (cut_at 61 bytes)) ≡ Some parts
    → ((found : List ℕ × List ℕ) → cut_at 61 bytes ≡ Some found → bytes ≡ found.0 ++ (61 ∷ found.1))
    → b ∷ bytes ≡ parts.0 ++ (61 ∷ parts.1)
parts_by b bytes parts true test is whole =
    let equals : b ≡ 61 = grind (arith, nat_tests) in
    let same : parts ≡ ([], bytes) = cc in
    rw (same, equals) refl
parts_by b bytes parts false test is whole = later_parts b bytes parts (cut_at 61 bytes) is whole

-- the parts of a cut, with the `=` between them
pub cut_parts : (bytes : List ℕ) (parts : List ℕ × List ℕ) → cut_at 61 bytes ≡ Some parts
    → bytes ≡ parts.0 ++ (61 ∷ parts.1)
cut_parts [] parts is = absurd (cc)
cut_parts (b ∷ bytes) parts is = parts_by b bytes parts (b == 61) refl is (cut_parts bytes)
