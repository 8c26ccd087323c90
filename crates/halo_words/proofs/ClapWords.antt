-- What clap sees in words: an option with or without its value, or no flag.
use Rattle.std.proofs.Common.{◌≡◌, ◌∙◌, ◌==◌, ◌||◌, ◌+◌, ℕ, Bool, true, false, not, cond, List, [], ◌∷◌, ◌++◌, length}
use Rattle.std.proofs.Common.{take, drop, Option, Some, None, codes, refl, ap, arith, append_assoc, length-append}
use Rattle.std.specs.List.{list_any, position_or_len, before_first, after_first}
use Rattle.std.specs.Str.{bytes_eq}
use Rattle.std.proofs.lemmas.Bool.{and_parts}
use Rattle.std.proofs.lemmas.Bool.Decides.{nat_tests}
use Rattle.std.proofs.lemmas.List.{take_at, drop_at, take_all}
use Rattle.clap.specs.Lexer.{has_byte, name_and_value, long_of_rest, long_of, short_of}
use Rattle.halo_words.specs.Table.{is_plain}
use Rattle.halo_words.specs.Sound.{is_name}

or_parts : (a b : Bool) → (a || b) ≡ false → (a ≡ false) × (b ≡ false)
or_parts true b is = absurd (cc)
or_parts false b is = (refl, is)

not_true : (b : Bool) → not b ≡ true → b ≡ false
not_true true is = absurd (cc)
not_true false is = refl

-- a text that isn't empty and doesn't begin with `-` is no flag
module _ (word : List ℕ) (plain : is_plain word ≡ true) where
  pub no_dashes : bytes_eq word (45 ∷ 45 ∷ []) ≡ false
  no_dashes = at word plain
    where
      at : (w : List ℕ) → is_plain w ≡ true → bytes_eq w (45 ∷ 45 ∷ []) ≡ false
      at [] is = absurd (cc)
      at (b ∷ w) is = let first : (b == 45) ≡ false = not_true (b == 45) is in rw first refl

  pub no_long : long_of word ≡ None
  no_long = at word plain
    where
      at : (w : List ℕ) → is_plain w ≡ true → long_of w ≡ None
      at [] is = absurd (cc)
      at (b ∷ w) is = let first : (b == 45) ≡ false = not_true (b == 45) is in rw first refl

  pub no_short : short_of word ≡ None
  no_short = at word plain
    where
      at : (w : List ℕ) → is_plain w ≡ true → short_of w ≡ None
      at [] is = absurd (cc)
      at (b ∷ w) is = let first : (b == 45) ≡ false = not_true (b == 45) is in rw first refl

abbrev is_equals : ℕ → Bool
is_equals b = b == 61

-- the place of the first `=`
place_within : (name value : List ℕ) → list_any is_equals name ≡ false
    → position_or_len is_equals (name ++ (61 ∷ value)) ≡ length name
place_within [] value none = refl
place_within (b ∷ name) value none =
    let parts = or_parts (b == 61) (list_any is_equals name) none in
    let here : (b == 61) ≡ false = parts.0 in
    let later : position_or_len is_equals (name ++ (61 ∷ value)) ≡ length name = place_within name value parts.1 in
    rw here (omega (arith, later))

place_past : (name : List ℕ) → list_any is_equals name ≡ false → position_or_len is_equals name ≡ length name
place_past [] none = refl
place_past (b ∷ name) none =
    let parts = or_parts (b == 61) (list_any is_equals name) none in
    let here : (b == 61) ≡ false = parts.0 in
    let later : position_or_len is_equals name ≡ length name = place_past name parts.1 in
    rw here (omega (arith, later))

has_it : (name value : List ℕ) → has_byte 61 (name ++ (61 ∷ value)) ≡ true
has_it [] value = refl
has_it (b ∷ name) value = at (b == 61) (has_it name value)
  where
    at : (t : Bool) → has_byte 61 (name ++ (61 ∷ value)) ≡ true → (t || has_byte 61 (name ++ (61 ∷ value))) ≡ true
    at true later = refl
    at false later = later

rest_of : (rest : List ℕ) → not (length rest == 0) ≡ true → long_of_rest rest ≡ Some (name_and_value rest)
rest_of [] some = absurd (cc)
rest_of (b ∷ rest) some = refl

no_end : (rest : List ℕ) → not (length rest == 0) ≡ true → bytes_eq rest [] ≡ false
no_end [] some = absurd (cc)
no_end (b ∷ rest) some = refl

some_more : (name value : List ℕ) → not (length (name ++ (61 ∷ value)) == 0) ≡ true
some_more [] value = grind (arith, nat_tests)
some_more (b ∷ name) value = grind (arith, nat_tests)

module _ (name : List ℕ) (sound : is_name name ≡ true) where
  no_equals : list_any is_equals name ≡ false
  no_equals = not_true (list_any is_equals name) (and_parts (not (length name == 0))
      (not (list_any is_equals name)) sound).1

  split_joined : (value : List ℕ) → name_and_value (name ++ (61 ∷ value)) ≡ (name, Some value)
  split_joined value =
      let place : position_or_len is_equals (name ++ (61 ∷ value)) ≡ length name = place_within name value no_equals in
      let front : take (position_or_len is_equals (name ++ (61 ∷ value))) (name ++ (61 ∷ value)) ≡ name =
      rw place (take_at name (61 ∷ value) (length name) refl) in
      let back : drop (position_or_len is_equals (name ++ (61 ∷ value)) + 1) (name ++ (61 ∷ value)) ≡ value =
      rw place (dropped value) in
      pair_is (before_first is_equals (name ++ (61 ∷ value))) name
      (after_first is_equals (name ++ (61 ∷ value))) value (has_byte 61 (name ++ (61 ∷ value))) front back
      (has_it name value)
    where
      dropped : (value : List ℕ) → drop (length name + 1) (name ++ (61 ∷ value)) ≡ value
      dropped value = rw (← append_assoc name (61 ∷ []) value)
          (drop_at (name ++ 61 ∷ []) value (length name + 1) (length-append name (61 ∷ [])))

      pair_is : (a b c d : List ℕ) (t : Bool) → a ≡ b → c ≡ d → t ≡ true
          → (let p : List ℕ × Option (List ℕ) = (a, cond t (Some c) None) in p) ≡ (b, Some d)
      pair_is a b c d t e f g = cc

  split_apart : name_and_value name ≡ (name, None)
  split_apart =
      let place : position_or_len is_equals name ≡ length name = place_past name no_equals in
      let front : take (position_or_len is_equals name) name ≡ name =
      rw place (take_all (length name) name (omega arith)) in
      pair_is (before_first is_equals name) name (after_first is_equals name) (has_byte 61 name) front no_equals
    where
      pair_is : (a b c : List ℕ) (t : Bool) → a ≡ b → t ≡ false
          → (let p : List ℕ × Option (List ℕ) = (a, cond t (Some c) None) in p) ≡ (b, None)
      pair_is a b c t e f = cc

  is_not_empty : not (length name == 0) ≡ true
  is_not_empty = (and_parts (not (length name == 0)) (not (list_any is_equals name)) sound).0

  -- `--name` and `--name=value`
  pub long_apart : long_of (codes "--" ++ name) ≡ Some (name, None)
  long_apart = rest_of name is_not_empty ∙ ap (λ p. Some p) split_apart

  pub long_joined : (value : List ℕ) → long_of (codes "--" ++ (name ++ (61 ∷ value))) ≡ Some (name, Some value)
  long_joined value = rest_of (name ++ (61 ∷ value)) (some_more name value) ∙ ap (λ p. Some p) (split_joined value)

  pub apart_is_no_end : bytes_eq (codes "--" ++ name) (45 ∷ 45 ∷ []) ≡ false
  apart_is_no_end = no_end name is_not_empty

  pub joined_is_no_end : (value : List ℕ) → bytes_eq (codes "--" ++ (name ++ (61 ∷ value))) (45 ∷ 45 ∷ []) ≡ false
  joined_is_no_end value = no_end (name ++ (61 ∷ value)) (some_more name value)
