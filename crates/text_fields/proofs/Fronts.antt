-- A fixed front, and the part of a text up to an end byte.
use Rattle.std.proofs.Common.{◌≡◌, ◌≢◌, ◌==◌, ◌<◌, ℕ, suc, All, Bool, true, false, cond, List, [], ◌∷◌, ◌++◌, length}
use Rattle.std.proofs.Common.{take, drop, Option, Some, None, refl, ap, subst, arith, take-append-drop}
use Rattle.std.specs.Str.{all_ascii_digits, bytes_eq}
use Rattle.std.specs.Char.{is_ascii_digit}
use Rattle.std.proofs.lemmas.List.{take_at, drop_at}
use Rattle.std.proofs.lemmas.List.Elements.{All-cons}
use Rattle.std.proofs.lemmas.Option.{cond_some, some_pair_parts}
use Rattle.std.proofs.lemmas.Slice.Eq.{bytes_eq-Decides}
use Rattle.std.proofs.lemmas.Bool.Decides.{nat_tests}
use Rattle.text_fields.proofs.Steps.{and_parts}
use Rattle.text_fields.specs.Reading.{after_front, behind, cut_at}

-- what is found behind a front stands behind it
pub front_takes : (front bytes rest : List ℕ) → after_front front bytes ≡ Some rest → bytes ≡ front ++ rest
unfolding after_front
front_takes front bytes rest found =
    let p : (bytes_eq (take (length front) bytes) front ≡ true) × (drop (length front) bytes ≡ rest) =
    cond_some _ _ _ found in
    let t : take (length front) bytes ≡ front = (bytes_eq-Decides (take (length front) bytes) front).0 p.0 in
    cc (take-append-drop (length front) bytes, t, p.1)

-- what stands behind a front is found
pub front_again : (front rest : List ℕ) → after_front front (front ++ rest) ≡ Some rest
unfolding after_front
front_again front rest =
    rw (
      take_at front rest (length front) refl,
      drop_at front rest (length front) refl,
      (bytes_eq-Decides front front).1 refl,
    ) refl

-- nothing is found where the first bytes differ
pub front_fails : (f g : ℕ) (front bytes : List ℕ) → (g == f) ≡ false → after_front (f ∷ front) (g ∷ bytes) ≡ None
unfolding after_front
front_fails f g front bytes differs = rw differs refl

-- a part with a byte before it comes from the part
behind_takes : {P : Type 0} (b : ℕ) (o : Option (List ℕ × List ℕ)) (word rest : List ℕ) → behind b o ≡ Some (word, rest)
    → ((w : List ℕ) → o ≡ Some (w, rest) → word ≡ b ∷ w → P) → P
behind_takes b None word rest e k = absurd cc
behind_takes b (Some parts) word rest e k =
    let both : (b ∷ parts.0 ≡ word) × (parts.1 ≡ rest) = some_pair_parts _ _ _ _ e in
    k parts.0 (ap (λ r. Some (parts.0, r)) both.1) (cc (both.0))

behind_none : (b : ℕ) (o : Option (List ℕ × List ℕ)) → behind b o ≡ None → o ≡ None
behind_none b None e = refl
behind_none b (Some parts) e = absurd cc

-- one byte of a cut
cut_step : (end b : ℕ) (bs word rest : List ℕ) (t : Bool) → (b == end) ≡ t
    → cond t (Some ([], bs)) (behind b (cut_at end bs)) ≡ Some (word, rest)
    → ((w : List ℕ) → cut_at end bs ≡ Some (w, rest) → bs ≡ w ++ (end ∷ rest)) → b ∷ bs ≡ word ++ (end ∷ rest)
cut_step end b bs word rest true test found later =
    let both : ([] ≡ word) × (bs ≡ rest) = some_pair_parts _ _ _ _ found in
    let same : b ≡ end = grind (arith, nat_tests) in
    rw (← both.0) (cc (both.1, same))
cut_step end b bs word rest false test found later =
    behind_takes b (cut_at end bs) word rest found (λ w inner is. rw is (ap (λ r. b ∷ r) (later w inner)))

-- the parts of a cut, with the end byte between them, are the text
pub cut_takes : (end : ℕ) (bytes word rest : List ℕ) → cut_at end bytes ≡ Some (word, rest)
    → bytes ≡ word ++ (end ∷ rest)
cut_takes end [] word rest found = absurd cc
cut_takes end (b ∷ bs) word rest found =
    cut_step end b bs word rest (b == end) refl found (λ w inner. cut_takes end bs w rest inner)

digit_is_no_end : (end c : ℕ) → end < 48 → is_ascii_digit c ≡ true → (c == end) ≡ false
digit_is_no_end end c low digit = grind (arith, nat_tests)

end_is_end : (end : ℕ) → (end == end) ≡ true
end_is_end end = grind (arith, nat_tests)

no_end : (end b : ℕ) → (b == end) ≡ false → b ≢ end
no_end end b test = grind (arith, nat_tests)

is_no_end : (end b : ℕ) → b ≢ end → (b == end) ≡ false
is_no_end end b differs = grind (arith, nat_tests)

first_step : (end b : ℕ) (bs word rest : List ℕ) (t : Bool) → (b == end) ≡ t
    → cond t (Some ([], bs)) (behind b (cut_at end bs)) ≡ Some (word, rest)
    → ((w : List ℕ) → cut_at end bs ≡ Some (w, rest) → All (λ c. c ≢ end) w) → All (λ c. c ≢ end) word
first_step end b bs word rest true test found later =
    let both : ([] ≡ word) × (bs ≡ rest) = some_pair_parts _ _ _ _ found in
    subst (All (λ c. c ≢ end)) both.0 (λ k d m. absurd (omega arith))
first_step end b bs word rest false test found later =
    behind_takes b (cut_at end bs) word rest found
    (λ w inner is. rw is (All-cons (λ c. c ≢ end) b w (no_end end b test) (later w inner)))

-- no byte of the first part of a cut is the end byte
pub cut_first : (end : ℕ) (bytes word rest : List ℕ) → cut_at end bytes ≡ Some (word, rest) → All (λ b. b ≢ end) word
cut_first end [] word rest found = absurd cc
cut_first end (b ∷ bs) word rest found =
    first_step end b bs word rest (b == end) refl found (λ w inner. cut_first end bs w rest inner)

-- what has no end byte is cut behind it
pub cut_found : (end : ℕ) (word rest : List ℕ) → All (λ b. b ≢ end) word
    → cut_at end (word ++ (end ∷ rest)) ≡ Some (word, rest)
cut_found end [] rest none = rw (end_is_end end) refl
cut_found end (c ∷ cs) rest none =
    rw (is_no_end end c (none 0 c (omega arith)), cut_found end cs rest (λ k d m. none (suc k) d (omega arith))) refl

-- a text that isn't cut has no end byte
none_step : (end b : ℕ) (bs : List ℕ) (t : Bool) → (b == end) ≡ t
    → cond t (Some ([], bs)) (behind b (cut_at end bs)) ≡ None → (cut_at end bs ≡ None → All (λ c. c ≢ end) bs)
    → All (λ c. c ≢ end) (b ∷ bs)
none_step end b bs true test whole later = absurd cc
none_step end b bs false test whole later =
    All-cons (λ c. c ≢ end) b bs (no_end end b test) (later (behind_none b (cut_at end bs) whole))

pub cut_none : (end : ℕ) (bytes : List ℕ) → cut_at end bytes ≡ None → All (λ b. b ≢ end) bytes
cut_none end [] whole = λ k d m. absurd (omega arith)
cut_none end (b ∷ bs) whole = none_step end b bs (b == end) refl whole (cut_none end bs)

pub none_cut : (end : ℕ) (bytes : List ℕ) → All (λ b. b ≢ end) bytes → cut_at end bytes ≡ None
none_cut end [] none = refl
none_cut end (b ∷ bs) none =
    rw (is_no_end end b (none 0 b (omega arith)), none_cut end bs (λ k d m. none (suc k) d (omega arith))) refl

-- digits before an end byte that is no digit are cut there
pub cut_again : (end : ℕ) (word rest : List ℕ) → all_ascii_digits word ≡ true → end < 48
    → cut_at end (word ++ (end ∷ rest)) ≡ Some (word, rest)
cut_again end [] rest digits low = rw (end_is_end end) refl
cut_again end (c ∷ cs) rest digits low =
    let both : (is_ascii_digit c ≡ true) × (all_ascii_digits cs ≡ true) =
    and_parts (is_ascii_digit c) (all_ascii_digits cs) digits in
    rw (digit_is_no_end end c low both.0, cut_again end cs rest both.1 low) refl
