-- Whether numbers are distinct, by a sorted copy.
use Rattle.std.proofs.Common.{◌≡◌, ◌==◌, ◌&&◌, ◌<◌, ◌≤◌, ◌+◌, ℕ, zero, suc, Bool, true, false, not, List, [], ◌∷◌}
use Rattle.std.proofs.Common.{length, get_or, refl, ap, sym, ◌∙◌, arith}
use Rattle.std.specs.Prelude.{IsPermutation, IsSorted}
use Rattle.std.specs.List.{list_all, IsDistinct, AllByRecursion}
use Rattle.std.specs.Ordering.{nat_cmp}
use Rattle.std.proofs.lemmas.Bool.Decides.{nat_tests}
use Rattle.std.proofs.lemmas.List.Sorted.{IsPermutation-sym}
use Rattle.std.proofs.lemmas.List.Kept.{AllPairs-from_increasing}
use Rattle.std.proofs.lemmas.Map.Keys.{IsDistinct-head, IsDistinct-tail, IsDistinct-from_apart}
use Rattle.std.proofs.lemmas.Map.Keys.{IsDistinct-IsPermutation, ge_from_not_lt}
use Rattle.profile_text.specs.Distinct.{are_distinct, differ_in_turn}

abbrev same : ℕ → ℕ → Bool
same x y = x == y

apart_from : (x y : ℕ) → (x == y) ≡ false → x ≡ y → ⊥
apart_from x y e is = grind (arith, nat_tests)

is_apart : (x y : ℕ) → (x ≡ y → ⊥) → (x == y) ≡ false
is_apart x y other = grind (arith, nat_tests)

turned : (x y : ℕ) → (x == y) ≡ (y == x)
turned x y = grind (arith, nat_tests)

both : (a b : Bool) → (not a && b) ≡ true → (a ≡ false) × (b ≡ true)
both true b e = absurd cc
both false b e = (refl, e)

all_to : (x : ℕ) (xs : List ℕ) → list_all (λ y. not (x == y)) xs ≡ true → AllByRecursion (λ y. (x == y) ≡ false) xs
all_to x [] e = tt
all_to x (y ∷ ys) e = let p = both (x == y) (list_all (λ z. not (x == z)) ys) e in (p.0, all_to x ys p.1)

all_from : (x : ℕ) (xs : List ℕ) → AllByRecursion (λ y. (x == y) ≡ false) xs → list_all (λ y. not (x == y)) xs ≡ true
all_from x [] all = refl
all_from x (y ∷ ys) all = rw (all.0, all_from x ys all.1) refl

two : (a b : Bool) → (a && b) ≡ true → (a ≡ true) × (b ≡ true)
two true b e = (refl, e)
two false b e = absurd cc

distinct_to : (xs : List ℕ) → are_distinct xs ≡ true → IsDistinct same xs
unfolding IsDistinct
distinct_to [] e = tt
distinct_to (x ∷ xs) e =
    let p = two (list_all (λ y. not (x == y)) xs) (are_distinct xs) e in
    (all_to x xs p.0, distinct_to xs p.1)

distinct_from : (xs : List ℕ) → IsDistinct same xs → are_distinct xs ≡ true
distinct_from [] distinct = refl
distinct_from (x ∷ xs) distinct =
    rw (all_from x xs (IsDistinct-head same x xs distinct), distinct_from xs (IsDistinct-tail same x xs distinct)) refl

-- numbers that differ in turn differ place by place
pub differ_at : (xs : List ℕ) (k : ℕ) → differ_in_turn xs ≡ true → k + 1 < length xs
    → get_or xs k 0 ≡ get_or xs (k + 1) 0 → ⊥
differ_at [] k e inside is = omega arith
differ_at (x ∷ []) k e inside is = omega arith
differ_at (x ∷ y ∷ xs) zero e inside is = apart_from x y ((both (x == y) (differ_in_turn (y ∷ xs)) e).0) is
differ_at (x ∷ y ∷ xs) (suc k) e inside is =
    let next : suc k + 1 ≡ suc (k + 1) = omega arith in
    differ_at (y ∷ xs) k ((both (x == y) (differ_in_turn (y ∷ xs)) e).1) (omega arith) (is
    ∙ ap (λ i. get_or (x ∷ y ∷ xs) i 0) next)

pub all_differ : (xs : List ℕ) → ((k : ℕ) → k + 1 < length xs → get_or xs k 0 ≡ get_or xs (k + 1) 0 → ⊥)
    → differ_in_turn xs ≡ true
all_differ [] apart = refl
all_differ (x ∷ []) apart = refl
all_differ (x ∷ y ∷ xs) apart =
    let here : (x == y) ≡ false = is_apart x y (λ e. apart 0 (omega arith) e) in
    let later : differ_in_turn (y ∷ xs) ≡ true = all_differ (y ∷ xs) (λ k inside is.
    let next : suc k + 1 ≡ suc (k + 1) = omega arith in
    apart (suc k) (omega arith) (is ∙ ap (λ i. get_or (x ∷ y ∷ xs) i 0) (sym next))) in
    rw (here, later) refl

not_true : (t : Bool) → (t ≡ true → ⊥) → t ≡ false
not_true true never = absurd (never refl)
not_true false never = refl

pub some_same : (xs : List ℕ) (k : ℕ) → k + 1 < length xs → get_or xs k 0 ≡ get_or xs (k + 1) 0
    → differ_in_turn xs ≡ false
some_same xs k inside is = not_true (differ_in_turn xs) (λ e. differ_at xs k e inside is)

same_test : (a b : Bool) → (a ≡ true → b ≡ true) → (b ≡ true → a ≡ true) → a ≡ b
same_test true b there back = let e : b ≡ true = there refl in cc
same_test false true there back = back refl
same_test false false there back = refl

turn_from : (xs : List ℕ) → IsDistinct same xs → differ_in_turn xs ≡ true
turn_from [] distinct = refl
turn_from (x ∷ []) distinct = refl
turn_from (x ∷ y ∷ xs) distinct =
    rw (
      (IsDistinct-head same x (y ∷ xs) distinct).0,
      turn_from (y ∷ xs) (IsDistinct-tail same x (y ∷ xs) distinct),
    ) refl

turn_to : (xs : List ℕ) → IsSorted nat_cmp xs → differ_in_turn xs ≡ true → IsDistinct same xs
turn_to xs sorted differ =
    let rises : (k : ℕ) → k + 1 < length xs → get_or xs k 0 < get_or xs (k + 1) 0 = λ k inside.
    (let low : get_or xs k 0 ≤ get_or xs (k + 1) 0 =
    ge_from_not_lt (get_or xs (k + 1) 0) (get_or xs k 0) (sorted k 0 (omega arith) inside) in
    let apart : get_or xs k 0 ≡ get_or xs (k + 1) 0 → ⊥ = differ_at xs k differ inside in
    omega arith) in
    let pairs = AllPairs-from_increasing xs rises in
    IsDistinct-from_apart same xs (λ i j d first inside. is_apart (get_or xs i d) (get_or xs j d)
    (λ e. omega (arith, pairs i j d first inside, e)))

-- the numbers of a sorted copy differ in turn exactly where those of the list are distinct
pub by_sorted : (xs ys : List ℕ) → IsPermutation xs ys → IsSorted nat_cmp ys → differ_in_turn ys ≡ are_distinct xs
by_sorted xs ys moved sorted =
    let back : IsDistinct same ys → IsDistinct same xs =
    λ d. IsDistinct-IsPermutation same turned ys xs (IsPermutation-sym xs ys moved) d in
    same_test (differ_in_turn ys) (are_distinct xs)
    (λ differ. distinct_from xs (back (turn_to ys sorted differ)))
    (λ distinct. turn_from ys (IsDistinct-IsPermutation same turned xs ys moved (distinct_to xs distinct)))
