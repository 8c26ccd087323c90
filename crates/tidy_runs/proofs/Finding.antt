-- What is found in a list.
use Rattle.std.proofs.Common.{◌≡◌, ◌≢◌, ◌∙◌, ℕ, zero, suc, ◌+◌, ◌<◌, Bool, true, false, cond, List, [], ◌∷◌, length}
use Rattle.std.proofs.Common.{get_or, refl, sym, ap, inl, inr, arith, Option, None, Some, option_and_then, slice_get}
use Rattle.std.specs.Prelude.{All, AllPairs, ◌++◌, find, position}
use Rattle.std.proofs.lemmas.Bool.{cases_order, both_ways}
use Rattle.std.proofs.lemmas.Iterator.Adapters.{position_from-zero}
use Rattle.std.proofs.lemmas.List.{get_or_default}
use Rattle.std.proofs.lemmas.List.Elements.{All-cons, All-head, All-nil, All-tail}
use Rattle.std.specs.List.{position_from}

-- an element, with its place
abbrev pub IsMember : {X : Type 0} → List X → X → Type 0
IsMember xs x = (i : ℕ) × (i < length xs) × (get_or xs i x ≡ x)

module _ {X : Type 0} (p : X → Bool) where
  pub find_some : (xs : List X) (x : X) → find p xs ≡ Some x → (p x ≡ true) × IsMember xs x
  find_some [] x is = absurd (cc)
  find_some (y ∷ ys) x is = by (λ h. find_some ys x h) (p y) refl is
    where
      by : (find p ys ≡ Some x → (p x ≡ true) × IsMember ys x) → (b : Bool) → p y ≡ b
          → cond b (Some y) (find p ys) ≡ Some x → (p x ≡ true) × IsMember (y ∷ ys) x
      by rest true test is = let same : y ≡ x = cc in (ap p (sym same) ∙ test, (0, omega arith, same))
      by rest false test is =
          let (passes, (i, within, at)) = rest is in (passes, (suc i, omega (arith, within), at))

  pub find_none : (xs : List X) (x : X) → find p xs ≡ None → IsMember xs x → p x ≡ true → ⊥
  find_none [] x is (i, within, at) test = omega (arith, within)
  find_none (y ∷ ys) x is (i, within, at) test = by (λ h m. find_none ys x h m test) (p y) refl is i within at
    where
      by : (find p ys ≡ None → IsMember ys x → ⊥) → (b : Bool) → p y ≡ b → cond b (Some y) (find p ys) ≡ None
          → (i : ℕ) → i < length (y ∷ ys) → get_or (y ∷ ys) i x ≡ x → ⊥
      by rest true first is i within at = absurd (cc)
      by rest false first is zero within at = both_ways (p y) first (ap p at ∙ test)
      by rest false first is (suc i) within at = rest is (i, omega (arith, within), at)

-- two elements with one key are one, where keys differ
pub one_of_key : {X : Type 0} (key : X → ℕ) (xs : List X) → AllPairs (λ x y. key x ≢ key y) xs
    → (x y : X) → IsMember xs x → IsMember xs y → key x ≡ key y → x ≡ y
one_of_key key xs apart x y (i, in_i, at_i) (j, in_j, at_j) same = elim (cases_order i j) [
  | inl equal ↦
      let moved : get_or xs i x ≡ get_or xs j x = ap (λ k. get_or xs k x) equal in
      sym at_i ∙ (moved ∙ (get_or_default xs j x y in_j ∙ at_j))
  | inr (inl less) ↦
      let there : get_or xs j x ≡ y = get_or_default xs j x y in_j ∙ at_j in
      absurd (apart i j x less in_j (ap key at_i ∙ (same ∙ sym (ap key there))))
  | inr (inr more) ↦
      let there : get_or xs i y ≡ x = get_or_default xs i y x in_i ∙ at_i in
      absurd (apart j i y more in_i (ap key at_j ∙ (sym same ∙ sym (ap key there))))
]

-- the first element that passes, by its position
from_there : {X : Type 0} (p : X → Bool) (get : ℕ → Option X) (xs : List X) (i : ℕ)
    → ((j : ℕ) → get (i + j) ≡ slice_get xs j) → option_and_then get (position_from p i xs) ≡ find p xs
from_there p get [] i h = refl
from_there p get (x ∷ xs) i h = by (p x) (from_there p get xs (i + 1) (λ j. ap get (omega arith) ∙ h (suc j)))
  where
    by : (b : Bool) → option_and_then get (position_from p (i + 1) xs) ≡ find p xs
        → option_and_then get (cond b (Some i) (position_from p (i + 1) xs)) ≡ cond b (Some x) (find p xs)
    by true rest = ap get (omega arith) ∙ h 0
    by false rest = rest

pub by_position : {X : Type 0} (p : X → Bool) (xs : List X)
    → option_and_then (slice_get xs) (position p xs) ≡ find p xs
by_position p xs = ap (option_and_then (slice_get xs)) (position_from-zero p xs)
    ∙ from_there p (slice_get xs) xs 0 (λ j. ap (slice_get xs) (omega arith))

-- what holds of each element holds of each of a front
pub all_front : {X : Type 0} (P : X → Type 0) (xs ys : List X) → All P (xs ++ ys) → All P xs
all_front P [] ys all = All-nil P
all_front P (x ∷ xs) ys all =
    All-cons P x xs (All-head P x (xs ++ ys) all) (all_front P xs ys (All-tail P x (xs ++ ys) all))
