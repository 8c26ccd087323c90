-- No item is refused exactly where each one passes at its place.
use Rattle.std.proofs.Common.{◌≡◌, ℕ, zero, suc, ◌+◌, ◌<◌, List, [], ◌∷◌, ◌++◌, get_or, length, refl, subst, arith}
use Rattle.std.proofs.Common.{Option, None}
use Rattle.first_check.specs.First.{first_from, first_item}
use Rattle.first_check.proofs.Checks.{both_none, none_both}

from_passes : {X A : Type 0} (f : ℕ → X → Option A) (i : ℕ) (xs : List X) → first_from f i xs ≡ None
    → (k : ℕ) (d : X) → k < length xs → f (i + k) (get_or xs k d) ≡ None
from_passes f i [] h k d l = absurd (omega arith)
from_passes f i (x ∷ xs) h zero d l =
    let z : i + 0 ≡ i = omega arith in
    rw z (none_both (f i x) (first_from f (i + 1) xs) h).0
from_passes f i (x ∷ xs) h (suc k) d l =
    let z : i + suc k ≡ i + 1 + k = omega arith in
    rw z (from_passes f (i + 1) xs (none_both (f i x) (first_from f (i + 1) xs) h).1 k d (omega arith))

from_none : {X A : Type 0} (f : ℕ → X → Option A) (i : ℕ) (xs : List X)
    → ((k : ℕ) (d : X) → k < length xs → f (i + k) (get_or xs k d) ≡ None) → first_from f i xs ≡ None
from_none f i [] h = refl
from_none f i (x ∷ xs) h =
    let z : i + 0 ≡ i = omega arith in
    both_none (f i x) (first_from f (i + 1) xs) (rw z at (h 0 x (omega arith)))
    (from_none f (i + 1) xs (λ k d l. let y : i + suc k ≡ i + 1 + k = omega arith in
    rw y at (h (suc k) d (omega arith))))

pub item_passes : {X A : Type 0} (f : ℕ → X → Option A) (xs : List X) → first_item f xs ≡ None
    → (k : ℕ) (d : X) → k < length xs → f k (get_or xs k d) ≡ None
item_passes f xs h k d l = let z : 0 + k ≡ k = omega arith in rw z at (from_passes f 0 xs h k d l)

pub item_none : {X A : Type 0} (f : ℕ → X → Option A) (xs : List X)
    → ((k : ℕ) (d : X) → k < length xs → f k (get_or xs k d) ≡ None) → first_item f xs ≡ None
item_none f xs h = from_none f 0 xs (λ k d l. let z : 0 + k ≡ k = omega arith in rw z (h k d l))

-- no item of two lists is refused, one behind the other, where none of either is at its place
pub from_join : {X A : Type 0} (f : ℕ → X → Option A) (i : ℕ) (xs ys : List X) → first_from f i xs ≡ None
    → first_from f (i + length xs) ys ≡ None → first_from f i (xs ++ ys) ≡ None
from_join f i [] ys h g = let z : i + 0 ≡ i = omega arith in subst (λ j. first_from f j ys ≡ None) z g
from_join f i (x ∷ xs) ys h g =
    let (here, rest) = none_both (f i x) (first_from f (i + 1) xs) h in
    let z : i + length (x ∷ xs) ≡ i + 1 + length xs = omega arith in
    both_none (f i x) (first_from f (i + 1) (xs ++ ys)) here
    (from_join f (i + 1) xs ys rest (subst (λ j. first_from f j ys ≡ None) z g))
