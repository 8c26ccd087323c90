-- Counts and sums over the numbers below a bound.
use Rattle.std.proofs.Common.{◌≡◌, ◌<◌, ◌≤◌, ◌+◌, ◌*◌, ℕ, zero, suc, Bool, true, false, cond, List, [], ◌∷◌, length}
use Rattle.std.proofs.Common.{drop, refl, ap, arith}
use Rattle.affinity.specs.Weights.{count_below, sum_below}

-- one for a test that is passed
abbrev pub one : Bool → ℕ
one t = cond t 1 0

pub one_le : (t : Bool) → one t ≤ 1
one_le true = omega arith
one_le false = omega arith

pub same_count : (f g : ℕ → Bool) (n : ℕ) → ((k : ℕ) → k < n → f k ≡ g k) → count_below f n ≡ count_below g n
same_count f g zero same = refl
same_count f g (suc n) same =
    let here : one (f n) ≡ one (g n) = ap one (same n (omega arith)) in
    omega (arith, same_count f g n (λ k h. same k (omega arith)))

pub same_sum : (f g : ℕ → ℕ) (n : ℕ) → ((k : ℕ) → k < n → f k ≡ g k) → sum_below f n ≡ sum_below g n
same_sum f g zero same = refl
same_sum f g (suc n) same =
    omega (arith, same n (omega arith), same_sum f g n (λ k h. same k (omega arith)))

-- the first number of a count
pub count_front : (f : ℕ → Bool) (n : ℕ) → count_below f (suc n) ≡ one (f 0) + count_below (λ k. f (suc k)) n
count_front f zero = omega arith
count_front f (suc n) = omega (arith, count_front f n)

pub count_le : (f : ℕ → Bool) (n : ℕ) → count_below f n ≤ n
count_le f zero = omega arith
count_le f (suc n) = omega (arith, one_le (f n), count_le f n)

pub sum_le : (f : ℕ → ℕ) (n m : ℕ) → ((k : ℕ) → k < n → f k ≤ m) → sum_below f n ≤ n * m
sum_le f zero m small = omega arith
sum_le f (suc n) m small = omega (arith, small n (omega arith), sum_le f n m (λ k h. small k (omega arith)))

-- how many ends of a list, each with what stands behind it, pass a test
abbrev pub ends_count : {X : Type 0} → (X → List X → Bool) → List X → ℕ
ends_count test [] = 0
ends_count test (x ∷ xs) = one (test x xs) + ends_count test xs

-- a test of an end, which is not empty
abbrev pub at_end : {X : Type 0} → (X → List X → Bool) → List X → Bool
at_end test [] = false
at_end test (x ∷ xs) = test x xs

pub count_ends : {X : Type 0} (test : X → List X → Bool) (xs : List X)
    → count_below (λ k. at_end test (drop k xs)) (length xs) ≡ ends_count test xs
count_ends test [] = refl
count_ends test (x ∷ xs) =
    omega (arith, count_front (λ k. at_end test (drop k (x ∷ xs))) (length xs), count_ends test xs)
