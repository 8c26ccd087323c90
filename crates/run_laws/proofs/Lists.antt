-- Items of lists with one item more.
use Rattle.std.proofs.Common.{◌≡◌, ◌≢◌, ◌⊎◌, ℕ, zero, suc, ◌<◌, List, [], ◌∷◌, ◌++◌, length, refl, ap, arith, inl, inr}
use Rattle.std.specs.Prelude.{Some, slice_get, slice_index, slice_set}
use Rattle.std.proofs.lemmas.List.{get_or_append_left}

-- an item of a list with one more is one of the list or the last
pub last_or_old : {A : Type 0} (xs : List A) (x : A) (b : ℕ) (k : A) → slice_get (xs ++ x ∷ []) b ≡ Some k
    → (slice_get xs b ≡ Some k) ⊎ ((b ≡ length xs) × (x ≡ k))
last_or_old [] x zero k e = let same : x ≡ k = cc in inr (refl, same)
last_or_old [] x (suc b) k e = absurd (cc)
last_or_old (y ∷ ys) x zero k e = inl e
last_or_old (y ∷ ys) x (suc b) k e = by_rest (last_or_old ys x b k e)
  where
    by_rest : (slice_get ys b ≡ Some k) ⊎ ((b ≡ length ys) × (x ≡ k))
        → (slice_get ys b ≡ Some k) ⊎ ((suc b ≡ suc (length ys)) × (x ≡ k))
    by_rest (inl old) = inl old
    by_rest (inr (place, same)) = inr (ap suc place, same)

pub still_there : {A : Type 0} (xs : List A) (x : A) (b : ℕ) (k : A) → slice_get xs b ≡ Some k
    → slice_get (xs ++ x ∷ []) b ≡ Some k
still_there [] x b k e = absurd (cc)
still_there (y ∷ ys) x zero k e = e
still_there (y ∷ ys) x (suc b) k e = still_there ys x b k e

pub last_there : {A : Type 0} (xs : List A) (x : A) → slice_get (xs ++ x ∷ []) (length xs) ≡ Some x
last_there [] x = refl
last_there (y ∷ ys) x = last_there ys x

pub index_still : (at : List ℕ) (a b : ℕ) → b < length at → slice_index (at ++ a ∷ []) b ≡ slice_index at b
index_still at a b low = get_or_append_left at (a ∷ []) 0 b low

pub index_last : (at : List ℕ) (a b : ℕ) → b ≡ length at → slice_index (at ++ a ∷ []) b ≡ a
index_last [] a zero e = refl
index_last [] a (suc b) e = absurd (omega (arith, e))
index_last (x ∷ xs) a zero e = absurd (omega (arith, e))
index_last (x ∷ xs) a (suc b) e = index_last xs a b (omega (arith, e))

-- an item of a list in which one was set
pub set_cases : {A : Type 0} (xs : List A) (n c : ℕ) (v l : A) → slice_get (slice_set xs n v) c ≡ Some l
    → ((c ≡ n) × (v ≡ l)) ⊎ ((c ≢ n) × (slice_get xs c ≡ Some l))
set_cases [] n c v l e = absurd (cc)
set_cases (x ∷ xs) zero zero v l e = let same : v ≡ l = cc in inl (refl, same)
set_cases (x ∷ xs) zero (suc c) v l e = inr (λ q. absurd (omega (arith, q)), e)
set_cases (x ∷ xs) (suc n) zero v l e = inr (λ q. absurd (omega (arith, q)), e)
set_cases (x ∷ xs) (suc n) (suc c) v l e = by_rest (set_cases xs n c v l e)
  where
    by_rest : ((c ≡ n) × (v ≡ l)) ⊎ ((c ≢ n) × (slice_get xs c ≡ Some l))
        → ((suc c ≡ suc n) × (v ≡ l)) ⊎ ((suc c ≢ suc n) × (slice_get xs c ≡ Some l))
    by_rest (inl (place, same)) = inl (ap suc place, same)
    by_rest (inr (other, is)) = inr (λ q. other (omega (arith, q)), is)

pub set_other : {A : Type 0} (xs : List A) (n c : ℕ) (v : A) → c ≢ n → slice_get (slice_set xs n v) c ≡ slice_get xs c
set_other [] n c v other = refl
set_other (x ∷ xs) zero zero v other = absurd (other refl)
set_other (x ∷ xs) zero (suc c) v other = refl
set_other (x ∷ xs) (suc n) zero v other = refl
set_other (x ∷ xs) (suc n) (suc c) v other = set_other xs n c v (λ q. other (ap suc q))
