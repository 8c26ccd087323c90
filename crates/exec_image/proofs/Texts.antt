-- Bytes from an offset on, where a list has fewer.
use Rattle.std.proofs.Common.{◌≡◌, ℕ, zero, suc, List, [], ◌∷◌, take, drop, length, min, refl, ap, arith}

drop_none : {X : Type 0} (k n : ℕ) (xs : List X) → length xs ≡ 0 → drop k xs ≡ drop n xs
drop_none zero zero [] h = refl
drop_none zero (suc n) [] h = refl
drop_none (suc k) zero [] h = refl
drop_none (suc k) (suc n) [] h = refl
drop_none k n (x ∷ xs) h = absurd (omega arith)

take_none : {X : Type 0} (k n : ℕ) (xs : List X) → length xs ≡ 0 → take k xs ≡ take n xs
take_none zero zero [] h = refl
take_none zero (suc n) [] h = refl
take_none (suc k) zero [] h = refl
take_none (suc k) (suc n) [] h = refl
take_none k n (x ∷ xs) h = absurd (omega arith)

drop_at : {X : Type 0} (xs : List X) (n k : ℕ) → k ≡ min (length xs) n → drop k xs ≡ drop n xs
drop_at [] n k e = drop_none k n [] refl
drop_at (x ∷ xs) zero zero e = refl
drop_at (x ∷ xs) zero (suc k) e = absurd (omega arith)
drop_at (x ∷ xs) (suc n) zero e = absurd (omega arith)
drop_at (x ∷ xs) (suc n) (suc k) e = drop_at xs n k (omega arith)

take_at : {X : Type 0} (xs : List X) (n k : ℕ) → k ≡ min (length xs) n → take k xs ≡ take n xs
take_at [] n k e = take_none k n [] refl
take_at (x ∷ xs) zero zero e = refl
take_at (x ∷ xs) zero (suc k) e = absurd (omega arith)
take_at (x ∷ xs) (suc n) zero e = absurd (omega arith)
take_at (x ∷ xs) (suc n) (suc k) e = ap (λ l. x ∷ l) (take_at xs n k (omega arith))

pub drop_min : {X : Type 0} (n : ℕ) (xs : List X) → drop (min (length xs) n) xs ≡ drop n xs
drop_min n xs = drop_at xs n (min (length xs) n) refl

pub take_min : {X : Type 0} (n : ℕ) (xs : List X) → take (min (length xs) n) xs ≡ take n xs
take_min n xs = take_at xs n (min (length xs) n) refl
