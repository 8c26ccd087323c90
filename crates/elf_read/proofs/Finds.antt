-- What `position` and `find` say of a list.
use Rattle.std.proofs.Common.{◌≡◌, ℕ, suc, ◌+◌, ◌≤◌, Bool, true, false, List, [], ◌∷◌, length, nat_lt, refl, sym, ap}
use Rattle.std.proofs.Common.{◌∙◌, arith, Some, None}
use Rattle.std.specs.List.{All, find, position, position_or_len, slice_get}
use Rattle.std.proofs.lemmas.Bool.Decides.{nat_tests}
use Rattle.std.proofs.lemmas.List.Elements.{All-cons, All-head, All-nil, All-tail}
use Rattle.std.proofs.lemmas.List.Folds.{find_at}

none_at : {X : Type 0} (p : X → Bool) (xs : List X) → length xs ≤ position_or_len p xs → All (λ x. p x ≡ false) xs
none_at p [] h = All-nil (λ x. p x ≡ false)
none_at p (x ∷ xs) h = decide (p x) refl (none_at p xs)
  where
    decide : (b : Bool) → p x ≡ b → (length xs ≤ position_or_len p xs → All (λ y. p y ≡ false) xs)
        → All (λ y. p y ≡ false) (x ∷ xs)
    decide true e ih = absurd (let q : suc (length xs) ≤ 0 = rw e at h in omega arith)
    decide false e ih =
        let q : suc (length xs) ≤ 1 + position_or_len p xs = rw e at h in
        All-cons (λ y. p y ≡ false) x xs e (ih (omega arith))

-- no place passes, so nothing does
pub none_passes : {X : Type 0} (p : X → Bool) (xs : List X) → position p xs ≡ None → All (λ x. p x ≡ false) xs
none_passes p xs h = decide (nat_lt (position_or_len p xs) (length xs)) refl
  where
    decide : (b : Bool) → nat_lt (position_or_len p xs) (length xs) ≡ b → All (λ x. p x ≡ false) xs
    decide true e = absurd (let q : Some (position_or_len p xs) ≡ None = rw e at h in cc)
    decide false e = none_at p xs (grind (arith, nat_tests))

-- nothing passes, so nothing is found
pub find_none : {X : Type 0} (p : X → Bool) (xs : List X) → All (λ x. p x ≡ false) xs → find p xs ≡ None
find_none p [] h = refl
find_none p (x ∷ xs) h =
    let e : p x ≡ false = All-head (λ y. p y ≡ false) x xs h in
    rw e (find_none p xs (All-tail (λ y. p y ≡ false) x xs h))

-- what is found stands at the place
pub find_is : {X : Type 0} (p : X → Bool) (xs : List X) (i : ℕ) → position p xs ≡ Some i → find p xs ≡ slice_get xs i
find_is p xs i h = decide (nat_lt (position_or_len p xs) (length xs)) refl
  where
    decide : (b : Bool) → nat_lt (position_or_len p xs) (length xs) ≡ b → find p xs ≡ slice_get xs i
    decide true e =
        let q : Some (position_or_len p xs) ≡ Some i = rw e at h in
        let r : position_or_len p xs ≡ i = cc in
        find_at p xs ∙ ap (slice_get xs) r
    decide false e = absurd (let q : Some i ≡ None = sym (rw e at h) in cc)
