-- What is found in a list, and tests over parts of lists.
use Rattle.std.proofs.Common.{◌≡◌, ℕ, zero, suc, ◌+◌, ◌<◌, ◌≤◌, ◌↔◌, option_map, ◌&&◌, ◌||◌, Bool, true, false, List}
use Rattle.std.proofs.Common.{[], ◌∷◌, length, map, nat_lt, refl, ap, sym, ◌∙◌, arith, Option, Some, None, add-one}
use Rattle.first_check.specs.First.{first_below}
use Rattle.std.specs.List.{All, AllPairs, filter, find, list_any, position, position_or_len}
use Rattle.std.proofs.lemmas.Bool.Decides.{nat_tests}
use Rattle.std.proofs.lemmas.List.Elements.{All-cons, All-head, All-nil, All-tail}

-- what is found passes the test, and all that holds of each element
pub found_passes : {X : Type 0} (p : X → Bool) (xs : List X) (x : X) → find p xs ≡ Some x → p x ≡ true
found_passes p [] x h = absurd (cc)
found_passes p (y ∷ ys) x h = decide (p y) refl (found_passes p ys x)
  where
    decide : (b : Bool) → p y ≡ b → (find p ys ≡ Some x → p x ≡ true) → p x ≡ true
    decide true e ih = let q : Some y ≡ Some x = rw e at h in let r : y ≡ x = cc in rw (sym r) e
    decide false e ih = ih (rw e at h)

pub found_in : {X : Type 0} (p : X → Bool) (P : X → Type 0) (xs : List X) (x : X) → find p xs ≡ Some x → All P xs → P x
found_in p P [] x h a = absurd (cc)
found_in p P (y ∷ ys) x h a = decide (p y) refl (λ e. found_in p P ys x e (All-tail P y ys a))
  where
    decide : (b : Bool) → p y ≡ b → (find p ys ≡ Some x → P x) → P x
    decide true e ih = let q : Some y ≡ Some x = rw e at h in let r : y ≡ x = cc in rw (sym r) (All-head P y ys a)
    decide false e ih = ih (rw e at h)

-- something is found exactly where something passes
pub found_some : {X : Type 0} (p : X → Bool) (xs : List X) → list_any p xs ≡ true → (x : X) × (find p xs ≡ Some x)
found_some p [] h = absurd (cc)
found_some {X = X} p (y ∷ ys) h = decide (p y) refl (found_some p ys)
  where
    decide : (b : Bool) → p y ≡ b → (list_any p ys ≡ true → (x : X) × (find p ys ≡ Some x))
        → (x : X) × (find p (y ∷ ys) ≡ Some x)
    decide true e ih = (y, rw e refl)
    decide false e ih = let (x, f) = ih (rw e at h) in (x, rw e f)

pub found_none : {X : Type 0} (p : X → Bool) (xs : List X) → list_any p xs ≡ false → find p xs ≡ None
found_none p [] h = refl
found_none p (y ∷ ys) h = decide (p y) refl (found_none p ys)
  where
    decide : (b : Bool) → p y ≡ b → (list_any p ys ≡ false → find p ys ≡ None) → find p (y ∷ ys) ≡ None
    decide true e ih = absurd (let q : true ≡ false = rw e at h in cc)
    decide false e ih = rw e (ih (rw e at h))

-- nothing is found exactly where nothing passes
pub nothing_passes : {X : Type 0} (p : X → Bool) (xs : List X) → find p xs ≡ None → All (λ x. p x ≡ false) xs
nothing_passes p [] h = All-nil (λ x. p x ≡ false)
nothing_passes p (y ∷ ys) h = decide (p y) refl (nothing_passes p ys)
  where
    decide : (b : Bool) → p y ≡ b → (find p ys ≡ None → All (λ x. p x ≡ false) ys) → All (λ x. p x ≡ false) (y ∷ ys)
    decide true e ih = absurd (let q : Some y ≡ None = rw e at h in cc)
    decide false e ih = All-cons (λ x. p x ≡ false) y ys e (ih (rw e at h))

pub nothing_found : {X : Type 0} (p : X → Bool) (xs : List X) → All (λ x. p x ≡ false) xs → find p xs ≡ None
nothing_found p [] h = refl
nothing_found p (y ∷ ys) h =
    rw (All-head (λ x. p x ≡ false) y ys h) (nothing_found p ys (All-tail (λ x. p x ≡ false) y ys h))

pub mapped_none : {X Y : Type 0} (f : X → Y) (o : Option X) → option_map f o ≡ None → o ≡ None
mapped_none f None h = refl
mapped_none f (Some x) h = absurd (cc)

-- where no place passes, nothing does
none_at : {X : Type 0} (p : X → Bool) (xs : List X) → length xs ≤ position_or_len p xs → All (λ x. p x ≡ false) xs
none_at p [] h = All-nil (λ x. p x ≡ false)
none_at p (x ∷ xs) h = decide (p x) refl (none_at p xs)
  where
    decide : (b : Bool) → p x ≡ b → (length xs ≤ position_or_len p xs → All (λ y. p y ≡ false) xs)
        → All (λ y. p y ≡ false) (x ∷ xs)
    decide true e ih = absurd (let q : suc (length xs) ≤ 0 = rw e at h in omega arith)
    decide false e ih =
        let q : suc (length xs) ≤ 1 + position_or_len p xs = rw e at h in
        All-cons (λ y. p y ≡ false) x xs e (ih (omega arith))

pub none_passes : {X : Type 0} (p : X → Bool) (xs : List X) → position p xs ≡ None → All (λ x. p x ≡ false) xs
none_passes p xs h = decide (nat_lt (position_or_len p xs) (length xs)) refl
  where
    decide : (b : Bool) → nat_lt (position_or_len p xs) (length xs) ≡ b → All (λ x. p x ≡ false) xs
    decide true e = absurd (let q : Some (position_or_len p xs) ≡ None = rw e at h in cc)
    decide false e = none_at p xs (grind (arith, nat_tests))

-- tests over lists that are made of others
any_map : {X Y : Type 0} (f : X → Y) (p : Y → Bool) (xs : List X) → list_any p (map f xs) ≡ list_any (λ x. p (f x)) xs
any_map f p [] = refl
any_map f p (x ∷ xs) = ap (λ b. p (f x) || b) (any_map f p xs)

any_filter : {X : Type 0} (p q : X → Bool) (xs : List X) → list_any q (filter p xs) ≡ list_any (λ x. p x && q x) xs
any_filter p q [] = refl
any_filter p q (x ∷ xs) = decide (p x) refl (any_filter p q xs)
  where
    decide : (b : Bool) → p x ≡ b → list_any q (filter p xs) ≡ list_any (λ x. p x && q x) xs
        → list_any q (filter p (x ∷ xs)) ≡ list_any (λ x. p x && q x) (x ∷ xs)
    decide true e ih = rw (e, ih) refl
    decide false e ih = rw e ih

-- a test of what another test lets through
pub any_of_kept : {X Y : Type 0} (p : X → Bool) (f : X → Y) (q : Y → Bool) (xs : List X)
    → list_any q (map f (filter p xs)) ≡ list_any (λ x. p x && q (f x)) xs
any_of_kept p f q xs = any_map f q (filter p xs) ∙ any_filter p (λ x. q (f x)) xs

-- tests that agree on each element agree on the list
pub any_same : {X : Type 0} (p q : X → Bool) (xs : List X) → All (λ x. p x ≡ q x) xs → list_any p xs ≡ list_any q xs
any_same p q [] h = refl
any_same p q (x ∷ xs) h =
    rw (All-head (λ y. p y ≡ q y) x xs h, any_same p q xs (All-tail (λ y. p y ≡ q y) x xs h)) refl

pub pairs_head : {X : Type 0} (R : X → X → Type 0) (x : X) (xs : List X) → AllPairs R (x ∷ xs) → All (R x) xs
pairs_head R x xs h = λ k d l. h 0 (suc k) d (omega arith) (omega arith)

pub pairs_tail : {X : Type 0} (R : X → X → Type 0) (x : X) (xs : List X) → AllPairs R (x ∷ xs) → AllPairs R xs
pairs_tail R x xs h = λ i j d l m. h (suc i) (suc j) d (omega arith) (omega arith)

-- where no two elements pass p, what passes q, and so p, is what is found by p
pub found_alike : {X : Type 0} (p q : X → Bool) (R : X → X → Type 0) (P : X → Type 0)
    → ((x y : X) → P x → P y → R x y → p x ≡ true → p y ≡ true → ⊥) → ((x : X) → q x ≡ true → p x ≡ true)
    → (xs : List X) → All P xs → AllPairs R xs → (x : X) → find q xs ≡ Some x → find p xs ≡ Some x
found_alike p q R P apart weaker [] a r x h = absurd (cc)
found_alike p q R P apart weaker (y ∷ ys) a r x h =
    decide (q y) (p y) refl refl (found_alike p q R P apart weaker ys (All-tail P y ys a) (pairs_tail R y ys r) x)
  where
    decide : (b c : Bool) → q y ≡ b → p y ≡ c → (find q ys ≡ Some x → find p ys ≡ Some x) → find p (y ∷ ys) ≡ Some x
    decide true true e f ih = let g : Some y ≡ Some x = rw e at h in rw f g
    decide true false e f ih = absurd (let g : true ≡ false = sym (weaker y e) ∙ f in cc)
    decide false true e f ih =
        let g : find q ys ≡ Some x = rw e at h in
        absurd (
        apart y x (All-head P y ys a) (found_in q P ys x g (All-tail P y ys a))
        (found_in q (R y) ys x g (pairs_head R y ys r)) f
        (weaker x (found_passes q ys x g))
        )
    decide false false e f ih = rw f (ih (rw e at h))

-- what the law of first numbers says: none is found exactly where none passes
abbrev pub NoneBelow : Type 0
NoneBelow = (test : ℕ → Bool) (bound : ℕ) → (first_below test bound ≡ None) ↔ ((k : ℕ) → k < bound → test k ≡ false)

-- one number more that doesn't pass
pub below_more : (p : ℕ → Bool) (n : ℕ) → first_below p n ≡ None → p n ≡ false → first_below p (n + 1) ≡ None
below_more p n none h = rw (add-one, none, h) refl

-- no number below n passes
pub below_all : (p : ℕ → Bool) (n : ℕ) → ((b : ℕ) → b < n → p b ≡ false) → first_below p n ≡ None
below_all p zero h = refl
below_all p (suc n) h = rw (below_all p n (λ b l. h b (omega arith)), h n (omega arith)) refl
