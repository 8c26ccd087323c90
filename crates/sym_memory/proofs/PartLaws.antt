-- Laws of the parts of plain memory.
use Rattle.std.proofs.Common.{◌≡◌, ℕ, zero, suc, ◌+◌, ◌-◌, ◌<◌, ◌≤◌, true, false, Bool, List, [], ◌∷◌, nat_le, nat_lt}
use Rattle.std.proofs.Common.{refl, ap, sym, ◌∙◌, arith}
use Rattle.std.specs.Prelude.{◌&&◌, ◌||◌}
use Rattle.std.specs.List.{list_any}
use Rattle.std.proofs.lemmas.Bool.{leb-true, le-leb}
use Rattle.machine_spec.specs.Memory.{all_from}
use Rattle.sym_memory.specs.declared.parts.PlainPart.{PlainPart}
use Rattle.sym_memory.specs.declared.parts.Access.{Access}
use Rattle.sym_memory.specs.Parts.{allows, gives, gives_all, allowed}

-- a part that has n addresses from one on has the first, and those behind it
one_gives : (access : Access) (a n : ℕ) (p : PlainPart) → gives_all access a (suc n) p ≡ true → gives access a p ≡ true
one_gives access a n p e = by_test (allows access p) (nat_le p.start a) refl e
  where
    by_test : (t u : Bool) → nat_le p.start a ≡ u → (t && (u && nat_le (a + suc n) p.end)) ≡ true
        → (t && (nat_le p.start a && nat_lt a p.end)) ≡ true
    by_test false u f e = e
    by_test true false f e = absurd (cc)
    by_test true true f e =
        let h = leb-true _ _ e in
        let test : nat_le (suc a) p.end ≡ true = le-leb _ _ (omega (arith, h)) in
        ap (λ x. x && nat_lt a p.end) f ∙ test

rest_gives : (access : Access) (a n : ℕ) (p : PlainPart) → gives_all access a (suc n) p ≡ true
    → gives_all access (a + 1) n p ≡ true
rest_gives access a n p e = by_test (allows access p) (nat_le p.start a) refl e
  where
    by_test : (t u : Bool) → nat_le p.start a ≡ u → (t && (u && nat_le (a + suc n) p.end)) ≡ true
        → (t && (nat_le p.start (a + 1) && nat_le (a + 1 + n) p.end)) ≡ true
    by_test false u f e = e
    by_test true false f e = absurd (cc)
    by_test true true f e =
        let h = leb-true _ _ e in
        let g = leb-true _ _ f in
        let low : nat_le p.start (a + 1) ≡ true = le-leb _ _ (omega (arith, g)) in
        let high : nat_le (a + 1 + n) p.end ≡ true = le-leb _ _ (omega (arith, h)) in
        ap (λ x. x && nat_le (a + 1 + n) p.end) low ∙ high

any_weaker : {X : Type 0} (f g : X → Bool) (xs : List X) → ((x : X) → f x ≡ true → g x ≡ true)
    → list_any f xs ≡ true → list_any g xs ≡ true
any_weaker f g [] h e = e
any_weaker f g (x ∷ xs) h e = by_test (λ r. any_weaker f g xs h r) (f x) refl (g x) refl e
  where
    by_test : (list_any f xs ≡ true → list_any g xs ≡ true) → (t : Bool) → f x ≡ t → (u : Bool) → g x ≡ u
        → (t || list_any f xs) ≡ true → (u || list_any g xs) ≡ true
    by_test ih t p true q e = refl
    by_test ih true p false q e = absurd (let both = sym q ∙ h x p in cc)
    by_test ih false p false q e = ih e

-- where one part has all of them, each is allowed
pub one_gives_all : (access : Access) (parts : List PlainPart) (a n : ℕ) → list_any (gives_all access a n) parts ≡ true
    → all_from (allowed access parts) a n ≡ true
one_gives_all access parts a zero e = refl
one_gives_all access parts a (suc n) e =
    let first : allowed access parts a ≡ true =
    any_weaker (gives_all access a (suc n)) (gives access a) parts (λ p. one_gives access a n p) e in
    ap (λ x. x && all_from (allowed access parts) (a + 1) n) first
    ∙ one_gives_all access parts (a + 1) n
    (any_weaker (gives_all access a (suc n)) (gives_all access (a + 1) n) parts (λ p. rest_gives access a n p) e)

-- all n addresses are allowed where the first i are and the rest is
pub each_more : (f : ℕ → Bool) (a n i : ℕ) → i < n → f (a + i) ≡ true
    → all_from f (a + i) (n - i) ≡ all_from f (a + (i + 1)) (n - (i + 1))
each_more f a n i less e =
    by_count (n - (i + 1)) (omega arith) (a + (i + 1)) (omega arith)
  where
    by_count : (m : ℕ) → n - i ≡ suc m → (b : ℕ) → b ≡ a + i + 1 → all_from f (a + i) (n - i) ≡ all_from f b m
    by_count m p b q = rw (p, q) (ap (λ x. x && all_from f (a + i + 1) m) e)

pub each_fails : (f : ℕ → Bool) (a n i : ℕ) → i < n → f (a + i) ≡ false → all_from f (a + i) (n - i) ≡ false
each_fails f a n i less e = by_count (n - (i + 1)) (omega arith)
  where
    by_count : (m : ℕ) → n - i ≡ suc m → all_from f (a + i) (n - i) ≡ false
    by_count m p = rw p (ap (λ x. x && all_from f (a + i + 1) m) e)
