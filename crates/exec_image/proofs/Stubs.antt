-- A jump that reaches the first and the last stub reaches all.
use Rattle.std.proofs.Common.{◌≡◌, ℕ, ◌+◌, ◌^◌, ◌%◌, ◌&&◌, Bool, true, false, List, [], ◌∷◌, ◌++◌, nat_le, refl, sym}
use Rattle.std.proofs.Common.{ap, ◌∙◌, arith}
use Rattle.std.specs.List.{list_all}
use Rattle.std.proofs.lemmas.Bool.Decides.{nat_tests}
use Rattle.rv_isa.specs.Addresses.{plus}
use Rattle.site_spec.specs.Places.{reaches, stub_at, text_at}
use Rattle.site_spec.specs.Sites.{reaches_all_stubs, stub_numbers}

all_of : (p q : ℕ → Bool) → ((k : ℕ) → q k ≡ true → p k ≡ true) → (ks : List ℕ) → list_all q ks ≡ true
    → list_all p ks ≡ true
all_of p q h [] e = refl
all_of p q h (k ∷ ks) e = decide (q k) (list_all q ks) refl refl (all_of p q h ks)
  where
    decide : (b c : Bool) → q k ≡ b → list_all q ks ≡ c → (list_all q ks ≡ true → list_all p ks ≡ true)
        → list_all p (k ∷ ks) ≡ true
    decide true true f g ih = rw (h k f, ih g) refl
    decide true false f g ih = absurd (let x : false ≡ true = rw (f, g) at e in cc)
    decide false c f g ih = absurd (let x : false ≡ true = rw f at e in cc)

between : (a t k : ℕ) → reaches a (stub_at t 0) ≡ true → reaches a (stub_at t 31) ≡ true → nat_le k 31 ≡ true
    → reaches a (stub_at t k) ≡ true
between a t k f l h = grind (arith, nat_tests)

first_of : (p : ℕ → Bool) (k : ℕ) (ks : List ℕ) → list_all p (k ∷ ks) ≡ true → (p k ≡ true) × (list_all p ks ≡ true)
first_of p k ks h = both (p k) (list_all p ks) h
  where
    both : (b c : Bool) → (b && c) ≡ true → (b ≡ true) × (c ≡ true)
    both true true h = (refl, refl)
    both true false h = absurd (cc)
    both false c h = absurd (cc)

last_of : (p : ℕ → Bool) (k : ℕ) (ks : List ℕ) → list_all p (ks ++ k ∷ []) ≡ true → p k ≡ true
last_of p k [] h = (first_of p k [] h).0
last_of p k (x ∷ xs) h = last_of p k xs (first_of p x (xs ++ k ∷ []) h).1

abbrev front : List ℕ
front = 1 ∷ 2 ∷ 3 ∷ 4 ∷ 5 ∷ 6 ∷ 7 ∷ 8 ∷ 9 ∷ 10 ∷ 11 ∷ 12 ∷ 13 ∷ 14 ∷ 15 ∷ 16 ∷ 17 ∷ 18 ∷ 19 ∷ 20 ∷ 21 ∷ 22 ∷ 23 ∷ 24
    ∷ 25 ∷ 26 ∷ 27 ∷ 28 ∷ 29 ∷ 30 ∷ []

ends : (p : ℕ → Bool) → list_all p stub_numbers ≡ true → (p 0 ≡ true) × (p 31 ≡ true)
ends p h = let (x, y) = first_of p 0 (front ++ 31 ∷ []) h in (x, last_of p 31 front y)

pub all_stubs : (file : List ℕ) (a : ℕ)
    → (reaches a (stub_at (text_at file) 0) && reaches a (stub_at (text_at file) 31)) ≡ reaches_all_stubs file a
all_stubs file a = decide (reaches a (stub_at (text_at file) 0)) (reaches a (stub_at (text_at file) 31))
    (reaches_all_stubs file a) refl refl refl
  where
    decide : (b c d : Bool) → reaches a (stub_at (text_at file) 0) ≡ b → reaches a (stub_at (text_at file) 31) ≡ c
        → reaches_all_stubs file a ≡ d
        → (reaches a (stub_at (text_at file) 0) && reaches a (stub_at (text_at file) 31)) ≡ reaches_all_stubs file a
    decide true true d e f g =
        let h : reaches_all_stubs file a ≡ true =
        all_of (λ k. reaches a (stub_at (text_at file) k)) (λ k. nat_le k 31) (λ k. between a (text_at file) k e f)
        stub_numbers refl in
        ap (λ b. b && reaches a (stub_at (text_at file) 31)) e ∙ f ∙ sym h
    decide b c true e f g =
        let (x, y) = ends (λ k. reaches a (stub_at (text_at file) k)) g in
        ap (λ b. b && reaches a (stub_at (text_at file) 31)) x ∙ y ∙ sym g
    decide true false false e f g = ap (λ b. b && reaches a (stub_at (text_at file) 31)) e ∙ f ∙ sym g
    decide false c false e f g = ap (λ b. b && reaches a (stub_at (text_at file) 31)) e ∙ sym g

pub pair_target : (a i l d : ℕ) → d ≡ plus i l → (a + d) % 2 ^ 32 ≡ plus a (i + l)
pair_target a i l d h = omega arith
