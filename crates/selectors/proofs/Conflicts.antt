-- Conflicts of a set with one site more, and which site comes next.
use Rattle.std.proofs.Common.{◌≡◌, ℕ, zero, suc, ◌≤◌, ◌&&◌, Bool, true, false, List, [], ◌∷◌, length, refl, sym, ◌∙◌}
use Rattle.std.proofs.Common.{ap, inl, inr, arith, filter, count_by, insert, nat_lt}
use Rattle.std.specs.List.{list_all}
use Rattle.std.proofs.lemmas.Bool.{cases_Bool}
use Rattle.std.proofs.lemmas.List.Elements.{filter_agree}
use Rattle.std.proofs.lemmas.List.Sums.{length-filter, count_by-le-length}
use Rattle.selectors.specs.Sets.{with_site, conflicts, left}

pub and_true : (a : Bool) → (a && true) ≡ a
and_true true = refl
and_true false = refl

pub and_comm : (a b : Bool) → (a && b) ≡ (b && a)
and_comm true b = sym (and_true b)
and_comm false b = elim b as (λ v. false ≡ (v && false)) [ true ↦ refl | false ↦ refl ]

pub and_assoc : (a b c : Bool) → (a && (b && c)) ≡ ((a && b) && c)
and_assoc true b c = refl
and_assoc false b c = refl

pub all_insert : (p : ℕ → Bool) (xs : List ℕ) (i x : ℕ) → list_all p (insert xs i x) ≡ (list_all p xs && p x)
all_insert p [] zero x = and_true (p x)
all_insert p [] (suc i) x = and_true (p x)
all_insert p (y ∷ ys) zero x = and_comm (p x) (list_all p (y ∷ ys))
all_insert p (y ∷ ys) (suc i) x =
    ap (λ b. p y && b) (all_insert p ys i x) ∙ and_assoc (p y) (list_all p ys) (p x)

pub filter_all : (xs : List ℕ) → filter (λ d. true) xs ≡ xs
filter_all [] = refl
filter_all (x ∷ xs) = ap (λ ys. x ∷ ys) (filter_all xs)

pub filter_and : (p q : ℕ → Bool) (xs : List ℕ) → filter (λ x. p x && q x) xs ≡ filter q (filter p xs)
filter_and p q [] = refl
filter_and p q (x ∷ xs) = elim (cases_Bool (p x)) [
  | inl first ↦ elim (cases_Bool (q x)) [
    | inl both ↦ rw (first, both) (ap (λ ys. x ∷ ys) (filter_and p q xs))
    | inr one ↦ rw (first, one) (filter_and p q xs)
  ]
  | inr neither ↦ rw neither (filter_and p q xs)
]

module _ (holds : ℕ → ℕ → Bool) (outside : List ℕ) (c : ℕ) where
  pub conflicts_start : conflicts holds outside c [] ≡ outside
  conflicts_start = filter_all outside

  -- one site more leaves the conflicts that hold it
  pub conflicts_more : (sites : List ℕ) (s : ℕ) →
      conflicts holds outside c (with_site s sites) ≡ filter (λ d. holds d s) (conflicts holds outside c sites)
  conflicts_more sites s = let i = count_by (λ t. nat_lt t s) sites in
      filter_agree (λ d. list_all (holds d) (insert sites i s)) (λ d. list_all (holds d) sites && holds d s)
      (λ d. all_insert (holds d) sites i s) outside
      ∙ filter_and (λ d. list_all (holds d) sites) (λ d. holds d s) outside

  pub left_is : (sites : List ℕ) (s : ℕ) →
      left holds outside c sites s ≡ count_by (λ d. holds d s) (conflicts holds outside c sites)
  left_is sites s = ap length (conflicts_more sites s) ∙ length-filter (λ d. holds d s)
      (conflicts holds outside c sites)

  pub conflicts_few : (sites : List ℕ) → length (conflicts holds outside c sites) ≤ length outside
  conflicts_few sites = omega (
    arith,
    length-filter (λ d. list_all (holds d) sites) outside,
    count_by-le-length (λ d. list_all (holds d) sites) outside,
  )
