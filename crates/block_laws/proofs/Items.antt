-- Items of a list with one more at its front.
use Rattle.std.proofs.Common.{◌≡◌, ◌⊎◌, zero, suc, List, [], ◌∷◌, ◌∙◌, get_or, sym, subst, inl, inr, refl, arith}
use Rattle.std.specs.Prelude.{All, AllPairs, Any}
use Rattle.std.proofs.lemmas.List.{get_or_default}

module _ {X : Type 0} where
  pub any_none : (P : X → Type 0) → Any P [] → ⊥
  any_none P (k, x, low, there, p) = absurd (omega arith)

  pub any_first : (P : X → Type 0) (x : X) (xs : List X) → P x → Any P (x ∷ xs)
  any_first P x xs p = (0, x, omega arith, refl, p)

  pub any_rest : (P : X → Type 0) (x : X) (xs : List X) → Any P xs → Any P (x ∷ xs)
  any_rest P x xs (k, y, low, there, p) = (suc k, y, omega arith, there, p)

  pub any_cases : (P : X → Type 0) (x : X) (xs : List X) → Any P (x ∷ xs) → P x ⊎ Any P xs
  any_cases P x xs (zero, y, low, there, p) = inl (subst P (sym there) p)
  any_cases P x xs (suc k, y, low, there, p) = inr (k, y, omega arith, there, p)

  -- of an item and what it is, both ways
  pub any_of : (P : X → Type 0) (xs : List X) (x : X) → Any (λ y. y ≡ x) xs → P x → Any P xs
  any_of P xs x (k, y, low, there, same) p = (k, y, low, there, subst P (sym same) p)

  pub all_of : (P : X → Type 0) (xs : List X) (x : X) → All P xs → Any (λ y. y ≡ x) xs → P x
  all_of P xs x h (k, y, low, there, same) = subst P (there ∙ same) (h k y low)

  pub itself : (xs : List X) → All (λ x. Any (λ y. y ≡ x) xs) xs
  itself xs k d low = (k, get_or xs k d, low, get_or_default xs k (get_or xs k d) d low, refl)

  -- each pair of a list
  pub pairs_first : (R : X → X → Type 0) (x : X) (xs : List X) → AllPairs R (x ∷ xs) → All (R x) xs
  pairs_first R x xs h k d low = h 0 (suc k) d (omega arith) (omega arith)

  pub pairs_rest : (R : X → X → Type 0) (x : X) (xs : List X) → AllPairs R (x ∷ xs) → AllPairs R xs
  pairs_rest R x xs h i j d less low = h (suc i) (suc j) d (omega arith) (omega arith)
