-- Tests over lists that are made of others.
use Rattle.std.proofs.Common.{◌≡◌, ◌&&◌, ◌||◌, Bool, true, false, List, [], ◌∷◌, map, filter, flat_map, refl, ap, ◌∙◌}
use Rattle.std.specs.List.{list_any}
use Rattle.std.proofs.lemmas.List.Folds.{list_any-append}

pub any_map : {X Y : Type 0} (f : X → Y) (p : Y → Bool) (xs : List X)
    → list_any p (map f xs) ≡ list_any (λ x. p (f x)) xs
any_map f p [] = refl
any_map f p (x ∷ xs) = ap (λ b. p (f x) || b) (any_map f p xs)

pub any_flat : {X Y : Type 0} (f : X → List Y) (p : Y → Bool) (xs : List X)
    → list_any p (flat_map f xs) ≡ list_any (λ x. list_any p (f x)) xs
any_flat f p [] = refl
any_flat f p (x ∷ xs) = list_any-append p (f x) (flat_map f xs) ∙ ap (λ b. list_any p (f x) || b) (any_flat f p xs)

-- a test of what another test lets through
pub any_filter : {X : Type 0} (p q : X → Bool) (xs : List X) → list_any q (filter p xs) ≡ list_any (λ x. p x && q x) xs
any_filter p q [] = refl
any_filter p q (x ∷ xs) = decide (p x) refl (any_filter p q xs)
  where
    decide : (b : Bool) → p x ≡ b → list_any q (filter p xs) ≡ list_any (λ x. p x && q x) xs
        → list_any q (filter p (x ∷ xs)) ≡ list_any (λ x. p x && q x) (x ∷ xs)
    decide true e ih = rw (e, ih) refl
    decide false e ih = rw e ih
