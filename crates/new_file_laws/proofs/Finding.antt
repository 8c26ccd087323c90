-- What is found in a list passes the test, and something is found where something passes.
use Rattle.std.proofs.Common.{◌≡◌, Bool, true, false, List, [], ◌∷◌, Some, refl, sym}
use Rattle.std.specs.List.{find, list_any}

pub found_passes : {X : Type 0} (p : X → Bool) (xs : List X) (x : X) → find p xs ≡ Some x → p x ≡ true
found_passes p [] x h = absurd (cc)
found_passes p (y ∷ ys) x h = decide (p y) refl (found_passes p ys x)
  where
    decide : (b : Bool) → p y ≡ b → (find p ys ≡ Some x → p x ≡ true) → p x ≡ true
    decide true e more = let here : Some y ≡ Some x = rw e at h in let same : y ≡ x = cc in rw (sym same) e
    decide false e more = more (rw e at h)

pub found_some : {X : Type 0} (p : X → Bool) (xs : List X) → list_any p xs ≡ true → (x : X) × (find p xs ≡ Some x)
found_some p [] h = absurd (cc)
found_some {X = X} p (y ∷ ys) h = decide (p y) refl (found_some p ys)
  where
    decide : (b : Bool) → p y ≡ b → (list_any p ys ≡ true → (x : X) × (find p ys ≡ Some x))
        → (x : X) × (find p (y ∷ ys) ≡ Some x)
    decide true e more = (y, rw e refl)
    decide false e more = let (x, found) = more (rw e at h) in (x, rw e found)
