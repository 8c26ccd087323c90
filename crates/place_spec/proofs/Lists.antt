-- What holds of each item, of each pair and of some item of a list, item by item.
use Rattle.std.proofs.Common.{◌≡◌, ℕ, zero, suc, ◌<◌, ◌⊎◌, List, [], ◌∷◌, length, get_or, sym, subst, inl, inr, refl}
use Rattle.std.proofs.Common.{arith}
use Rattle.std.specs.Prelude.{All, AllPairs, Any}

module _ {X : Type 0} where
  abbrev pub Each : (X → Type 0) → List X → Type 0
  Each P [] = Unit {0}
  Each P (x ∷ xs) = P x × Each P xs

  pub each : (P : X → Type 0) (xs : List X) → All P xs → Each P xs
  each P [] h = tt
  each P (x ∷ xs) h = (h 0 x (omega arith), each P xs (λ k d l. h (suc k) d (omega arith)))

  pub all : (P : X → Type 0) (xs : List X) → Each P xs → All P xs
  all P [] e k d l = absurd (omega arith)
  all P (x ∷ xs) e zero d l = e.0
  all P (x ∷ xs) e (suc k) d l = all P xs e.1 k d (omega arith)

  pub each_map : (P Q : X → Type 0) (xs : List X) → ((x : X) → P x → Q x) → Each P xs → Each Q xs
  each_map P Q [] f e = tt
  each_map P Q (x ∷ xs) f e = (f x e.0, each_map P Q xs f e.1)

  -- two facts of each item
  pub each_both : (P Q R : X → Type 0) (xs : List X) → ((x : X) → P x → Q x → R x) → Each P xs → Each Q xs → Each R xs
  each_both P Q R [] f e g = tt
  each_both P Q R (x ∷ xs) f e g = (f x e.0 g.0, each_both P Q R xs f e.1 g.1)

  pub each_at : (P : X → Type 0) (xs : List X) (k : ℕ) (d : X) → k < length xs → Each P xs → P (get_or xs k d)
  each_at P xs k d l e = all P xs e k d l

  abbrev pub Pairs : (X → X → Type 0) → List X → Type 0
  Pairs R [] = Unit {0}
  Pairs R (x ∷ xs) = Each (R x) xs × Pairs R xs

  pub pairs : (R : X → X → Type 0) (xs : List X) → AllPairs R xs → Pairs R xs
  pairs R [] h = tt
  pairs R (x ∷ xs) h = (
    each (R x) xs (λ k d l. h 0 (suc k) d (omega arith) (omega arith)),
    pairs R xs
        (λ i j d l m. h (suc i) (suc j) d (omega arith) (omega arith)),
  )

  pub all_pairs : (R : X → X → Type 0) (xs : List X) → Pairs R xs → AllPairs R xs
  all_pairs R [] e i j d l m = absurd (omega arith)
  all_pairs R (x ∷ xs) e i zero d l m = absurd (omega arith)
  all_pairs R (x ∷ xs) e zero (suc j) d l m = all (R x) xs e.0 j d (omega arith)
  all_pairs R (x ∷ xs) e (suc i) (suc j) d l m = all_pairs R xs e.1 i j d (omega arith) (omega arith)

  abbrev pub Has : (X → Type 0) → List X → Type 0
  Has P [] = ⊥
  Has P (x ∷ xs) = P x ⊎ Has P xs

  pub has_at : (P : X → Type 0) (xs : List X) (k : ℕ) (x : X) → k < length xs → get_or xs k x ≡ x → P x → Has P xs
  has_at P [] k x l e p = absurd (omega arith)
  has_at P (y ∷ ys) zero x l e p = inl (subst P (sym e) p)
  has_at P (y ∷ ys) (suc k) x l e p = inr (has_at P ys k x (omega arith) e p)

  pub has : (P : X → Type 0) (xs : List X) → Any P xs → Has P xs
  has P xs a = has_at P xs a.0 a.1 a.2 a.3 a.4

  pub any : (P : X → Type 0) (xs : List X) → Has P xs → Any P xs
  any P [] h = absurd h
  any P (x ∷ xs) (inl p) = (0, x, omega arith, refl, p)
  any P (x ∷ xs) (inr h) = let a : Any P xs = any P xs h in (suc a.0, a.1, omega arith, a.3, a.4)

  pub has_map : (P Q : X → Type 0) (xs : List X) → ((x : X) → P x → Q x) → Has P xs → Has Q xs
  has_map P Q [] f h = absurd h
  has_map P Q (x ∷ xs) f (inl p) = inl (f x p)
  has_map P Q (x ∷ xs) f (inr h) = inr (has_map P Q xs f h)

  -- some item has the one fact, and each item the other
  pub has_each : (P Q R : X → Type 0) (xs : List X) → ((x : X) → P x → Q x → R x) → Has P xs → Each Q xs → Has R xs
  has_each P Q R [] f h e = absurd h
  has_each P Q R (x ∷ xs) f (inl p) e = inl (f x p e.0)
  has_each P Q R (x ∷ xs) f (inr h) e = inr (has_each P Q R xs f h e.1)
