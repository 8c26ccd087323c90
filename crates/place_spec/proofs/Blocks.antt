-- Blocks in the order of their first granules: with one more, and without one.
use Rattle.std.proofs.Common.{◌≡◌, ◌≢◌, ℕ, ◌+◌, ◌⊎◌, ◌==◌, cond, Bool, true, false, List, [], ◌∷◌, sym, ◌∙◌, subst, inl}
use Rattle.std.proofs.Common.{inr, refl, ap, arith}
use Rattle.std.specs.Prelude.{Some, nat_lt, count_by, find, not}
use Rattle.std.proofs.lemmas.List.Sums.{sum_by-cons}
use Rattle.std.proofs.lemmas.Bool.{eqb-true, eqb-false, ne_eqb}
use Rattle.place_spec.specs.Layout.{Block}
use Rattle.place_spec.specs.Place.{with_block}
use Rattle.place_spec.specs.Release.{without_block}
use Rattle.place_spec.proofs.Lists.{Each, Pairs, Has, each_map}

pub each_with : (P : Block → Type 0) (b : Block) (xs : List Block) → P b → Each P xs → Each P (with_block b xs)
each_with P b [] p e = (p, tt)
each_with P b (x ∷ xs) p e = at (each_with P b xs p e.1) (nat_lt x.first b.first)
  where
    at : Each P (with_block b xs) → (t : Bool) → Each P (cond t (x ∷ with_block b xs) (b ∷ x ∷ xs))
    at rest true = (e.0, rest)
    at rest false = (p, e)

pub pairs_with : (R : Block → Block → Type 0) (b : Block) (xs : List Block) → ((x y : Block) → R x y → R y x)
    → Each (R b) xs → Pairs R xs → Pairs R (with_block b xs)
pairs_with R b [] s e p = (tt, tt)
pairs_with R b (x ∷ xs) s e p = at (pairs_with R b xs s e.1 p.1) (nat_lt x.first b.first)
  where
    at : Pairs R (with_block b xs) → (t : Bool) → Pairs R (cond t (x ∷ with_block b xs) (b ∷ x ∷ xs))
    at rest true = (each_with (R x) b xs (s b x e.0) p.0, rest)
    at rest false = (e, p)

pub has_new : (P : Block → Type 0) (b : Block) (xs : List Block) → P b → Has P (with_block b xs)
has_new P b [] p = inl p
has_new P b (x ∷ xs) p = at (has_new P b xs p) (nat_lt x.first b.first)
  where
    at : Has P (with_block b xs) → (t : Bool) → Has P (cond t (x ∷ with_block b xs) (b ∷ x ∷ xs))
    at rest true = inr rest
    at rest false = inl p

pub has_with : (P : Block → Type 0) (b : Block) (xs : List Block) → Has P xs → Has P (with_block b xs)
has_with P b [] h = absurd h
has_with P b (x ∷ xs) h = at (λ r. has_with P b xs r) (nat_lt x.first b.first) h
  where
    at : (Has P xs → Has P (with_block b xs)) → (t : Bool) → P x ⊎ Has P xs
        → Has P (cond t (x ∷ with_block b xs) (b ∷ x ∷ xs))
    at rest true (inl q) = inl q
    at rest true (inr q) = inr (rest q)
    at rest false q = inr q

pub count_with : (p : Block → Bool) (b : Block) (xs : List Block)
    → count_by p (with_block b xs) ≡ cond (p b) 1 0 + count_by p xs
count_with p b [] = sum_by-cons (λ x. cond (p x) 1 0) b []
count_with p b (x ∷ xs) = at (count_with p b xs) (nat_lt x.first b.first)
  where
    one : Block → ℕ
    one y = cond (p y) 1 0

    at : count_by p (with_block b xs) ≡ cond (p b) 1 0 + count_by p xs
        → (t : Bool) → count_by p (cond t (x ∷ with_block b xs) (b ∷ x ∷ xs)) ≡ cond (p b) 1 0 + count_by p (x ∷ xs)
    at rest true = let l = sum_by-cons one x (with_block b xs) in let r = sum_by-cons one x xs in
        omega (arith, l, r, rest)
    at rest false = sum_by-cons one b (x ∷ xs)

-- the first that a test passes
pub each_found : (P : Block → Type 0) (t : Block → Bool) (b : Block) (xs : List Block) → find t xs ≡ Some b → Each P xs
    → P b
each_found P t b [] f e = absurd (cc)
each_found P t b (x ∷ xs) f e = at (λ g. each_found P t b xs g e.1) (t x) f
  where
    at : (find t xs ≡ Some b → P b) → (v : Bool) → cond v (Some x) (find t xs) ≡ Some b → P b
    at rest true f = let q : x ≡ b = cc in subst P q e.0
    at rest false f = rest f

pub found_passes : (t : Block → Bool) (b : Block) (xs : List Block) → find t xs ≡ Some b → t b ≡ true
found_passes t b [] f = absurd (cc)
found_passes t b (x ∷ xs) f = at (λ g. found_passes t b xs g) (t x) refl f
  where
    at : (find t xs ≡ Some b → t b ≡ true) → (v : Bool) → t x ≡ v → cond v (Some x) (find t xs) ≡ Some b → t b ≡ true
    at rest true u f = let q : x ≡ b = cc in subst (λ y. t y ≡ true) q u
    at rest false u f = rest f

pub found_first : (g : ℕ) (b : Block) (xs : List Block) → find (λ x. x.first == g) xs ≡ Some b → b.first ≡ g
found_first g b xs f = eqb-true b.first g (found_passes (λ x. x.first == g) b xs f)

-- what is found is related to the others
pub pairs_found : (R : Block → Block → Type 0) (g : ℕ) (b : Block) (xs : List Block) → ((x y : Block) → R x y → R y x)
    → find (λ x. x.first == g) xs ≡ Some b → Pairs R xs → Each (λ x. x.first ≢ g → R b x) xs
pairs_found R g b [] s f p = tt
pairs_found R g b (x ∷ xs) s f p = at (λ h. pairs_found R g b xs s h p.1) (x.first == g) refl f
  where
    at : (find (λ x. x.first == g) xs ≡ Some b → Each (λ x. x.first ≢ g → R b x) xs) → (v : Bool) → (x.first == g) ≡ v
        → cond v (Some x) (find (λ x. x.first == g) xs) ≡ Some b → Each (λ y. y.first ≢ g → R b y) (x ∷ xs)
    at rest true u f =
        let q : x ≡ b = cc in (
          λ n. absurd (n (eqb-true x.first g u)),
          each_map (R x) (λ y. y.first ≢ g → R b y) xs
              (λ y r n. subst (λ z. R z y) q r) p.0,
        )
    at rest false u f = (λ n. s x b (each_found (R x) (λ y. y.first == g) b xs f p.0), rest f)

-- without one
pub each_without : (P : Block → Type 0) (g : ℕ) (xs : List Block) → Each (λ x. x.first ≢ g → P x) xs
    → Each P (without_block g xs)
each_without P g [] e = tt
each_without P g (x ∷ xs) e = at (each_without P g xs e.1) (x.first == g) refl
  where
    at : Each P (without_block g xs) → (v : Bool) → (x.first == g) ≡ v
        → Each P (cond (not v) (x ∷ without_block g xs) (without_block g xs))
    at rest true u = rest
    at rest false u = (e.0 (eqb-false x.first g u), rest)

pub each_kept : (P : Block → Type 0) (g : ℕ) (xs : List Block) → Each P xs → Each P (without_block g xs)
each_kept P g xs e = each_without P g xs (each_map P (λ x. x.first ≢ g → P x) xs (λ x p n. p) e)

pub pairs_without : (R : Block → Block → Type 0) (g : ℕ) (xs : List Block) → Pairs R xs → Pairs R (without_block g xs)
pairs_without R g [] p = tt
pairs_without R g (x ∷ xs) p = at (pairs_without R g xs p.1) (x.first == g)
  where
    at : Pairs R (without_block g xs) → (v : Bool) → Pairs R
        (cond (not v) (x ∷ without_block g xs) (without_block g xs))
    at rest true = rest
    at rest false = (each_kept (R x) g xs p.0, rest)

pub has_without : (P : Block → Type 0) (g : ℕ) (xs : List Block) → Has P xs
    → Has (λ x. P x × (x.first ≡ g)) xs ⊎ Has P (without_block g xs)
has_without P g [] h = absurd h
has_without P g (x ∷ xs) h = at (λ r. has_without P g xs r) (x.first == g) refl h
  where
    at : (Has P xs → Has (λ y. P y × (y.first ≡ g)) xs ⊎ Has P (without_block g xs)) → (v : Bool) → (x.first == g) ≡ v
        → P x ⊎ Has P xs
        → ((P x × (x.first ≡ g)) ⊎ Has (λ y. P y × (y.first ≡ g)) xs)
        ⊎ Has P (cond (not v) (x ∷ without_block g xs) (without_block g xs))
    at rest true u (inl q) = inl (inl (q, eqb-true x.first g u))
    at rest false u (inl q) = inr (inl q)
    at rest v u (inr q) = shift (rest q) v
      where
        shift : Has (λ y. P y × (y.first ≡ g)) xs ⊎ Has P (without_block g xs) → (v : Bool)
            → ((P x × (x.first ≡ g)) ⊎ Has (λ y. P y × (y.first ≡ g)) xs)
            ⊎ Has P (cond (not v) (x ∷ without_block g xs) (without_block g xs))
        shift (inl r) v = inl (inr r)
        shift (inr r) true = inr r
        shift (inr r) false = inr (inr r)

without_none : (g : ℕ) (xs : List Block) → Each (λ x. x.first ≢ g) xs → without_block g xs ≡ xs
without_none g [] e = refl
without_none g (x ∷ xs) e = at (without_none g xs e.1) (x.first == g) (ne_eqb x.first g e.0)
  where
    at : without_block g xs ≡ xs → (v : Bool) → v ≡ false → cond (not v) (x ∷ without_block g xs) (without_block g xs)
        ≡ x ∷ xs
    at rest true u = absurd (cc)
    at rest false u = ap (λ ys. x ∷ ys) rest

-- each block begins elsewhere
abbrev pub Differ : Block → Block → Type 0
Differ x y = x.first ≢ y.first

has_none : (P Q : Block → Type 0) (xs : List Block) → ((x : Block) → P x → Q x → ⊥) → Has P xs → Each Q xs → ⊥
has_none P Q [] f h e = h
has_none P Q (x ∷ xs) f (inl p) e = f x p e.0
has_none P Q (x ∷ xs) f (inr h) e = has_none P Q xs f h e.1

-- what some block at a granule has, the one that is found there has
pub found_has : (P : Block → Type 0) (g : ℕ) (b : Block) (xs : List Block) → find (λ x. x.first == g) xs ≡ Some b
    → Pairs Differ xs
    → Has (λ x. P x × (x.first ≡ g)) xs → P b
found_has P g b [] f d h = absurd h
found_has P g b (x ∷ xs) f d h = at (λ q r. found_has P g b xs q d.1 r) (x.first == g) refl f h
  where
    at : (find (λ x. x.first == g) xs ≡ Some b → Has (λ x. P x × (x.first ≡ g)) xs → P b) → (v : Bool)
        → (x.first == g) ≡ v
        → cond v (Some x) (find (λ x. x.first == g) xs) ≡ Some b → (P x × (x.first ≡ g))
        ⊎ Has (λ x. P x × (x.first ≡ g)) xs → P b
    at rest true u f (inl q) = let e : x ≡ b = cc in subst P e q.0
    at rest true u f (inr q) =
        absurd (has_none (λ y. P y × (y.first ≡ g)) (Differ x) xs (λ y r n. n (eqb-true x.first g u ∙ sym r.1)) q d.0)
    at rest false u f (inl q) = absurd (eqb-false x.first g u q.1)
    at rest false u f (inr q) = rest f q

pub count_without : (p : Block → Bool) (g : ℕ) (b : Block) (xs : List Block) → find (λ x. x.first == g) xs ≡ Some b
    → Pairs Differ xs
    → cond (p b) 1 0 + count_by p (without_block g xs) ≡ count_by p xs
count_without p g b [] f d = absurd (cc)
count_without p g b (x ∷ xs) f d = at (λ h. count_without p g b xs h d.1) (x.first == g) refl f
  where
    one : Block → ℕ
    one y = cond (p y) 1 0

    at : (find (λ x. x.first == g) xs ≡ Some b → cond (p b) 1 0 + count_by p (without_block g xs) ≡ count_by p xs)
        → (v : Bool) → (x.first == g) ≡ v
        → cond v (Some x) (find (λ x. x.first == g) xs) ≡ Some b
        → cond (p b) 1 0 + count_by p (cond (not v) (x ∷ without_block g xs) (without_block g xs)) ≡ count_by p (x ∷ xs)
    at rest true u f =
        let q : x ≡ b = cc in
        let n : without_block g xs ≡ xs = without_none g xs (each_map (Differ x) (λ y. y.first ≢ g) xs
        (λ y m e. m (eqb-true x.first g u ∙ sym e)) d.0) in
        ap (λ z. cond (p z) 1 0 + count_by p (without_block g xs)) (sym q)
        ∙ (ap (λ ys. one x + count_by p ys) n ∙ sym (sum_by-cons one x xs))
    at rest false u f = let l = sum_by-cons one x (without_block g xs) in let r = sum_by-cons one x xs in
        omega (arith, l, r, rest f)

-- none is counted
pub count_none : (p : Block → Bool) (xs : List Block) → count_by p xs ≡ 0 → Each (λ x. p x ≡ false) xs
count_none p [] e = tt
count_none p (x ∷ xs) e = at (λ z. count_none p xs z) (p x) refl (sym (sum_by-cons (λ y. cond (p y) 1 0) x xs) ∙ e)
  where
    at : (count_by p xs ≡ 0 → Each (λ y. p y ≡ false) xs) → (v : Bool) → p x ≡ v → cond v 1 0 + count_by p xs ≡ 0
        → (p x ≡ false) × Each (λ y. p y ≡ false) xs
    at rest true u e = absurd (omega arith)
    at rest false u e = (u, rest (omega arith))
