-- The blocks that a list of starts says: with one more, and without one.
use Rattle.std.proofs.Common.{◌≡◌, ◌≢◌, ℕ, zero, suc, ◌+◌, ◌<◌, ◌≤◌, ◌==◌, cond, Bool, true, false, List, [], ◌∷◌}
use Rattle.std.proofs.Common.{length, get_or, set, sym, ◌∙◌, subst, inl, inr, refl, ap, arith}
use Rattle.std.specs.Prelude.{Option, Some, find, not}
use Rattle.std.proofs.lemmas.Bool.{lt-ltb, le-ltb, ne_eqb, eq-eqb, eqb-false}
use Rattle.place_spec.specs.Layout.{Block}
use Rattle.place_spec.specs.Place.{with_block}
use Rattle.place_spec.specs.Release.{without_block}
use Rattle.place_spec.proofs.Lists.{Each, Has, each_map}
use Rattle.place_spec.proofs.Blocks.{each_found}
use Rattle.place_model.specs.declared.tables.Start.{Start}
use Rattle.place_model.specs.Tables.{blocks_from}
use Rattle.place_model.proofs.TableReads.{nothing}

-- the blocks behind a start
abbrev behind : ℕ → Start → List Block → List Block
behind j s bs = cond (s.granules == 0) bs (record { first = j; granules = s.granules; group = s.group } ∷ bs)

-- all of them begin at a granule or above it
from_on : (j lo : ℕ) (ss : List Start) → lo ≤ j → Each (λ b. lo ≤ b.first) (blocks_from j ss)
from_on j lo [] l = tt
from_on j lo (s ∷ ss) l = at (from_on (j + 1) lo ss (omega (arith, l))) (s.granules == 0)
  where
    at : Each (λ b. lo ≤ b.first) (blocks_from (j + 1) ss) → (t : Bool)
        → Each (λ b. lo ≤ b.first) (cond t (blocks_from (j + 1) ss)
        (record { first = j; granules = s.granules; group = s.group } ∷ blocks_from (j + 1) ss))
    at rest true = rest
    at rest false = (l, rest)

above : (j lo : ℕ) (ss : List Start) → lo < j → Each (λ b. lo < b.first) (blocks_from j ss)
above j lo ss l = each_map (λ b. lo + 1 ≤ b.first) (λ b. lo < b.first) (blocks_from j ss) (λ b m. omega (arith, m))
    (from_on j (lo + 1) ss (omega (arith, l)))

-- a block below all others comes first
first_of_all : (b : Block) (xs : List Block) → Each (λ x. b.first < x.first) xs → with_block b xs ≡ b ∷ xs
first_of_all b [] e = refl
first_of_all b (x ∷ xs) e = ap (λ t. cond t (x ∷ with_block b xs) (b ∷ x ∷ xs))
    (le-ltb x.first b.first (omega (arith, e.0)))

none_there : (g : ℕ) (xs : List Block) → Each (λ x. g < x.first) xs → without_block g xs ≡ xs
none_there g [] e = refl
none_there g (x ∷ xs) e =
    ap (λ t. cond (not t) (x ∷ without_block g xs) (without_block g xs))
    (ne_eqb x.first g (λ q. absurd (omega (arith, q, e.0))))
    ∙ ap (λ ys. x ∷ ys) (none_there g xs e.1)

pub with_start : (j i k : ℕ) (ss : List Start) (n : ℕ) (g : Option ℕ) → k ≡ j + i → i < length ss
    → (get_or ss i nothing).granules ≡ 0 → 0 < n
    → blocks_from j (set ss i (record { granules = n; group = g }))
    ≡ with_block (record { first = k; granules = n; group = g }) (blocks_from j ss)
with_start j i k [] n g e l z p = absurd (omega (arith, l))
with_start j zero k (s ∷ ss) n g e l z p =
    let a = ap (λ t. cond t (blocks_from (j + 1) ss) (record { first = j; granules = n; group = g }
    ∷ blocks_from (j + 1) ss)) (ne_eqb n 0 (λ q. absurd (omega (arith, p, q)))) in
    let b = ap (λ t. cond t (blocks_from (j + 1) ss) (record { first = j; granules = s.granules; group = s.group }
    ∷ blocks_from (j + 1) ss)) (eq-eqb s.granules 0 z) in
    let d = first_of_all (record { first = j; granules = n; group = g }) (blocks_from (j + 1) ss)
    (above (j + 1) j ss (omega arith)) in
    let f : k ≡ j = omega (arith, e) in
    subst (λ x. blocks_from j (record { granules = n; group = g } ∷ ss)
    ≡ with_block (record { first = x; granules = n; group = g }) (blocks_from j (s ∷ ss))) (sym f)
    (a ∙ (sym d ∙ ap (with_block (record { first = j; granules = n; group = g })) (sym b)))
with_start j (suc i) k (s ∷ ss) n g e l z p =
    at (with_start (j + 1) i k ss n g (omega (arith, e)) (omega (arith, l)) z p) (s.granules == 0)
  where
    new : Block
    new = record { first = k; granules = n; group = g }

    old : Block
    old = record { first = j; granules = s.granules; group = s.group }

    at : blocks_from (j + 1) (set ss i (record { granules = n; group = g })) ≡ with_block new (blocks_from (j + 1) ss)
        → (t : Bool)
        → cond t (blocks_from (j + 1) (set ss i (record { granules = n; group = g })))
        (old ∷ blocks_from (j + 1) (set ss i (record { granules = n; group = g })))
        ≡ with_block new (cond t (blocks_from (j + 1) ss) (old ∷ blocks_from (j + 1) ss))
    at rest true = rest
    at rest false =
        ap (λ xs. old ∷ xs) rest
        ∙ sym (ap (λ v. cond v (old ∷ with_block new (blocks_from (j + 1) ss)) (new ∷ old ∷ blocks_from (j + 1) ss))
        (lt-ltb j k (omega (arith, e))))

pub without_start : (j i k : ℕ) (ss : List Start) → k ≡ j + i → i < length ss
    → blocks_from j (set ss i nothing) ≡ without_block k (blocks_from j ss)
without_start j i k [] e l = absurd (omega (arith, l))
without_start j zero k (s ∷ ss) e l = at (s.granules == 0)
  where
    old : Block
    old = record { first = j; granules = s.granules; group = s.group }

    over : Each (λ x. k < x.first) (blocks_from (j + 1) ss)
    over = above (j + 1) k ss (omega (arith, e))

    at : (t : Bool) → blocks_from (j + 1) ss ≡ without_block k
        (cond t (blocks_from (j + 1) ss) (old ∷ blocks_from (j + 1) ss))
    at true = sym (none_there k (blocks_from (j + 1) ss) over)
    at false =
        sym (ap (λ t. cond (not t) (old ∷ without_block k (blocks_from (j + 1) ss))
        (without_block k (blocks_from (j + 1) ss))) (eq-eqb j k (omega (arith, e)))
        ∙ none_there k (blocks_from (j + 1) ss) over)
without_start j (suc i) k (s ∷ ss) e l = at (without_start (j + 1) i k ss (omega (arith, e)) (omega (arith, l)))
    (s.granules == 0)
  where
    old : Block
    old = record { first = j; granules = s.granules; group = s.group }

    at : blocks_from (j + 1) (set ss i nothing) ≡ without_block k (blocks_from (j + 1) ss) → (t : Bool)
        → cond t (blocks_from (j + 1) (set ss i nothing)) (old ∷ blocks_from (j + 1) (set ss i nothing))
        ≡ without_block k (cond t (blocks_from (j + 1) ss) (old ∷ blocks_from (j + 1) ss))
    at rest true = rest
    at rest false =
        ap (λ xs. old ∷ xs) rest
        ∙ sym (ap (λ t. cond (not t) (old ∷ without_block k (blocks_from (j + 1) ss))
        (without_block k (blocks_from (j + 1) ss)))
        (ne_eqb j k (λ q. absurd (omega (arith, e, q)))))

-- the block that a start says is found
pub found_start : (j i k : ℕ) (ss : List Start) → k ≡ j + i → i < length ss → 0 < (get_or ss i nothing).granules
    → find (λ b. b.first == k) (blocks_from j ss) ≡ Some (record
    { first = k; granules = (get_or ss i nothing).granules; group = (get_or ss i nothing).group })
found_start j i k [] e l p = absurd (omega (arith, l))
found_start j zero k (s ∷ ss) e l p =
    let f : j ≡ k = omega (arith, e) in
    ap (λ t. find (λ b. b.first == k) (cond t (blocks_from (j + 1) ss)
    (record { first = j; granules = s.granules; group = s.group } ∷ blocks_from (j + 1) ss)))
    (ne_eqb s.granules 0 (λ q. absurd (omega (arith, p, q))))
    ∙ (ap (λ t. cond t (Some (record { first = j; granules = s.granules; group = s.group }))
    (find (λ b. b.first == k) (blocks_from (j + 1) ss))) (eq-eqb j k f)
    ∙ ap (λ x. Some (record { first = x; granules = s.granules; group = s.group })) f)
found_start j (suc i) k (s ∷ ss) e l p = at (found_start (j + 1) i k ss (omega (arith, e)) (omega (arith, l)) p)
    (s.granules == 0)
  where
    there : Block
    there = record { first = k; granules = (get_or ss i nothing).granules; group = (get_or ss i nothing).group }

    old : Block
    old = record { first = j; granules = s.granules; group = s.group }

    at : find (λ b. b.first == k) (blocks_from (j + 1) ss) ≡ Some there → (t : Bool)
        → find (λ b. b.first == k) (cond t (blocks_from (j + 1) ss) (old ∷ blocks_from (j + 1) ss)) ≡ Some there
    at rest true = rest
    at rest false =
        ap (λ t. cond t (Some old) (find (λ b. b.first == k) (blocks_from (j + 1) ss)))
        (ne_eqb j k (λ q. absurd (omega (arith, e, q)))) ∙ rest

-- where no block begins there is no start
pub no_start : (i : ℕ) (ss : List Start) → i < length ss → Each (λ b. b.first ≢ i) (blocks_from 0 ss)
    → (get_or ss i nothing).granules ≡ 0
no_start i ss l e = at ((get_or ss i nothing).granules) refl
  where
    at : (n : ℕ) → (get_or ss i nothing).granules ≡ n → n ≡ 0
    at zero q = refl
    at (suc n) q =
        let f = found_start 0 i i ss (omega arith) l (omega (arith, q)) in
        absurd (each_found (λ b. b.first ≢ i) (λ b. b.first == i) _ (blocks_from 0 ss) f e refl)

-- where a block begins there is a start
no_such : (k : ℕ) (xs : List Block) → Each (λ b. k < b.first) xs → Has (λ b. b.first ≡ k) xs → ⊥
no_such k [] a h = h
no_such k (x ∷ xs) a (inl q) = omega (arith, q, a.0)
no_such k (x ∷ xs) a (inr q) = no_such k xs a.1 q

pub has_start : (j i k : ℕ) (ss : List Start) → k ≡ j + i → Has (λ b. b.first ≡ k) (blocks_from j ss)
    → (i < length ss) × (0 < (get_or ss i nothing).granules)
has_start j i k [] e h = absurd h
has_start j zero k (s ∷ ss) e h = at (s.granules == 0) refl h
  where
    at : (t : Bool) → (s.granules == 0) ≡ t
        → Has (λ b. b.first ≡ k) (cond t (blocks_from (j + 1) ss)
        (record { first = j; granules = s.granules; group = s.group } ∷ blocks_from (j + 1) ss))
        → (0 < suc (length ss)) × (0 < s.granules)
    at true q h = absurd (no_such k (blocks_from (j + 1) ss) (above (j + 1) k ss (omega (arith, e))) h)
    at false q h = (omega arith, let n = eqb-false s.granules 0 q in omega (arith, n))
has_start j (suc i) k (s ∷ ss) e h = at (λ g. has_start (j + 1) i k ss (omega (arith, e)) g) (s.granules == 0) h
  where
    at : (Has (λ b. b.first ≡ k) (blocks_from (j + 1) ss) → (i < length ss) × (0 < (get_or ss i nothing).granules))
        → (t : Bool)
        → Has (λ b. b.first ≡ k) (cond t (blocks_from (j + 1) ss)
        (record { first = j; granules = s.granules; group = s.group } ∷ blocks_from (j + 1) ss))
        → (suc i < suc (length ss)) × (0 < (get_or ss i nothing).granules)
    at rest true h = let r = rest h in (omega (arith, r.0), r.1)
    at rest false (inl q) = absurd (omega (arith, q, e))
    at rest false (inr h) = let r = rest h in (omega (arith, r.0), r.1)
