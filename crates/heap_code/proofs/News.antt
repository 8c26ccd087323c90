-- A placed block among the others: it is apart from them, and they are still found.
use Rattle.std.proofs.Common.{◌≡◌, ◌≢◌, ℕ, ◌+◌, ◌<◌, ◌≤◌, ◌==◌, cond, Bool, true, false, List, [], ◌∷◌, refl, sym, ◌∙◌}
use Rattle.std.proofs.Common.{ap, subst, arith, inl, inr}
use Rattle.std.specs.Prelude.{Option, Some, None, find, nat_lt, option_map}
use Rattle.std.proofs.lemmas.Bool.{eqb-true}
use Rattle.plan_core.specs.declared.types.Area.{Area}
use Rattle.plan_core.specs.Plan.{granules}
use Rattle.place_spec.specs.declared.parts.Spot.{Spot}
use Rattle.place_spec.specs.declared.parts.Spot.TheVariants.{Current, Fresh, Front}
use Rattle.place_spec.specs.Layout.{Block, Layout}
use Rattle.place_spec.specs.Place.{Placed, spot_of, granule_of, taken, placed_at, placed_in, with_block}
use Rattle.place_spec.specs.Release.{block_at}
use Rattle.place_spec.specs.Sound.{Apart}
use Rattle.place_spec.proofs.Blocks.{each_found}
use Rattle.place_spec.proofs.Lists.{Each, Pairs}
use Rattle.place_spec.proofs.Sounds.{placed_in_parts}
use Rattle.place_spec.proofs.SoundParts.{BlocksApart, apart_sym, Stands, Parts}
use Rattle.heap_code.proofs.Spots.{new_stands}

-- what holds between each two, holds between the new one and each other
pub pairs_new : (R : Block → Block → Type 0) (b : Block) (xs : List Block)
    → ((x y : Block) → R x y → R y x) → Pairs R (with_block b xs) → Each (R b) xs
pairs_new R b [] s p = tt
pairs_new R b (x ∷ xs) s p = at (pairs_new R b xs s) (nat_lt x.first b.first) p
  where
    at : (Pairs R (with_block b xs) → Each (R b) xs) → (t : Bool)
        → Pairs R (cond t (x ∷ with_block b xs) (b ∷ x ∷ xs)) → R b x × Each (R b) xs
    at rest true p = (s x b (new_stands (R x) b xs p.0), rest p.1)
    at rest false p = p.0

-- another block is found as before
pub find_with : (g : ℕ) (b : Block) (xs : List Block) → b.first ≢ g
    → find (λ x. x.first == g) (with_block b xs) ≡ find (λ x. x.first == g) xs
find_with g b [] n = by (b.first == g) refl
  where
    by : (t : Bool) → (b.first == g) ≡ t → cond t (Some b) None ≡ None
    by true e = absurd (n (eqb-true b.first g e))
    by false e = refl
find_with g b (x ∷ xs) n = at (find_with g b xs n) (nat_lt x.first b.first) (x.first == g) (b.first == g) refl
  where
    other : (o : Option Block) → (v : Bool) → (b.first == g) ≡ v → cond v (Some b) o ≡ o
    other o true e = absurd (n (eqb-true b.first g e))
    other o false e = refl

    at : find (λ y. y.first == g) (with_block b xs) ≡ find (λ y. y.first == g) xs → (t u v : Bool) → (b.first == g) ≡ v
        → find (λ y. y.first == g) (cond t (x ∷ with_block b xs) (b ∷ x ∷ xs))
        ≡ cond (x.first == g) (Some x) (find (λ y. y.first == g) xs)
    at rest true u v e = ap (λ o. cond (x.first == g) (Some x) o) rest
    at rest false u v e = other (cond (x.first == g) (Some x) (find (λ y. y.first == g) xs)) (b.first == g) refl

-- the blocks after a placing
new_block : Area → Layout → (need : ℕ) → (group : Option ℕ) → Placed → Block
new_block area layout need group p = record { first = p.granule; granules = need; group = group }

after_blocks : (area : Area) (layout : Layout) (need : ℕ) (group : Option ℕ) (spot : Spot)
    → (placed_at area layout need group spot).after.blocks
    ≡ with_block (record { first = granule_of area layout spot; granules = need; group = group }) layout.blocks
unfolding taken
after_blocks area layout need group (Current k) = refl
after_blocks area layout need group (Fresh h k) = refl
after_blocks area layout need group (Front i) = refl

pub blocks_after : (area : Area) (layout : Layout) (need : ℕ) (group : Option ℕ) (p : Placed)
    → placed_in area layout need group ≡ Some p
    → p.after.blocks ≡ with_block (record { first = p.granule; granules = need; group = group }) layout.blocks
blocks_after area layout need group p e = by (spot_of area layout need group) e
  where
    by : (o : Option Spot) → option_map (placed_at area layout need group) o ≡ Some p
        → p.after.blocks ≡ with_block (record { first = p.granule; granules = need; group = group }) layout.blocks
    by None e = absurd (cc)
    by (Some spot) e =
        let q : placed_at area layout need group spot ≡ p = cc in
        subst (λ x. x.after.blocks ≡ with_block (record {
          first = x.granule;
          granules = need;
          group = group;
        }) layout.blocks) q
        (after_blocks area layout need group spot)

-- an old block is apart from the new one, and is found after the placing
pub record Beside (area : Area) (need : ℕ) (p : Placed) (b : Block) : Type 0 where
  pub parts_after : Parts area p.after
  pub inside : p.granule + need ≤ granules area
  pub apart : Apart p.granule need b.first b.granules
  pub found : block_at p.after b.first ≡ Some b
  pub within : b.first + b.granules ≤ granules area
  pub filled : 0 < b.granules

pub beside : (area : Area) (layout : Layout) (need : ℕ) (group : Option ℕ) (p : Placed) (b : Block)
    → Parts area layout → 1 ≤ need
    → ((g : ℕ) → group ≡ Some g → g < 16) → placed_in area layout need group ≡ Some p
    → block_at layout b.first ≡ Some b → Beside area need p b
beside area layout need group p b h some small e found =
    let after : Parts area p.after = placed_in_parts area layout need group p h some small e in
    let n : Block = record { first = p.granule; granules = need; group = group } in
    let blocks : p.after.blocks ≡ with_block n layout.blocks = blocks_after area layout need group p e in
    let mine : Stands area layout b = each_found (Stands area layout) (λ x. x.first == b.first)
    b layout.blocks found h.blocks in
    let new : Stands area p.after n = new_stands (Stands area p.after) n layout.blocks
    (subst (Each (Stands area p.after)) blocks after.blocks) in
    let apart : BlocksApart n b =
    each_found (BlocksApart n) (λ x. x.first == b.first) b layout.blocks found
    (pairs_new BlocksApart n layout.blocks apart_sym (subst (Pairs BlocksApart) blocks after.apart)) in
    record {
      parts_after = after;
      inside = new.inside;
      apart = apart;
      found = subst (λ xs. find (λ x. x.first == b.first) xs ≡ Some b) (sym blocks)
          (find_with b.first n layout.blocks (differ apart some mine.filled) ∙ found);
      within = mine.inside;
      filled = mine.filled;
    }
  where
    differ : Apart p.granule need b.first b.granules → 1 ≤ need → 0 < b.granules → p.granule ≢ b.first
    differ (inl l) s f e = omega (arith, l, s, e)
    differ (inr l) s f e = omega (arith, l, f, e)
