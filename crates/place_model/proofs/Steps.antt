-- What the tables need to know before a block is placed or released.
use Rattle.std.proofs.Common.{◌≡◌, ◌≢◌, ℕ, zero, suc, ◌+◌, ◌-◌, ◌*◌, ◌<◌, ◌≤◌, cond, Bool, true, false, List, [], ◌∷◌}
use Rattle.std.proofs.Common.{length, get_or, sym, subst, inl, inr, refl, ap, arith}
use Rattle.std.specs.Prelude.{Option, Some, None, nat_lt, All, replicate, slice_set, option_map}
use Rattle.std.proofs.lemmas.Bool.{ltb-false}
use Rattle.plan_core.specs.declared.types.Area.{Area}
use Rattle.plan_core.specs.Plan.{granules}
use Rattle.place_spec.specs.declared.parts.Chunk.{Chunk}
use Rattle.place_spec.specs.declared.parts.Spot.{Spot}
use Rattle.place_spec.specs.declared.parts.Spot.TheVariants.{Current, Fresh, Front}
use Rattle.place_spec.specs.Layout.{Block, Layout, first_layout, chunk_of, idle_chunk, chunk_front}
use Rattle.place_spec.specs.Place.{spot_of, granule_of, taken, with_block, placed_at}
use Rattle.place_spec.specs.Release.{freed, chunk_at, block_at, layout_without, released_block, released, with_hole}
use Rattle.place_spec.specs.Release.{left_with, left_chunk, is_current}
use Rattle.place_spec.specs.Sound.{Apart, OnOneSide}
use Rattle.place_spec.proofs.Lists.{Each, Pairs, all}
use Rattle.place_spec.proofs.Blocks.{Differ}
use Rattle.place_spec.proofs.HoleLists.{few}
use Rattle.place_spec.proofs.Spots.{Chosen}
use Rattle.place_spec.proofs.SoundParts.{Stands, Parts, at_item}
use Rattle.place_spec.proofs.Sounds.{placed_in_parts, chunk_at_in}
use Rattle.place_spec.proofs.Leaving.{differ, stands, free_parts}
use Rattle.place_model.specs.Tables.{FewLive, IsFree}

-- the spot that is chosen is free
pub free_of : (area : Area) (layout : Layout) (need : ℕ) (group : Option ℕ) (spot : Spot) → Parts area layout
    → ((g : ℕ) → group ≡ Some g → g < 16) → Chosen area layout need group spot → IsFree area layout need spot
free_of area layout need group (Current k) p small c =
    (let w = (p.currents c.0 k c.2).0 in let n = p.chunks in omega (arith, w, n), c.3)
free_of area layout need group (Fresh g k) p small c =
    let n = p.chunks in let l = c.1 in
    let kept = p.keeps k (omega (arith, n, l)) in
    (let s = small g c.0 in let e = p.groups in omega (arith, s, e), c.1, c.3, kept.idle.1 (kept.unowned c.2))
free_of area layout need group (Front i) p small c = c

-- the block that was added has what each has, and is apart from the others
each_new : (P : Block → Type 0) (b : Block) (xs : List Block) → Each P (with_block b xs) → P b
each_new P b [] e = e.0
each_new P b (x ∷ xs) e = at (λ r. each_new P b xs r) (nat_lt x.first b.first) e
  where
    at : (Each P (with_block b xs) → P b) → (t : Bool) → Each P (cond t (x ∷ with_block b xs) (b ∷ x ∷ xs)) → P b
    at rest true e = rest e.1
    at rest false e = e.0

pairs_new : (b : Block) (xs : List Block) → Pairs Differ (with_block b xs) → Each (λ x. x.first ≢ b.first) xs
pairs_new b [] p = tt
pairs_new b (x ∷ xs) p = at (λ q. pairs_new b xs q) (nat_lt x.first b.first) p
  where
    turned : (ys : List Block) → Each (Differ b) ys → Each (λ y. y.first ≢ b.first) ys
    turned [] e = tt
    turned (y ∷ ys) e = ((λ q. e.0 (sym q)), turned ys e.1)

    at : (Pairs Differ (with_block b xs) → Each (λ y. y.first ≢ b.first) xs) → (t : Bool)
        → Pairs Differ (cond t (x ∷ with_block b xs) (b ∷ x ∷ xs)) → Each (λ y. y.first ≢ b.first) (x ∷ xs)
    at rest true q = (each_new (Differ x) b xs q.0, rest q.1)
    at rest false q = turned (x ∷ xs) q.0

-- what is taken is no block
pub same_blocks : (need : ℕ) (spot : Spot) (layout : Layout) → (taken need spot layout).blocks ≡ layout.blocks
unfolding taken
same_blocks need (Current k) layout = refl
same_blocks need (Fresh g k) layout = refl
same_blocks need (Front i) layout = refl

-- where a chosen block is put none begins, and the block lies inside the area
pub record IsNew (area : Area) (layout : Layout) (need granule : ℕ) : Type 0 where
  pub inside : granule + need ≤ granules area
  pub others : Each (λ b. b.first ≢ granule) layout.blocks

filled : (area : Area) (layout : Layout) (xs : List Block) → Each (Stands area layout) xs
    → Each (λ b. 0 < b.granules) xs
filled area layout [] e = tt
filled area layout (x ∷ xs) e = (e.0.filled, filled area layout xs e.1)

pub new_block : (area : Area) (layout : Layout) (need : ℕ) (group : Option ℕ) (spot : Spot) → Parts area layout
    → 1 ≤ need
    → ((g : ℕ) → group ≡ Some g → g < 16) → spot_of area layout need group ≡ Some spot
    → IsNew area layout need (granule_of area layout spot)
new_block area layout need group spot p some small e =
    let after = (placed_at area layout need group spot).after in
    let q = placed_in_parts area layout need group (placed_at area layout need group spot) p some small
    (ap (option_map (placed_at area layout need group)) e) in
    let b : Block = record { first = granule_of area layout spot; granules = need; group = group } in
    record {
      inside = (each_new (Stands area after) b (taken need spot layout).blocks q.blocks).inside;
      others = subst (λ xs. Each (λ x. x.first ≢ granule_of area layout spot) xs) (same_blocks need spot layout)
          (pairs_new b (taken need spot layout).blocks (differ after.blocks (filled area after after.blocks q.blocks)
          q.apart));
    }

-- few live blocks in each chunk
pub few_first : (area : Area) → FewLive (first_layout area)
few_first area k = at area.chunks k
  where
    at : (n k : ℕ) → (get_or (replicate n idle_chunk) k idle_chunk).live ≤
        (get_or (replicate n idle_chunk) k idle_chunk).bump
    at zero k = omega arith
    at (suc n) zero = omega arith
    at (suc n) (suc k) = at n k

pub few_placed : (area : Area) (layout : Layout) (need : ℕ) (group : Option ℕ) (spot : Spot) → 1 ≤ need
    → IsFree area layout need spot
    → FewLive layout → FewLive (placed_at area layout need group spot).after
unfolding taken
few_placed area layout need group (Current k) some f l =
    at_item (λ j c. c.live ≤ c.bump) layout.chunks k _ idle_chunk f.0 (let m = l k in omega (arith, m, some))
    (λ j n. l j)
few_placed area layout need group (Fresh g k) some f l =
    at_item (λ j c. c.live ≤ c.bump) layout.chunks k _ idle_chunk f.1 some (λ j n. l j)
few_placed area layout need group (Front i) some f l = l

few_left : (n : ℕ) (cur : Bool) (c : Chunk) → n ≤ c.live → c.live ≤ c.bump
    → (left_with n cur c).live ≤ (left_with n cur c).bump
few_left zero cur c l m = omega arith
few_left (suc n) cur c l m = omega (arith, l, m)

pub few_released : (area : Area) (layout : Layout) (granule : ℕ) → Parts area layout → FewLive layout
    → FewLive (released area layout granule)
unfolding freed
few_released area layout granule p l = at (block_at layout granule) refl
  where
    in_chunk : (k : ℕ) → k < length layout.chunks → (j : ℕ)
        → (get_or (slice_set layout.chunks k (left_chunk layout k (chunk_of layout k))) j idle_chunk).live
        ≤ (get_or (slice_set layout.chunks k (left_chunk layout k (chunk_of layout k))) j idle_chunk).bump
    in_chunk k w = at_item (λ j c. c.live ≤ c.bump) layout.chunks k (left_chunk layout k (chunk_of layout k)) idle_chunk
        w
        (few_left ((chunk_of layout k).live - 1) (is_current layout k (chunk_of layout k).owner) (chunk_of layout k)
        (omega arith) (l k)) (λ j n. l j)

    by_side : (b : Block) → block_at layout granule ≡ Some b → (t : Bool) → nat_lt b.first area.fallback ≡ t
        → FewLive (layout_without b.first (cond t
        (record layout { holes = with_hole (record { start = b.first; length = b.granules }) layout.holes })
        (record layout {
          chunks = slice_set layout.chunks (chunk_at area b.first)
              (left_chunk layout (chunk_at area b.first) (chunk_of layout (chunk_at area b.first)));
        })))
    by_side b u true s = l
    by_side b u false s =
        let own : Stands area layout b = stands area layout p granule b u in
        let i = own.inside in let f = own.filled in let n = p.chunks in
        let w = (chunk_at_in area b (ltb-false b.first area.fallback s) (omega (arith, i, f))).0 in
        in_chunk (chunk_at area b.first) (omega (arith, w, n))

    at : (o : Option Block) → block_at layout granule ≡ o → FewLive (released_block area layout o)
    at None u = l
    at (Some b) u = by_side b u (nat_lt b.first area.fallback) refl

-- a block that is released in the fallback: its granules are a hole that may be added
pub record MayAdd (area : Area) (layout : Layout) (b : Block) : Type 0 where
  pub apart : All (λ h. Apart b.first b.granules h.start h.length) layout.holes
  pub end : b.first + b.granules ≤ area.fallback
  pub few_holes : 2 * length (with_hole (record { start = b.first; length = b.granules }) layout.holes) ≤ area.fallback
      + 1

pub may_add : (area : Area) (layout : Layout) (granule : ℕ) (b : Block) → Parts area layout
    → block_at layout granule ≡ Some b
    → b.first < area.fallback → MayAdd area layout b
may_add area layout granule b p found low =
    let own : Stands area layout b = stands area layout p granule b found in
    let q = free_parts area layout p granule b found low in
    let hs = with_hole (record { start = b.first; length = b.granules }) layout.holes in
    record {
      apart = all (λ h. Apart b.first b.granules h.start h.length) layout.holes own.holes;
      end = at (own.crossing 0 (omega arith));
      few_holes = let m = few area.fallback 0 hs q.inside q.ascends (omega arith) in omega (arith, m);
    }
  where
    at : OnOneSide (chunk_front area 0) b → b.first + b.granules ≤ area.fallback
    at (inl l) = omega (arith, l)
    at (inr l) = absurd (omega (arith, l, low))
