-- The first layout is sound, and placing, releasing and moving keep that.
use Rattle.std.proofs.Common.{◌≡◌, ◌≢◌, ℕ, zero, suc, ◌+◌, ◌-◌, ◌*◌, ◌/◌, ◌<◌, ◌≤◌, ◌⊎◌, ◌==◌, cond, Bool, true, false}
use Rattle.std.proofs.Common.{List, [], ◌∷◌, get_or, replicate, sym, ◌∙◌, subst, inl, inr, refl, ap, arith}
use Rattle.std.specs.Prelude.{Option, Some, None, option_map, find, nat_lt, slice_set, bit_and, All}
use Rattle.std.proofs.lemmas.Bool.{ltb-true, ltb-false, eqb-true, eqb-false}
use Rattle.std.proofs.lemmas.List.{set-get_or, length-replicate}
use Rattle.std.proofs.lemmas.Nat.{pow_pos, div_below}
use Rattle.std.proofs.Math.Nat.{div-mul-le_self, lt-mul-div-succ, mul_comm}
use Rattle.plan_core.specs.declared.types.Area.{Area}
use Rattle.plan_core.specs.declared.types.Row.{Row}
use Rattle.plan_core.specs.Plan.{granules, group_of_bits}
use Rattle.place_spec.specs.declared.parts.Hole.{Hole}
use Rattle.place_spec.specs.declared.parts.Spot.{Spot}
use Rattle.place_spec.specs.declared.parts.Spot.TheVariants.{Current, Fresh, Front}
use Rattle.place_spec.specs.Layout.{Block, Layout, first_layout, current_of, chunk_of, idle_chunk, chunk_size}
use Rattle.place_spec.specs.Layout.{chunk_front}
use Rattle.place_spec.specs.Place.{Placed, spot_of, granule_of, taken, with_block, placed_at, placed_in, placed}
use Rattle.place_spec.specs.Release.{freed, chunk_at, block_at, layout_without, released_block, released, moved}
use Rattle.place_spec.specs.Release.{then_released, with_hole, left_chunk}
use Rattle.std.specs.Option.{option_map_or}
use Rattle.place_spec.specs.Reached.{Request, Places, Releases, IsAllowed, IsReached, layout_after, layout_after_all}
use Rattle.place_spec.specs.Sound.{Frees, InChunk}
use Rattle.place_spec.proofs.Lists.{Each, Has, each}
use Rattle.place_spec.proofs.Spots.{Chosen, chosen}
use Rattle.place_spec.proofs.HoleLists.{Ascends}
use Rattle.place_spec.proofs.SoundParts.{Keeps, Parts, Stands}
use Rattle.place_spec.proofs.Entering.{enter_parts}
use Rattle.place_spec.proofs.Fronting.{front_parts}
use Rattle.place_spec.proofs.Leaving.{stands, first_is, leave_parts, free_parts}

all_same : {X : Type 0} → (n i : ℕ) (x : X) → get_or (replicate n x) i x ≡ x
all_same zero i x = refl
all_same (suc n) zero x = refl
all_same (suc n) (suc i) x = all_same n i x

abbrev nothing : Option ℕ
nothing = None

pub first_parts : (area : Area) → Parts area (first_layout area)
first_parts area = record {
  groups = length-replicate 16 nothing;
  chunks = length-replicate area.chunks idle_chunk;
  blocks = tt;
  apart = tt;
  covered = λ i l. open_all i l (area.fallback == 0) refl;
  ascends = ascends (area.fallback == 0) refl;
  inside = inside (area.fallback == 0);
  keeps = λ k l. subst (Keeps area (first_layout area) k) (sym (all_same area.chunks k idle_chunk)) (record {
    counted = refl;
    bumps = omega arith;
    idle = (λ e. refl, λ e. refl);
    unowned = λ e. refl;
    in_use = λ o f. absurd (o refl);
  });
  currents = λ g k e. absurd (let n = all_same 16 g nothing in cc);
  owners = λ k g e. absurd (let n = ap (λ c. c.owner) (all_same area.chunks k idle_chunk) in cc);
}
  where
    whole : Hole
    whole = record { start = 0; length = area.fallback }

    open_all : (i : ℕ) → i < area.fallback → (t : Bool) → (area.fallback == 0) ≡ t → ⊥
        ⊎ Has (λ h. Frees h i) (cond t [] (whole ∷ []))
    open_all i l true e = absurd (let z = eqb-true area.fallback 0 e in omega (arith, l, z))
    open_all i l false e = inr (inl (omega arith, omega (arith, l)))

    ascends : (t : Bool) → (area.fallback == 0) ≡ t → Ascends 0 (cond t [] (whole ∷ []))
    ascends true e = tt
    ascends false e = (omega arith, (let z = eqb-false area.fallback 0 e in omega (arith, z), tt))

    inside : (t : Bool) → Each (λ h. h.start + h.length ≤ area.fallback) (cond t [] (whole ∷ []))
    inside true = tt
    inside false = (omega arith, tt)

-- placing
placed_parts : (area : Area) (layout : Layout) (need : ℕ) (group : Option ℕ) (spot : Spot) → Parts area layout
    → 1 ≤ need
    → ((g : ℕ) → group ≡ Some g → g < 16) → Chosen area layout need group spot
    → Parts area (placed_at area layout need group spot).after
unfolding granule_of taken
placed_parts area layout need group (Current k) p some small c =
    let g = c.0 in
    let own = p.currents g k c.2 in
    let left : (j : ℕ) → current_of layout g ≡ Some j → j ≢ k → 0 < (chunk_of layout j).live =
    λ j e n. absurd (let q : Some j ≡ Some k = sym e ∙ c.2 in let r : j ≡ k = cc in n r) in
    let after : List (Option ℕ) → Option ℕ → Option ℕ → Layout = λ currents owner of. record {
      currents = currents;
      chunks = slice_set layout.chunks k (record {
        owner = owner;
        bump = (chunk_of layout k).bump + need;
        live =
            (chunk_of layout k).live + 1;
      });
      holes = layout.holes;
      blocks = with_block (record {
        first = chunk_front area k + (chunk_of layout k).bump;
        granules = need;
        group =
            of;
      }) layout.blocks;
    } in
    let entry = enter_parts area layout need g k (record {
      parts = p;
      some = some;
      small = small g c.1;
      within = own.0;
      room = c.3;
      owner = inl own.1;
      left = left;
    }) in
    let same : slice_set layout.currents g (Some k) ≡ layout.currents =
    ap (slice_set layout.currents g) (sym c.2) ∙ set-get_or layout.currents g None in
    subst (λ of. Parts area (after layout.currents (chunk_of layout k).owner of)) (sym c.1)
    (subst (λ owner. Parts area (after layout.currents owner (Some g))) (sym own.1)
    (subst (λ currents. Parts area (after currents (Some g) (Some g))) same entry))
placed_parts area layout need group (Fresh g k) p some small c =
    let within : k < area.chunks = let e = p.chunks in let l = c.1 in omega (arith, e, l) in
    let kept = p.keeps k within in
    let idle_live : (chunk_of layout k).live ≡ 0 = kept.unowned c.2 in
    let idle_bump : (chunk_of layout k).bump ≡ 0 = kept.idle.1 idle_live in
    let left : (j : ℕ) → current_of layout g ≡ Some j → j ≢ k → 0 < (chunk_of layout j).live =
    λ j e n. at j e (p.keeps j (p.currents g j e).0) in
    let after : (first bump live : ℕ) → Option ℕ → Layout = λ first bump live of. record {
      currents = slice_set layout.currents g (Some k);
      chunks = slice_set layout.chunks k (record { owner = Some g; bump = bump; live = live });
      holes = layout.holes;
      blocks = with_block (record { first = first; granules = need; group = of }) layout.blocks;
    } in
    let entry = enter_parts area layout need g k (record {
      parts = p;
      some = some;
      small = small g c.0;
      within = within;
      room = (let r = c.3 in omega (arith, r, idle_bump));
      owner = inr c.2;
      left = left;
    }) in
    let first : chunk_front area k + (chunk_of layout k).bump ≡ chunk_front area k = omega (arith, idle_bump) in
    let bump : (chunk_of layout k).bump + need ≡ need = omega (arith, idle_bump) in
    let live : (chunk_of layout k).live + 1 ≡ 1 = omega (arith, idle_live) in
    subst (λ of. Parts area (after (chunk_front area k) need 1 of)) (sym c.0)
    (subst (λ n. Parts area (after (chunk_front area k) need n (Some g))) live
    (subst (λ n. Parts area (after (chunk_front area k) n ((chunk_of layout k).live + 1) (Some g))) bump
    (subst (λ n. Parts area (after n ((chunk_of layout k).bump + need) ((chunk_of layout k).live + 1) (Some g))) first
    entry)))
  where
    at : (j : ℕ) → current_of layout g ≡ Some j → Keeps area layout j (chunk_of layout j) → 0 < (chunk_of layout j).live
    at j e kept = by_live ((chunk_of layout j).live) refl
      where
        by_live : (n : ℕ) → (chunk_of layout j).live ≡ n → 0 < n
        by_live zero z = absurd (let b = kept.idle.1 z in let f = c.4 j e in let r = c.3 in omega (arith, b, f, r))
        by_live (suc n) z = omega arith
placed_parts area layout need group (Front i) p some small c =
    front_parts area layout need i group (record { parts = p; some = some; small = small; within = c.0; room = c.1 })

pub placed_in_parts : (area : Area) (layout : Layout) (need : ℕ) (group : Option ℕ) (q : Placed) → Parts area layout
    → 1 ≤ need
    → ((g : ℕ) → group ≡ Some g → g < 16) → placed_in area layout need group ≡ Some q → Parts area q.after
placed_in_parts area layout need group q p some small e = at (spot_of area layout need group) refl e
  where
    at : (o : Option Spot) → spot_of area layout need group ≡ o
        → option_map (placed_at area layout need group) o ≡ Some q → Parts area q.after
    at None u e = absurd (cc)
    at (Some spot) u e =
        let r : placed_at area layout need group spot ≡ q = cc in
        subst (λ x. Parts area x.after) r (placed_parts area layout need group spot p some small
        (chosen area layout need group spot u))

-- the groups of rows
pub row_group : (rows : List Row) (bits g : ℕ) → Each (λ row. row.group < 16) rows → group_of_bits rows bits ≡ Some g
    → g < 16
row_group [] bits g h e = absurd (cc)
row_group (r ∷ rows) bits g h e = at (λ q. row_group rows bits g h.1 q) (bit_and r.mask bits == r.mask) e
  where
    at : (group_of_bits rows bits ≡ Some g → g < 16) → (t : Bool)
        → option_map (λ (x : Row). x.group) (cond t (Some r) (find (λ x. bit_and x.mask bits == x.mask) rows)) ≡ Some g
        → g < 16
    at rest true e = let q : r.group ≡ g = cc in subst (λ x. x < 16) q h.0
    at rest false e = rest e

pub placing : (rows : List Row) (area : Area) (layout : Layout) (need bits : ℕ) (q : Placed)
    → All (λ row. row.group < 16) rows
    → Parts area layout → 1 ≤ need → placed rows area layout need bits ≡ Some q → Parts area q.after
placing rows area layout need bits q h p some e =
    placed_in_parts area layout need (group_of_bits rows bits) q p some (λ g. row_group rows bits g (each _ rows h)) e

-- releasing
pub chunk_at_in : (area : Area) (b : Block) → area.fallback ≤ b.first → b.first < granules area
    → (chunk_at area b.first < area.chunks) × InChunk area (chunk_at area b.first) b
chunk_at_in area b low high =
    let s : 0 < chunk_size area = pow_pos area.log_chunk in
    let d = b.first - area.fallback in
    let below : d < area.chunks * chunk_size area = omega (arith, low, high) in
    let under = div-mul-le_self d (chunk_size area) in
    let over : d < chunk_size area * (d / chunk_size area + 1) = lt-mul-div-succ d s in
    let turned = mul_comm (chunk_size area) (d / chunk_size area + 1) in
    (div_below d (chunk_size area) area.chunks s below, (omega (arith, low, under), omega (arith, low, over, turned)))

pub releasing : (area : Area) (layout : Layout) (granule : ℕ) → Parts area layout
    → Parts area (released area layout granule)
unfolding freed
releasing area layout granule p = at (block_at layout granule) refl
  where
    freed_parts : (b : Block) → block_at layout granule ≡ Some b → (t : Bool) → nat_lt b.first area.fallback ≡ t
        → Parts area (layout_without granule (cond t
        (record layout { holes = with_hole (record { start = b.first; length = b.granules }) layout.holes })
        (record layout {
          chunks = slice_set layout.chunks (chunk_at area b.first)
              (left_chunk layout (chunk_at area b.first) (chunk_of layout (chunk_at area b.first)));
        })))
    freed_parts b u true l = free_parts area layout p granule b u (ltb-true b.first area.fallback l)
    freed_parts b u false l =
        let own : Stands area layout b = stands area layout p granule b u in
        let i = own.inside in let f = own.filled in
        let in_it = chunk_at_in area b (ltb-false b.first area.fallback l) (omega (arith, i, f)) in
        leave_parts area layout p granule b u (chunk_at area b.first) in_it.0 in_it.1

    at : (o : Option Block) → block_at layout granule ≡ o → Parts area (released_block area layout o)
    at None u = p
    at (Some b) u = subst (λ g. Parts area (layout_without g (freed area b layout)))
        (sym (first_is area layout p granule b u))
        (freed_parts b u (nat_lt b.first area.fallback) refl)

-- moving
pub moving : (rows : List Row) (area : Area) (layout : Layout) (granule need bits : ℕ) (q : Placed)
    → All (λ row. row.group < 16) rows
    → Parts area layout → 1 ≤ need → moved rows area layout granule need bits ≡ Some q → Parts area q.after
moving rows area layout granule need bits q h p some e = at (placed rows area layout need bits) refl e
  where
    at : (o : Option Placed) → placed rows area layout need bits ≡ o
        → option_map (then_released area granule) o ≡ Some q → Parts area q.after
    at None u e = absurd (cc)
    at (Some r) u e =
        let s : then_released area granule r ≡ q = cc in
        subst (λ x. Parts area x.after) s (releasing area r.after granule
        (placing rows area layout need bits r h p some u))

-- requests
pub after_parts : (rows : List Row) (area : Area) (layout : Layout) (r : Request) → All (λ row. row.group < 16) rows
    → IsAllowed r
    → Parts area layout → Parts area (layout_after rows area layout r)
after_parts rows area layout (Places need bits) h a p = at (placed rows area layout need bits) refl
  where
    at : (o : Option Placed) → placed rows area layout need bits ≡ o
        → Parts area (option_map_or (λ q. q.after) o layout)
    at None u = p
    at (Some q) u = placing rows area layout need bits q h p a u
after_parts rows area layout (Releases granule) h a p = releasing area layout granule p

pub all_parts : (rows : List Row) (area : Area) (layout : Layout) (rs : List Request) → All (λ row. row.group < 16) rows
    → Each IsAllowed rs
    → Parts area layout → Parts area (layout_after_all rows area layout rs)
all_parts rows area layout [] h a p = p
all_parts rows area layout (r ∷ rs) h a p = all_parts rows area (layout_after rows area layout r) rs h a.1
    (after_parts rows area layout r h a.0 p)

pub reached_parts : (rows : List Row) (area : Area) (layout : Layout) → All (λ row. row.group < 16) rows
    → IsReached rows area layout → Parts area layout
reached_parts rows area layout h r =
    subst (Parts area) r.leads (all_parts rows area (first_layout area) r.requests h
    (each IsAllowed r.requests r.allowed) (first_parts area))
