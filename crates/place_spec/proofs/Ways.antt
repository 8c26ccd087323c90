-- What laws say of placed blocks: where they stand, and which follows which.
use Rattle.std.proofs.Common.{◌≡◌, ℕ, zero, suc, ◌+◌, ◌-◌, ◌<◌, ◌≤◌, ◌⊎◌, cond, Bool, true, false, List, [], ◌∷◌}
use Rattle.std.proofs.Common.{length, get_or, sym, ◌∙◌, subst, inl, inr, refl, ap, arith}
use Rattle.std.specs.Prelude.{Option, Some, None, option_map, option_and_then, nat_lt, nat_le, slice_set, All, AllPairs}
use Rattle.std.specs.Option.{option_map_or, option_or}
use Rattle.std.proofs.lemmas.Bool.{cases_lt, cases_eq, le-leb, le-ltb}
use Rattle.std.proofs.lemmas.List.{get_or-set_same, get_or-set_other}
use Rattle.std.proofs.lemmas.Nat.{pow_pos}
use Rattle.plan_core.specs.declared.types.Area.{Area}
use Rattle.plan_core.specs.declared.types.Row.{Row}
use Rattle.plan_core.specs.Plan.{group_of_bits}
use Rattle.place_spec.specs.declared.parts.Chunk.{Chunk}
use Rattle.place_spec.specs.declared.parts.Spot.{Spot}
use Rattle.place_spec.specs.declared.parts.Spot.TheVariants.{Current, Fresh, Front}
use Rattle.place_spec.specs.Layout.{Block, Layout, current_of, chunk_of, hole_of, idle_chunk, chunk_size, chunk_front}
use Rattle.place_spec.specs.Place.{Placed, current_spot, fresh_spot, front_spot, spot_of, granule_of, taken, placed_at}
use Rattle.place_spec.specs.Place.{placed_in, placed}
use Rattle.place_spec.specs.Release.{freed, chunk_at, block_at, layout_without, released_block, released, with_hole}
use Rattle.place_spec.specs.Release.{left_with, left_chunk, is_current}
use Rattle.place_spec.specs.Reached.{Request, Places, Releases, IsAllowed, layout_after, layout_after_all, StandsIn}
use Rattle.place_spec.specs.Reached.{PlacesElsewhere, StaysInUse}
use Rattle.place_spec.specs.Sound.{Covers, OnOneSide, InChunk, is_in_chunk, Sound}
use Rattle.place_spec.proofs.Lists.{Each, each_at}
use Rattle.place_spec.proofs.Blocks.{count_none}
use Rattle.place_spec.proofs.Fronts.{front_next, front_from, in_one}
use Rattle.place_spec.proofs.Spots.{Chosen, chosen}
use Rattle.place_spec.proofs.SoundParts.{Parts, parts, Stands, in_true}
use Rattle.place_spec.proofs.Leaving.{stands}
use Rattle.place_spec.proofs.Sounds.{placing, after_parts, all_parts, chunk_at_in}

-- no granule is shared
pub no_shared : (area : Area) (layout : Layout) → Sound area layout
    → AllPairs (λ b c. (i : ℕ) → Covers b i → ¬ Covers c i) layout.blocks
no_shared area layout s = λ i j d l m n p q. at (get_or layout.blocks i d) (get_or layout.blocks j d) n p q
    (s.blocks_apart i j d l m)
  where
    at : (b c : Block) (n : ℕ) → Covers b n → Covers c n → (b.first + b.granules ≤ c.first)
        ⊎ (c.first + c.granules ≤ b.first) → ⊥
    at b c n p q (inl l) = omega (arith, p.1, q.0, l)
    at b c n p q (inr l) = omega (arith, p.0, q.1, l)

-- a block lies in the fallback or in one chunk
abbrev pub InPart : Area → Block → Type 0
InPart area b =
    (b.first + b.granules ≤ area.fallback)
    ⊎ ((k : ℕ) × (k < area.chunks) × (chunk_front area k ≤ b.first) × (b.first + b.granules ≤ chunk_front area (k + 1)))

in_part : (area : Area) (layout : Layout) (b : Block) → Stands area layout b → InPart area b
in_part area layout b h = at (cases_lt b.first area.fallback)
  where
    low : b.first < area.fallback → OnOneSide (chunk_front area 0) b → b.first + b.granules ≤ area.fallback
    low l (inl m) = omega (arith, m)
    low l (inr m) = absurd (omega (arith, l, m))

    high : InChunk area (chunk_at area b.first) b → OnOneSide (chunk_front area (chunk_at area b.first + 1)) b
        → b.first + b.granules ≤ chunk_front area (chunk_at area b.first + 1)
    high i (inl m) = m
    high i (inr m) = absurd (omega (arith, i.1, m))

    at : (b.first < area.fallback) ⊎ (area.fallback ≤ b.first) → InPart area b
    at (inl l) = inl (low l (h.crossing 0 (omega arith)))
    at (inr l) =
        let f = h.filled in let e = h.inside in
        let i = chunk_at_in area b l (omega (arith, f, e)) in
        inr (chunk_at area b.first, i.0, i.1.0, high i.1 (h.crossing (chunk_at area b.first + 1) (omega (arith, i.0))))

pub all_in_parts : (area : Area) (layout : Layout) → Sound area layout → All (InPart area) layout.blocks
all_in_parts area layout s = λ i d l. in_part area layout (get_or layout.blocks i d)
    (each_at (Stands area layout) layout.blocks i d l (parts area layout s).blocks)

-- the blocks of a chunk have its owner
abbrev pub HasOwner : Area → Layout → Block → Type 0
HasOwner area layout b = (k : ℕ) → k < area.chunks → InChunk area k b → (g : ℕ) × ((chunk_of layout k).owner ≡ Some g)
    × (b.group ≡ Some g)

pub has_owner : (area : Area) (layout : Layout) → Parts area layout → All (HasOwner area layout) layout.blocks
has_owner area layout p = λ i d l k m q. at i d l k m q (chunk_of layout k).owner refl
  where
    at : (i : ℕ) (d : Block) → i < length layout.blocks → (k : ℕ) → k < area.chunks
        → InChunk area k (get_or layout.blocks i d)
        → (o : Option ℕ) → (chunk_of layout k).owner ≡ o
        → (g : ℕ) × ((chunk_of layout k).owner ≡ Some g) × ((get_or layout.blocks i d).group ≡ Some g)
    at i d l k m q None e =
        let kept = p.keeps k m in
        let none = each_at (λ x. is_in_chunk area k x ≡ false) layout.blocks i d l
        (count_none (is_in_chunk area k) layout.blocks (kept.counted ∙ kept.unowned e)) in
        let yes = in_true area k (get_or layout.blocks i d) q in
        absurd (let b = yes in let c = none in cc)
    at i d l k m q (Some g) e =
        (g, e, (each_at (Stands area layout) layout.blocks i d l p.blocks).owned k m q ∙ e)

-- a granule as a block, for where it stands
abbrev point : ℕ → Block
point g = record { first = g; granules = 1; group = None }

-- a block that is placed in chunk k stands at its bump, which then is where the block ends, and a chunk
-- in which none is placed is as before
pub record InIt (area : Area) (layout : Layout) (k need : ℕ) (q : Placed) : Type 0 where
  pub begins : q.granule ≡ chunk_front area k + (chunk_of layout k).bump
  pub ends : chunk_front area k + (chunk_of q.after k).bump ≡ q.granule + need

spot_in : (area : Area) (layout : Layout) (k need : ℕ) (group : Option ℕ) (spot : Spot) → Parts area layout → 1 ≤ need
    → Chosen area layout need group spot → StandsIn area k (placed_at area layout need group spot).granule
    → InIt area layout k need (placed_at area layout need group spot)
unfolding granule_of taken
spot_in area layout k need group (Current j) p some c i =
    let at_j : j < area.chunks = (p.currents c.0 j c.2).0 in
    let r = c.3 in let n = front_next area j in
    let e : j ≡ k = in_one area j k (point (chunk_front area j + (chunk_of layout j).bump))
    (omega arith, omega (arith, r, n, some)) i in
    let long = p.chunks in
    let set : chunk_of (placed_at area layout need group (Current j)).after j
    ≡ record {
      owner = (chunk_of layout j).owner;
      bump = (chunk_of layout j).bump + need;
      live =
          (chunk_of layout j).live + 1;
    } =
    get_or-set_same layout.chunks j _ idle_chunk (omega (arith, long, at_j)) in
    let bump : (chunk_of (placed_at area layout need group (Current j)).after j).bump
    ≡ (chunk_of layout j).bump + need = ap (λ d. d.bump) set in
    subst (λ x. InIt area layout x need (placed_at area layout need group (Current j))) e
    (record { begins = refl; ends = omega (arith, bump) })
spot_in area layout k need group (Fresh g j) p some c i =
    let s : 0 < chunk_size area = pow_pos area.log_chunk in let n = front_next area j in
    let e : j ≡ k = in_one area j k (point (chunk_front area j)) (omega arith, omega (arith, s, n)) i in
    let long = p.chunks in let l = c.1 in
    let at_j : j < area.chunks = omega (arith, l, long) in
    let empty = (p.keeps j at_j).idle.1 ((p.keeps j at_j).unowned c.2) in
    let set : chunk_of (placed_at area layout need group (Fresh g j)).after j
    ≡ record { owner = Some g; bump = need; live = 1 } =
    get_or-set_same layout.chunks j _ idle_chunk l in
    let bump : (chunk_of (placed_at area layout need group (Fresh g j)).after j).bump ≡ need = ap (λ d. d.bump) set in
    subst (λ x. InIt area layout x need (placed_at area layout need group (Fresh g j))) e
    (record { begins = omega (arith, empty); ends = omega (arith, bump) })
spot_in area layout k need group (Front j) p some c i =
    let f = front_from area k in let r = c.1 in
    let e : (hole_of layout.holes j).start + (hole_of layout.holes j).length ≤ area.fallback =
    each_at (λ h. h.start + h.length ≤ area.fallback) layout.holes j _ c.0 p.inside in
    absurd (omega (arith, f, r, e, some, i.0))

spot_out : (area : Area) (layout : Layout) (k need : ℕ) (group : Option ℕ) (spot : Spot) → Parts area layout → 1 ≤ need
    → Chosen area layout need group spot → (StandsIn area k (placed_at area layout need group spot).granule → ⊥)
    → chunk_of (placed_at area layout need group spot).after k ≡ chunk_of layout k
unfolding granule_of taken
spot_out area layout k need group (Current j) p some c o = at (cases_eq k j)
  where
    in_j : StandsIn area j (chunk_front area j + (chunk_of layout j).bump)
    in_j = let r = c.3 in let n = front_next area j in (omega arith, omega (arith, r, n, some))

    at : (k ≡ j) ⊎ (k ≡ j → ⊥) → chunk_of (placed_at area layout need group (Current j)).after k ≡ chunk_of layout k
    at (inl e) = absurd (o (subst (λ x. StandsIn area x (chunk_front area j + (chunk_of layout j).bump)) (sym e) in_j))
    at (inr n) = get_or-set_other layout.chunks j k _ idle_chunk n
spot_out area layout k need group (Fresh g j) p some c o = at (cases_eq k j)
  where
    in_j : StandsIn area j (chunk_front area j)
    in_j = let s : 0 < chunk_size area = pow_pos area.log_chunk in let n = front_next area j in
        (omega arith, omega (arith, s, n))

    at : (k ≡ j) ⊎ (k ≡ j → ⊥) → chunk_of (placed_at area layout need group (Fresh g j)).after k ≡ chunk_of layout k
    at (inl e) = absurd (o (subst (λ x. StandsIn area x (chunk_front area j)) (sym e) in_j))
    at (inr n) = get_or-set_other layout.chunks j k _ idle_chunk n
spot_out area layout k need group (Front j) p some c o = refl

-- by the spot that was chosen
by_spot : (area : Area) (layout : Layout) (need : ℕ) (group : Option ℕ) (q : Placed) (P : Placed → Type 0)
    → ((spot : Spot) → Chosen area layout need group spot → P (placed_at area layout need group spot))
    → placed_in area layout need group ≡ Some q → P q
by_spot area layout need group q P f e = at (spot_of area layout need group) refl e
  where
    at : (o : Option Spot) → spot_of area layout need group ≡ o
        → option_map (placed_at area layout need group) o ≡ Some q → P q
    at None u e = absurd (cc)
    at (Some spot) u e =
        let r : placed_at area layout need group spot ≡ q = cc in
        subst P r (f spot (chosen area layout need group spot u))

pub placed_in_it : (area : Area) (layout : Layout) (k need : ℕ) (group : Option ℕ) (q : Placed) → Parts area layout
    → 1 ≤ need
    → placed_in area layout need group ≡ Some q → StandsIn area k q.granule → InIt area layout k need q
placed_in_it area layout k need group q p some e i =
    by_spot area layout need group q (λ x. StandsIn area k x.granule → InIt area layout k need x)
    (λ spot c j. spot_in area layout k need group spot p some c j) e i

pub placed_elsewhere : (area : Area) (layout : Layout) (k need : ℕ) (group : Option ℕ) (q : Placed) → Parts area layout
    → 1 ≤ need
    → placed_in area layout need group ≡ Some q → (StandsIn area k q.granule → ⊥)
    → chunk_of q.after k ≡ chunk_of layout k
placed_elsewhere area layout k need group q p some e o =
    by_spot area layout need group q (λ x. (StandsIn area k x.granule → ⊥) → chunk_of x.after k ≡ chunk_of layout k)
    (λ spot c n. spot_out area layout k need group spot p some c n) e o

-- a release that leaves a live block in chunk k leaves its bump
left_bump : (n : ℕ) (cur : Bool) (c : Chunk) → 0 < (left_with n cur c).live → (left_with n cur c).bump ≡ c.bump
left_bump zero cur c l = absurd (omega (arith, l))
left_bump (suc n) cur c l = refl

release_bump : (area : Area) (layout : Layout) (k granule : ℕ) → Parts area layout → k < area.chunks
    → 0 < (chunk_of (released area layout granule) k).live → (chunk_of (released area layout granule) k).bump
    ≡ (chunk_of layout k).bump
unfolding freed
release_bump area layout k granule p m = at (block_at layout granule)
  where
    by_chunk : (j : ℕ) → (k ≡ j) ⊎ (k ≡ j → ⊥) → 0 < (get_or
        (slice_set layout.chunks j (left_chunk layout j (chunk_of layout j))) k idle_chunk).live
        → (get_or (slice_set layout.chunks j (left_chunk layout j (chunk_of layout j))) k idle_chunk).bump
        ≡ (chunk_of layout k).bump
    by_chunk j (inr n) l = ap (λ d. d.bump) (get_or-set_other layout.chunks j k
        (left_chunk layout j (chunk_of layout j)) idle_chunk n)
    by_chunk j (inl e) l =
        let long = p.chunks in
        let s : get_or (slice_set layout.chunks j (left_chunk layout j (chunk_of layout j))) k idle_chunk
        ≡ left_chunk layout j (chunk_of layout j) =
        ap (λ x. get_or (slice_set layout.chunks j (left_chunk layout j (chunk_of layout j))) x idle_chunk) e
        ∙ get_or-set_same layout.chunks j (left_chunk layout j (chunk_of layout j)) idle_chunk
        (omega (arith, long, m, e)) in
        ap (λ d. d.bump) s
        ∙ (left_bump ((chunk_of layout j).live - 1) (is_current layout j (chunk_of layout j).owner) (chunk_of layout j)
        (subst (λ d. 0 < d.live) s l)
        ∙ ap (λ x. (chunk_of layout x).bump) (sym e))

    by_side : (b : Block) → (t : Bool)
        → 0 < (chunk_of (layout_without b.first (cond t
        (record layout { holes = with_hole (record { start = b.first; length = b.granules }) layout.holes })
        (record layout {
          chunks = slice_set layout.chunks (chunk_at area b.first)
              (left_chunk layout (chunk_at area b.first) (chunk_of layout (chunk_at area b.first)));
        }))) k).live
        → (chunk_of (layout_without b.first (cond t
        (record layout { holes = with_hole (record { start = b.first; length = b.granules }) layout.holes })
        (record layout {
          chunks = slice_set layout.chunks (chunk_at area b.first)
              (left_chunk layout (chunk_at area b.first) (chunk_of layout (chunk_at area b.first)));
        }))) k).bump
        ≡ (chunk_of layout k).bump
    by_side b true l = refl
    by_side b false l = by_chunk (chunk_at area b.first) (cases_eq k (chunk_at area b.first)) l

    at : (o : Option Block) → 0 < (chunk_of (released_block area layout o) k).live
        → (chunk_of (released_block area layout o) k).bump ≡ (chunk_of layout k).bump
    at None l = refl
    at (Some b) l = by_side b (nat_lt b.first area.fallback) l

-- chunk k keeps its bump while it has a live block and no block is placed in it
request_bump : (rows : List Row) (area : Area) (layout : Layout) (k : ℕ) (r : Request) → Parts area layout
    → k < area.chunks → IsAllowed r
    → PlacesElsewhere rows area k layout r → 0 < (chunk_of (layout_after rows area layout r) k).live
    → (chunk_of (layout_after rows area layout r) k).bump ≡ (chunk_of layout k).bump
request_bump rows area layout k (Places need bits) p m a e l = at (placed rows area layout need bits) refl
  where
    at : (o : Option Placed) → placed rows area layout need bits ≡ o
        → (chunk_of (option_map_or (λ q. q.after) o layout) k).bump ≡ (chunk_of layout k).bump
    at None u = refl
    at (Some q) u = ap (λ d. d.bump) (placed_elsewhere area layout k need (group_of_bits rows bits) q p a u (e q u))
request_bump rows area layout k (Releases granule) p m a e l = release_bump area layout k granule p m l

lives_now : (rows : List Row) (area : Area) (layout : Layout) (k : ℕ) (rs : List Request)
    → StaysInUse rows area k layout rs → 0 < (chunk_of layout k).live
lives_now rows area layout k [] u = u
lives_now rows area layout k (r ∷ rs) u = u.0

lives_then : (rows : List Row) (area : Area) (layout : Layout) (k : ℕ) (rs : List Request)
    → StaysInUse rows area k layout rs
    → 0 < (chunk_of (layout_after_all rows area layout rs) k).live
lives_then rows area layout k [] u = u
lives_then rows area layout k (r ∷ rs) u = lives_then rows area (layout_after rows area layout r) k rs u.1.1

between_bump : (rows : List Row) (area : Area) (layout : Layout) (k : ℕ) (rs : List Request)
    → All (λ row. row.group < 16) rows → Parts area layout
    → k < area.chunks → Each IsAllowed rs → StaysInUse rows area k layout rs
    → (chunk_of (layout_after_all rows area layout rs) k).bump ≡ (chunk_of layout k).bump
between_bump rows area layout k [] h p m a u = refl
between_bump rows area layout k (r ∷ rs) h p m a u =
    between_bump rows area (layout_after rows area layout r) k rs h (after_parts rows area layout r h a.0 p) m a.1 u.1.1
    ∙ request_bump rows area layout k r p m a.0 u.1.0 (lives_now rows area (layout_after rows area layout r) k rs u.1.1)

pub next_begins : (rows : List Row) (area : Area) (layout : Layout) (k need bits : ℕ) (p : Placed)
    (between : List Request) (next_need next_bits : ℕ) (q : Placed)
    → All (λ row. row.group < 16) rows → Parts area layout → k < area.chunks → 1 ≤ need
    → placed rows area layout need bits ≡ Some p
    → StandsIn area k p.granule → Each IsAllowed between → StaysInUse rows area k p.after between → 1 ≤ next_need
    → placed rows area (layout_after_all rows area p.after between) next_need next_bits ≡ Some q
    → StandsIn area k q.granule → q.granule ≡ p.granule + need
next_begins rows area layout k need bits p between next_need next_bits q h parts m some e i a u more f j =
    let first = placed_in_it area layout k need (group_of_bits rows bits) p parts some e i in
    let after = placing rows area layout need bits p h parts some e in
    let still = between_bump rows area p.after k between h after m a u in
    let then = all_parts rows area p.after between h a after in
    let second = placed_in_it area (layout_after_all rows area p.after between) k next_need
    (group_of_bits rows next_bits) q then more f j in
    let b = second.begins in let c = first.ends in omega (arith, b, c, still)

-- the release of the only live block of a group's current chunk leaves the chunk current and empty
record IsEmptied (area : Area) (layout : Layout) (k g : ℕ) : Type 0 where
  current : current_of layout g ≡ Some k
  empty : (chunk_of layout k).bump ≡ 0

emptied : (area : Area) (layout : Layout) (k g granule : ℕ) (b : Block) → Parts area layout
    → current_of layout g ≡ Some k
    → (chunk_of layout k).live ≡ 1 → block_at layout granule ≡ Some b → InChunk area k b
    → IsEmptied area (released area layout granule) k g
unfolding freed
emptied area layout k g granule b p c one found i =
    subst (λ x. IsEmptied area x k g) (sym is_left) (record { current = c; empty = none })
  where
    own : Stands area layout b
    own = stands area layout p granule b found

    high : area.fallback ≤ b.first
    high = let f = front_from area k in omega (arith, f, i.0)

    at_k : chunk_at area b.first ≡ k
    at_k = let f = own.filled in let e = own.inside in
        in_one area (chunk_at area b.first) k b (chunk_at_in area b high (omega (arith, f, e))).1 i

    left : ℕ → Layout
    left j = layout_without b.first (record layout {
      chunks =
          slice_set layout.chunks j (left_chunk layout j (chunk_of layout j));
    })

    by_side : Bool → Layout
    by_side t = layout_without b.first (cond t
        (record layout { holes = with_hole (record { start = b.first; length = b.granules }) layout.holes })
        (record layout {
          chunks = slice_set layout.chunks (chunk_at area b.first)
              (left_chunk layout (chunk_at area b.first) (chunk_of layout (chunk_at area b.first)));
        }))

    is_left : released area layout granule ≡ left k
    is_left = ap (released_block area layout) found ∙ (ap by_side (le-ltb b.first area.fallback high) ∙ ap left at_k)

    none : (chunk_of (left k) k).bump ≡ 0
    none =
        let long = p.chunks in let w = (p.currents g k c).0 in
        ap (λ d. d.bump) (get_or-set_same layout.chunks k (left_chunk layout k (chunk_of layout k)) idle_chunk
        (omega (arith, long, w)))
        ∙ ap (λ n. (left_with (n - 1) (is_current layout k (chunk_of layout k).owner) (chunk_of layout k)).bump) one

front_place : (area : Area) (layout : Layout) (k g need : ℕ) → IsEmptied area layout k g → need ≤ chunk_size area
    → option_map (λ p. p.granule) (placed_in area layout need (Some g)) ≡ Some (chunk_front area k)
unfolding spot_of granule_of
front_place area layout k g need h l =
    ap (λ o. option_map (λ (p : Placed). p.granule) (option_map (placed_at area layout need (Some g)) o))
    (ap fitting (le-leb need (chunk_size area) l) ∙ ap rest here)
    ∙ ap (λ n. Some n) (let e = h.empty in omega (arith, e))
  where
    rest : Option Spot → Option Spot
    rest o = option_or o (option_or (fresh_spot layout g) (front_spot layout need))

    fitting : Bool → Option Spot
    fitting t = cond t (rest (current_spot area layout need g)) (front_spot layout need)

    room : ℕ → Option Spot
    room j = cond (nat_le ((chunk_of layout j).bump + need) (chunk_size area)) (Some (Current j)) None

    here : current_spot area layout need g ≡ Some (Current k)
    here = ap (option_and_then room) h.current
        ∙ ap (λ v. cond v (Some (Current k)) None) (le-leb ((chunk_of layout k).bump + need) (chunk_size area)
        (let e = h.empty in omega (arith, e, l)))

pub filled_again : (rows : List Row) (area : Area) (layout : Layout) (k g granule need bits : ℕ) (b : Block)
    → Parts area layout
    → current_of layout g ≡ Some k → (chunk_of layout k).live ≡ 1 → block_at layout granule ≡ Some b → InChunk area k b
    → need ≤ chunk_size area → group_of_bits rows bits ≡ Some g
    → option_map (λ p. p.granule) (placed rows area (released area layout granule) need bits)
    ≡ Some (chunk_front area k)
filled_again rows area layout k g granule need bits b p c one found i l e =
    ap (λ o. option_map (λ (p : Placed). p.granule) (placed_in area (released area layout granule) need o)) e
    ∙ front_place area (released area layout granule) k g need (emptied area layout k g granule b p c one found i) l
