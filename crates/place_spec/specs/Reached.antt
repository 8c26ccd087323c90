-- The layouts that requests lead to.
use Rattle.std.specs.Prelude.{◌≡◌, ⊤, ℕ, ◌+◌, ◌≤◌, ◌<◌, List, [], ◌∷◌, Some, All}
use Rattle.std.specs.Option.{option_map_or}
use Rattle.plan_core.specs.declared.types.Area.{Area}
use Rattle.plan_core.specs.declared.types.Row.{Row}
use Rattle.place_spec.specs.Layout.{Layout, first_layout, chunk_of, chunk_front}
use Rattle.place_spec.specs.Place.{Placed, placed}
use Rattle.place_spec.specs.Release.{released}

-- a block is asked for, or the block at a granule is released; a move is the first and, where that isn't
-- refused, then the second
pub data Request : Type 0 where
  Places : (need bits : ℕ) → Request
  Releases : (granule : ℕ) → Request

-- a request is for at least one granule
abbrev pub IsAllowed : Request → Type 0
IsAllowed (Places need bits) = 1 ≤ need
IsAllowed (Releases granule) = ⊤

-- the layout after a request; a refused one changes nothing
abbrev pub layout_after : List Row → Area → Layout → Request → Layout
layout_after rows area layout (Places need bits) = option_map_or (λ p. p.after) (placed rows area layout need bits)
    layout
layout_after rows area layout (Releases granule) = released area layout granule

-- the layout after requests, made one after the other
abbrev pub layout_after_all : List Row → Area → Layout → List Request → Layout
layout_after_all rows area layout [] = layout
layout_after_all rows area layout (r ∷ rs) = layout_after_all rows area (layout_after rows area layout r) rs

-- requests lead from the first layout to this one
pub record IsReached (rows : List Row) (area : Area) (layout : Layout) : Type 0 where
  pub requests : List Request
  pub allowed : All IsAllowed requests
  pub leads : layout_after_all rows area (first_layout area) requests ≡ layout

-- a granule stands in chunk k
abbrev pub StandsIn : Area → (k granule : ℕ) → Type 0
StandsIn area k granule = (chunk_front area k ≤ granule) × (granule < chunk_front area (k + 1))

-- a request places no block in chunk k
abbrev pub PlacesElsewhere : List Row → Area → (k : ℕ) → Layout → Request → Type 0
PlacesElsewhere rows area k layout (Places need bits) =
    (p : Placed) → placed rows area layout need bits ≡ Some p → ¬ StandsIn area k p.granule
PlacesElsewhere rows area k layout (Releases granule) = ⊤

-- chunk k has a live block now and after each of the requests, none of which places a block in it
abbrev pub StaysInUse : List Row → Area → (k : ℕ) → Layout → List Request → Type 0
StaysInUse rows area k layout [] = 0 < (chunk_of layout k).live
StaysInUse rows area k layout (r ∷ rs) =
    (0 < (chunk_of layout k).live)
    × (PlacesElsewhere rows area k layout r × StaysInUse rows area k (layout_after rows area layout r) rs)
