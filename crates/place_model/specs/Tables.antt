-- The layout that tables keep, and what holds of tables at all times.
use Rattle.std.specs.Prelude.{◌≡◌, ℕ, ◌+◌, ◌/◌, ◌^◌, ◌<◌, ◌≤◌, ◌==◌, List, [], ◌∷◌, All, length, vec_capacity}
use Rattle.std.specs.Prelude.{if◌then◌else◌}
use Rattle.plan_core.specs.declared.types.Plan.{Plan}
use Rattle.plan_core.specs.Plan.{granules}
use Rattle.plan_core.specs.declared.types.Area.{Area}
use Rattle.place_spec.specs.declared.parts.Spot.{Spot}
use Rattle.place_spec.specs.declared.parts.Spot.TheVariants.{Current, Fresh, Front}
use Rattle.place_spec.specs.Layout.{Block, Layout, chunk_of, hole_of, chunk_size, address_of}
use Rattle.place_spec.specs.Sound.{Sound}
use Rattle.place_model.specs.declared.tables.Start.{Start}
use Rattle.place_model.specs.declared.tables.Tables.{Tables}

-- the blocks that begin at the granules from one on
abbrev pub blocks_from : ℕ → List Start → List Block
blocks_from i [] = []
blocks_from i (s ∷ ss) =
    if s.granules == 0 then blocks_from (i + 1) ss
    else record { first = i; granules = s.granules; group = s.group } ∷ blocks_from (i + 1) ss

abbrev pub layout_of : Tables → Layout
layout_of tables = record {
  currents = tables.currents.items;
  chunks = tables.chunks.items;
  holes = tables.holes.items;
  blocks = blocks_from 0 tables.starts.items;
}

-- a chunk has no more live blocks than granules that were given out
abbrev pub FewLive : Layout → Type 0
FewLive layout = (k : ℕ) → (chunk_of layout k).live ≤ (chunk_of layout k).bump

pub record IsKept (plan : Plan) (base : ℕ) (tables : Tables) : Type 0 where
  pub groups : All (λ row. row.group < 16) plan.rows
  pub log_chunk : plan.area.log_chunk ≤ 20
  pub area : granules plan.area ≤ 1048576
  pub ends : address_of base (granules plan.area) < 2 ^ 32
  pub sound : Sound plan.area (layout_of tables)
  pub few : FewLive (layout_of tables)
  -- one start for each granule, and room for a hole at every second granule of the fallback
  pub starts : length tables.starts.items ≡ granules plan.area
  pub room : (plan.area.fallback + 1) / 2 ≤ vec_capacity tables.holes

-- a spot is one that the layout has room at
abbrev pub IsFree : Area → Layout → (need : ℕ) → Spot → Type 0
IsFree area layout need (Current k) = (k < length layout.chunks) × ((chunk_of layout k).bump + need ≤ chunk_size area)
IsFree area layout need (Fresh group k) =
    (group < length layout.currents) × (k < length layout.chunks) × (need ≤ chunk_size area)
    × ((chunk_of layout k).bump ≡ 0)
IsFree area layout need (Front i) = (i < length layout.holes) × (need ≤ (hole_of layout.holes i).length)

-- tables stay as large, and so does the room for holes
pub record KeepsRoom (old new : Tables) : Type 0 where
  pub starts : length new.starts.items ≡ length old.starts.items
  pub room : vec_capacity new.holes ≡ vec_capacity old.holes
