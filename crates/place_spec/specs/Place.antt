-- Placing a block. The four rules are: with a group, and a need that a chunk can hold, first the group's
-- current chunk, then the lowest chunk without owner; then, as also without these, the first hole
-- that is long enough; and else the block is refused.
use Rattle.std.specs.Prelude.{◌≡◌, ◌≢◌, ◌<◌, ◌≤◌, All, ℕ, ◌+◌, ◌-◌, ◌==◌, nat_le, nat_lt, List, [], ◌∷◌, Option, Some}
use Rattle.std.specs.Prelude.{None, is_none, option_map, option_and_then, position, remove, slice_set, if◌then◌else◌}
use Rattle.std.specs.Option.{option_or}
use Rattle.plan_core.specs.declared.types.Area.{Area}
use Rattle.plan_core.specs.declared.types.Row.{Row}
use Rattle.plan_core.specs.Plan.{group_of_bits}
use Rattle.place_spec.specs.declared.parts.Hole.{Hole}
use Rattle.place_spec.specs.declared.parts.Spot.{Spot}
use Rattle.place_spec.specs.declared.parts.Spot.TheVariants.{Current, Fresh, Front}
use Rattle.place_spec.specs.Layout.{Block, Layout, current_of, chunk_of, hole_of, chunk_size, chunk_front}

-- at the bump of the group's current chunk, where it fits there
abbrev pub current_spot : Area → Layout → (need group : ℕ) → Option Spot
current_spot area layout need group =
    option_and_then
    (λ k. if nat_le ((chunk_of layout k).bump + need) (chunk_size area) then Some (Current k) else None)
    (current_of layout group)

-- at the front of the lowest chunk without owner
abbrev pub fresh_spot : Layout → (group : ℕ) → Option Spot
fresh_spot layout group = option_map (λ k. Fresh group k) (position (λ c. is_none c.owner) layout.chunks)

-- at the front of the first hole that is long enough
abbrev pub front_spot : Layout → (need : ℕ) → Option Spot
front_spot layout need = option_map Front (position (λ h. nat_le need h.length) layout.holes)

-- the spot that the rules choose; none where they refuse
unfoldable pub spot_of : Area → Layout → (need : ℕ) → (group : Option ℕ) → Option Spot
spot_of area layout need (Some group) =
    if nat_le need (chunk_size area)
    then option_or (current_spot area layout need group) (option_or (fresh_spot layout group) (front_spot layout need))
    else front_spot layout need
spot_of area layout need None = front_spot layout need

-- the first granule of a spot
unfoldable pub granule_of : Area → Layout → Spot → ℕ
granule_of area layout (Current k) = chunk_front area k + (chunk_of layout k).bump
granule_of area layout (Fresh group k) = chunk_front area k
granule_of area layout (Front i) = (hole_of layout.holes i).start

-- holes after granules were taken from the front of hole i
abbrev pub cut_holes : (need i : ℕ) → List Hole → List Hole
cut_holes need i holes =
    if (hole_of holes i).length == need then remove holes i
    else slice_set holes i (record { start = (hole_of holes i).start + need; length = (hole_of holes i).length - need })

-- a layout whose spot was taken, but for the block that now stands there
unfoldable pub taken : (need : ℕ) → Spot → Layout → Layout
taken need (Current k) layout = record layout {
  chunks = slice_set layout.chunks k (record (chunk_of layout k)
      { bump = (chunk_of layout k).bump + need; live = (chunk_of layout k).live + 1 });
}
taken need (Fresh group k) layout = record layout {
  currents = slice_set layout.currents group (Some k);
  chunks = slice_set layout.chunks k (record { owner = Some group; bump = need; live = 1 });
}
taken need (Front i) layout = record layout { holes = cut_holes need i layout.holes }

-- blocks with one more, in the order of their first granules
abbrev pub with_block : Block → List Block → List Block
with_block b [] = b ∷ []
with_block b (x ∷ xs) = if nat_lt x.first b.first then x ∷ with_block b xs else b ∷ x ∷ xs

-- where a block was placed, and the layout after it
pub record Placed : Type 0 where
  pub granule : ℕ
  pub after : Layout

abbrev pub layout_with : Block → Layout → Layout
layout_with b layout = record layout { blocks = with_block b layout.blocks }

abbrev pub placed_at : Area → Layout → (need : ℕ) → (group : Option ℕ) → Spot → Placed
placed_at area layout need group spot = record {
  granule = granule_of area layout spot;
  after = layout_with (record { first = granule_of area layout spot; granules = need; group = group })
      (taken need spot layout);
}

-- a block of a group or none
abbrev pub placed_in : Area → Layout → (need : ℕ) → (group : Option ℕ) → Option Placed
placed_in area layout need group = option_map (placed_at area layout need group) (spot_of area layout need group)

-- a block that is asked for under the bits, whose group the rows say; none where it is refused
abbrev pub placed : List Row → Area → Layout → (need bits : ℕ) → Option Placed
placed rows area layout need bits = placed_in area layout need (group_of_bits rows bits)

-- the fourth rule: no hole is long enough, and for a group and a need that a chunk can hold there is no
-- room in the group's current chunk and no chunk without owner
pub record IsRefused (area : Area) (layout : Layout) (need : ℕ) (group : Option ℕ) : Type 0 where
  pub holes : All (λ h. h.length < need) layout.holes
  pub current : (g k : ℕ) → group ≡ Some g → need ≤ chunk_size area → current_of layout g ≡ Some k
      → chunk_size area < (chunk_of layout k).bump + need
  pub chunks : (g : ℕ) → group ≡ Some g → need ≤ chunk_size area → All (λ c. c.owner ≢ None) layout.chunks
