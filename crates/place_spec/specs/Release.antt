-- Releasing a block, and moving one.
use Rattle.std.specs.Prelude.{ℕ, zero, suc, ◌+◌, ◌-◌, ◌/◌, ◌==◌, nat_lt, min, List, [], ◌∷◌, Bool, false, not, Option}
use Rattle.std.specs.Prelude.{Some, None, option_map, find, filter, slice_set, if◌then◌else◌}
use Rattle.plan_core.specs.declared.types.Area.{Area}
use Rattle.plan_core.specs.declared.types.Row.{Row}
use Rattle.place_spec.specs.declared.parts.Hole.{Hole}
use Rattle.place_spec.specs.declared.parts.Chunk.{Chunk}
use Rattle.place_spec.specs.Layout.{Block, Layout, current_of, chunk_of, chunk_size}
use Rattle.place_spec.specs.Place.{Placed, placed}

-- two holes that touch, as one
abbrev pub joined : Hole → Hole → Hole
joined h x = record { start = min h.start x.start; length = h.length + x.length }

-- ascending holes with one more, which is joined with those that it touches
abbrev pub with_hole : Hole → List Hole → List Hole
with_hole h [] = h ∷ []
with_hole h (x ∷ xs) =
    if nat_lt (x.start + x.length) h.start then x ∷ with_hole h xs
    else (if nat_lt (h.start + h.length) x.start then h ∷ x ∷ xs else with_hole (joined h x) xs)

-- the live block whose first granule is this one
abbrev pub block_at : Layout → (granule : ℕ) → Option Block
block_at layout granule = find (λ b. b.first == granule) layout.blocks

-- blocks without the one whose first granule is this one
abbrev pub without_block : (granule : ℕ) → List Block → List Block
without_block granule blocks = filter (λ b. not (b.first == granule)) blocks

-- the chunk of a granule behind the fallback
abbrev pub chunk_at : Area → (granule : ℕ) → ℕ
chunk_at area granule = (granule - area.fallback) / chunk_size area

-- chunk k is the current chunk of its owner
abbrev pub is_chunk : (k : ℕ) → Option ℕ → Bool
is_chunk k (Some j) = j == k
is_chunk k None = false

abbrev pub is_current : Layout → (k : ℕ) → (owner : Option ℕ) → Bool
is_current layout k (Some group) = is_chunk k (current_of layout group)
is_current layout k None = false

-- a chunk with a lower live count: at 0 its bump is 0 too, and only its owner's current chunk stays owned
abbrev pub left_with : (live : ℕ) → (current : Bool) → Chunk → Chunk
left_with zero current c = record { owner = if current then c.owner else None; bump = 0; live = 0 }
left_with (suc n) current c = record c { live = suc n }

abbrev pub left_chunk : Layout → (k : ℕ) → Chunk → Chunk
left_chunk layout k c = left_with (c.live - 1) (is_current layout k c.owner) c

-- a layout whose block gave its granules back, but for the block itself
unfoldable pub freed : Area → Block → Layout → Layout
freed area b layout =
    if nat_lt b.first area.fallback
    then record layout { holes = with_hole (record { start = b.first; length = b.granules }) layout.holes }
    else record layout {
      chunks = slice_set layout.chunks (chunk_at area b.first)
          (left_chunk layout (chunk_at area b.first) (chunk_of layout (chunk_at area b.first)));
    }

abbrev pub layout_without : (granule : ℕ) → Layout → Layout
layout_without granule layout = record layout { blocks = without_block granule layout.blocks }

abbrev pub released_block : Area → Layout → Option Block → Layout
released_block area layout (Some b) = layout_without b.first (freed area b layout)
released_block area layout None = layout

-- the layout after the release of the block at a granule; the same where no block begins there
abbrev pub released : Area → Layout → (granule : ℕ) → Layout
released area layout granule = released_block area layout (block_at layout granule)

abbrev pub then_released : Area → (granule : ℕ) → Placed → Placed
then_released area granule p = record p { after = released area p.after granule }

-- a block that is moved: the new one is placed first, and then the old one is released
abbrev pub moved : List Row → Area → Layout → (granule need bits : ℕ) → Option Placed
moved rows area layout granule need bits =
    option_map (then_released area granule) (placed rows area layout need bits)
