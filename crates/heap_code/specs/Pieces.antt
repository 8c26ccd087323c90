-- The pieces of the heap functions.
use Rattle.std.specs.Prelude.{ℕ, ◌+◌, ◌*◌, ◌-◌, ◌^◌, ◌==◌, List, [], ◌∷◌, Bool, false, not, if◌then◌else◌}
use Rattle.rv_isa.specs.declared.Op.TheVariants.{Add, Sub, Sll, Srl, Sltu}
use Rattle.rv_isa.specs.declared.Cond.TheVariants.{Eq, Ne, Ltu}
use Rattle.plan_core.specs.declared.types.Area.{Area}
use Rattle.plan_core.specs.declared.types.Row.{Row}
use Rattle.frag_code.specs.Fragments.{Fragment, Skip, Set, Compute, Imm, Store, If, While, chained}
use Rattle.heap_spec.specs.Places.{base_of}
use Rattle.heap_holes.specs.Placing.{first_fit}
use Rattle.heap_holes.specs.Releasing.{release_low}
use Rattle.heap_chunks.specs.Constants.{constant, plus_constant}
use Rattle.heap_chunks.specs.Groups.{group_tests}
use Rattle.heap_chunks.specs.Chunks.{place_high, release_high}

-- x11 becomes where the rows of the granules are; the tables are at x12
abbrev pub settle_rows : Area → Fragment
settle_rows area = plus_constant 11 12 11 (128 + 16 * area.chunks)

-- x31 becomes the word for none, x12 where the tables are and x11 where the rows of the granules are
abbrev pub settle : Area → (data_at : ℕ) → Fragment
settle area data_at = chained (Imm Add 31 0 (2 ^ 32 - 1) ∷ Set 12 data_at ∷ settle_rows area ∷ [])

-- x10, a size, becomes the granules that it needs: one more than the rest of the size less 1, if it isn't
-- 0, has whole granules
abbrev pub size_need : Fragment
size_need = chained (Compute Sltu 6 0 10 ∷ Compute Sub 10 10 6 ∷ Imm Srl 10 10 4 ∷ Imm Add 10 10 1 ∷ [])

-- the third rule; without a fallback there is no hole
abbrev pub place_low : Area → Fragment
place_low area = if area.fallback == 0 then Compute Add 15 31 0 else first_fit

-- a group is looked for only where there are rows and chunks
abbrev pub has_groups : List Row → Area → Bool
has_groups [] area = false
has_groups (row ∷ rows) area = not (area.chunks == 0)

-- a block of x10 granules is placed under the bits in x5: x15 becomes its first granule, or the word for
-- none
abbrev pub place_block : List Row → Area → Fragment
place_block rows area =
    if has_groups rows area
    then chained (
    Compute Sub 13 31 5
    ∷ group_tests rows
    ∷ If Eq 14 31 (Compute Add 15 31 0) (place_high area)
    ∷ If Eq 15 31 (place_low area) Skip
    ∷ []
    )
    else place_low area

-- x6 becomes the address of granule x15
abbrev pub block_address : Area → (data_at : ℕ) → Fragment
block_address area data_at = chained (Imm Sll 6 15 4 ∷ Set 7 (base_of area data_at) ∷ Compute Add 6 6 7 ∷ [])

-- the last granule before x10 becomes zero
abbrev pub zero_granule : Fragment
zero_granule =
    chained (Imm Add 10 10 (2 ^ 32 - 16) ∷ Store 10 0 0 ∷ Store 10 0 4 ∷ Store 10 0 8 ∷ Store 10 0 12 ∷ [])

-- the x10 granules from address x6 on become zero, from the last to the first, and x10 becomes x6
abbrev pub zero_block : Fragment
zero_block = chained (Imm Sll 10 10 4 ∷ Compute Add 10 10 6 ∷ While Ne 10 6 zero_granule ∷ [])

-- the x10 granules from granule x15 on become zero, and x10 and x6 become their address
abbrev pub clean_block : Area → (data_at : ℕ) → Fragment
clean_block area data_at = chained (block_address area data_at ∷ zero_block ∷ [])

-- x10, an address in the area, becomes its granule
abbrev pub granule_of_block : Area → (data_at : ℕ) → Fragment
granule_of_block area data_at = chained (Set 7 (base_of area data_at) ∷ Compute Sub 10 10 7 ∷ Imm Srl 10 10 4 ∷ [])

-- the block at granule x10 of the fallback is released
abbrev pub free_low : Area → Fragment
free_low area = chained (settle_rows area ∷ Imm Sll 7 10 3 ∷ Compute Add 7 7 11 ∷ release_low ∷ [])

-- the block at granule x10 is released; the tables are at x12
abbrev pub free_block : Area → Fragment
free_block area =
    if area.fallback == 0 then release_high area
    else (if area.chunks == 0 then free_low area
    else chained (constant 7 area.fallback ∷ If Ltu 10 7 (free_low area) (release_high area) ∷ []))
