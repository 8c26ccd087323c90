-- Moving a block: a new one is placed, the old one is copied to it and then released. x5 is the bits, x10
-- the old block's address, or 0 where there is none, and x11 the size; the answer goes to x10.
use Rattle.std.specs.Prelude.{ℕ, List, [], ◌∷◌}
use Rattle.rv_isa.specs.declared.Op.TheVariants.{Add, Sub, Srl}
use Rattle.rv_isa.specs.declared.Cond.TheVariants.{Eq, Ltu}
use Rattle.plan_core.specs.declared.types.Area.{Area}
use Rattle.plan_core.specs.declared.types.Row.{Row}
use Rattle.frag_code.specs.Fragments.{Fragment, Skip, Set, Compute, Imm, Load, If, chained}
use Rattle.heap_spec.specs.Places.{base_of}
use Rattle.heap_bytes.specs.Copying.{copy_block}
use Rattle.heap_code.specs.Pieces.{settle, size_need, place_block, clean_block, free_block}

-- x16 becomes the length of the block at address x17, whose row is half as far from the rows' front as the
-- block is from the area's
abbrev pub old_length : Area → (data_at : ℕ) → Fragment
old_length area data_at =
    chained (
    Set 7 (base_of area data_at)
    ∷ Compute Sub 16 17 7
    ∷ Imm Srl 16 16 1
    ∷ Compute Add 16 16 11
    ∷ Load 16 16 0
    ∷ []
    )

-- x16 becomes the lesser of x14 and x16
abbrev pub lesser : Fragment
lesser = If Ltu 14 16 (Imm Add 16 14 0) Skip

-- the block at address x17 is released
abbrev pub release_old : Area → (data_at : ℕ) → Fragment
release_old area data_at =
    chained (Set 7 (base_of area data_at) ∷ Compute Sub 10 17 7 ∷ Imm Srl 10 10 4 ∷ free_block area ∷ [])

-- the old block at address x17 is copied to the new one at address x6, which has x14 granules, and then
-- released; x10, the new address, stays
abbrev pub move_old : Area → (data_at : ℕ) → Fragment
move_old area data_at =
    chained (
    Imm Add 15 10 0
    ∷ old_length area data_at
    ∷ lesser
    ∷ Imm Add 5 17 0
    ∷ copy_block
    ∷ release_old area data_at
    ∷ Imm Add 10 15 0
    ∷ []
    )

-- a new block of x10 granules at granule x15
abbrev pub fill_new : Area → (data_at : ℕ) → Fragment
fill_new area data_at =
    chained (
    Imm Add 14 10 0
    ∷ clean_block area data_at
    ∷ If Eq 17 0 Skip (move_old area data_at)
    ∷ []
    )

abbrev pub realloc_code : List Row → Area → (data_at : ℕ) → Fragment
realloc_code rows area data_at =
    chained (
    Imm Add 17 10 0
    ∷ Imm Add 10 11 0
    ∷ settle area data_at
    ∷ size_need
    ∷ place_block rows area
    ∷ If Eq 15 31 (Imm Add 10 0 0) (fill_new area data_at)
    ∷ []
    )
