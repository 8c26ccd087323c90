-- Blocks in chunks: placed by the first two rules, and released. In all of them x12 is where the tables
-- are; where blocks are placed, x11 is where the rows of the granules are, and x31 the word for none.
use Rattle.std.specs.Prelude.{◌-◌, ◌^◌, [], ◌∷◌}
use Rattle.rv_isa.specs.declared.Op.TheVariants.{Add, Sub, Sll, Srl}
use Rattle.rv_isa.specs.declared.Cond.TheVariants.{Eq, Ne, Ltu}
use Rattle.plan_core.specs.declared.types.Area.{Area}
use Rattle.place_spec.specs.Layout.{chunk_size}
use Rattle.frag_code.specs.Fragments.{Fragment, Skip, Compute, Imm, Load, Store, Seq, If, While, chained}
use Rattle.heap_chunks.specs.Constants.{constant, plus_constant, minus_constant}

-- x15 becomes the granule at x29 in chunk x7, and its row gets the block's length, which is x10
abbrev pub answer_block : Area → Fragment
answer_block area =
    chained (
    Imm Sll 7 7 area.log_chunk
    ∷ Compute Add 7 7 29
    ∷ plus_constant 15 7 28 area.fallback
    ∷ Imm Sll 30 15 3
    ∷ Compute Add 30 30 11
    ∷ Store 30 10 0
    ∷ []
    )

-- a block of x10 granules at the bump x29 of chunk x7, whose row is at x6; x30 is the new bump
abbrev pub place_current : Area → Fragment
place_current area =
    chained (
    Store 6 30 132
    ∷ Load 30 6 136
    ∷ Imm Add 30 30 1
    ∷ Store 6 30 136
    ∷ answer_block area
    ∷ []
    )

-- x6 goes from chunk to chunk, up to x30, and x7 is the chunk's owner, or the word for none at the end
abbrev pub next_chunk : Fragment
next_chunk = chained (Imm Add 6 6 16 ∷ If Eq 6 30 (Compute Add 7 31 0) (Load 7 6 128) ∷ [])

-- the search ends at the rows of the granules, 128 bytes behind x6's last place
abbrev pub find_idle : Fragment
find_idle =
    chained (
    Imm Add 30 11 (2 ^ 32 - 128)
    ∷ Imm Add 6 12 0
    ∷ Load 7 6 128
    ∷ While Ne 7 31 next_chunk
    ∷ []
    )

-- the chunk at x6 becomes the current one of the group whose word is at x14, with a block of x10 granules
abbrev pub own_chunk : Area → Fragment
own_chunk area =
    chained (
    Compute Sub 7 6 12
    ∷ Imm Srl 7 7 4
    ∷ Store 14 7 0
    ∷ Compute Sub 30 14 12
    ∷ Imm Add 30 30 (2 ^ 32 - 64)
    ∷ Imm Srl 30 30 2
    ∷ Store 6 30 128
    ∷ Store 6 10 132
    ∷ Imm Add 30 0 1
    ∷ Store 6 30 136
    ∷ Imm Add 29 0 0
    ∷ answer_block area
    ∷ []
    )

-- the second rule: the lowest chunk without owner, or the word for none in x15
abbrev pub place_fresh : Area → Fragment
place_fresh area = Seq find_idle (If Eq 6 30 (Compute Add 15 31 0) (own_chunk area))

-- the first rule in the group's chunk x7, and the second where the block doesn't fit there; x28 is the
-- length of a chunk
abbrev pub place_owned : Area → Fragment
place_owned area =
    chained (
    Imm Sll 6 7 4
    ∷ Compute Add 6 6 12
    ∷ Load 29 6 132
    ∷ Compute Add 30 29 10
    ∷ If Ltu 28 30 (place_fresh area) (place_current area)
    ∷ []
    )

-- the first two rules for x10 granules in the group whose word is at x14: x15 becomes the block's first
-- granule, or the word for none
abbrev pub place_high : Area → Fragment
place_high area =
    chained (
    constant 28 (chunk_size area)
    ∷ If Ltu 28 10 (Compute Add 15 31 0) (Seq (Load 7 14 0) (If Eq 7 31 (place_fresh area) (place_owned area)))
    ∷ []
    )

-- chunk x7, whose row is at x6, has no live block: it is owned no more if it isn't its owner's current one
abbrev pub clear_chunk : Fragment
clear_chunk =
    chained (
    Store 6 0 132
    ∷ Load 29 6 128
    ∷ Imm Sll 29 29 2
    ∷ Compute Add 29 29 12
    ∷ Load 29 29 64
    ∷ If Eq 29 7 Skip (chained (Imm Add 30 0 (2 ^ 32 - 1) ∷ Store 6 30 128 ∷ []))
    ∷ []
    )

-- the block at granule x10, which stands in a chunk, is released; x12 is where the tables are
abbrev pub release_high : Area → Fragment
release_high area =
    chained (
    minus_constant 7 10 28 area.fallback
    ∷ Imm Srl 7 7 area.log_chunk
    ∷ Imm Sll 6 7 4
    ∷ Compute Add 6 6 12
    ∷ Load 28 6 136
    ∷ Imm Add 28 28 (2 ^ 32 - 1)
    ∷ Store 6 28 136
    ∷ If Ne 28 0 Skip clear_chunk
    ∷ []
    )
