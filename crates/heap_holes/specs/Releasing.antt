-- A block of the fallback is released: its granules become a hole, which is joined with the holes that it
-- touches. x10 is the block's first granule, x7 its row, x11 where the rows of the granules are and x12
-- where the tables are.
use Rattle.std.specs.Prelude.{◌≡◌, ℕ, ◌+◌, ◌*◌, ◌≤◌, ◌<◌, [], ◌∷◌, Some, length}
use Rattle.rv_isa.specs.declared.Op.TheVariants.{Add, Sll}
use Rattle.rv_isa.specs.declared.Cond.TheVariants.{Eq, Ltu}
use Rattle.plan_core.specs.declared.types.Area.{Area}
use Rattle.place_spec.specs.Layout.{Block, Layout}
use Rattle.place_spec.specs.Release.{block_at, released}
use Rattle.place_spec.specs.Sound.{Sound}
use Rattle.frag_code.specs.Ends.{Ends}
use Rattle.frag_code.specs.Fragments.{Fragment, Skip, Compute, Imm, Load, Store, If, While, chained}
use Rattle.frag_code.specs.Meaning.{View, frag_run}
use Rattle.heap_spec.specs.Places.{rows_at, granule_row}
use Rattle.heap_spec.specs.Tables.{Spells}
use Rattle.heap_holes.specs.Fits.{table_rights}

-- x5 becomes the row of the hole at granule x6, and x6 the next hole's granule
abbrev pub next_hole : Fragment
next_hole = chained (Imm Sll 5 6 3 ∷ Compute Add 5 5 11 ∷ Load 6 5 4 ∷ [])

-- the hole at granule x6 becomes a part of the block, whose length is x28
abbrev pub absorb : Fragment
absorb =
    chained (
    Imm Sll 29 6 3
    ∷ Compute Add 29 29 11
    ∷ Load 6 29 4
    ∷ Load 29 29 0
    ∷ Compute Add 28 28 29
    ∷ Store 7 28 0
    ∷ []
    )

-- the block with the next hole, at granule x6, if that begins where the block ends
abbrev pub join_next : Fragment
join_next = chained (Load 28 7 0 ∷ Compute Add 29 10 28 ∷ If Eq 29 6 absorb Skip ∷ [])

-- the hole at row x5, whose length is x29, grows by the block
abbrev pub widen : Fragment
widen = chained (Compute Add 28 28 29 ∷ Store 5 28 0 ∷ Store 5 6 4 ∷ [])

-- the block becomes the hole between that at row x5 and that at granule x6
abbrev pub link : Fragment
link = chained (Store 7 6 4 ∷ Store 5 10 4 ∷ [])

-- the block and the last hole before it, at row x5
abbrev pub join_last : Fragment
join_last = chained (Load 29 5 0 ∷ Imm Sll 30 29 3 ∷ Compute Add 30 30 5 ∷ If Eq 30 7 widen link ∷ [])

-- some holes stand before the block
abbrev pub release_behind : Fragment
release_behind = chained (next_hole ∷ While Ltu 6 10 next_hole ∷ join_next ∷ join_last ∷ [])

-- none does
abbrev pub release_first : Fragment
release_first = chained (join_next ∷ Store 7 6 4 ∷ Store 12 10 0 ∷ [])

abbrev pub release_low : Fragment
release_low = chained (Load 6 12 0 ∷ If Ltu 6 10 release_behind release_first ∷ [])

-- the registers with which the block at a granule is released
pub record GivesBack (area : Area) (data_at granule : ℕ) (s : View) : Type 0 where
  pub given : s.registers 10 ≡ granule
  pub row : s.registers 7 ≡ granule_row area data_at granule
  pub rows : s.registers 11 ≡ rows_at area data_at
  pub tables : s.registers 12 ≡ data_at

-- the fragment releases a block of the fallback
abbrev pub ReleaseLowReleases : Area → (data_at : ℕ) → Type 0
ReleaseLowReleases area data_at =
    (w : ℕ) (layout : Layout) (b : Block) (s : View) → Sound area layout → block_at layout b.first ≡ Some b
    → b.first < area.fallback → Spells area data_at s.memory layout → GivesBack area data_at b.first s
    → length layout.holes ≤ w
    → Ends (frag_run (table_rights area data_at) release_low w s)
    (λ t. Spells area data_at t.memory (released area layout b.first)
    × (t.spent ≤ s.spent + 6 * area.fallback + 90))
