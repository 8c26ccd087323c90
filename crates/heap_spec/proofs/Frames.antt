-- A write elsewhere leaves the tables as they are: each part of them depends on its own words alone.
use Rattle.std.proofs.Common.{◌≡◌, ℕ, ◌+◌, ◌*◌, ◌%◌, ◌<◌, ◌≤◌, List, [], ◌∷◌, sym, ◌∙◌, subst, arith}
use Rattle.std.specs.Prelude.{All}
use Rattle.plan_core.specs.declared.types.Area.{Area}
use Rattle.plan_core.specs.Plan.{granules}
use Rattle.place_spec.specs.declared.parts.Hole.{Hole}
use Rattle.place_spec.specs.declared.parts.Chunk.{Chunk}
use Rattle.place_spec.specs.Layout.{Block, Layout, current_of, chunk_of}
use Rattle.place_spec.proofs.Lists.{Each, each, all, each_both, each_map}
use Rattle.place_spec.proofs.HoleLists.{ascends_filled}
use Rattle.place_spec.proofs.SoundParts.{Parts}
use Rattle.heap_spec.specs.Places.{current_row, chunk_row, rows_at, granule_row, tables_end}
use Rattle.heap_spec.specs.Tables.{SpellsHoles, SpellsChunk, Spells, word_or_none}

-- the words at the multiples of 4 from lo on and below hi are the same
abbrev pub SameWords : (lo hi : ℕ) → (m m' : ℕ → ℕ) → Type 0
SameWords lo hi m m' = (k : ℕ) → k % 4 ≡ 0 → lo ≤ k → k < hi → m' k ≡ m k

pub same_words : (lo hi lo' hi' : ℕ) (m m' : ℕ → ℕ) → lo ≤ lo' → hi' ≤ hi → SameWords lo hi m m'
    → SameWords lo' hi' m m'
same_words lo hi lo' hi' m m' l h s k a p q = s k a (omega arith) (omega arith)

-- holes, by the rows of the first n granules
pub holes_same : (rows n : ℕ) (m m' : ℕ → ℕ) (word : ℕ) (hs : List Hole) → rows % 4 ≡ 0
    → SameWords rows (rows + 8 * n) m m'
    → Each (λ h. h.start < n) hs → SpellsHoles rows m word hs → SpellsHoles rows m' word hs
holes_same rows n m m' word [] a s i t = t
holes_same rows n m m' word (h ∷ hs) a s (i, is) (w, l, t) =
    let here : m' (rows + 8 * h.start) ≡ m (rows + 8 * h.start) = s _ (omega arith) (omega arith) (omega arith) in
    let next : m' (rows + 8 * h.start + 4) ≡ m (rows + 8 * h.start + 4) = s _ (omega arith) (omega arith)
    (omega arith) in (
      w,
      here ∙ l,
      subst (λ x. SpellsHoles rows m' x hs) (sym next)
          (holes_same rows n m m' (m (rows + 8 * h.start + 4)) hs a s is t),
    )

pub chunk_same : (at : ℕ) (m m' : ℕ → ℕ) (c : Chunk) → at % 4 ≡ 0 → SameWords at (at + 16) m m' → SpellsChunk m at c
    → SpellsChunk m' at c
chunk_same at m m' c a s t = record {
  owner = s at a (omega arith) (omega arith) ∙ t.owner;
  bump = s (at + 4) (omega arith) (omega arith) (omega arith) ∙ t.bump;
  live = s (at + 8) (omega arith) (omega arith) (omega arith) ∙ t.live;
  fourth = s (at + 12) (omega arith) (omega arith) (omega arith) ∙ t.fourth;
}

-- the parts of the tables of an area at an address
abbrev pub SpellsCurrents : (data_at : ℕ) → (ℕ → ℕ) → Layout → Type 0
SpellsCurrents data_at m layout = (group : ℕ) → group < 16
    → m (current_row data_at group) ≡ word_or_none (current_of layout group)

abbrev pub SpellsChunks : Area → (data_at : ℕ) → (ℕ → ℕ) → Layout → Type 0
SpellsChunks area data_at m layout = (k : ℕ) → k < area.chunks → SpellsChunk m (chunk_row data_at k) (chunk_of layout k)

abbrev pub SpellsLengths : Area → (data_at : ℕ) → (ℕ → ℕ) → List Block → Type 0
SpellsLengths area data_at m blocks = All (λ b. m (granule_row area data_at b.first) ≡ b.granules) blocks

module _ (area : Area) (data_at : ℕ) (aligned : data_at % 4 ≡ 0) (m m' : ℕ → ℕ) (layout : Layout) where
  pub currents_same : SameWords (data_at + 64) (data_at + 128) m m' → SpellsCurrents data_at m layout
      → SpellsCurrents data_at m' layout
  currents_same s t group l = s (current_row data_at group) (omega arith) (omega arith) (omega arith) ∙ t group l

  pub chunks_same : SameWords (data_at + 128) (rows_at area data_at) m m' → SpellsChunks area data_at m layout
      → SpellsChunks area data_at m' layout
  chunks_same s t k l =
      chunk_same (chunk_row data_at k) m m' (chunk_of layout k) (omega arith)
      (same_words (data_at + 128) (rows_at area data_at) (chunk_row data_at k) (chunk_row data_at k + 16) m m'
      (omega arith) (omega arith) s) (t k l)

  pub lengths_same : (blocks : List Block) → Each (λ b. b.first < granules area) blocks
      → SameWords (rows_at area data_at) (tables_end area data_at) m m'
      → SpellsLengths area data_at m blocks → SpellsLengths area data_at m' blocks
  lengths_same blocks i s t =
      all _ blocks (each_both (λ b. b.first < granules area) (λ b. m (granule_row area data_at b.first) ≡ b.granules)
      (λ b. m' (granule_row area data_at b.first) ≡ b.granules) blocks
      (λ b l e. s (granule_row area data_at b.first) (omega arith) (omega arith) (omega arith) ∙ e) i (each _ blocks t))

-- where the holes and the blocks of a sound layout begin
module _ (area : Area) (layout : Layout) (p : Parts area layout) where
  pub holes_begin : Each (λ h. h.start < granules area) layout.holes
  holes_begin =
      each_both (λ h. h.start + h.length ≤ area.fallback) (λ h. 0 < h.length)
      (λ h. h.start < granules area) layout.holes
      (λ h i f. omega arith) p.inside (ascends_filled 0 layout.holes p.ascends)

  pub blocks_begin : Each (λ b. b.first < granules area) layout.blocks
  blocks_begin = each_map _ (λ b. b.first < granules area) layout.blocks
      (λ b s. let i = s.inside in let f = s.filled in omega (arith, i, f)) p.blocks

  -- the whole of the tables
  pub spells_same : (data_at : ℕ) (m m' : ℕ → ℕ) → data_at % 4 ≡ 0 → m' data_at ≡ m data_at
      → SameWords (data_at + 64) (tables_end area data_at) m m' → Spells area data_at m layout
      → Spells area data_at m' layout
  spells_same data_at m m' a head s t = record {
    holes = subst (λ w. SpellsHoles (rows_at area data_at) m' w layout.holes) (sym head)
        (holes_same (rows_at area data_at) (granules area) m m' (m data_at) layout.holes (omega arith)
        (same_words (data_at + 64) (tables_end area data_at) (rows_at area data_at) (tables_end area data_at) m m'
        (omega arith) (omega arith) s)
        holes_begin t.holes);
    currents = currents_same area data_at a m m' layout
        (same_words (data_at + 64) (tables_end area data_at) (data_at + 64) (data_at + 128) m m' (omega arith)
        (omega arith) s) t.currents;
    chunks = chunks_same area data_at a m m' layout
        (same_words (data_at + 64) (tables_end area data_at) (data_at + 128) (rows_at area data_at) m m' (omega arith)
        (omega arith) s) t.chunks;
    lengths = lengths_same area data_at a m m' layout layout.blocks blocks_begin
        (same_words (data_at + 64) (tables_end area data_at) (rows_at area data_at) (tables_end area data_at) m m'
        (omega arith) (omega arith) s)
        t.lengths;
  }
