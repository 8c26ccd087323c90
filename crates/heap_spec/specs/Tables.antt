-- The tables of a heap: what their words are for a layout, and their words at the start. Memory is seen
-- as the words at its multiples of 4. The words from data_at + 4 up to data_at + 64 hold anything, and
-- so do those of granules at which neither a live block nor a hole begins.
use Rattle.std.specs.Prelude.{◌≡◌, ℕ, zero, suc, ◌+◌, ◌*◌, ◌<◌, ◌==◌, List, [], ◌∷◌, ◌++◌, flat_map, replicate, All}
use Rattle.std.specs.Prelude.{Option, Some, None, if◌then◌else◌}
use Rattle.plan_core.specs.declared.types.Area.{Area}
use Rattle.machine_spec.specs.Widths.{low_bytes}
use Rattle.place_spec.specs.declared.parts.Hole.{Hole}
use Rattle.place_spec.specs.declared.parts.Chunk.{Chunk}
use Rattle.place_spec.specs.Layout.{Layout, current_of, chunk_of}
use Rattle.heap_spec.specs.Places.{current_row, chunk_row, rows_at, granule_row}

-- the word that stands for none
abbrev pub none_word : ℕ
none_word = 0xFFFFFFFF

abbrev pub word_or_none : Option ℕ → ℕ
word_or_none (Some n) = n
word_or_none None = none_word

-- a word and what follows from it spell holes: it is the first hole's granule, whose row has the hole's
-- length and then the word that spells the rest
abbrev pub SpellsHoles : (rows : ℕ) → (memory : ℕ → ℕ) → (word : ℕ) → List Hole → Type 0
SpellsHoles rows memory word [] = word ≡ none_word
SpellsHoles rows memory word (h ∷ hs) =
    (word ≡ h.start) × (memory (rows + 8 * h.start) ≡ h.length)
    × SpellsHoles rows memory (memory (rows + 8 * h.start + 4)) hs

-- the four words of a chunk
pub record SpellsChunk (memory : ℕ → ℕ) (at : ℕ) (c : Chunk) : Type 0 where
  pub owner : memory at ≡ word_or_none c.owner
  pub bump : memory (at + 4) ≡ c.bump
  pub live : memory (at + 8) ≡ c.live
  pub fourth : memory (at + 12) ≡ 0

-- the tables at an address spell a layout
pub record Spells (area : Area) (data_at : ℕ) (memory : ℕ → ℕ) (layout : Layout) : Type 0 where
  pub holes : SpellsHoles (rows_at area data_at) memory (memory data_at) layout.holes
  pub currents : (group : ℕ) → group < 16 → memory (current_row data_at group) ≡ word_or_none (current_of layout group)
  pub chunks : (k : ℕ) → k < area.chunks → SpellsChunk memory (chunk_row data_at k) (chunk_of layout k)
  -- a live block's first granule has the block's length
  pub lengths : All (λ b. memory (granule_row area data_at b.first) ≡ b.granules) layout.blocks

-- the words of chunks without owner
abbrev pub idle_rows : ℕ → List ℕ
idle_rows zero = []
idle_rows (suc n) = none_word ∷ 0 ∷ 0 ∷ 0 ∷ idle_rows n

-- the first words of the tables: the hole word and 15 words that hold anything, the current chunks, the
-- chunks, and the row of the one hole if there is one
unfoldable pub first_words : Area → List ℕ
first_words area =
    (if area.fallback == 0 then none_word else 0) ∷ replicate 15 0 ++ (replicate 16 none_word ++ (idle_rows area.chunks
    ++ (if area.fallback == 0 then [] else area.fallback ∷ none_word ∷ [])))

-- the first contents of the tables, in bytes
abbrev pub first_tables : Area → List ℕ
first_tables area = flat_map (low_bytes 4) (first_words area)

-- words stand in memory from an address on
abbrev pub HasWords : (memory : ℕ → ℕ) → (at : ℕ) → List ℕ → Type 0
HasWords memory at [] = Unit {0}
HasWords memory at (w ∷ ws) = (memory at ≡ w) × HasWords memory (at + 4) ws
