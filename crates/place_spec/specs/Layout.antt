-- The state of a heap's area: what stands where. The area has the granules of the fallback first, and
-- then its chunks, each of 2 ^ log_chunk granules. Granules are counted from the area's front.
use Rattle.std.specs.Prelude.{ℕ, ◌+◌, ◌*◌, ◌/◌, ◌^◌, ◌==◌, List, [], ◌∷◌, replicate, max, Option, None, if◌then◌else◌}
use Rattle.std.specs.Prelude.{slice_index_or}
use Rattle.plan_core.specs.declared.types.Area.{Area}
use Rattle.place_spec.specs.declared.parts.Hole.{Hole}
use Rattle.place_spec.specs.declared.parts.Chunk.{Chunk}

-- a live block: its first granule, how many it has, and the group that its request had
pub record Block : Type 0 where
  pub first : ℕ
  pub granules : ℕ
  pub group : Option ℕ

-- each group's current chunk, the chunks, the holes of the fallback and the live blocks, by their first granules
pub record Layout : Type 0 where
  pub currents : List (Option ℕ)
  pub chunks : List Chunk
  pub holes : List Hole
  pub blocks : List Block

-- a chunk that nothing owns
abbrev pub idle_chunk : Chunk
idle_chunk = record { owner = None; bump = 0; live = 0 }

-- the layout at the start: no chunk has an owner, and one hole is the fallback, or none where it is empty
abbrev pub first_layout : Area → Layout
first_layout area = record {
  currents = replicate 16 None;
  chunks = replicate area.chunks idle_chunk;
  holes = if area.fallback == 0 then [] else record { start = 0; length = area.fallback } ∷ [];
  blocks = [];
}

-- the current chunk of a group
abbrev pub current_of : Layout → ℕ → Option ℕ
current_of layout group = slice_index_or layout.currents group None

-- chunk k
abbrev pub chunk_of : Layout → ℕ → Chunk
chunk_of layout k = slice_index_or layout.chunks k idle_chunk

-- hole i
abbrev pub hole_of : List Hole → ℕ → Hole
hole_of holes i = slice_index_or holes i (record { start = 0; length = 0 })

-- how many granules a chunk has
abbrev pub chunk_size : Area → ℕ
chunk_size area = 2 ^ area.log_chunk

-- the first granule of chunk k, which is also where chunk k - 1 or, for chunk 0, the fallback ends
abbrev pub chunk_front : Area → ℕ → ℕ
chunk_front area k = area.fallback + k * chunk_size area

-- how many granules of 16 bytes a request needs: at least one
abbrev pub granules_for : ℕ → ℕ
granules_for size = max 1 ((size + 15) / 16)

-- the address of a granule of an area that begins at an address
abbrev pub address_of : (base granule : ℕ) → ℕ
address_of base granule = base + 16 * granule
