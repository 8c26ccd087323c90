-- What holds of a layout at all times.
use Rattle.std.specs.Prelude.{◌≡◌, ◌≢◌, ℕ, ◌+◌, ◌<◌, ◌≤◌, ◌↔◌, ◌⊎◌, nat_le, nat_lt, Bool, ◌&&◌, Some, None, All}
use Rattle.std.specs.Prelude.{AllPairs, Any, count_by, length}
use Rattle.plan_core.specs.declared.types.Area.{Area}
use Rattle.plan_core.specs.Plan.{granules}
use Rattle.place_spec.specs.declared.parts.Hole.{Hole}
use Rattle.place_spec.specs.Layout.{Block, Layout, current_of, chunk_of, chunk_size, chunk_front}

-- n granules from a on and m granules from b on have none in common
abbrev pub Apart : (a n b m : ℕ) → Type 0
Apart a n b m = (a + n ≤ b) ⊎ (b + m ≤ a)

-- a granule is one of a block
abbrev pub Covers : Block → ℕ → Type 0
Covers b i = (b.first ≤ i) × (i < b.first + b.granules)

-- a granule is one of a hole
abbrev pub Frees : Hole → ℕ → Type 0
Frees h i = (h.start ≤ i) × (i < h.start + h.length)

-- a block stands on one side of a border
abbrev pub OnOneSide : (border : ℕ) → Block → Type 0
OnOneSide border b = (b.first + b.granules ≤ border) ⊎ (border ≤ b.first)

-- a block stands in chunk k
abbrev pub is_in_chunk : Area → (k : ℕ) → Block → Bool
is_in_chunk area k b = nat_le (chunk_front area k) b.first && nat_lt b.first (chunk_front area (k + 1))

abbrev pub InChunk : Area → (k : ℕ) → Block → Type 0
InChunk area k b = (chunk_front area k ≤ b.first) × (b.first < chunk_front area (k + 1))

pub record Sound (area : Area) (layout : Layout) : Type 0 where
  -- there are 16 groups, and the chunks are those of the area
  pub groups : length layout.currents ≡ 16
  pub chunks : length layout.chunks ≡ area.chunks
  -- live blocks share no granule with each other or with a hole
  pub blocks_apart : AllPairs (λ b c. Apart b.first b.granules c.first c.granules) layout.blocks
  pub holes_apart : All (λ b. All (λ h. Apart b.first b.granules h.start h.length) layout.holes) layout.blocks
  -- every granule of the fallback is in a live block or in a hole
  pub covered : (i : ℕ) → i < area.fallback → Any (λ b. Covers b i) layout.blocks ⊎ Any (λ h. Frees h i) layout.holes
  -- each live block and each hole has a granule; a live block lies inside the area, a hole inside the fallback
  pub blocks_filled : All (λ b. 0 < b.granules) layout.blocks
  pub holes_filled : All (λ h. 0 < h.length) layout.holes
  pub blocks_inside : All (λ b. b.first + b.granules ≤ granules area) layout.blocks
  pub holes_inside : All (λ h. h.start + h.length ≤ area.fallback) layout.holes
  -- holes ascend and no two touch
  pub holes_ascend : AllPairs (λ h x. h.start + h.length < x.start) layout.holes
  -- no live block crosses the end of the fallback or of a chunk
  pub no_crossing : All (λ b. (k : ℕ) → k ≤ area.chunks → OnOneSide (chunk_front area k) b) layout.blocks
  -- the live blocks of a chunk end at or below its bump, have its owner as group and number its live count
  pub below_bump : All (λ b. (k : ℕ) → k < area.chunks → InChunk area k b
      → b.first + b.granules ≤ chunk_front area k + (chunk_of layout k).bump) layout.blocks
  pub owned : All (λ b. (k : ℕ) → k < area.chunks → InChunk area k b → b.group ≡ (chunk_of layout k).owner)
      layout.blocks
  pub counted : (k : ℕ) → k < area.chunks → count_by (is_in_chunk area k) layout.blocks ≡ (chunk_of layout k).live
  -- a bump is at most the chunk's length, and is 0 exactly where the live count is 0
  pub bumps : (k : ℕ) → k < area.chunks → (chunk_of layout k).bump ≤ chunk_size area
  pub idle : (k : ℕ) → k < area.chunks → ((chunk_of layout k).bump ≡ 0) ↔ ((chunk_of layout k).live ≡ 0)
  -- a chunk without owner has live count 0, and an owned chunk that is no current chunk has a live count above 0
  pub unowned : (k : ℕ) → k < area.chunks → (chunk_of layout k).owner ≡ None → (chunk_of layout k).live ≡ 0
  pub in_use : (k : ℕ) → k < area.chunks → (chunk_of layout k).owner ≢ None
      → ((group : ℕ) → current_of layout group ≢ Some k) → 0 < (chunk_of layout k).live
  -- a group's current chunk has that group as owner
  pub currents : (group k : ℕ) → current_of layout group ≡ Some k → (k < area.chunks)
      × ((chunk_of layout k).owner ≡ Some group)
  -- an owner, and the group of a live block, is below 16
  pub owners : (k group : ℕ) → (chunk_of layout k).owner ≡ Some group → group < 16
  pub block_groups : All (λ b. (group : ℕ) → b.group ≡ Some group → group < 16) layout.blocks
