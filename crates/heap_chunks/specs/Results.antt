-- Where the tables stand, what registers hold throughout, and what the fragments of this crate do.
use Rattle.std.specs.Prelude.{◌≡◌, ℕ, ◌+◌, ◌-◌, ◌*◌, ◌%◌, ◌^◌, ◌<◌, ◌≤◌, nat_le, List, length, Option, Some, None}
use Rattle.std.specs.Prelude.{if◌then◌else◌}
use Rattle.std.specs.Option.{option_or}
use Rattle.plan_core.specs.declared.types.Area.{Area}
use Rattle.plan_core.specs.declared.types.Row.{Row}
use Rattle.plan_core.specs.Plan.{granules, group_of_bits}
use Rattle.place_spec.specs.declared.parts.Spot.{Spot}
use Rattle.place_spec.specs.Layout.{Block, Layout, chunk_size}
use Rattle.place_spec.specs.Place.{current_spot, fresh_spot, granule_of, placed_at}
use Rattle.place_spec.specs.Release.{block_at, released}
use Rattle.place_spec.specs.Sound.{Sound}
use Rattle.heap_spec.specs.Places.{current_row, rows_at, tables_end}
use Rattle.heap_spec.specs.Tables.{none_word, Spells}
use Rattle.frag_code.specs.Meaning.{View, Rights, frag_run}
use Rattle.frag_code.specs.Ends.{Ends}
use Rattle.frag_rules.specs.Rights.{one_span}
use Rattle.heap_chunks.specs.Groups.{group_tests}
use Rattle.heap_chunks.specs.Chunks.{place_high, release_high}

-- the tables stand at a multiple of 4 and end at or below 2^32
pub record HasRoom (area : Area) (data_at : ℕ) : Type 0 where
  pub aligned : data_at % 4 ≡ 0
  pub end : tables_end area data_at ≤ 2 ^ 32
  pub chunks : area.chunks ≤ 256
  pub log_chunk : area.log_chunk ≤ 20
  pub granules : granules area ≤ 1048576

-- the right to read and write the tables, and no more
abbrev pub table_rights : Area → (data_at : ℕ) → Rights
table_rights area data_at = one_span data_at (tables_end area data_at)

-- x31 is the word for none, x12 where the tables are and x11 where the rows of the granules are
pub record Settled (area : Area) (data_at : ℕ) (registers : ℕ → ℕ) : Type 0 where
  pub none : registers 31 ≡ none_word
  pub tables : registers 12 ≡ data_at
  pub rows : registers 11 ≡ rows_at area data_at

-- the word that says where the word of a group's current chunk is
abbrev pub group_word : (data_at : ℕ) → Option ℕ → ℕ
group_word data_at (Some group) = current_row data_at group
group_word data_at None = none_word

-- the row tests find the word of the bits' group
abbrev pub FindsGroup : List Row → (data_at : ℕ) → Type 0
FindsGroup rows data_at =
    (g : Rights) (w bits : ℕ) (s : View) → s.registers 5 ≡ bits → s.registers 13 + bits ≡ 2 ^ 32 - 1
    → s.registers 31 ≡ none_word → s.registers 12 ≡ data_at
    → Ends (frag_run g (group_tests rows) w s)
    (λ t. (t.registers 14 ≡ group_word data_at (group_of_bits rows bits))
    × ((t.memory ≡ s.memory) × (t.spent ≤ s.spent + 12 * length rows + 6)))

-- the spot that the first two rules choose
abbrev pub chunk_spot : Area → Layout → (need group : ℕ) → Option Spot
chunk_spot area layout need group =
    if nat_le need (chunk_size area)
    then option_or (current_spot area layout need group) (fresh_spot layout group)
    else None

-- a block was placed at the spot, and x15 is its first granule; or none was, and x15 is the word for none
abbrev pub Tried : Area → (data_at : ℕ) → Layout → (need group : ℕ) → (memory : ℕ → ℕ) → Option Spot → View → Type 0
Tried area data_at layout need group memory (Some spot) t =
    (t.registers 15 ≡ granule_of area layout spot)
    × Spells area data_at t.memory (placed_at area layout need (Some group) spot).after
Tried area data_at layout need group memory None t = (t.registers 15 ≡ none_word) × (t.memory ≡ memory)

-- the first two rules
abbrev pub PlacesHigh : Area → (data_at : ℕ) → Type 0
PlacesHigh area data_at =
    (w : ℕ) (layout : Layout) (need group : ℕ) (s : View) → Sound area layout → Spells area data_at s.memory layout
    → Settled area data_at s.registers → s.registers 10 ≡ need → 1 ≤ need → need < 2 ^ 32
    → s.registers 14 ≡ current_row data_at group → group < 16 → area.chunks ≤ w
    → Ends (frag_run (table_rights area data_at) (place_high area) w s)
    (λ t. Tried area data_at layout need group s.memory (chunk_spot area layout need group) t
    × (t.spent ≤ s.spent + 12 * area.chunks + 128))

-- the release of a block in a chunk
abbrev pub ReleasesHigh : Area → (data_at : ℕ) → Type 0
ReleasesHigh area data_at =
    (w : ℕ) (layout : Layout) (b : Block) (s : View) → Sound area layout → Spells area data_at s.memory layout
    → s.registers 12 ≡ data_at → s.registers 10 ≡ b.first → block_at layout b.first ≡ Some b
    → area.fallback ≤ b.first
    → Ends (frag_run (table_rights area data_at) (release_high area) w s)
    (λ t. Spells area data_at t.memory (released area layout b.first) × (t.spent ≤ s.spent + 60))
