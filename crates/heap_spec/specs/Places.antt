-- Where the tables of a heap and its area stand in memory: the tables from an address on, and the area
-- behind them.
use Rattle.std.specs.Prelude.{ℕ, ◌+◌, ◌*◌, ◌/◌}
use Rattle.plan_core.specs.declared.types.Area.{Area}
use Rattle.plan_core.specs.Plan.{granules}

-- the word of a group's current chunk
abbrev pub current_row : (data_at group : ℕ) → ℕ
current_row data_at group = data_at + 64 + 4 * group

-- the four words of chunk k
abbrev pub chunk_row : (data_at k : ℕ) → ℕ
chunk_row data_at k = data_at + 128 + 16 * k

-- the rows of the granules, and granule i's two words
abbrev pub rows_at : Area → (data_at : ℕ) → ℕ
rows_at area data_at = data_at + 128 + 16 * area.chunks

abbrev pub granule_row : Area → (data_at i : ℕ) → ℕ
granule_row area data_at i = rows_at area data_at + 8 * i

-- where the rows end
abbrev pub tables_end : Area → (data_at : ℕ) → ℕ
tables_end area data_at = rows_at area data_at + 8 * granules area

-- where the area begins, at a multiple of 16 behind the tables, and where it ends
abbrev pub base_of : Area → (data_at : ℕ) → ℕ
base_of area data_at = data_at + (128 + 16 * area.chunks + 8 * granules area + 15) / 16 * 16

abbrev pub area_end : Area → (data_at : ℕ) → ℕ
area_end area data_at = base_of area data_at + 16 * granules area
