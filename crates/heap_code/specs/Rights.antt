-- What a heap function may read and write: it reads the tables and the area, and writes the tables and one
-- stretch of the area.
use Rattle.std.specs.Prelude.{◌≡◌, ℕ, ◌%◌, ◌<◌, ◌≤◌, ◌||◌}
use Rattle.plan_core.specs.declared.types.Area.{Area}
use Rattle.frag_code.specs.Meaning.{Rights}
use Rattle.frag_rules.specs.Rights.{in_span}
use Rattle.heap_spec.specs.Places.{base_of, area_end, tables_end}

abbrev pub call_rights : Area → (data_at from to : ℕ) → Rights
call_rights area data_at from to = record {
  reads = in_span data_at (area_end area data_at);
  writes = λ a. in_span data_at (tables_end area data_at) a || in_span from to a;
}

-- a stretch of the area, or none
pub record IsSpan (area : Area) (data_at from to : ℕ) : Type 0 where
  pub first : from % 4 ≡ 0
  pub last : to % 4 ≡ 0
  pub inside : (a : ℕ) → from ≤ a → a < to → (base_of area data_at ≤ a) × (a < area_end area data_at)
