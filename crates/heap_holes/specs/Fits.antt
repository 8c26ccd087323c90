-- Where the tables of a heap may stand, and the rights to their words.
use Rattle.std.specs.Prelude.{◌≡◌, ℕ, ◌%◌, ◌^◌, ◌≤◌}
use Rattle.plan_core.specs.declared.types.Area.{Area}
use Rattle.frag_code.specs.Meaning.{Rights}
use Rattle.frag_rules.specs.Rights.{one_span}
use Rattle.heap_spec.specs.Places.{tables_end}

-- at a multiple of 4, with a word before them, and all of them below 2 ^ 32
pub record TablesFit (area : Area) (data_at : ℕ) : Type 0 where
  pub aligned : data_at % 4 ≡ 0
  pub above : 4 ≤ data_at
  pub below : tables_end area data_at ≤ 2 ^ 32

abbrev pub table_rights : Area → (data_at : ℕ) → Rights
table_rights area data_at = one_span data_at (tables_end area data_at)
