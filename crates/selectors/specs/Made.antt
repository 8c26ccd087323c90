-- Rows as they are made.
use Rattle.std.specs.Prelude.{ℕ, List}
use Rattle.plan_core.specs.declared.types.Row.{Row}

-- what members gave so far: rows, sites in the order of their bits, and how many members and rows were dropped
pub record Made : Type 0 where
  pub rows : List Row
  pub sites : List ℕ
  pub dropped : ℕ
