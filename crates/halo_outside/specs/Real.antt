-- What contracts see of the files and the source over std.
use Rattle.std.specs.Prelude.{ℕ}

-- how many reads failed, and how many bytes were taken
pub record RealCounts : Type 0 where
  pub faults : ℕ
  pub taken : ℕ
