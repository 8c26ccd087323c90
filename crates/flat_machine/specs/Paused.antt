-- What contracts see of the fields of a flat machine.
use Rattle.std.specs.Prelude.{◌≡◌, ℕ, ◌≤◌, List, []}
use Rattle.machine_spec.specs.declared.Ending.TheVariants.{Running}
use Rattle.flat_spec.specs.Machine.{Machine, register}
use Rattle.machine_run.specs.declared.pause.Pause.{Pause}
use Rattle.machine_run.specs.declared.pause.Pause.TheVariants.{Nothing, Output, Input}
use Rattle.machine_run.specs.Steps.{waits_of}
use Rattle.flat_machine.specs.Seen.{FlatSeen}
use Rattle.flat_machine.specs.Steps.{buffer_of, IsInMemory, IsStorable}

-- what is seen of a machine that stands so
abbrev pub written_of : Pause → Machine → List ℕ
written_of Nothing m = []
written_of (Output len) m = buffer_of m len
written_of (Input len fed) m = []

abbrev pub seen_of : Pause → Machine → FlatSeen
seen_of pause m = record { machine = m; waits = waits_of pause; written = written_of pause m }

-- a read that waits is one of a machine that runs, its buffer can be stored to, and it was fed no more
-- than it wants; bytes that were written are in memory
abbrev pub IsPaused : Pause → Machine → Type 0
IsPaused Nothing m = Unit {0}
IsPaused (Output len) m = IsInMemory m len
IsPaused (Input len fed) m = IsStorable m len × (fed ≤ len) × (register m 12 ≡ len) × (m.ending ≡ Running)
