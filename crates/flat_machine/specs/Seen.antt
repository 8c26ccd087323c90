-- What contracts see of a flat machine.
use Rattle.std.specs.Prelude.{◌≡◌, ℕ, ◌+◌, List, [], Some, None, MatchOption, length}
use Rattle.machine_spec.specs.declared.Ending.TheVariants.{Running}
use Rattle.machine_spec.specs.Memory.{Range}
use Rattle.machine_spec.specs.Start.{start_registers}
use Rattle.flat_spec.specs.Stores.{put_bytes}
use Rattle.flat_spec.specs.Machine.{Machine, register}
use Rattle.flat_spec.specs.Calls.{answers}
use Rattle.machine_run.specs.Machines.{Seen}

-- the machine, whether it waits at a read, and the bytes that its last step wrote
abbrev pub FlatSeen : Type 0
FlatSeen = Seen Machine

-- it doesn't wait, and its last step wrote these bytes
abbrev pub between : Machine → List ℕ → FlatSeen
between m written = record { machine = m; waits = None; written = written }

-- it waits at a read of the machine m and was fed these bytes, which stand at the front of the buffer
abbrev pub fed_with : Machine → List ℕ → FlatSeen
fed_with m bytes = record {
  machine = record m { memory = put_bytes m.memory (register m 11) bytes };
  waits = Some (record { len = register m 12; fed = length bytes });
  written = [];
}

-- the machine that is about to run, with this memory and this first address
abbrev pub begun : List Range → ℕ → Machine
begun memory entry = record { memory = memory; registers = start_registers; pc = entry; ending = Running }

-- a machine that waits was fed a further piece
abbrev pub FedMore : FlatSeen → List ℕ → FlatSeen → Type 0
FedMore old piece new = MatchOption old.waits ⊥ (λ wait. new ≡ record {
  machine = record old.machine { memory = put_bytes old.machine.memory (register old.machine 11 + wait.fed) piece };
  waits = Some (record { len = wait.len; fed = wait.fed + length piece });
  written = [];
})

-- a machine that waits has its answer, the number of bytes that it was fed
abbrev pub Completed : FlatSeen → FlatSeen → Type 0
Completed old new = MatchOption old.waits ⊥ (λ wait. new ≡ between (answers wait.fed old.machine) [])
