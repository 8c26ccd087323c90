-- What a step of the flat machine answers and does.
use Rattle.std.specs.Prelude.{◌≡◌, ℕ, List, [], length, true, Some, None, is_some, unwrap_or}
use Rattle.machine_spec.specs.declared.Ending.TheVariants.{Running}
use Rattle.flat_spec.specs.Stores.{bytes_from, can_store}
use Rattle.flat_spec.specs.Machine.{Machine, register}
use Rattle.flat_spec.specs.Calls.{Turn, quiet}
use Rattle.flat_spec.specs.Turns.{turn}
use Rattle.machine_run.specs.declared.Stepped.{Stepped}
use Rattle.machine_run.specs.declared.Stepped.TheVariants.{Went, Wrote, WantsInput, Exited, Illegal, Fault}
use Rattle.machine_run.specs.Machines.{Input}
use Rattle.flat_machine.specs.Asks.{asks}
use Rattle.flat_machine.specs.Seen.{FlatSeen, fed_with}

-- a step is a turn, which leaves the input as it is
abbrev pub IsTurn : List ℕ → Machine → FlatSeen → Type 0
IsTurn input m new = (new.waits ≡ None)
    × (turn input m ≡ record { next = new.machine; written = new.written; left = input })

-- and that writes nothing
abbrev pub IsQuietTurn : List ℕ → Machine → FlatSeen → Type 0
IsQuietTurn input m new = (new.written ≡ []) × IsTurn input m new

-- what stands after a step by its answer: at a read that wants input the machine waits,
-- else the step is a turn
abbrev pub StepsTo : Stepped → List ℕ → Machine → FlatSeen → Type 0
StepsTo (WantsInput len) input m new = (asks m ≡ Input len) × (register m 12 ≡ len) × (new ≡ fed_with m [])
StepsTo (Wrote len) input m new = (length new.written ≡ len) × IsTurn input m new
StepsTo Went input m new = IsQuietTurn input m new
StepsTo (Exited status) input m new = IsQuietTurn input m new
StepsTo (Illegal at) input m new = IsQuietTurn input m new
StepsTo (Fault kind at) input m new = IsQuietTurn input m new

-- what a step leaves beside the machine, by its answer: whether it waits, and what it wrote
abbrev pub Pauses : Stepped → FlatSeen → Type 0
Pauses (WantsInput len) new = new.waits ≡ Some (record { len = len; fed = 0 })
Pauses (Wrote len) new = (new.waits ≡ None) × (length new.written ≡ len)
Pauses Went new = (new.waits ≡ None) × (new.written ≡ [])
Pauses (Exited status) new = (new.waits ≡ None) × (new.written ≡ [])
Pauses (Illegal at) new = (new.waits ≡ None) × (new.written ≡ [])
Pauses (Fault kind at) new = (new.waits ≡ None) × (new.written ≡ [])

-- the bytes of a system call's buffer, at a1
abbrev pub buffer_of : Machine → ℕ → List ℕ
buffer_of m len = unwrap_or (bytes_from m.memory (register m 11) len) []

-- the buffer is in memory
abbrev pub IsInMemory : Machine → ℕ → Type 0
IsInMemory m len = is_some (bytes_from m.memory (register m 11) len) ≡ true

-- the buffer can be stored to
abbrev pub IsStorable : Machine → ℕ → Type 0
IsStorable m len = can_store m.memory (register m 11) len ≡ true

-- what the turn of a system call did to the machine alone, by the answer: a read that wants input has
-- changed nothing yet
abbrev pub Called : Stepped → List ℕ → Machine → Machine → Turn → Type 0
Called (WantsInput len) input m new t = (register m 12 ≡ len) × (new ≡ m) × IsStorable m len × (m.ending ≡ Running)
Called Went input m new t = t ≡ quiet input new
Called (Wrote len) input m new t =
    (t ≡ record { next = new; written = buffer_of new len; left = input }) × IsInMemory new len
Called (Exited status) input m new t = t ≡ quiet input new
Called (Illegal at) input m new t = t ≡ quiet input new
Called (Fault kind at) input m new t = t ≡ quiet input new
