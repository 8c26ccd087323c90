-- How a run of the flat machine ends, and what stands after it.
use Rattle.std.specs.Prelude.{◌≡◌, ◌⊎◌, ℕ, ◌+◌, ◌<◌, ◌≤◌, List, [], ◌++◌, Option, Some, None, IsSome, length}
use Rattle.machine_spec.specs.declared.Ending.{Ending}
use Rattle.machine_spec.specs.declared.Ending.TheVariants.{Running, Exit, Illegal as IllegalAt, Fault as FaultAt}
use Rattle.flat_spec.specs.Machine.{Machine, register}
use Rattle.flat_spec.specs.Runs.{State, steps}
use Rattle.machine_run.specs.declared.RunEnd.{RunEnd}
use Rattle.machine_run.specs.declared.RunEnd.TheVariants.{Exited, Illegal, Fault, Steps, ReadFault, WriteFault}
use Rattle.machine_run.specs.Machines.{Output}
use Rattle.flat_machine.specs.Asks.{asks, IsAtRead}
use Rattle.flat_machine.specs.Seen.{FlatSeen, fed_with}

-- the state so many turns after a machine began with this input
abbrev pub run_from : Machine → List ℕ → ℕ → State
run_from m input n = steps n (record { machine = m; input = input; output = [] })

abbrev pub IsRunning : State → Type 0
IsRunning s = s.machine.ending ≡ Running

-- within so many turns the run has this ending, which it reaches at turn n
pub record EndsAt (m : Machine) (input : List ℕ) (bound n : ℕ) (ending : Ending) : Type 0 where
  pub within : n ≤ bound
  pub runs : (k : ℕ) → k < n → IsRunning (run_from m input k)
  pub ends : (run_from m input n).machine.ending ≡ ending
  pub stays : run_from m input bound ≡ run_from m input n

-- the last of so many turns wrote
abbrev pub WroteLast : Machine → List ℕ → ℕ → Type 0
WroteLast m input taken =
    (before : ℕ) × (len : ℕ) × (taken ≡ before + 1) × (asks (run_from m input before).machine ≡ Output len)

-- the answer of a run of at most `bound` turns, of which so many were taken: an exit counts its own
-- turn; an illegal word and a fault count the turns before; a failed read is no turn; a write fails at a turn
-- that writes, or at the end of the run, where the buffered bytes are written
abbrev pub Answers : RunEnd → Machine → List ℕ → (bound taken : ℕ) → Type 0
Answers (Exited status n) m input bound taken = (taken ≡ n) × EndsAt m input bound taken (Exit status)
Answers (Illegal at n) m input bound taken = (taken ≡ n + 1) × EndsAt m input bound taken (IllegalAt at)
Answers (Fault kind at n) m input bound taken = (taken ≡ n + 1) × EndsAt m input bound taken (FaultAt kind at)
Answers Steps m input bound taken = (taken ≡ bound) × IsRunning (run_from m input taken)
Answers ReadFault m input bound taken = (taken < bound) × IsRunning (run_from m input taken)
Answers WriteFault m input bound taken = (taken ≤ bound)
    × (WroteLast m input taken ⊎ (taken ≡ bound) ⊎ (IsRunning (run_from m input taken) → ⊥))

-- the machine is that of the state and doesn't wait, and the source has the rest of the input
pub record IsLeft (s : State) (now : FlatSeen) (told : Option (List ℕ)) : Type 0 where
  pub machine : now.machine ≡ s.machine
  pub waits : now.waits ≡ None
  pub left : told ≡ Some s.input

-- a machine with this input stands at a read and waits, with the bytes that were taken from the source,
-- which are fewer than the read takes
pub record IsCutOff (m : Machine) (input : List ℕ) (now : FlatSeen) (told : Option (List ℕ)) : Type 0 where
  pub at_read : IsAtRead m
  pub bytes : List ℕ
  pub rest : List ℕ
  pub fewer : length bytes < register m 12
  pub whole : input ≡ bytes ++ rest
  pub machine : now ≡ fed_with m bytes
  pub left : told ≡ Some rest

-- what the run leaves of machine and input
abbrev pub Leaves : RunEnd → State → FlatSeen → Option (List ℕ) → Type 0
Leaves (Exited status n) s now told = IsLeft s now told
Leaves (Illegal at n) s now told = IsLeft s now told
Leaves (Fault kind at n) s now told = IsLeft s now told
Leaves Steps s now told = IsLeft s now told
Leaves ReadFault s now told = IsCutOff s.machine s.input now told
Leaves WriteFault s now told = IsLeft s now told

-- a run of at most `bound` turns on an input: its answer, the machine before each turn that was taken, what it
-- leaves, and what of its output was written
pub record Ran (end : RunEnd) (bound : ℕ) (m : Machine) (input : List ℕ) (now : FlatSeen) (told : Option (List ℕ))
    (IsWritten : List ℕ → Type 0) : Type 0 where
  pub taken : ℕ
  pub answer : Answers end m input bound taken
  pub runs : (k : ℕ) → k < taken → IsRunning (run_from m input k)
  pub leaves : Leaves end (run_from m input taken) now told
  pub output : IsWritten (run_from m input taken).output

-- what an answer says of the machine, whatever the input
abbrev pub EndsAs : RunEnd → ℕ → FlatSeen → Type 0
EndsAs (Exited status n) bound now = (0 < n) × (n ≤ bound) × (now.machine.ending ≡ Exit status) × (now.waits ≡ None)
EndsAs (Illegal at n) bound now = (n < bound) × (now.machine.ending ≡ IllegalAt at) × (now.waits ≡ None)
EndsAs (Fault kind at n) bound now = (n < bound) × (now.machine.ending ≡ FaultAt kind at) × (now.waits ≡ None)
EndsAs Steps bound now = (now.machine.ending ≡ Running) × (now.waits ≡ None)
EndsAs ReadFault bound now = (now.machine.ending ≡ Running) × IsSome now.waits
EndsAs WriteFault bound now = now.waits ≡ None
