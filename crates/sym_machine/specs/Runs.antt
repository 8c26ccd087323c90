-- How a run of the symbol machine ends, and what stands after it.
use Rattle.std.specs.Prelude.{◌≡◌, ◌⊎◌, ℕ, ◌+◌, ◌<◌, ◌≤◌, List, [], Option, Some, None, IsSome}
use Rattle.machine_spec.specs.declared.Ending.{Ending}
use Rattle.machine_spec.specs.declared.Ending.TheVariants.{Running, Exit, Illegal as IllegalAt, Fault as FaultAt}
use Rattle.machine_run.specs.Machines.{Output, Seen}
use Rattle.machine_run.specs.Runs.{IsCutOff}
use Rattle.sym_spec.specs.SymRuns.{SymState, steps}
use Rattle.sym_machine.specs.declared.SymEnd.{SymEnd}
use Rattle.sym_machine.specs.declared.SymEnd.TheVariants.{Exited, Illegal, Fault, Steps, ReadFault, WriteFault, Memory}
use Rattle.sym_machine.specs.Programs.{Program, GrantsNext}
use Rattle.sym_machine.specs.Asks.{asks}
use Rattle.sym_machine.specs.Rules.{sym_rules}

-- the state so many turns after a program began with this input: from the start of a machine it is that of
-- `sym_run`
abbrev pub run_from : Program → List ℕ → ℕ → SymState
run_from p input n = steps p.file p.plan n (record { machine = p.machine; input = input; output = [] })

-- the program with the machine of a state
abbrev pub program_at : Program → SymState → Program
program_at p s = record p { machine = s.machine }

abbrev pub IsRunning : SymState → Type 0
IsRunning s = s.machine.ending ≡ Running

-- within so many turns the run has this ending, which it reaches at turn n
pub record EndsAt (p : Program) (input : List ℕ) (bound n : ℕ) (ending : Ending) : Type 0 where
  pub within : n ≤ bound
  pub runs : (k : ℕ) → k < n → IsRunning (run_from p input k)
  pub ends : (run_from p input n).machine.ending ≡ ending
  pub stays : run_from p input bound ≡ run_from p input n

-- the last of so many turns wrote
abbrev pub WroteLast : Program → List ℕ → ℕ → Type 0
WroteLast p input taken =
    (before : ℕ) × (len : ℕ) × (taken ≡ before + 1) × (asks (program_at p (run_from p input before)) ≡ Output len)

-- the turn behind so many grants a block
abbrev pub GrantsAfter : Program → List ℕ → ℕ → Type 0
GrantsAfter p input taken = GrantsNext (program_at p (run_from p input taken))

-- when a write fails: at a turn that writes, or at the end of the run, where the buffered bytes are written;
-- a run also ends where a turn grants a block for which there is no memory
abbrev pub StopsAt : Program → List ℕ → (bound taken : ℕ) → Type 0
StopsAt p input bound taken = WroteLast p input taken ⊎ (taken ≡ bound)
    ⊎ (IsRunning (run_from p input taken) → ⊥) ⊎ GrantsAfter p input taken

-- the answer of a run of at most `bound` turns, of which so many were taken: an exit counts its own turn; an
-- illegal word and a fault count the turns before; a failed read is no turn, and neither is a step that lacks
-- memory, which would grant a block
abbrev pub Answers : SymEnd → Program → List ℕ → (bound taken : ℕ) → Type 0
Answers (Exited status n) p input bound taken = (taken ≡ n) × EndsAt p input bound taken (Exit status)
Answers (Illegal at n) p input bound taken = (taken ≡ n + 1) × EndsAt p input bound taken (IllegalAt at)
Answers (Fault kind at n) p input bound taken = (taken ≡ n + 1) × EndsAt p input bound taken (FaultAt kind at)
Answers Steps p input bound taken = (taken ≡ bound) × IsRunning (run_from p input taken)
Answers ReadFault p input bound taken = (taken < bound) × IsRunning (run_from p input taken)
Answers WriteFault p input bound taken = (taken ≤ bound) × StopsAt p input bound taken
Answers Memory p input bound taken =
    (taken < bound) × IsRunning (run_from p input taken) × GrantsAfter p input taken

-- the machine is that of the state and doesn't wait, and the source has the rest of the input
pub record IsLeft (p : Program) (s : SymState) (now : Seen Program) (told : Option (List ℕ)) : Type 0 where
  pub machine : now.machine ≡ program_at p s
  pub waits : now.waits ≡ None
  pub left : told ≡ Some s.input

-- what the run leaves of machine and input: after a failed read the machine stands at the read, with the
-- bytes that were taken from the source, which are fewer than the read takes
abbrev pub Leaves : SymEnd → Program → SymState → Seen Program → Option (List ℕ) → Type 0
Leaves (Exited status n) p s now told = IsLeft p s now told
Leaves (Illegal at n) p s now told = IsLeft p s now told
Leaves (Fault kind at n) p s now told = IsLeft p s now told
Leaves Steps p s now told = IsLeft p s now told
Leaves ReadFault p s now told = IsCutOff sym_rules (program_at p s) s.input now told
Leaves WriteFault p s now told = IsLeft p s now told
Leaves Memory p s now told = IsLeft p s now told

-- a run of at most `bound` turns on an input: its answer, the machine before each turn that was taken, what it
-- leaves, and what of its output was written
pub record Ran (end : SymEnd) (bound : ℕ) (p : Program) (input : List ℕ) (now : Seen Program) (told : Option (List ℕ))
    (IsWritten : List ℕ → Type 0) : Type 0 where
  pub taken : ℕ
  pub answer : Answers end p input bound taken
  pub runs : (k : ℕ) → k < taken → IsRunning (run_from p input k)
  pub leaves : Leaves end p (run_from p input taken) now told
  pub output : IsWritten (run_from p input taken).output

-- what an answer says of the machine, whatever the input
abbrev pub EndsAs : SymEnd → ℕ → Seen Program → Type 0
EndsAs (Exited status n) bound now =
    (0 < n) × (n ≤ bound) × (now.machine.machine.ending ≡ Exit status) × (now.waits ≡ None)
EndsAs (Illegal at n) bound now = (n < bound) × (now.machine.machine.ending ≡ IllegalAt at) × (now.waits ≡ None)
EndsAs (Fault kind at n) bound now = (n < bound) × (now.machine.machine.ending ≡ FaultAt kind at) × (now.waits ≡ None)
EndsAs Steps bound now = (now.machine.machine.ending ≡ Running) × (now.waits ≡ None)
EndsAs ReadFault bound now = (now.machine.machine.ending ≡ Running) × IsSome now.waits
EndsAs WriteFault bound now = now.waits ≡ None
EndsAs Memory bound now = (now.machine.machine.ending ≡ Running) × (now.waits ≡ None) × GrantsNext now.machine
