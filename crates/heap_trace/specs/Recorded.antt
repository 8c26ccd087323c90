-- What is recorded of a run.
use Rattle.std.specs.Prelude.{◌≡◌, ℕ, List, Option, Some, Result, Ok, Err}
use Rattle.sym_machine.specs.Programs.{Program, turn}
use Rattle.sym_spec.specs.SymMachine.{SymMachine}
use Rattle.plan_core.specs.declared.types.Plan.{Plan}
use Rattle.plan_core.specs.declared.profiles.Event.{Event}
use Rattle.affinity.specs.Pushed.{Pushed}
use Rattle.heap_trace.specs.declared.profiles.ProfileEnd.{ProfileEnd}
use Rattle.heap_trace.specs.declared.recording.Recording.{Recording}
use Rattle.heap_trace.specs.Profiles.{program_of, Ends, Leaves}
use Rattle.heap_trace.specs.Traces.{Traces, Leads, IsLegalTrace}

-- the trace and the affinity of the first n turns of a run
abbrev pub HasTurns : List ℕ → Plan → List ℕ → ℕ → Recording → Type 0
HasTurns file plan input n r =
    (events : List Event) × Traces file plan input n r.trace events × Pushed r.affinity events

-- the same of n turns of which each has an input of its own
abbrev pub HasOwnTurns : List ℕ → Plan → ℕ → Recording → Type 0
HasOwnTurns file plan n r =
    (machine : SymMachine) × (events : List Event) × Leads file plan n machine r.trace events × Pushed r.affinity events

abbrev pub HasRun : Result (ℕ × ℕ) ProfileEnd → List ℕ → Plan → List ℕ → ℕ → Recording → Type 0
HasRun (Ok end) file plan input taken r = HasTurns file plan input taken r
HasRun (Err end) file plan input taken r = Unit {0}

-- a run of at most `bound` turns that was recorded: its answer, what the source has left, and at an exit the
-- trace and the affinity of its turns
pub record Recorded (end : Result (ℕ × ℕ) ProfileEnd) (file : List ℕ) (plan : Plan) (bound : ℕ) (input : List ℕ)
    (told : Option (List ℕ)) (r : Recording) : Type 0 where
  pub taken : ℕ
  pub ends : Ends end (program_of file plan) input bound taken
  pub leaves : Leaves end (program_of file plan) input taken told
  pub has : HasRun end file plan input taken r

-- whatever the input was, the affinity stands for a legal list of events, which names the contexts of the trace
abbrev pub IsLegal : Recording → Type 0
IsLegal r = (events : List Event) × Pushed r.affinity events × IsLegalTrace 4294967295 r.trace events

-- what a turn on an input leads to, and what the source has left
pub record LedTo (input : List ℕ) (p : Program) (next : Program) (told : Option (List ℕ)) : Type 0 where
  pub next_is : next ≡ (turn input p).next
  pub left_is : told ≡ Some (turn input p).left
