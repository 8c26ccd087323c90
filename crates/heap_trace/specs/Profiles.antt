-- The profile of a run: the contexts of its grants and the graph of its events, and how the run ends.
use Rattle.std.specs.Prelude.{◌≡◌, ℕ, ◌+◌, ◌^◌, ◌<◌, ◌≤◌, List, [], ◌++◌, length, Option, Some, Result, Ok, Err}
use Rattle.halo_outside.specs.Seen.{SourceSeen, TellsAlike}
use Rattle.plan_core.specs.declared.types.Area.{Area}
use Rattle.plan_core.specs.declared.types.Plan.{Plan}
use Rattle.plan_core.specs.declared.profiles.Event.{Event}
use Rattle.plan_core.specs.declared.profiles.Profile.{Profile}
use Rattle.affinity.specs.Graphs.{IsGraph}
use Rattle.machine_spec.specs.declared.Ending.TheVariants.{Exit, Illegal as IllegalAt, Fault as FaultAt}
use Rattle.machine_run.specs.Machines.{Input}
use Rattle.machine_run.specs.Runs.{Draws}
use Rattle.sym_spec.specs.SymMachine.{SymMachine, start}
use Rattle.sym_machine.specs.Asks.{asks}
use Rattle.sym_machine.specs.Programs.{Program}
use Rattle.sym_machine.specs.Runs.{EndsAt, IsRunning, program_at, run_from}
use Rattle.heap_trace.specs.declared.profiles.Profiled.{Profiled}
use Rattle.heap_trace.specs.declared.profiles.ProfileEnd.{ProfileEnd}
use Rattle.heap_trace.specs.declared.profiles.ProfileEnd.TheVariants.{Illegal, Fault, Steps, ReadFault, Memory}
use Rattle.heap_trace.specs.Events.{Traced}
use Rattle.heap_trace.specs.Traces.{Traces, Leads}

-- a plan of an area alone: no site is chosen, and all blocks go to the fallback
abbrev pub plan_of_area : Area → Plan
plan_of_area area = record { sites = []; rows = []; area = area }

-- a file that is about to run under a plan
abbrev pub program_of : List ℕ → Plan → Program
program_of file plan = record { file = file; plan = plan; machine = start file plan }

-- the profile of the first n turns of the run on an input, at a distance
pub record IsProfileOf (file : List ℕ) (area : Area) (input : List ℕ) (n distance : ℕ) (p : Profile) : Type 0 where
  pub trace : Traced
  pub events : List Event
  pub traced : Traces file (plan_of_area area) input n trace events
  pub distance_is : p.distance ≡ distance
  pub contexts : p.contexts ≡ trace.contexts
  pub graph : IsGraph distance events p.graph

-- the profile, at a distance, of the first n turns of a run of which each has an input of its own
pub record IsProfileOfTurns (file : List ℕ) (area : Area) (n distance : ℕ) (p : Profile) : Type 0 where
  pub machine : SymMachine
  pub trace : Traced
  pub events : List Event
  pub traced : Leads file (plan_of_area area) n machine trace events
  pub distance_is : p.distance ≡ distance
  pub contexts : p.contexts ≡ trace.contexts
  pub graph : IsGraph distance events p.graph

-- reads of a source: one that tells still tells, no count falls, and what was taken of told bytes is counted
pub record Drawn (before now : SourceSeen) : Type 0 where
  pub tells : TellsAlike before.told now.told
  pub later : before.faults ≤ now.faults
  pub more : before.taken ≤ now.taken
  pub counted : (left : List ℕ) → before.told ≡ Some left → before.taken < 2 ^ 64
      → Draws left now.told before.taken now.taken

-- a program at a read with this input lacks some of what the read takes, and the source has the rest
pub record IsCutInput (p : Program) (input : List ℕ) (told : Option (List ℕ)) : Type 0 where
  pub most : ℕ
  pub at_read : asks p ≡ Input most
  pub bytes : List ℕ
  pub rest : List ℕ
  pub fewer : length bytes < most
  pub whole : input ≡ bytes ++ rest
  pub left : told ≡ Some rest

-- the answer of a run of at most `bound` turns, of which so many were taken: an exit counts its own turn, an
-- illegal word and a fault count the turns before, and a failed read is no turn
abbrev pub Ends : Result (ℕ × ℕ) ProfileEnd → Program → List ℕ → (bound taken : ℕ) → Type 0
Ends (Ok (status, n)) p input bound taken = (taken ≡ n) × EndsAt p input bound taken (Exit status)
Ends (Err (Illegal at n)) p input bound taken = (taken ≡ n + 1) × EndsAt p input bound taken (IllegalAt at)
Ends (Err (Fault kind at n)) p input bound taken = (taken ≡ n + 1) × EndsAt p input bound taken (FaultAt kind at)
Ends (Err Steps) p input bound taken = (taken ≡ bound) × IsRunning (run_from p input taken)
Ends (Err ReadFault) p input bound taken = (taken < bound) × IsRunning (run_from p input taken)
Ends (Err Memory) p input bound taken = taken ≤ bound

-- what the source has left: the rest of the run's input, or less after a failed read
abbrev pub Leaves : Result (ℕ × ℕ) ProfileEnd → Program → List ℕ → (taken : ℕ) → Option (List ℕ) → Type 0
Leaves (Err ReadFault) p input taken told =
    IsCutInput (program_at p (run_from p input taken)) (run_from p input taken).input told
Leaves (Err (Illegal at n)) p input taken told = told ≡ Some (run_from p input taken).input
Leaves (Err (Fault kind at n)) p input taken told = told ≡ Some (run_from p input taken).input
Leaves (Err Steps) p input taken told = told ≡ Some (run_from p input taken).input
Leaves (Err Memory) p input taken told = told ≡ Some (run_from p input taken).input
Leaves (Ok end) p input taken told = told ≡ Some (run_from p input taken).input

-- the exit of a profiled run, or why it gave no profile
abbrev pub ends_of : Result Profiled ProfileEnd → Result (ℕ × ℕ) ProfileEnd
ends_of (Ok p) = Ok (p.status, p.steps)
ends_of (Err end) = Err end

-- a profiled run has the profile of its turns
abbrev pub Profiles : Result Profiled ProfileEnd → List ℕ → Area → List ℕ → (distance taken : ℕ) → Type 0
Profiles (Ok p) file area input distance taken = IsProfileOf file area input taken distance p.profile
Profiles (Err end) file area input distance taken = Unit {0}

-- a run of at most `bound` turns on an input under a plan of an area alone: its answer, its profile, and what the
-- source has left
pub record ProfileRan (end : Result Profiled ProfileEnd) (file : List ℕ) (area : Area) (distance bound : ℕ)
    (input : List ℕ) (told : Option (List ℕ)) : Type 0 where
  pub taken : ℕ
  pub ends : Ends (ends_of end) (program_of file (plan_of_area area)) input bound taken
  pub profile : Profiles end file area input distance taken
  pub leaves : Leaves (ends_of end) (program_of file (plan_of_area area)) input taken told

-- what an answer says of the steps, whatever the input
abbrev pub StepsWithin : Result (ℕ × ℕ) ProfileEnd → ℕ → Type 0
StepsWithin (Ok (status, n)) bound = (0 < n) × (n ≤ bound)
StepsWithin (Err (Illegal at n)) bound = n < bound
StepsWithin (Err (Fault kind at n)) bound = n < bound
StepsWithin (Err Steps) bound = Unit {0}
StepsWithin (Err ReadFault) bound = Unit {0}
StepsWithin (Err Memory) bound = Unit {0}
