-- How a run of a machine ends, and what stands after it.
use Rattle.std.specs.Prelude.{◌≡◌, ◌⊎◌, ℕ, zero, suc, ◌+◌, ◌-◌, ◌<◌, ◌≤◌, List, [], ◌++◌, Option, Some, None, IsSome}
use Rattle.std.specs.Prelude.{true, length, Result, Ok, Err}
use Rattle.machine_spec.specs.declared.Ending.{Ending}
use Rattle.machine_spec.specs.declared.Ending.TheVariants.{Running, Exit, Illegal as IllegalAt, Fault as FaultAt}
use Rattle.halo_outside.specs.Seen.{SinkSeen, count_after, Rose, Appends, AppendsPrefix}
use Rattle.machine_run.specs.declared.RunEnd.{RunEnd}
use Rattle.machine_run.specs.declared.RunEnd.TheVariants.{Exited, Illegal, Fault, Steps, ReadFault, WriteFault}
use Rattle.machine_run.specs.Machines.{Input, Output, Turned, Rules, Seen, ending_of, fed_with}

-- the machine with the rest of its input and all that it wrote
pub record State (S : Type 0) : Type 0 where
  pub machine : S
  pub input : List ℕ
  pub output : List ℕ

abbrev pub after : {S : Type 0} → Turned S → List ℕ → State S
after t output = record { machine = t.next; input = t.left; output = output ++ t.written }

abbrev pub next : {S : Type 0} → Rules S → State S → State S
next of s = after (of.turn s.input s.machine) s.output

unfoldable pub steps : {S : Type 0} → Rules S → ℕ → State S → State S
steps of zero s = s
steps of (suc n) s = next of (steps of n s)

-- the state so many turns after a machine began with this input
abbrev pub run_from : {S : Type 0} → Rules S → S → List ℕ → ℕ → State S
run_from of m input n = steps of n (record { machine = m; input = input; output = [] })

abbrev pub IsRunning : {S : Type 0} → Rules S → State S → Type 0
IsRunning of s = ending_of of s.machine ≡ Running

-- within so many turns the run has this ending, which it reaches at turn n
pub record EndsAt {S : Type 0} (of : Rules S) (m : S) (input : List ℕ) (bound n : ℕ) (ending : Ending) : Type 0 where
  pub within : n ≤ bound
  pub runs : (k : ℕ) → k < n → IsRunning of (run_from of m input k)
  pub ends : ending_of of (run_from of m input n).machine ≡ ending
  pub stays : run_from of m input bound ≡ run_from of m input n

-- the last of so many turns wrote
abbrev pub WroteLast : {S : Type 0} → Rules S → S → List ℕ → ℕ → Type 0
WroteLast of m input taken =
    (before : ℕ) × (len : ℕ) × (taken ≡ before + 1) × (of.asks (run_from of m input before).machine ≡ Output len)

-- the next step of the machine may want memory of the host
abbrev pub MayLack : {S : Type 0} → Rules S → S → Type 0
MayLack of m = of.may_lack m ≡ true

-- when a write fails: at a turn that writes, or at the end of the run, where the buffered bytes are written;
-- a run also ends where a step wants memory that there isn't
abbrev pub StopsAt : {S : Type 0} → Rules S → S → List ℕ → (bound taken : ℕ) → Type 0
StopsAt of m input bound taken = WroteLast of m input taken ⊎ (taken ≡ bound)
    ⊎ (IsRunning of (run_from of m input taken) → ⊥) ⊎ MayLack of (run_from of m input taken).machine

-- the answer of a run of at most `bound` turns, of which so many were taken: an exit counts its own
-- turn; an illegal word and a fault count the turns before; a failed read is no turn, and neither is a step
-- that lacks memory
abbrev pub Answers : {S E : Type 0} → Rules S → Result RunEnd E → S → List ℕ → (bound taken : ℕ) → Type 0
Answers of (Ok (Exited status n)) m input bound taken = (taken ≡ n) × EndsAt of m input bound taken (Exit status)
Answers of (Ok (Illegal at n)) m input bound taken = (taken ≡ n + 1) × EndsAt of m input bound taken (IllegalAt at)
Answers of (Ok (Fault kind at n)) m input bound taken =
    (taken ≡ n + 1) × EndsAt of m input bound taken (FaultAt kind at)
Answers of (Ok Steps) m input bound taken = (taken ≡ bound) × IsRunning of (run_from of m input taken)
Answers of (Ok ReadFault) m input bound taken = (taken < bound) × IsRunning of (run_from of m input taken)
Answers of (Ok WriteFault) m input bound taken = (taken ≤ bound) × StopsAt of m input bound taken
Answers of (Err lack) m input bound taken =
    (taken < bound) × IsRunning of (run_from of m input taken) × MayLack of (run_from of m input taken).machine

-- the machine is that of the state and doesn't wait, and the source has the rest of the input
pub record IsLeft {S : Type 0} (s : State S) (now : Seen S) (told : Option (List ℕ)) : Type 0 where
  pub machine : now.machine ≡ s.machine
  pub waits : now.waits ≡ None
  pub left : told ≡ Some s.input

-- a machine with this input stands at a read and waits, with the bytes that were taken from the source,
-- which are fewer than the read takes
pub record IsCutOff {S : Type 0} (of : Rules S) (m : S) (input : List ℕ) (now : Seen S) (told : Option (List ℕ)) : Type
    0 where
  pub most : ℕ
  pub at_read : of.asks m ≡ Input most
  pub bytes : List ℕ
  pub rest : List ℕ
  pub fewer : length bytes < most
  pub whole : input ≡ bytes ++ rest
  pub machine : now ≡ fed_with of most m bytes
  pub left : told ≡ Some rest

-- what the run leaves of machine and input
abbrev pub Leaves : {S E : Type 0} → Rules S → Result RunEnd E → State S → Seen S → Option (List ℕ) → Type 0
Leaves of (Ok (Exited status n)) s now told = IsLeft s now told
Leaves of (Ok (Illegal at n)) s now told = IsLeft s now told
Leaves of (Ok (Fault kind at n)) s now told = IsLeft s now told
Leaves of (Ok Steps) s now told = IsLeft s now told
Leaves of (Ok ReadFault) s now told = IsCutOff of s.machine s.input now told
Leaves of (Ok WriteFault) s now told = IsLeft s now told
Leaves of (Err lack) s now told = IsLeft s now told

-- what was appended to the sink: all that was written, or a part where a write failed
abbrev pub Writes : RunEnd → SinkSeen → SinkSeen → List ℕ → Type 0
Writes (Exited status n) before now output = Appends before.told now.told output
Writes (Illegal at n) before now output = Appends before.told now.told output
Writes (Fault kind at n) before now output = Appends before.told now.told output
Writes Steps before now output = Appends before.told now.told output
Writes ReadFault before now output = Appends before.told now.told output
    ⊎ (Rose before.faults now.faults × AppendsPrefix before.told now.told output)
Writes WriteFault before now output = AppendsPrefix before.told now.told output

-- a run that lacks memory has written all
abbrev pub WritesAll : {E : Type 0} → Result RunEnd E → SinkSeen → SinkSeen → List ℕ → Type 0
WritesAll (Ok end) before now output = Writes end before now output
WritesAll (Err lack) before now output = Appends before.told now.told output

-- a run of at most `bound` turns on an input: its answer, the machine before each turn that was taken, what it
-- leaves, and what of its output was written
pub record Ran {S E : Type 0} (of : Rules S) (end : Result RunEnd E) (bound : ℕ) (m : S) (input : List ℕ) (now : Seen S)
    (told : Option (List ℕ)) (IsWritten : List ℕ → Type 0) : Type 0 where
  pub taken : ℕ
  pub answer : Answers of end m input bound taken
  pub runs : (k : ℕ) → k < taken → IsRunning of (run_from of m input k)
  pub leaves : Leaves of end (run_from of m input taken) now told
  pub output : IsWritten (run_from of m input taken).output

-- a source that had these bytes gave up some of the first of them, and counted them
pub record Draws (had : List ℕ) (told : Option (List ℕ)) (before now : ℕ) : Type 0 where
  pub rest : List ℕ
  pub rest_is : told ≡ Some rest
  pub fewer : length rest ≤ length had
  pub counted : now ≡ count_after before (length had - length rest)

-- what an answer says of the machine, whatever the input
abbrev pub EndsAs : {S E : Type 0} → Rules S → Result RunEnd E → ℕ → Seen S → Type 0
EndsAs of (Ok (Exited status n)) bound now =
    (0 < n) × (n ≤ bound) × (ending_of of now.machine ≡ Exit status) × (now.waits ≡ None)
EndsAs of (Ok (Illegal at n)) bound now = (n < bound) × (ending_of of now.machine ≡ IllegalAt at) × (now.waits ≡ None)
EndsAs of (Ok (Fault kind at n)) bound now =
    (n < bound) × (ending_of of now.machine ≡ FaultAt kind at) × (now.waits ≡ None)
EndsAs of (Ok Steps) bound now = (ending_of of now.machine ≡ Running) × (now.waits ≡ None)
EndsAs of (Ok ReadFault) bound now = (ending_of of now.machine ≡ Running) × IsSome now.waits
EndsAs of (Ok WriteFault) bound now = now.waits ≡ None
EndsAs of (Err lack) bound now =
    (ending_of of now.machine ≡ Running) × (now.waits ≡ None) × MayLack of now.machine
