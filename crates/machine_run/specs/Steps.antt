-- What a step of a machine answers and does.
use Rattle.std.specs.Prelude.{◌≡◌, ◌⊎◌, ℕ, List, [], ◌++◌, length, Option, Some, None}
use Rattle.machine_spec.specs.declared.Ending.{Ending}
use Rattle.machine_spec.specs.declared.Ending.TheVariants.{Running, Exit, Illegal as IllegalAt, Fault as FaultAt}
use Rattle.machine_run.specs.declared.Stepped.{Stepped}
use Rattle.machine_run.specs.declared.Stepped.TheVariants.{Went, Wrote, WantsInput, Exited, Illegal, Fault}
use Rattle.machine_run.specs.declared.pause.Pause.{Pause}
use Rattle.machine_run.specs.declared.pause.Pause.TheVariants as pause
use Rattle.machine_run.specs.Machines.{Asks, Nothing, Input, Output, Rules, Wait, Seen, ending_of, fed_with}

-- the answer of a step at which a machine asked for something and after which it has this ending
abbrev pub answer_to : Asks → Ending → Stepped
answer_to (Input most) ending = WantsInput most
answer_to (Output len) ending = Wrote len
answer_to Nothing Running = Went
answer_to Nothing (Exit status) = Exited status
answer_to Nothing (IllegalAt at) = Illegal at
answer_to Nothing (FaultAt kind at) = Fault kind at

-- where a machine stands after a step
abbrev pub paused_by : Stepped → Pause
paused_by (Wrote len) = pause.Output len
paused_by (WantsInput len) = pause.Input len 0
paused_by Went = pause.Nothing
paused_by (Exited status) = pause.Nothing
paused_by (Illegal at) = pause.Nothing
paused_by (Fault kind at) = pause.Nothing

-- whether a machine that stands so waits
abbrev pub waits_of : Pause → Option Wait
waits_of pause.Nothing = None
waits_of (pause.Output len) = None
waits_of (pause.Input len fed) = Some (record { len = len; fed = fed })

-- a step is a turn, which leaves the input as it is
abbrev pub IsTurn : {S : Type 0} → Rules S → List ℕ → S → Seen S → Type 0
IsTurn of input m new = (new.waits ≡ None)
    × (of.turn input m ≡ record { next = new.machine; written = new.written; left = input })

-- and that writes nothing
abbrev pub IsQuietTurn : {S : Type 0} → Rules S → List ℕ → S → Seen S → Type 0
IsQuietTurn of input m new = (new.written ≡ []) × IsTurn of input m new

-- what stands after a step by its answer: at a read that wants input the machine waits and runs,
-- else the step is a turn; one that writes stood at a write
abbrev pub StepsTo : {S : Type 0} → Rules S → Stepped → List ℕ → S → Seen S → Type 0
StepsTo of (WantsInput len) input m new =
    (of.asks m ≡ Input len) × (new ≡ fed_with of len m []) × (ending_of of new.machine ≡ Running)
StepsTo of (Wrote len) input m new = (of.asks m ≡ Output len) × (length new.written ≡ len) × IsTurn of input m new
StepsTo of Went input m new = IsQuietTurn of input m new
StepsTo of (Exited status) input m new = IsQuietTurn of input m new
StepsTo of (Illegal at) input m new = IsQuietTurn of input m new
StepsTo of (Fault kind at) input m new = IsQuietTurn of input m new

-- these bytes are all that a read of at most so many takes, where the rest is left
abbrev pub IsWholeRead : ℕ → List ℕ → List ℕ → Type 0
IsWholeRead most bytes rest = (length bytes ≡ most) ⊎ (rest ≡ [])

-- the read has all of its input and its turn is done
abbrev pub EndsRead : {S : Type 0} → Rules S → Seen S → Seen S → Type 0
EndsRead {S} of old new = (m : S) (len : ℕ) (bytes rest : List ℕ) → of.asks m ≡ Input len
    → old ≡ fed_with of len m bytes
    → IsWholeRead len bytes rest → of.turn (bytes ++ rest) m ≡ record { next = new.machine; written = []; left = rest }
