-- A turn of a machine with a source, a sink and a buffer before the sink.
use Rattle.std.specs.Prelude.{◌≡◌, ◌⊎◌, ℕ, ◌<◌, List, [], ◌++◌, length, Option, Some, None, Result, Ok, Err}
use Rattle.halo_outside.specs.Seen.{SinkSeen, Rose, Appends, AppendsPrefix}
use Rattle.machine_run.specs.declared.serving.Cut.{Cut}
use Rattle.machine_run.specs.declared.serving.Cut.TheVariants.{AtRead, AtWrite, NoMemory}
use Rattle.machine_run.specs.declared.RunEnd.{RunEnd}
use Rattle.machine_run.specs.declared.RunEnd.TheVariants.{Exited, Illegal, Fault, Steps, ReadFault, WriteFault}
use Rattle.machine_run.specs.Machines.{Output, Turned, Rules, Seen, fed_with}
use Rattle.machine_run.specs.Steps.{IsWholeRead}
use Rattle.machine_run.specs.Runs.{IsCutOff}
use Rattle.machine_run.specs.Output.{Passes}

-- a machine at a read of at most so many bytes was fed some of the input, which the source has lost
pub record IsFedFrom {S : Type 0} (of : Rules S) (most : ℕ) (m : S) (input : List ℕ) (now : Seen S)
    (told : Option (List ℕ)) : Type 0 where
  pub bytes : List ℕ
  pub rest : List ℕ
  pub whole : input ≡ bytes ++ rest
  pub machine : now ≡ fed_with of most m bytes
  pub left : told ≡ Some rest

-- the read lacks some of its input
pub record IsFedPart {S : Type 0} (of : Rules S) (most : ℕ) (m : S) (input : List ℕ) (now : Seen S)
    (told : Option (List ℕ)) : Type 0 where
  pub part : IsFedFrom of most m input now told
  pub fewer : length part.bytes < most

-- the read has all of its input
pub record IsFedWhole {S : Type 0} (of : Rules S) (most : ℕ) (m : S) (input : List ℕ) (now : Seen S)
    (told : Option (List ℕ)) : Type 0 where
  pub part : IsFedFrom of most m input now told
  pub all : IsWholeRead most part.bytes part.rest

-- the turn is done, with the machine and what the source has left
pub record IsDone {S : Type 0} (t : Turned S) (now : Seen S) (told : Option (List ℕ)) : Type 0 where
  pub machine : now.machine ≡ t.next
  pub waits : now.waits ≡ None
  pub left : told ≡ Some t.left

-- a turn on an input is done, and its bytes went to the buffer or to the sink; or a read failed; or the
-- turn is done and a write failed; or the step lacked memory, and all is as before
abbrev pub Serves : {S : Type 0} → Rules S → Result Unit Cut → S → List ℕ → Seen S → Option (List ℕ) → Option (List ℕ)
    → Option (List ℕ) → List ℕ → List ℕ → Type 0
Serves of (Ok done) m input now left told told' pending pending' =
    IsDone (of.turn input m) now left × Passes told told' pending pending' (of.turn input m).written
Serves of (Err AtRead) m input now left told told' pending pending' =
    IsCutOff of m input now left × (told' ≡ told) × (pending' ≡ pending)
Serves of (Err AtWrite) m input now left told told' pending pending' =
    IsDone (of.turn input m) now left × AppendsPrefix told told' (pending ++ (of.turn input m).written)
    × ((len : ℕ) × of.asks m ≡ Output len)
Serves of (Err NoMemory) m input now left told told' pending pending' =
    (now.machine ≡ m) × (now.waits ≡ None) × (left ≡ Some input) × (told' ≡ told) × (pending' ≡ pending)

-- what a run wrote, where some of it stands in the buffer
abbrev pub Holds : {E : Type 0} → Result RunEnd E → Option (List ℕ) → Option (List ℕ) → List ℕ → List ℕ → Type 0
Holds (Ok (Exited status n)) told told' pending output = Passes told told' [] pending output
Holds (Ok (Illegal at n)) told told' pending output = Passes told told' [] pending output
Holds (Ok (Fault kind at n)) told told' pending output = Passes told told' [] pending output
Holds (Ok Steps) told told' pending output = Passes told told' [] pending output
Holds (Ok ReadFault) told told' pending output = Passes told told' [] pending output
Holds (Ok WriteFault) told told' pending output = AppendsPrefix told told' output
Holds (Err lack) told told' pending output = Passes told told' [] pending output

-- the buffer was written, or that failed
abbrev pub IsFlushed : {E : Type 0} → Result RunEnd E → Result RunEnd E → SinkSeen → SinkSeen → List ℕ → Type 0
IsFlushed end result before now pending =
    ((result ≡ end) × Appends before.told now.told pending)
    ⊎ ((result ≡ Ok WriteFault) × Rose before.faults now.faults × AppendsPrefix before.told now.told pending)

-- how a run ends once the buffer was written: a failed write makes any other end but a failed read a failed write
abbrev pub Finishes : {E : Type 0} → Result RunEnd E → Result RunEnd E → SinkSeen → SinkSeen → List ℕ → Type 0
Finishes (Ok (Exited status n)) result before now pending = IsFlushed (Ok (Exited status n)) result before now pending
Finishes (Ok (Illegal at n)) result before now pending = IsFlushed (Ok (Illegal at n)) result before now pending
Finishes (Ok (Fault kind at n)) result before now pending = IsFlushed (Ok (Fault kind at n)) result before now pending
Finishes (Ok Steps) result before now pending = IsFlushed (Ok Steps) result before now pending
Finishes (Ok ReadFault) result before now pending = (result ≡ Ok ReadFault)
    × (Appends before.told now.told pending
    ⊎ (Rose before.faults now.faults × AppendsPrefix before.told now.told pending))
Finishes (Ok WriteFault) result before now pending = (result ≡ Ok WriteFault) × (now ≡ before)
Finishes (Err lack) result before now pending = IsFlushed (Err lack) result before now pending
