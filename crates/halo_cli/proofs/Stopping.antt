-- How a command ends before it writes, by what it made of the files that it read.
use Rattle.std.proofs.Common.{◌≢◌, ℕ, inl, inr, List, refl, arith}
use Rattle.halo_outside.specs.Seen.{FilesSeen, SourceSeen, SinkSeen, Rose}
use Rattle.endings.specs.declared.endings.Ending.{Ending}
use Rattle.endings.specs.declared.endings.Ending.TheVariants.{Done, Exited, Usage, File, Plan, Profile, ReadFault}
use Rattle.endings.specs.declared.endings.Ending.TheVariants.{WriteFault, Memory, StillRunning, Fault, Illegal}
use Rattle.halo_words.specs.Grammar.{Given, Asked}
use Rattle.halo_cli.specs.World.{Outside, OnlyReads, OnlyWrites, OnlyMoves}
use Rattle.halo_cli.specs.Reads.{HasReadCause}
use Rattle.halo_cli.specs.Writing.{IsStop, WritesOnce}
use Rattle.halo_cli.specs.Entry.{Entry}
use Rattle.halo_cli.specs.Commands.{entry_of, Brings, ReadFails}
use Rattle.halo_cli.specs.Ends.{HasCauseOf, HasCause}

-- it read files, and wrote to out alone
pub moves_of : (before now : FilesSeen) (input : SourceSeen) (old new : SinkSeen) → OnlyReads before now
    → OnlyWrites old new
    → OnlyMoves (record { files = before; input = input; out = old }) (record { files = now; input = input; out = new })
moves_of before now input old new reads writes = record {
  files = reads;
  input = record { tells = refl; faults = omega arith; taken = omega arith };
  out = writes;
}

pub no_read : (files : FilesSeen) → OnlyReads files files
no_read files = record { told = refl; faults = omega arith; taken = omega arith }

pub no_write : (out : SinkSeen) → OnlyWrites out out
no_write out = record { tells = refl; later = omega arith }

-- where it ends before anything was written, out is as before
pub stop_leaves : (Text : List ℕ → Type 0) (before now : FilesSeen) (input : SourceSeen) (out : SinkSeen)
    (ending : Ending)
    → IsStop ending
    → WritesOnce Text (record { files = before; input = input; out = out })
    (record { files = now; input = input; out = out }) ending
stop_leaves Text before now input out ending stop = record {
  input = refl;
  done = λ is. absurd (stop.0 is);
  write_fault = λ is. absurd (stop.1 is);
  silent = λ before_writes. refl;
}

-- and the cause of the ending is that of its reads
module _ (entry : Entry) (given : Given) (before now : Outside) (Due : Ending → Type 0)
    (brings : (ending : Ending) → Due ending → entry.brings given before now ending)
    (fails : Rose before.files.faults now.files.faults → entry.fails given before now)
    (never : (place : ℕ) → Due (Usage place) → ⊥) where
  pub stop_cause_of : (ending : Ending) → ending ≢ WriteFault
      → HasReadCause Due before.files now.files ending → HasCauseOf entry given before now ending
  stop_cause_of Done stop cause = brings Done cause
  stop_cause_of (Exited status steps) stop cause = brings (Exited status steps) cause
  stop_cause_of (Usage place) stop cause = absurd (never place cause)
  stop_cause_of (File why) stop cause = brings (File why) cause
  stop_cause_of (Plan why) stop cause = brings (Plan why) cause
  stop_cause_of (Profile why) stop cause = brings (Profile why) cause
  stop_cause_of ReadFault stop (inl rose) = inl (fails rose)
  stop_cause_of ReadFault stop (inr due) = inr (brings ReadFault due)
  stop_cause_of WriteFault stop cause = absurd (stop refl)
  stop_cause_of Memory stop cause = tt
  stop_cause_of (StillRunning steps) stop cause = brings (StillRunning steps) cause
  stop_cause_of (Fault kind at steps) stop cause = brings (Fault kind at steps) cause
  stop_cause_of (Illegal at steps) stop cause = brings (Illegal at steps) cause

-- of a command that uses no policy
pub stop_cause : (asked : Asked) (before now : Outside) (Due : Ending → Type 0)
    → ((ending : Ending) → Due ending → Brings asked before now ending)
    → (Rose before.files.faults now.files.faults → ReadFails asked before now)
    → ((place : ℕ) → Due (Usage place) → ⊥)
    → (ending : Ending) → ending ≢ WriteFault → HasReadCause Due before.files now.files ending
    → HasCause asked before now ending
stop_cause asked = stop_cause_of (entry_of asked) asked.given
