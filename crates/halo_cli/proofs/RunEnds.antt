-- How `run` ends, by what it read and by the run of its file.
use Rattle.std.proofs.Common.{◌≡◌, ℕ, inl, inr, List, Option, None, Some, MatchOption, refl, sym, subst, codes}
use Rattle.halo_outside.specs.Seen.{FilesSeen, SourceSeen, SinkSeen}
use Rattle.elf_read.specs.declared.refusals.ElfRefusal.{ElfRefusal}
use Rattle.elf_read.specs.Refusals.{refusal}
use Rattle.endings.specs.declared.endings.Ending.{Ending}
use Rattle.endings.specs.declared.endings.Ending.TheVariants.{Usage, File}
use Rattle.endings.specs.declared.endings.BadFile.TheVariants.{Refused}
use Rattle.exec_image.specs.declared.refusals.FileRefusal.TheVariants.{Elf}
use Rattle.halo_words.specs.Grammar.{Given, Asked, operand_in}
use Rattle.halo_cli.specs.World.{Outside, OnlyReads, OnlyMoves}
use Rattle.halo_cli.specs.Reads.{AreFirstReads, HasReadCause}
use Rattle.halo_cli.specs.Runs.{RunsTo, RanTo, IsLoadEnding, steps_in}
use Rattle.halo_cli.specs.Run.{run_of_file, FileRuns, LoadBrings, Loads, run_reads, run_entry}
use Rattle.halo_cli.specs.Commands.{Brings}
use Rattle.halo_cli.specs.Ends.{Ends}
use Rattle.halo_cli.proofs.Stopping.{moves_of, no_write, stop_cause}
use Rattle.halo_cli.proofs.RanTo.{ran_cause, no_write_fault}

-- the line that asks for it
abbrev pub asks_run : Given → Asked
asks_run given = record { word = codes "run"; given = given }

-- a file that is read and not refused runs to what its run does
runs_so : (file : List ℕ) (Runs : Ending → Type 0) (ending : Ending) → refusal file ≡ None → Runs ending
    → FileRuns file Runs ending
runs_so file Runs ending none runs =
    subst (λ (found : Option ElfRefusal). MatchOption found (Runs ending) (λ why. ending ≡ File (Refused (Elf why))))
    (sym none) runs

-- after the run
pub run_ends : (line : Given) (file : List ℕ) (before now : Outside)
    → Loads (operand_in line 0) before.files now.files file → OnlyMoves before now
    → ((ending : Ending) → AreFirstReads (run_reads (operand_in line 0)) before.files now.files ending)
    → (ending : Ending) → RanTo (run_of_file file) (steps_in line) before now ending
    → Ends (asks_run line) before now ending
run_ends line file before now loads moves reads ending ran = record {
  cause = ran_cause run_of_file (Loads (operand_in line 0) before.files now.files) (steps_in line) run_entry line before
      now file loads
      (λ e runs. inr (
        file,
        loads.0,
        runs_so file (RunsTo before.input.told (steps_in line) (run_of_file file)) e
            loads.1 runs,
      ))
      (file, loads) (λ rose. inr (rose, (file, loads))) ending ran;
  leaves = inr (file, loads, ran);
  moves = moves;
  reads = reads ending;
}

-- before anything runs the words are a line
never_usage : (name : List ℕ) (before now : FilesSeen) (place : ℕ) → LoadBrings name before now (Usage place) → ⊥
never_usage name before now place (inl (inl (is, lacks))) = cc
never_usage name before now place (inl (inr (is, long))) = cc
never_usage name before now place (inr (file, read, runs)) = at (refusal file) runs
  where
    at : (found : Option ElfRefusal) → MatchOption found ⊥ (λ why. Usage place ≡ File (Refused (Elf why))) → ⊥
    at None none = none
    at (Some why) is = cc

load_brings : (line : Given) (before now : Outside) (ending : Ending)
    → LoadBrings (operand_in line 0) before.files now.files ending → Brings (asks_run line) before now ending
load_brings line before now ending (inl none) = inl none
load_brings line before now ending (inr (file, read, runs)) = inr (file, read, at (refusal file) runs)
  where
    at : (found : Option ElfRefusal) → MatchOption found ⊥ (λ why. ending ≡ File (Refused (Elf why)))
        → MatchOption found (RunsTo before.input.told (steps_in line) (run_of_file file) ending)
        (λ why. ending ≡ File (Refused (Elf why)))
    at None none = absurd none
    at (Some why) is = is

-- before anything runs
pub load_ends : (line : Given) (before now : FilesSeen) (input : SourceSeen) (out : SinkSeen) (ending : Ending)
    → OnlyReads before now → AreFirstReads (run_reads (operand_in line 0)) before now ending
    → IsLoadEnding ending → HasReadCause (LoadBrings (operand_in line 0) before now) before now ending
    → Ends (asks_run line) (record { files = before; input = input; out = out })
    (record { files = now; input = input; out = out }) ending
load_ends line before now input out ending reads first load cause = record {
  cause = stop_cause (asks_run line) (record { files = before; input = input; out = out })
      (record { files = now; input = input; out = out }) (LoadBrings (operand_in line 0) before now)
      (load_brings line (record { files = before; input = input; out = out })
      (record { files = now; input = input; out = out }))
      (λ rose. inl rose) (never_usage (operand_in line 0) before now) ending (no_write_fault ending load) cause;
  leaves = inl (load, (refl, refl));
  moves = moves_of before now input out out reads (no_write out);
  reads = first;
}
