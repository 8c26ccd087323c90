-- How `symbols` ends, by what it read and by the run of its file under its plan.
use Rattle.std.proofs.Common.{◌≡◌, ◌≢◌, ◌⊎◌, ℕ, inl, inr, List, refl, sym, subst, codes}
use Rattle.halo_outside.specs.Seen.{FilesSeen, SourceSeen, SinkSeen}
use Rattle.plan_core.specs.declared.types.Plan.{Plan}
use Rattle.endings.specs.declared.endings.Ending.{Ending}
use Rattle.endings.specs.declared.endings.Ending.TheVariants.{Usage, Memory}
use Rattle.halo_words.specs.Grammar.{Given, Asked, operand_in}
use Rattle.halo_cli.specs.World.{Outside, OnlyReads, OnlyMoves}
use Rattle.halo_cli.specs.Reads.{AreFirstReads, HasReadCause}
use Rattle.halo_cli.specs.Writing.{IsUnmoved}
use Rattle.halo_cli.specs.PlanAndFile.{BothBring, both_reads}
use Rattle.halo_cli.specs.Runs.{RunsTo, RanTo, IsLoadEnding, steps_in}
use Rattle.halo_cli.specs.Symbols.{symbol_run, TextRuns, Planned, run_of_planned, LoadsPlanned, symbols_entry}
use Rattle.halo_cli.specs.Commands.{Brings}
use Rattle.halo_cli.specs.Ends.{Ends}
use Rattle.halo_cli.proofs.Stopping.{moves_of, no_write, stop_cause}
use Rattle.halo_cli.proofs.PlanAndFileDue.{fits_so, of_text, of_both, text_weaker, both_weaker}
use Rattle.halo_cli.proofs.RanTo.{ran_cause, no_write_fault}

-- the line that asks for it
abbrev pub asks_symbols : Given → Asked
asks_symbols given = record { word = codes "symbols"; given = given }

-- after the run
symbols_ends : (line : Given) (p : Planned) (before now : Outside)
    → LoadsPlanned (operand_in line 0) (operand_in line 1) before.files now.files p → OnlyMoves before now
    → ((ending : Ending) → AreFirstReads (both_reads (operand_in line 0) (operand_in line 1)) before.files now.files
    ending)
    → (ending : Ending) → RanTo (run_of_planned p) (steps_in line) before now ending
    → Ends (asks_symbols line) before now ending
symbols_ends line p before now (text, read, spells, none) moves reads ending ran = record {
  cause = ran_cause run_of_planned (LoadsPlanned (operand_in line 0) (operand_in line 1) before.files now.files)
      (steps_in line) symbols_entry line before now p (text, read, spells, none)
      (λ e runs. inr (inr (
        text,
        p.file,
        read,
        inr (inr (
          p.plan,
          spells,
          fits_so p.file (λ plan. RunsTo before.input.told (steps_in line) (symbol_run p.file plan)) p.plan e none runs,
        )),
      )))
      (p, (text, read, spells, none)) (λ rose. inr (rose, (p, (text, read, spells, none)))) ending ran;
  leaves = inr (p, (text, read, spells, none), ran);
  moves = moves;
  reads = reads ending;
}

-- after the run, or where there was no memory for the machine
pub symbols_done : (line : Given) (p : Planned) (before now : Outside)
    → LoadsPlanned (operand_in line 0) (operand_in line 1) before.files now.files p → OnlyMoves before now
    → ((ending : Ending) → AreFirstReads (both_reads (operand_in line 0) (operand_in line 1)) before.files now.files
    ending)
    → (ending : Ending)
    → ((ending ≡ Memory) × IsUnmoved before now) ⊎ RanTo (run_of_planned p) (steps_in line) before now ending
    → Ends (asks_symbols line) before now ending
symbols_done line p before now loads moves reads ending (inl (is, unmoved)) =
    subst (λ e. Ends (asks_symbols line) before now e) (sym is)
    (record { cause = tt; leaves = inl (tt, unmoved); moves = moves; reads = reads Memory })
symbols_done line p before now loads moves reads ending (inr ran) =
    symbols_ends line p before now loads moves reads ending ran

-- before anything runs the words are a line
never_usage : (plan_name file_name : List ℕ) (before now : FilesSeen) (place : ℕ)
    → BothBring (TextRuns (λ run ending. ⊥)) plan_name file_name before now (Usage place) → ⊥
never_usage plan_name file_name before now place brings =
    of_both (λ e. e ≢ Usage place) (λ why is. cc) (λ why is. cc) (λ is. cc) (TextRuns (λ run ending. ⊥))
    plan_name file_name before now (Usage place) (λ is. absurd (cc))
    (λ text file comes. of_text (λ e. e ≢ Usage place) (λ why is. cc) (λ why is. cc) (λ is. cc)
    (λ (plan : Plan) ending. ⊥) text file (Usage place) (λ plan none. absurd none) comes)
    brings refl

load_brings : (line : Given) (before now : Outside) (ending : Ending)
    → BothBring (TextRuns (λ run ending. ⊥)) (operand_in line 0) (operand_in line 1) before.files now.files ending
    → Brings (asks_symbols line) before now ending
load_brings line before now ending brings =
    both_weaker (TextRuns (λ run ending. ⊥)) (TextRuns (RunsTo before.input.told (steps_in line)))
    (operand_in line 0) (operand_in line 1) before.files now.files ending
    (λ text file comes. text_weaker (λ plan ending. ⊥)
    (λ plan. RunsTo before.input.told (steps_in line) (symbol_run file plan)) text file ending
    (λ plan none. absurd none) comes)
    brings

-- before anything runs
pub symbols_stop : (line : Given) (before now : FilesSeen) (input : SourceSeen) (out : SinkSeen) (ending : Ending)
    → OnlyReads before now → AreFirstReads (both_reads (operand_in line 0) (operand_in line 1)) before now ending
    → IsLoadEnding ending
    → HasReadCause (BothBring (TextRuns (λ run ending. ⊥)) (operand_in line 0) (operand_in line 1) before now)
    before now ending
    → Ends (asks_symbols line) (record { files = before; input = input; out = out })
    (record { files = now; input = input; out = out }) ending
symbols_stop line before now input out ending reads first load cause = record {
  cause = stop_cause (asks_symbols line) (record { files = before; input = input; out = out })
      (record { files = now; input = input; out = out })
      (BothBring (TextRuns (λ run ending. ⊥)) (operand_in line 0) (operand_in line 1) before now)
      (load_brings line (record { files = before; input = input; out = out })
      (record { files = now; input = input; out = out }))
      (λ rose. inl rose) (never_usage (operand_in line 0) (operand_in line 1) before now) ending
      (no_write_fault ending load) cause;
  leaves = inl (load, (refl, refl));
  moves = moves_of before now input out out reads (no_write out);
  reads = first;
}
