-- `symbols [--steps N] PLAN FILE`: to which ending the plan, the file and the input bring it, and what it does to input
-- and out.
use Rattle.std.specs.Prelude.{◌≡◌, ℕ, ◌+◌, ◌⊎◌, List, Option, None, IsSome, codes}
use Rattle.halo_outside.specs.Seen.{FilesSeen, Contents, Rose}
use Rattle.plan_core.specs.declared.types.Plan.{Plan}
use Rattle.rewriter.specs.Rewrites.{rewrite_refusal}
use Rattle.machine_run.specs.Machines.{Input, Output}
use Rattle.sym_spec.specs.SymNotes.{note}
use Rattle.sym_spec.specs.SymRuns.{SymState, sym_run}
use Rattle.sym_machine.specs.Programs.{Program}
use Rattle.sym_machine.specs.Asks.{asks}
use Rattle.endings.specs.declared.endings.Ending.{Ending}
use Rattle.halo_words.specs.Grammar.{operand_in}
use Rattle.halo_cli.specs.World.{Outside}
use Rattle.halo_cli.specs.PlanAndFile.{IsTextOf, TextComes, ContentsCome, AreRead, BothBring, both_reads}
use Rattle.halo_cli.specs.Runs.{Stand, Run, InputEnds, RunsTo, IsCutAtMemory, RunLeaves, RunDone, steps_in}
use Rattle.halo_cli.specs.Entry.{Entry}

abbrev pub symbol_stand : SymState → Stand
symbol_stand s = record { ending = s.machine.ending; input = s.input; output = s.output }

-- the program of a file under a plan after so many turns on an input
abbrev pub program_after : List ℕ → Plan → List ℕ → ℕ → Program
program_after file plan input n =
    record { file = file; plan = plan; machine = (sym_run file plan input n).machine }

-- the last of so many turns was a write
abbrev pub WroteLast : List ℕ → Plan → List ℕ → ℕ → Type 0
WroteLast file plan input n = (before : ℕ) × (len : ℕ) × (n ≡ before + 1)
    × (asks (program_after file plan input before) ≡ Output len)

-- the turn behind so many grants a block
abbrev pub GrantsNext : List ℕ → Plan → List ℕ → ℕ → Type 0
GrantsNext file plan input n = IsSome (note file plan (sym_run file plan input n).machine).grant

-- the run of a file under a plan, on the symbol machine, which takes memory for blocks as it runs
abbrev pub symbol_run : List ℕ → Plan → Run
symbol_run file plan = record {
  after = λ input n. symbol_stand (sym_run file plan input n);
  wrote = λ input n. WroteLast file plan input n;
  reads = λ input n most. asks (program_after file plan input n) ≡ Input most;
  may_lack = λ input n. GrantsNext file plan input n;
  lacks = Unit {0};
}

-- a plan that fits its file lets it run so
abbrev pub TextRuns : (Run → Ending → Type 0) → List ℕ → List ℕ → Ending → Type 0
TextRuns Runs text file = TextComes (λ plan. Runs (symbol_run file plan)) text file

-- to which ending told contents and a told input bring the command
abbrev pub SymbolsCome : ℕ → List ℕ → List ℕ → Contents → Option (List ℕ) → Ending → Type 0
SymbolsCome steps plan_name file_name contents input ending =
    ContentsCome (TextRuns (InputEnds input steps)) plan_name file_name contents ending

-- to which ending what was read brings the command
abbrev pub SymbolsBring : ℕ → List ℕ → List ℕ → Outside → Outside → Ending → Type 0
SymbolsBring steps plan_name file_name before now ending =
    BothBring (TextRuns (RunsTo before.input.told steps)) plan_name file_name before.files now.files ending

-- a file under a plan
pub record Planned : Type 0 where
  pub file : List ℕ
  pub plan : Plan

abbrev pub run_of_planned : Planned → Run
run_of_planned p = symbol_run p.file p.plan

-- the plan's text and the file were read, and nothing refuses them
abbrev pub LoadsPlanned : List ℕ → List ℕ → FilesSeen → FilesSeen → Planned → Type 0
LoadsPlanned plan_name file_name before now p = (text : List ℕ)
    × AreRead plan_name file_name before now text p.file × IsTextOf text p.plan × (rewrite_refusal p.file p.plan ≡ None)

abbrev pub IsPlanned : List ℕ → List ℕ → FilesSeen → FilesSeen → Type 0
IsPlanned plan_name file_name before now = (p : Planned) × LoadsPlanned plan_name file_name before now p

-- a read failed: of the plan or the file, or of the input of the program that runs
abbrev pub SymbolsFail : List ℕ → List ℕ → Outside → Outside → Type 0
SymbolsFail plan_name file_name before now = Rose before.files.faults now.files.faults
    ⊎ (Rose before.input.faults now.input.faults × IsPlanned plan_name file_name before.files now.files)

-- memory was wanting while the program ran
abbrev pub SymbolsLack : ℕ → List ℕ → List ℕ → Outside → Outside → Type 0
SymbolsLack steps plan_name file_name before now = (p : Planned)
    × LoadsPlanned plan_name file_name before.files now.files p × IsCutAtMemory (run_of_planned p) steps before now

-- the command, with the most steps as its option, and the plan and the file as its operands
abbrev pub symbols_entry : Entry
symbols_entry = record {
  word = codes "symbols";
  reads = λ given. both_reads (operand_in given 0) (operand_in given 1);
  comes = λ given. SymbolsCome (steps_in given) (operand_in given 0) (operand_in given 1);
  brings = λ given. SymbolsBring (steps_in given) (operand_in given 0) (operand_in given 1);
  leaves = λ given before now. RunLeaves run_of_planned
      (LoadsPlanned (operand_in given 0) (operand_in given 1) before.files now.files) (steps_in given) before now;
  started = λ given before now. IsPlanned (operand_in given 0) (operand_in given 1) before.files now.files;
  fails = λ given. SymbolsFail (operand_in given 0) (operand_in given 1);
  lacks = λ given. SymbolsLack (steps_in given) (operand_in given 0) (operand_in given 1);
  done = λ given before now. RunDone run_of_planned
      (LoadsPlanned (operand_in given 0) (operand_in given 1) before.outside.files now.outside.files)
      (steps_in given) before now;
}
