-- `run [--steps N] FILE`: to which ending the file and the input bring it, and what it does to input
-- and out.
use Rattle.std.specs.Prelude.{◌≡◌, ℕ, ◌⊎◌, List, [], ◌∷◌, Option, None, MatchOption, codes}
use Rattle.halo_outside.specs.Seen.{FilesSeen, Contents, contents_of, Rose}
use Rattle.elf_read.specs.Refusals.{refusal}
use Rattle.flat_spec.specs.Machine.{start}
use Rattle.flat_spec.specs.Runs.{State, flat_run}
use Rattle.machine_run.specs.Machines.{Input}
use Rattle.flat_machine.specs.Asks.{asks}
use Rattle.flat_machine.specs.Runs.{WroteLast}
use Rattle.endings.specs.declared.endings.Ending.{Ending}
use Rattle.endings.specs.declared.endings.Ending.TheVariants.{File}
use Rattle.endings.specs.declared.endings.BadFile.TheVariants.{Refused, TooLong}
use Rattle.exec_image.specs.declared.refusals.FileRefusal.TheVariants.{Elf}
use Rattle.halo_words.specs.Grammar.{operand_in}
use Rattle.halo_cli.specs.World.{Outside}
use Rattle.halo_cli.specs.Reads.{run_limit, FileComes, FileRead, IsRead, IsNoFile}
use Rattle.halo_cli.specs.Runs.{Stand, Run, InputEnds, RunsTo, RunLeaves, RunDone, steps_in}
use Rattle.halo_cli.specs.Entry.{Entry}

abbrev pub flat_stand : State → Stand
flat_stand s = record { ending = s.machine.ending; input = s.input; output = s.output }

-- the run of a file as it is, on the flat machine, whose turns want no memory
abbrev pub run_of_file : List ℕ → Run
run_of_file file = record {
  after = λ input n. flat_stand (flat_run file input n);
  wrote = λ input n. WroteLast (start file) input n;
  reads = λ input n most. asks (flat_run file input n).machine ≡ Input most;
  may_lack = λ input n. ⊥;
  lacks = ⊥;
}

-- a file within its limit is refused by the reader's first check that it fails, or runs
abbrev pub FileRuns : List ℕ → (Ending → Type 0) → Ending → Type 0
FileRuns file Runs ending = MatchOption (refusal file) (Runs ending) (λ why. ending ≡ File (Refused (Elf why)))

-- to which ending told contents and a told input bring the command
abbrev pub RunComes : ℕ → List ℕ → Contents → Option (List ℕ) → Ending → Type 0
RunComes steps name contents input ending = FileComes run_limit (contents_of contents name)
    (λ file. FileRuns file (InputEnds input steps (run_of_file file))) ending

-- to which ending what was read brings the command
abbrev pub RunBrings : ℕ → List ℕ → Outside → Outside → Ending → Type 0
RunBrings steps name before now ending = IsNoFile name run_limit before.files now.files ending
    ⊎ ((file : List ℕ) × IsRead name run_limit before.files now.files file
    × FileRuns file (RunsTo before.input.told steps (run_of_file file)) ending)

-- to which ending the file brings the command before anything runs: it is lacking, too long or refused
abbrev pub LoadBrings : List ℕ → FilesSeen → FilesSeen → Ending → Type 0
LoadBrings name before now ending = IsNoFile name run_limit before now ending
    ⊎ ((file : List ℕ) × IsRead name run_limit before now file × FileRuns file (λ e. ⊥) ending)

-- this file was read, and no check refuses it
abbrev pub Loads : List ℕ → FilesSeen → FilesSeen → List ℕ → Type 0
Loads name before now file = IsRead name run_limit before now file × (refusal file ≡ None)

-- a file was read, and no check refuses it
abbrev pub IsLoaded : List ℕ → FilesSeen → FilesSeen → Type 0
IsLoaded name before now = (file : List ℕ) × Loads name before now file

-- a read failed: of the file, or of the input of the program that runs
abbrev pub RunFails : List ℕ → Outside → Outside → Type 0
RunFails name before now = Rose before.files.faults now.files.faults
    ⊎ (Rose before.input.faults now.input.faults × IsLoaded name before.files now.files)

abbrev pub run_reads : List ℕ → List FileRead
run_reads name = record { name = name; limit = run_limit; long = File TooLong } ∷ []

-- the command, with the most steps as its option and the file as its operand
abbrev pub run_entry : Entry
run_entry = record {
  word = codes "run";
  reads = λ given. run_reads (operand_in given 0);
  comes = λ given. RunComes (steps_in given) (operand_in given 0);
  brings = λ given. RunBrings (steps_in given) (operand_in given 0);
  leaves = λ given before now. RunLeaves run_of_file (Loads (operand_in given 0) before.files now.files)
      (steps_in given) before now;
  started = λ given before now. IsLoaded (operand_in given 0) before.files now.files;
  fails = λ given. RunFails (operand_in given 0);
  lacks = λ given before now. ⊥;
  done = λ given before now. RunDone run_of_file
      (Loads (operand_in given 0) before.outside.files now.outside.files) (steps_in given) before now;
}
