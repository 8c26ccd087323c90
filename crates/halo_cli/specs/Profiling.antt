-- Commands that profile the run of a file under an area alone, and then write one text: to which ending the file and
-- the input bring one, and what it does to input and out.
use Rattle.std.specs.Prelude.{◌≡◌, ◌≢◌, ℕ, ◌+◌, ◌<◌, ◌≤◌, ◌⊎◌, List, [], ◌∷◌, Option, None, Some, MatchOption, codes}
use Rattle.halo_outside.specs.Seen.{Contents, contents_of, Rose, Appends, AppendsPrefix}
use Rattle.plan_core.specs.declared.types.Area.{Area}
use Rattle.plan_core.specs.declared.profiles.Profile.{Profile}
use Rattle.machine_spec.specs.declared.Ending.TheVariants as machine
use Rattle.exec_image.specs.declared.refusals.FileRefusal.{FileRefusal}
use Rattle.exec_image.specs.Refusals.{file_refusal}
use Rattle.exec_image.specs.Images.{IsAccepted}
use Rattle.heap_trace.specs.declared.profiles.Profiled.{Profiled}
use Rattle.heap_trace.specs.declared.profiles.ProfileEnd.{ProfileEnd}
use Rattle.heap_trace.specs.declared.profiles.ProfileEnd.TheVariants as end
use Rattle.heap_trace.specs.Profiles.{plan_of_area, IsProfileOf, IsProfileOfTurns}
use Rattle.endings.specs.declared.endings.Ending.{Ending}
use Rattle.endings.specs.declared.endings.Ending.TheVariants.{Done, File, ReadFault, WriteFault, Memory, Exited}
use Rattle.endings.specs.declared.endings.Ending.TheVariants.{StillRunning, Fault, Illegal}
use Rattle.endings.specs.declared.endings.BadFile.TheVariants.{Refused, TooLong}
use Rattle.halo_words.specs.Grammar.{Given, operand_in}
use Rattle.halo_cli.specs.World.{Outside}
use Rattle.halo_cli.specs.Reads.{file_limit, FileComes, FileRead, IsRead, IsNoFile}
use Rattle.halo_cli.specs.Options.{number_in, area_in}
use Rattle.halo_cli.specs.Runs.{Run, ending_at, InputEnds, RunsTo, HasRest, HasPart, IsLoadEnding, steps_in}
use Rattle.halo_cli.specs.Symbols.{symbol_run}
use Rattle.halo_cli.specs.Entry.{Entry}

-- the run of a file under an area alone, on the symbol machine: no site is chosen, and all blocks go to the fallback
abbrev pub area_run : List ℕ → Area → Run
area_run file area = symbol_run file (plan_of_area area)

-- the distance in bytes at which blocks are near each other
abbrev pub distance_in : Given → ℕ
distance_in given = number_in 4096 given (codes "distance")

-- ---- how a profiled run ends

-- the ending of the command, by that of the run: after an exit it goes on to its text
abbrev pub behind_run : Ending → Ending
behind_run (Exited status steps) = Done
behind_run ending = ending

abbrev pub ComesBehind : (Ending → Type 0) → Ending → Type 0
ComesBehind Runs ending = (end : Ending) × Runs end × (ending ≡ behind_run end)

-- a file within its limit is refused by the first check that it fails, or runs
abbrev pub FileComesBehind : List ℕ → (Ending → Type 0) → Ending → Type 0
FileComesBehind file Runs ending =
    MatchOption (file_refusal file) (ComesBehind Runs ending) (λ why. ending ≡ File (Refused why))

-- to which ending told contents and a told input bring the command
abbrev pub ProfilingComes : Given → Contents → Option (List ℕ) → Ending → Type 0
ProfilingComes given contents input ending = FileComes file_limit (contents_of contents (operand_in given 0))
    (λ file. FileComesBehind file (InputEnds input (steps_in given) (area_run file (area_in given)))) ending

-- to which ending what was read brings the command
abbrev pub ProfilingBrings : Given → Outside → Outside → Ending → Type 0
ProfilingBrings given before now ending = IsNoFile (operand_in given 0) file_limit before.files now.files ending
    ⊎ ((file : List ℕ) × IsRead (operand_in given 0) file_limit before.files now.files file
    × FileComesBehind file (RunsTo before.input.told (steps_in given) (area_run file (area_in given))) ending)

-- ---- what it leaves of the input, and its profile

-- behind its first n turns the run left its rest of a told input
abbrev pub LeftRest : Run → ℕ → Outside → Outside → Type 0
LeftRest run n before now = (given : List ℕ) → before.input.told ≡ Some given → HasRest (run.after given n) now

-- behind some of its first turns
abbrev pub LeftSome : Run → ℕ → Outside → Outside → Type 0
LeftSome run bound before now = (given : List ℕ) → before.input.told ≡ Some given
    → (n : ℕ) × (n ≤ bound) × HasRest (run.after given n) now

-- in a read behind some of its first turns
abbrev pub LeftPart : Run → ℕ → Outside → Outside → Type 0
LeftPart run bound before now = (given : List ℕ) → before.input.told ≡ Some given
    → (n : ℕ) × (n < bound) × (ending_at run given n ≡ machine.Running)
    × HasPart (run.reads given n) (run.after given n) now

-- a run of at most `bound` turns gave no profile, and the command ends so
abbrev pub RunStopped : Run → ℕ → Outside → Outside → Ending → Type 0
RunStopped run bound before now (StillRunning steps) =
    RunsTo before.input.told bound run (StillRunning steps) × LeftRest run steps before now
RunStopped run bound before now (Fault kind at steps) =
    RunsTo before.input.told bound run (Fault kind at steps) × LeftRest run (steps + 1) before now
RunStopped run bound before now (Illegal at steps) =
    RunsTo before.input.told bound run (Illegal at steps) × LeftRest run (steps + 1) before now
RunStopped run bound before now ReadFault =
    Rose before.input.faults now.input.faults × LeftPart run bound before now
RunStopped run bound before now Memory = LeftSome run bound before now
RunStopped run bound before now _ = ⊥

-- by the answer of a run of at most so many steps
abbrev pub ending_of_profile : ProfileEnd → ℕ → Ending
ending_of_profile (end.Illegal at steps) bound = Illegal at steps
ending_of_profile (end.Fault kind at steps) bound = Fault kind at steps
ending_of_profile end.Steps bound = StillRunning bound
ending_of_profile end.ReadFault bound = ReadFault
ending_of_profile end.Memory bound = Memory

-- a file is refused by the first check that it fails, or its run gave no profile, or memory was wanting before it
abbrev pub FileStops : List ℕ → Area → ℕ → Outside → Outside → Ending → Type 0
FileStops file area bound before now ending = ((ending ≡ Memory) × (now.input ≡ before.input))
    ⊎ ((why : FileRefusal) × (file_refusal file ≡ Some why) × (ending ≡ File (Refused why))
    × (now.input ≡ before.input))
    ⊎ (IsAccepted file × RunStopped (area_run file area) bound before now ending)

-- the profile of a run's first n turns; where the input isn't told, each of these turns has one of its own
abbrev pub IsProfileBy : Option (List ℕ) → List ℕ → Area → (n distance : ℕ) → Profile → Type 0
IsProfileBy None file area n distance p = IsProfileOfTurns file area n distance p
IsProfileBy (Some input) file area n distance p = IsProfileOf file area input n distance p

-- a run of at most `bound` turns exited, and this is its profile
pub record RunProfiled (file : List ℕ) (area : Area) (distance bound : ℕ) (before now : Outside) (p : Profiled)
    : Type 0 where
  pub exits : RunsTo before.input.told bound (area_run file area) (Exited p.status p.steps)
  pub profile : IsProfileBy before.input.told file area p.steps distance p.profile
  pub left : LeftRest (area_run file area) p.steps before now

-- ---- what the command does

-- this file was read, and no check refuses it
abbrev pub AcceptsFile : Given → Outside → Outside → List ℕ → Type 0
AcceptsFile given before now file =
    IsRead (operand_in given 0) file_limit before.files now.files file × IsAccepted file

-- it ends so before it writes: before its file runs, or where the run gave no profile, or for want of memory
abbrev pub ProfilingStops : Given → Outside → Outside → Ending → Type 0
ProfilingStops given before now ending = (now.out ≡ before.out)
    × ((IsLoadEnding ending × (ending ≢ Done) × (now.input ≡ before.input))
    ⊎ ((file : List ℕ) × AcceptsFile given before now file
    × RunStopped (area_run file (area_in given)) (steps_in given) before now ending))

-- its file has this profile by the run, and this text is due
pub record MadeText (Writes : Given → List ℕ → Profile → List ℕ → Type 0) (given : Given) (before now : Outside)
    (text : List ℕ) : Type 0 where
  pub file : List ℕ
  pub accepts : AcceptsFile given before now file
  pub profiled : Profiled
  pub ran : RunProfiled file (area_in given) (distance_in given) (steps_in given) before now profiled
  pub writes : Writes given file profiled.profile text

-- where it is done, the whole text is on out; where out failed, a prefix of it
abbrev pub ProfilingWrites : (Given → List ℕ → Profile → List ℕ → Type 0) → Given → Outside → Outside → Ending → Type 0
ProfilingWrites Writes given before now Done =
    (text : List ℕ) × MadeText Writes given before now text × Appends before.out.told now.out.told text
ProfilingWrites Writes given before now WriteFault =
    (text : List ℕ) × MadeText Writes given before now text × AppendsPrefix before.out.told now.out.told text
ProfilingWrites Writes given before now _ = ⊥

-- a read failed: of the file, or of the input of the program that runs
abbrev pub ProfilingFails : Given → Outside → Outside → Type 0
ProfilingFails given before now = Rose before.files.faults now.files.faults
    ⊎ (Rose before.input.faults now.input.faults × ((file : List ℕ) × AcceptsFile given before now file))

-- the cause of an ending before it writes: what was read brings it there, or a read failed, or memory was wanting
abbrev pub ProfilingCause : Given → Outside → Outside → Ending → Type 0
ProfilingCause given before now ReadFault =
    ProfilingFails given before now ⊎ ProfilingBrings given before now ReadFault
ProfilingCause given before now Memory = Unit {0}
ProfilingCause given before now ending = ProfilingBrings given before now ending

-- memory was wanting while the program ran, or after it had exited
abbrev pub ProfilingLacks : Given → Outside → Outside → Type 0
ProfilingLacks given before now = (now.out ≡ before.out) × ((file : List ℕ) × AcceptsFile given before now file
    × LeftSome (area_run file (area_in given)) (steps_in given) before now)

abbrev pub file_reads : List ℕ → List FileRead
file_reads name = record { name = name; limit = file_limit; long = File TooLong } ∷ []

-- such a command, with the file as its operand
abbrev pub profiling_entry : List ℕ → (Given → List ℕ → Profile → List ℕ → Type 0) → Entry
profiling_entry word Writes = record {
  word = word;
  reads = λ given. file_reads (operand_in given 0);
  comes = ProfilingComes;
  brings = ProfilingBrings;
  leaves = λ given before now ending.
      ProfilingStops given before now ending ⊎ ProfilingWrites Writes given before now ending;
  started = λ given before now. ProfilingBrings given before now Done;
  fails = ProfilingFails;
  lacks = ProfilingLacks;
  done = λ given before now. (now.note ≡ before.note)
      × ProfilingWrites Writes given before.outside now.outside Done;
}
