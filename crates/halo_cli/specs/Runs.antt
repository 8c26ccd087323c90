-- Runs of programs: how one ends by its turns, to which ending a told input brings it, and what it leaves of input and
-- out.
use Rattle.std.specs.Prelude.{◌≡◌, ◌≢◌, ℕ, ◌+◌, ◌<◌, ◌≤◌, ◌⊎◌, List, ◌++◌, length, Option, None, Some, unwrap_or}
use Rattle.std.specs.Prelude.{codes}
use Rattle.halo_outside.specs.Seen.{Rose, Appends, AppendsPrefix}
use Rattle.machine_spec.specs.declared.Ending as machine_ending
use Rattle.machine_spec.specs.declared.Ending.TheVariants as machine
use Rattle.endings.specs.declared.endings.Ending.{Ending}
use Rattle.endings.specs.declared.endings.Ending.TheVariants.{ReadFault, WriteFault, Memory, Exited, StillRunning}
use Rattle.endings.specs.declared.endings.Ending.TheVariants.{Fault, Illegal}
use Rattle.text_fields.specs.Reading.{number_of}
use Rattle.halo_words.specs.Grammar.{Given, option_in}
use Rattle.halo_cli.specs.World.{Outside, World}
use Rattle.halo_cli.specs.Writing.{IsUnmoved, NotesLine}

-- what is seen of a machine between two turns: how it ended, if it did, the rest of its input and all that it wrote
pub record Stand : Type 0 where
  pub ending : machine_ending.Ending
  pub input : List ℕ
  pub output : List ℕ

-- a program that is run: where its machine stands after so many turns on an input, whether the last of these turns was
-- a write, whether the next one is a read of at most so many bytes, and whether it may want memory of the host; and
-- whether any may
pub record Run : Type 1 where
  pub after : List ℕ → ℕ → Stand
  pub wrote : List ℕ → ℕ → Type 0
  pub reads : List ℕ → ℕ → (most : ℕ) → Type 0
  pub may_lack : List ℕ → ℕ → Type 0
  pub lacks : Type 0

-- ---- how a run ends

abbrev pub ending_at : Run → List ℕ → ℕ → machine_ending.Ending
ending_at run input n = (run.after input n).ending

-- it runs before each of so many turns
abbrev pub RunsBefore : Run → List ℕ → ℕ → Type 0
RunsBefore run input n = (k : ℕ) → k < n → ending_at run input k ≡ machine.Running

-- a run of at most `bound` turns ends so. An exit counts its own turn, a fault and an illegal word the
-- turns before.
abbrev pub IsRunEnd : Run → List ℕ → ℕ → Ending → Type 0
IsRunEnd run input bound (Exited status steps) =
    (steps ≤ bound) × RunsBefore run input steps × (ending_at run input steps ≡ machine.Exit status)
IsRunEnd run input bound (StillRunning steps) = (steps ≡ bound) × (ending_at run input steps ≡ machine.Running)
IsRunEnd run input bound (Fault kind at steps) =
    (steps + 1 ≤ bound) × RunsBefore run input (steps + 1) × (ending_at run input (steps + 1) ≡ machine.Fault kind at)
IsRunEnd run input bound (Illegal at steps) =
    (steps + 1 ≤ bound) × RunsBefore run input (steps + 1) × (ending_at run input (steps + 1) ≡ machine.Illegal at)
IsRunEnd run input bound _ = ⊥

-- to which ending a told input brings a run; where it isn't told, none is due
abbrev pub InputEnds : Option (List ℕ) → ℕ → Run → Ending → Type 0
InputEnds None bound run ending = ⊥
InputEnds (Some given) bound run ending = IsRunEnd run given bound ending

-- an ending that a run of at most `bound` turns may have, whatever its input
abbrev pub MayRunTo : ℕ → Ending → Type 0
MayRunTo bound (Exited status steps) = (0 < steps) × (steps ≤ bound)
MayRunTo bound (StillRunning steps) = steps ≡ bound
MayRunTo bound (Fault kind at steps) = steps + 1 ≤ bound
MayRunTo bound (Illegal at steps) = steps + 1 ≤ bound
MayRunTo bound _ = ⊥

-- to which ending what was read brings a run; where the input isn't told, no more is known of it
abbrev pub RunsTo : Option (List ℕ) → ℕ → Run → Ending → Type 0
RunsTo None bound run ending = MayRunTo bound ending
RunsTo (Some given) bound run ending = IsRunEnd run given bound ending

-- ---- what it leaves

-- the source has the rest of the input
abbrev pub HasRest : Stand → Outside → Type 0
HasRest stand now = now.input.told ≡ Some stand.input

-- the next turn is a read, and of the rest of the input the source gave some bytes, fewer than that read takes
pub record HasPart (reads : (most : ℕ) → Type 0) (stand : Stand) (now : Outside) : Type 0 where
  pub most : ℕ
  pub at_read : reads most
  pub bytes : List ℕ
  pub rest : List ℕ
  pub fewer : length bytes < most
  pub whole : stand.input ≡ bytes ++ rest
  pub left : now.input.told ≡ Some rest

-- all that was written is on out
abbrev pub HasAll : Stand → Outside → Outside → Type 0
HasAll stand before now = Appends before.out.told now.out.told stand.output

-- or some of its first bytes
abbrev pub HasFront : Stand → Outside → Outside → Type 0
HasFront stand before now = AppendsPrefix before.out.told now.out.told stand.output

-- the run's first n turns wrote all their output, and left their rest of a told input
abbrev pub RanWhole : Run → ℕ → Outside → Outside → Type 0
RanWhole run n before now = (given : List ℕ) → before.input.told ≡ Some given
    → HasAll (run.after given n) before now × HasRest (run.after given n) now

-- the run was cut off at a write, behind one of its first turns, which wrote, or at its end, or before a turn that
-- may want memory: out has a prefix of the output of these turns
abbrev pub IsCutAtWrite : Run → ℕ → Outside → Outside → Type 0
IsCutAtWrite run bound before now = (given : List ℕ) → before.input.told ≡ Some given
    → (n : ℕ) × (n ≤ bound)
    × (run.wrote given n ⊎ (n ≡ bound) ⊎ (ending_at run given n ≢ machine.Running) ⊎ run.may_lack given n)
    × HasFront (run.after given n) before now × HasRest (run.after given n) now

-- the run was cut off in a read behind one of its first turns: out has all output of these turns, unless that failed
-- too
abbrev pub IsCutAtRead : Run → ℕ → Outside → Outside → Type 0
IsCutAtRead run bound before now = (given : List ℕ) → before.input.told ≡ Some given
    → (n : ℕ) × (n < bound) × (ending_at run given n ≡ machine.Running)
    × (HasAll (run.after given n) before now
    ⊎ (Rose before.out.faults now.out.faults × HasFront (run.after given n) before now))
    × HasPart (run.reads given n) (run.after given n) now

-- the run was cut off before one of its turns, which lacked memory: out has all output of the turns before
abbrev pub IsCutAtMemory : Run → ℕ → Outside → Outside → Type 0
IsCutAtMemory run bound before now = (given : List ℕ) → before.input.told ≡ Some given
    → (n : ℕ) × (n < bound) × (ending_at run given n ≡ machine.Running) × run.may_lack given n
    × HasAll (run.after given n) before now × HasRest (run.after given n) now

-- a run over input and out that comes to this ending: what brings it there, and what it does to input and out
abbrev pub RanTo : Run → ℕ → Outside → Outside → Ending → Type 0
RanTo run bound before now (Exited status steps) =
    RunsTo before.input.told bound run (Exited status steps) × RanWhole run steps before now
RanTo run bound before now (StillRunning steps) =
    RunsTo before.input.told bound run (StillRunning steps) × RanWhole run steps before now
RanTo run bound before now (Fault kind at steps) =
    RunsTo before.input.told bound run (Fault kind at steps) × RanWhole run (steps + 1) before now
RanTo run bound before now (Illegal at steps) =
    RunsTo before.input.told bound run (Illegal at steps) × RanWhole run (steps + 1) before now
RanTo run bound before now ReadFault =
    Rose before.input.faults now.input.faults × IsCutAtRead run bound before now
RanTo run bound before now WriteFault = Rose before.out.faults now.out.faults × IsCutAtWrite run bound before now
RanTo run bound before now Memory = run.lacks × IsCutAtMemory run bound before now
RanTo run bound before now _ = ⊥

-- ---- a command that runs a program over input and out

-- an ending before anything runs
abbrev pub IsLoadEnding : Ending → Type 0
IsLoadEnding (Exited status steps) = ⊥
IsLoadEnding (StillRunning steps) = ⊥
IsLoadEnding (Fault kind at steps) = ⊥
IsLoadEnding (Illegal at steps) = ⊥
IsLoadEnding WriteFault = ⊥
IsLoadEnding _ = Unit {0}

-- what it does to input and out: nothing where it ends before anything runs, else what the run of a program does that
-- was read
abbrev pub RunLeaves : {P : Type 0} → (P → Run) → (P → Type 0) → ℕ → Outside → Outside → Ending → Type 0
RunLeaves {P} run_of Loads bound before now ending = (IsLoadEnding ending × IsUnmoved before now)
    ⊎ ((p : P) × Loads p × RanTo (run_of p) bound before now ending)

-- what stands after it is done: all that the program wrote up to its exit, and on note how it ended
abbrev pub RunDone : {P : Type 0} → (P → Run) → (P → Type 0) → ℕ → World → World → Type 0
RunDone {P} run_of Loads bound before now = (exit : ℕ) × (steps : ℕ) × (p : P) × Loads p
    × RanTo (run_of p) bound before.outside now.outside (Exited exit steps) × NotesLine before now (Exited exit steps)

-- the number in the value of `--steps`
abbrev pub steps_in : Given → ℕ
steps_in given = unwrap_or (number_of 4294967295 (option_in given (codes "steps"))) 0
