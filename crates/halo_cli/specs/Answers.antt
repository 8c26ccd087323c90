-- What the answer of the whole call means: the table of statuses.
use Rattle.std.specs.Prelude.{◌≡◌, ℕ, ◌≤◌, ◌⊎◌, List}
use Rattle.halo_outside.specs.Seen.{Contents, Rose}
use Rattle.endings.specs.declared.endings.Ending.{Ending}
use Rattle.endings.specs.declared.endings.Ending.TheVariants.{Usage, File, Plan, Profile, ReadFault, StillRunning}
use Rattle.endings.specs.declared.endings.Ending.TheVariants.{Fault, Illegal}
use Rattle.endings.specs.declared.endings.BadFile.{BadFile}
use Rattle.endings.specs.declared.endings.BadPlan.{BadPlan}
use Rattle.endings.specs.declared.endings.BadProfile.{BadProfile}
use Rattle.machine_spec.specs.declared.FaultKind.{FaultKind}
use Rattle.halo_words.specs.Grammar.{Asked}
use Rattle.endings.specs.Endings.{status_of}
use Rattle.halo_cli.specs.Writing.{NotesLine, IsUnmoved}
use Rattle.halo_cli.specs.Options.{Policies}
use Rattle.halo_cli.specs.Valid.{Asks, IsValid, IsWrongAt}
use Rattle.halo_cli.specs.Commands.{entry_in}
use Rattle.halo_cli.specs.Reads.{AreTold}
use Rattle.halo_cli.specs.World.{World, OnlyMoves, OnlyWrites}
use Rattle.halo_cli.specs.Ends.{LineEnds, IsNoted}

-- the files tell contents, where the line names one, and these, with a told input where a program runs, bring the line
-- to this ending
abbrev pub ToldBring : Policies → List (List ℕ) → World → Ending → Type 0
ToldBring policies words before ending = (contents : Contents) × (asked : Asked) × Asks policies.names words asked
    × AreTold ((entry_in policies asked).reads asked.given) before.outside.files contents
    × (entry_in policies asked).comes asked.given contents before.outside.input.told ending

-- what was read brings the line to this ending
abbrev pub LineBrings : Policies → List (List ℕ) → World → World → Ending → Type 0
LineBrings policies words before now ending = (asked : Asked) × Asks policies.names words asked
    × (entry_in policies asked).brings asked.given before.outside now.outside ending

-- a read of the line's command, a write to out, a write to note failed in the call
abbrev pub ReadFailed : Policies → List (List ℕ) → World → World → Type 0
ReadFailed policies words before now = (asked : Asked) × Asks policies.names words asked
    × (entry_in policies asked).fails asked.given before.outside now.outside

abbrev pub OutFailed : World → World → Type 0
OutFailed before now = Rose before.outside.out.faults now.outside.out.faults

abbrev pub NoteFailed : World → World → Type 0
NoteFailed before now = Rose before.note.faults now.note.faults

-- the answer is this status, unless memory was wanting or note failed
abbrev pub Gives : ℕ → World → World → ℕ → Type 0
Gives want before now status = (status ≡ want) ⊎ (status ≡ 69) ⊎ ((status ≡ 68) × NoteFailed before now)

-- the answer is this status, unless a read failed, memory was wanting or note failed
abbrev pub GivesIfRead : Policies → List (List ℕ) → ℕ → World → World → ℕ → Type 0
GivesIfRead policies words want before now status =
    ((status ≡ 67) × ReadFailed policies words before now) ⊎ Gives want before now status

-- the answer is this status, unless a read or a write failed or memory was wanting
abbrev pub GivesIfRun : Policies → List (List ℕ) → ℕ → World → World → ℕ → Type 0
GivesIfRun policies words want before now status =
    ((status ≡ 68) × OutFailed before now) ⊎ GivesIfRead policies words want before now status

-- the table of statuses, for a line of words
pub record Answers (policies : Policies) (words : List (List ℕ)) (before now : World) (status : ℕ) : Type 0 where
  -- 64 exactly where the words are no line that is taken; note names the first word that is wrong
  pub usage_only : status ≡ 64 → (IsValid policies.names words → ⊥)
      × ((place : ℕ) × IsWrongAt policies.names words place × NotesLine before now (Usage place))
  pub usage_always : (IsValid policies.names words → ⊥) → Gives 64 before now status
  -- where they are none, nothing is read or written but note
  pub untouched : (IsValid policies.names words → ⊥) → now.outside ≡ before.outside
  -- 65 exactly where what is read brings the line to a refusal of the file
  pub file_only : status ≡ 65
      → (why : BadFile) × LineBrings policies words before now (File why) × NotesLine before now (File why)
  pub file_always : (why : BadFile) → ToldBring policies words before (File why)
      → GivesIfRead policies words 65 before now status
  -- 66 exactly where it brings the line to a refusal of the plan or of the profile
  pub plan_only : status ≡ 66
      → ((why : BadPlan) × LineBrings policies words before now (Plan why) × NotesLine before now (Plan why))
      ⊎ ((why : BadProfile) × LineBrings policies words before now (Profile why) × NotesLine before now (Profile why))
  pub plan_always : (why : BadPlan) → ToldBring policies words before (Plan why)
      → GivesIfRead policies words 66 before now status
  pub profile_always : (why : BadProfile) → ToldBring policies words before (Profile why)
      → GivesIfRead policies words 66 before now status
  -- 67 only where a read failed or told files lack one that is due to be read; and always in the second case
  pub read_only : status ≡ 67 → ReadFailed policies words before now ⊎ ToldBring policies words before ReadFault
  pub read_always : ToldBring policies words before ReadFault → Gives 67 before now status
  -- 68 only where a write failed
  pub write_only : status ≡ 68 → OutFailed before now ⊎ NoteFailed before now
  -- 70 exactly where a program still runs after its steps
  pub running_only : status ≡ 70
      → (steps : ℕ) × LineBrings policies words before now (StillRunning steps)
      × NotesLine before now (StillRunning steps)
  pub running_always : (steps : ℕ) → ToldBring policies words before (StillRunning steps)
      → GivesIfRun policies words 70 before now status
  -- 71 exactly where it meets an address fault within them
  pub fault_only : status ≡ 71 → (kind : FaultKind) × (at : ℕ) × (steps : ℕ)
      × LineBrings policies words before now (Fault kind at steps) × NotesLine before now (Fault kind at steps)
  pub fault_always : (kind : FaultKind) (at steps : ℕ) → ToldBring policies words before (Fault kind at steps)
      → GivesIfRun policies words 71 before now status
  -- 72 exactly where it comes to a word that is no instruction to be run
  pub illegal_only : status ≡ 72 → (at : ℕ) × (steps : ℕ)
      × LineBrings policies words before now (Illegal at steps) × NotesLine before now (Illegal at steps)
  pub illegal_always : (at steps : ℕ) → ToldBring policies words before (Illegal at steps)
      → GivesIfRun policies words 72 before now status
  -- at 0 the command is done
  pub done : status ≡ 0 → (asked : Asked) × Asks policies.names words asked
      × (entry_in policies asked).done asked.given before now
  -- where what is told lets the command be done and nothing failed, it is done, unless memory was wanting
  pub complete : (ending : Ending) → status_of ending ≡ 0 → ToldBring policies words before ending
      → (ReadFailed policies words before now → ⊥) → (OutFailed before now → ⊥) → (NoteFailed before now → ⊥)
      → (status ≡ 0) ⊎ (status ≡ 69)
  -- at 65 and 66 input and out are as before
  pub silent : (status ≡ 65) ⊎ (status ≡ 66) → IsUnmoved before.outside now.outside
  -- at 69 they are, too, unless a program was running that takes memory as it runs
  pub lacking : status ≡ 69 → IsUnmoved before.outside now.outside
      ⊎ ((asked : Asked) × Asks policies.names words asked
      × (entry_in policies asked).lacks asked.given before.outside now.outside)
  -- the line ended in one way, which says what input and out are; note has its line, or failed after a part of it
  pub ended : (ending : Ending) × LineEnds policies words before.outside now.outside ending
      × IsNoted ending before.note now.note status
  -- told contents stay, what tells still tells, and no count falls
  pub moves : OnlyMoves before.outside now.outside
  pub writes : OnlyWrites before.note now.note
  -- there are no other statuses
  pub statuses : (status ≡ 0) ⊎ ((64 ≤ status) × (status ≤ 72))
