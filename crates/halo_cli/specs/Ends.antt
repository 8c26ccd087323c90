-- How a command ends, and how the program ends after it.
use Rattle.std.specs.Prelude.{◌≡◌, ◌≢◌, ℕ, ◌⊎◌, List, []}
use Rattle.halo_outside.specs.Seen.{SinkSeen, Rose, Appends, AppendsPrefix}
use Rattle.halo_cli.specs.World.{Outside, OnlyMoves, OnlyWrites}
use Rattle.endings.specs.declared.endings.Ending.{Ending}
use Rattle.endings.specs.declared.endings.Ending.TheVariants.{Usage, ReadFault, WriteFault, Memory}
use Rattle.halo_words.specs.Table.{the_table}
use Rattle.halo_words.specs.Grammar.{Given, Asked, IsLine}
use Rattle.endings.specs.Endings.{status_of, line_of}
use Rattle.halo_cli.specs.Entry.{Entry}
use Rattle.halo_cli.specs.Options.{Policies}
use Rattle.halo_cli.specs.Valid.{Asks, IsWrongAt}
use Rattle.halo_cli.specs.Commands.{entry_in, entry_of}
use Rattle.halo_cli.specs.Reads.{AreFirstReads}

-- the cause of an ending: what was read brings the command to it, or a count that rose
abbrev pub HasCauseOf : Entry → Given → Outside → Outside → Ending → Type 0
HasCauseOf entry given before now (Usage place) = ⊥
HasCauseOf entry given before now ReadFault = entry.fails given before now ⊎ entry.brings given before now ReadFault
HasCauseOf entry given before now WriteFault = Rose before.out.faults now.out.faults × entry.started given before now
HasCauseOf entry given before now Memory = Unit {0}
HasCauseOf entry given before now ending = entry.brings given before now ending

-- how a command ends: the cause, what it does to the outside, and that it reads no other files than its words name
pub record EndsOf (entry : Entry) (given : Given) (before now : Outside) (ending : Ending) : Type 0 where
  pub cause : HasCauseOf entry given before now ending
  pub leaves : entry.leaves given before now ending
  pub moves : OnlyMoves before now
  pub reads : AreFirstReads (entry.reads given) before.files now.files ending

-- the same of a command that uses no policy, by the word of its line
abbrev pub HasCause : Asked → Outside → Outside → Ending → Type 0
HasCause asked = HasCauseOf (entry_of asked) asked.given

abbrev pub Ends : Asked → Outside → Outside → Ending → Type 0
Ends asked = EndsOf (entry_of asked) asked.given

-- how a line of words ends: it isn't taken; or memory was wanting for its values; or it asks for a command that ends so
abbrev pub LineEnds : Policies → List (List ℕ) → Outside → Outside → Ending → Type 0
LineEnds policies words before now ending =
    ((place : ℕ) × (ending ≡ Usage place) × IsWrongAt policies.names words place × (now ≡ before))
    ⊎ ((ending ≡ Memory) × IsLine the_table words × (now ≡ before))
    ⊎ ((asked : Asked) × Asks policies.names words asked
    × EndsOf (entry_in policies asked) asked.given before now ending)

-- the whole line of an ending was written, or note failed after a part of it
abbrev pub IsNoted : Ending → SinkSeen → SinkSeen → ℕ → Type 0
IsNoted ending before now status =
    ((status ≡ status_of ending) × Appends before.told now.told (line_of ending))
    ⊎ ((line_of ending ≢ []) × (status ≡ status_of WriteFault) × Rose before.faults now.faults
    × AppendsPrefix before.told now.told (line_of ending))

-- the status after an ending, and what was written to note
pub record IsFinished (ending : Ending) (before now : SinkSeen) (status : ℕ) : Type 0 where
  pub noted : IsNoted ending before now status
  pub quiet : line_of ending ≡ [] → now ≡ before
  pub writes : OnlyWrites before now
