-- What a command that writes one text, after all its checks, does to input and out; and the line on note.
use Rattle.std.specs.Prelude.{◌≡◌, ◌≢◌, ◌⊎◌, ℕ, List}
use Rattle.halo_outside.specs.Seen.{SinkSeen, Rose, Appends, AppendsPrefix}
use Rattle.endings.specs.declared.endings.Ending.{Ending}
use Rattle.endings.specs.declared.endings.Ending.TheVariants.{Done, WriteFault, Memory}
use Rattle.endings.specs.Endings.{line_of}
use Rattle.halo_cli.specs.World.{Outside, World}

-- the line of this ending was appended to note
abbrev pub NotesLine : World → World → Ending → Type 0
NotesLine before now ending = Appends before.note.told now.note.told (line_of ending)

-- neither input nor out were touched
abbrev pub IsUnmoved : Outside → Outside → Type 0
IsUnmoved before now = (now.input ≡ before.input) × (now.out ≡ before.out)

-- an ending before anything was written
abbrev pub IsStop : Ending → Type 0
IsStop ending = (ending ≢ Done) × (ending ≢ WriteFault)

-- where it is done, the whole text is on out; where out failed, a prefix of it; else nothing
pub record WritesOnce (Text : List ℕ → Type 0) (before now : Outside) (ending : Ending) : Type 0 where
  pub input : now.input ≡ before.input
  pub done : ending ≡ Done → (text : List ℕ) × Text text × Appends before.out.told now.out.told text
  pub write_fault : ending ≡ WriteFault → (text : List ℕ) × Text text × AppendsPrefix before.out.told now.out.told text
  pub silent : IsStop ending → now.out ≡ before.out

-- a text is due and the command ends by its write: the whole text is on out, or a prefix of it where out failed; or
-- memory was wanting for the text
abbrev pub WritesOrLacks : (List ℕ → Type 0) → SinkSeen → SinkSeen → Ending → Type 0
WritesOrLacks Text before now ending = ((ending ≡ Memory) × (now ≡ before))
    ⊎ ((text : List ℕ) × Text text × (((ending ≡ Done) × Appends before.told now.told text)
    ⊎ ((ending ≡ WriteFault) × Rose before.faults now.faults × AppendsPrefix before.told now.told text)))

-- what stands after it is done: the text is on out, and all else but the files' counts is as before
abbrev pub IsWritten : (List ℕ → Type 0) → World → World → Type 0
IsWritten Text before now = (now.note ≡ before.note) × (now.outside.input ≡ before.outside.input)
    × ((text : List ℕ) × Text text × Appends before.outside.out.told now.outside.out.told text)
