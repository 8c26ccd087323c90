-- What is seen of the outside before and after a call.
use Rattle.std.specs.Prelude.{◌≡◌, ◌≤◌}
use Rattle.halo_outside.specs.Seen.{FilesSeen, SourceSeen, SinkSeen, TellsAlike}

-- what a command works on: the files, the input and the output
pub record Outside : Type 0 where
  pub files : FilesSeen
  pub input : SourceSeen
  pub out : SinkSeen

-- all of it: the note, too
pub record World : Type 0 where
  pub outside : Outside
  pub note : SinkSeen

abbrev pub world : FilesSeen → SourceSeen → SinkSeen → SinkSeen → World
world files input out note = record { outside = record { files = files; input = input; out = out }; note = note }

-- reads of files change no told contents, and no count falls
pub record OnlyReads (before now : FilesSeen) : Type 0 where
  pub told : now.told ≡ before.told
  pub faults : before.faults ≤ now.faults
  pub taken : before.taken ≤ now.taken

-- reads of a source leave one that tells one that tells, and no count falls
pub record OnlyDraws (before now : SourceSeen) : Type 0 where
  pub tells : TellsAlike before.told now.told
  pub faults : before.faults ≤ now.faults
  pub taken : before.taken ≤ now.taken

-- writes leave a sink that tells one that tells, and its count doesn't fall
pub record OnlyWrites (before now : SinkSeen) : Type 0 where
  pub tells : TellsAlike before.told now.told
  pub later : before.faults ≤ now.faults

-- told contents are as before, what tells still tells, and no count falls
pub record OnlyMoves (before now : Outside) : Type 0 where
  pub files : OnlyReads before.files now.files
  pub input : OnlyDraws before.input now.input
  pub out : OnlyWrites before.out now.out
