-- The files that a command reads: their limits, the bytes that were read, the reads that were done, and the cause of
-- an ending.
use Rattle.std.specs.Prelude.{◌≡◌, ℕ, ◌≤◌, ◌⊎◌, nat_lt, List, [], ◌∷◌, length, Option, None, Some}
use Rattle.std.specs.Bool.{MatchBool}
use Rattle.halo_outside.specs.Seen.{Contents, FilesSeen, count_after, Rose, IsToldAt, Lacks, IsTooLong}
use Rattle.endings.specs.declared.endings.Ending.{Ending}
use Rattle.endings.specs.declared.endings.Ending.TheVariants.{File, ReadFault, Memory}
use Rattle.endings.specs.declared.endings.BadFile.TheVariants.{TooLong}

-- the most bytes of a plan's text, of a profile's, of a file that is rewritten or shown and of one that is run
abbrev pub plan_limit : ℕ
plan_limit = 1048576

abbrev pub profile_limit : ℕ
profile_limit = 33554432

abbrev pub file_limit : ℕ
file_limit = 33554432

abbrev pub run_limit : ℕ
run_limit = 34603008

-- they are the told ones, where contents are told, within the limit, and counted
pub record IsRead (name : List ℕ) (limit : ℕ) (before now : FilesSeen) (bytes : List ℕ) : Type 0 where
  pub told : IsToldAt before.told name bytes
  pub within : length bytes ≤ limit
  pub counted : now.taken ≡ count_after before.taken (length bytes)

-- a read of a file: its name, the most bytes that are taken of it, and the ending where it has more
pub record FileRead : Type 0 where
  pub name : List ℕ
  pub limit : ℕ
  pub long : Ending

-- the files tell these contents; where nothing is read of them, they need not
abbrev pub AreTold : List FileRead → FilesSeen → Contents → Type 0
AreTold [] files contents = Unit {0}
AreTold (read ∷ reads) files contents = files.told ≡ Some contents

-- it gave the file's bytes
pub record IsWhole (read : FileRead) (before now : FilesSeen) : Type 0 where
  pub bytes : List ℕ
  pub is_read : IsRead read.name read.limit before now bytes
  pub told : now.told ≡ before.told
  pub faults : before.faults ≤ now.faults

-- it gave none
pub record IsStopped (read : FileRead) (before now : FilesSeen) : Type 0 where
  pub told : now.told ≡ before.told
  pub faults : before.faults ≤ now.faults
  pub taken : before.taken ≤ now.taken
  -- a read of a missing file changes nothing
  pub lacking : Lacks before.told read.name → now ≡ before

-- the ending of a command whose read gave none: it failed, the file is too long, or memory was wanting
abbrev pub StopsSo : FileRead → FilesSeen → FilesSeen → Ending → Type 0
StopsSo read before now ending =
    ((ending ≡ ReadFault) × (Rose before.faults now.faults ⊎ Lacks before.told read.name))
    ⊎ ((ending ≡ read.long) × IsTooLong before.told read.name read.limit before.taken now.taken)
    ⊎ ((ending ≡ Memory) × (now.faults ≡ before.faults))

-- a command that ends so did the first of these reads, in their order: all of them gave their bytes, or all before
-- the last one, which stopped the command, or memory was wanting before the next one
abbrev pub AreFirstReads : List FileRead → FilesSeen → FilesSeen → Ending → Type 0
AreFirstReads [] before now ending = now ≡ before
AreFirstReads (read ∷ reads) before now ending = ((ending ≡ Memory) × (now ≡ before))
    ⊎ (IsStopped read before now × StopsSo read before now ending)
    ⊎ ((between : FilesSeen) × IsWhole read before between × AreFirstReads reads between now ending)

-- to which ending told contents bring a command that reads one more operand: it is lacking, is longer than its
-- limit, or its bytes decide
abbrev pub OperandComes : ℕ → Ending → Option (List ℕ) → (List ℕ → Ending → Type 0) → Ending → Type 0
OperandComes limit long None Decide ending = ending ≡ ReadFault
OperandComes limit long (Some bytes) Decide ending =
    MatchBool (nat_lt limit (length bytes)) (ending ≡ long) (Decide bytes ending)

-- of a file
abbrev pub FileComes : ℕ → Option (List ℕ) → (List ℕ → Ending → Type 0) → Ending → Type 0
FileComes limit = OperandComes limit (File TooLong)

-- the ending of a command whose operand is lacking or longer than its limit
abbrev pub IsNotRead : List ℕ → ℕ → Ending → FilesSeen → FilesSeen → Ending → Type 0
IsNotRead name limit long before now ending = ((ending ≡ ReadFault) × Lacks before.told name)
    ⊎ ((ending ≡ long) × IsTooLong before.told name limit before.taken now.taken)

-- of a file
abbrev pub IsNoFile : List ℕ → ℕ → FilesSeen → FilesSeen → Ending → Type 0
IsNoFile name limit = IsNotRead name limit (File TooLong)

-- what was read brings the command to the ending, or a read failed, or memory was wanting
abbrev pub HasReadCause : (Ending → Type 0) → FilesSeen → FilesSeen → Ending → Type 0
HasReadCause brings before now ReadFault = Rose before.faults now.faults ⊎ brings ReadFault
HasReadCause brings before now Memory = Unit {0}
HasReadCause brings before now ending = brings ending
