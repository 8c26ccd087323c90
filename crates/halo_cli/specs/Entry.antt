-- What a command means: one record for each.
use Rattle.std.specs.Prelude.{ℕ, List, Option}
use Rattle.halo_outside.specs.Seen.{Contents, FilesSeen, Rose}
use Rattle.endings.specs.declared.endings.Ending.{Ending}
use Rattle.endings.specs.declared.endings.Ending.TheVariants.{Done}
use Rattle.halo_words.specs.Grammar.{Given}
use Rattle.halo_cli.specs.World.{Outside, World}
use Rattle.halo_cli.specs.Reads.{FileRead}
use Rattle.halo_cli.specs.Writing.{WritesOnce, IsWritten}

-- a command, by what its line gives to it
pub record Entry : Type 1 where
  pub word : List ℕ
  -- the reads of files that its words name, in their order
  pub reads : Given → List FileRead
  -- to which ending told contents, and a told input where it runs a program, bring it
  pub comes : Given → Contents → Option (List ℕ) → Ending → Type 0
  -- to which ending what it read brings it
  pub brings : Given → Outside → Outside → Ending → Type 0
  -- what it does to input and out where it ends so
  pub leaves : Given → Outside → Outside → Ending → Type 0
  -- what was read lets it write to out
  pub started : Given → Outside → Outside → Type 0
  -- a read of it failed: of a file, or of the input of a program that runs
  pub fails : Given → Outside → Outside → Type 0
  -- what it did to input and out where memory was wanting for more than what it reads and makes
  pub lacks : Given → Outside → Outside → Type 0
  -- what stands after it is done
  pub done : Given → World → World → Type 0

-- a command that reads files and, after all its checks, writes one text
abbrev pub text_entry : List ℕ → (Given → List FileRead) → (Given → Contents → Ending → Type 0)
    → (Given → FilesSeen → FilesSeen → Ending → Type 0) → (Given → FilesSeen → FilesSeen → List ℕ → Type 0) → Entry
text_entry word reads Comes Brings Writes = record {
  word = word;
  reads = reads;
  comes = λ given contents input ending. Comes given contents ending;
  brings = λ given before now ending. Brings given before.files now.files ending;
  leaves = λ given before now ending. WritesOnce (Writes given before.files now.files) before now ending;
  started = λ given before now. Brings given before.files now.files Done;
  fails = λ given before now. Rose before.files.faults now.files.faults;
  lacks = λ given before now. ⊥;
  done = λ given before now. IsWritten (Writes given before.outside.files now.outside.files) before now;
}
