-- What is read of a file before it is accepted.
use Rattle.std.specs.Prelude.{ℕ, List}
use Rattle.elf_read.specs.Elf.{IsReadFrom}
use Rattle.exec_image.specs.declared.image.FoundParts.{FoundParts}
use Rattle.exec_image.specs.CodeParts.{IsCode, IsHeap}

-- all of it is the file's
pub record AreFound (file : List ℕ) (found : FoundParts) : Type 0 where
  pub read : IsReadFrom found.elf file
  pub code : IsCode file found.elf.segments found.code.items
  pub heap : IsHeap file found.heap.items
