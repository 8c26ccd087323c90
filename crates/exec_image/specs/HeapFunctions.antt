-- The heap functions of an executable with what they were read from.
use Rattle.std.specs.Prelude.{◌≡◌}
use Rattle.elf_spec.specs.Tables.{symbols_of}
use Rattle.exec_image.specs.declared.heap.HeapFunctions.{HeapFunctions}
use Rattle.exec_image.specs.CodeParts.{IsHeap}

-- the symbols and the functions are the file's
pub record AreHeapFunctions (heap : HeapFunctions) : Type 0 where
  pub symbols : heap.symbols.now ≡ symbols_of heap.file.now
  pub entries : IsHeap heap.file.now heap.entries.now
