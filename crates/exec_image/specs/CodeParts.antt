-- Where the code words are, as they are looked up: the parts of memory with code, and the segments
-- that put them there.
use Rattle.std.specs.Prelude.{◌≡◌, ℕ, ◌+◌, ◌-◌, ◌&&◌, Bool, List, map, filter, find, Option, None, option_map, nat_le}
use Rattle.std.specs.Prelude.{nat_lt}
use Rattle.elf_spec.specs.declared.HeapName.{HeapName}
use Rattle.elf_spec.specs.declared.Section.{Section}
use Rattle.elf_spec.specs.declared.Segment.{Segment}
use Rattle.elf_spec.specs.Code.{is_executable}
use Rattle.elf_spec.specs.Heap.{heap_entry, heap_names}
use Rattle.elf_spec.specs.Memory.{is_loaded}
use Rattle.elf_spec.specs.Records.{sections_of, segments_of}
use Rattle.elf_read.specs.Readable.{ReadableFacts}
use Rattle.exec_image.specs.declared.parts.Part.{Part}
use Rattle.exec_image.specs.declared.heap.HeapEntry.{HeapEntry}
use Rattle.exec_image.specs.Parts.{StandsFor}
use Rattle.exec_image.specs.Refusals.{exec_not_words, exec_outside}

-- the memory of the executable sections
abbrev pub code_parts : List Section → List Part
code_parts sections = map (λ s. record { start = s.addr; end = s.addr + s.size }) (filter is_executable sections)

abbrev pub holds_in_file : ℕ → Segment → Bool
holds_in_file a g = is_loaded g && (nat_le g.vaddr a && nat_lt a (g.vaddr + g.file_size))

-- the file offset of the byte that is loaded at an address
abbrev pub place_in : List Segment → ℕ → Option ℕ
place_in segments a = option_map (λ g. g.offset + (a - g.vaddr)) (find (holds_in_file a) segments)

-- the segments and the parts with code of a file that passed the checks of its executable sections
pub record IsCode (file : List ℕ) (segments : List Segment) (code : List Part) : Type 0 where
  pub facts : ReadableFacts file
  pub table : segments ≡ segments_of file
  pub words : exec_not_words (sections_of file) ≡ None
  pub inside : exec_outside file ≡ None
  pub parts : StandsFor (code_parts (sections_of file)) code

-- a heap function of a file with its address
abbrev pub entry_of : List ℕ → HeapName → HeapEntry
entry_of file name = record { name = name; addr = heap_entry file name }

-- the heap functions of a file, in the order of the names
abbrev pub IsHeap : List ℕ → List HeapEntry → Type 0
IsHeap file heap = heap ≡ map (entry_of file) heap_names
