-- Why a file isn't accepted as an executable: the first check that it fails, with its item, and the
-- lowest index or address.
use Rattle.std.specs.Prelude.{ℕ, Bool, not, ◌&&◌, ◌||◌, List, Option, is_some}
use Rattle.std.specs.Prelude.{option_map, position, take, nat_lt}
use Rattle.std.specs.List.{list_any}
use Rattle.elf_spec.specs.declared.HeapName.{HeapName}
use Rattle.elf_spec.specs.declared.Section.{Section}
use Rattle.elf_spec.specs.Code.{code_word, is_executable}
use Rattle.elf_spec.specs.Heap.{heap_names}
use Rattle.elf_spec.specs.Memory.{image_end}
use Rattle.elf_spec.specs.Records.{e_entry, e_phnum, sections_of, segments_of}
use Rattle.first_check.specs.First.{first_below, first_item}
use Rattle.elf_read.specs.Refusals.{memory_size, refusal}
use Rattle.first_check.specs.First.{◌or_else◌, when}
use Rattle.reloc_table.specs.Refusals.{reloc_refusal}
use Rattle.exec_image.specs.declared.refusals.FileRefusal.{FileRefusal}
use Rattle.exec_image.specs.declared.refusals.FileRefusal.TheVariants.{Elf, Relocs, ExecNotWords, ExecOutside}
use Rattle.exec_image.specs.declared.refusals.FileRefusal.TheVariants.{EntryOut, HeapEntryTwice, HeapEntrySmall}
use Rattle.exec_image.specs.declared.refusals.FileRefusal.TheVariants.{AlreadyRewritten, ImageTooLarge, TpUsed}
use Rattle.exec_image.specs.declared.refusals.ImagePart.TheVariants.{Headers, Bytes, End}
use Rattle.exec_image.specs.Checks.{ends_above, has_mark, is_in_descriptions, is_not_words, is_place_of, uses_tp_at}
use Rattle.exec_image.specs.HeapChecks.{is_small, is_twice}

-- an executable section has no whole words
unfoldable pub exec_not_words : List Section → Option FileRefusal
exec_not_words sections = option_map ExecNotWords (position (λ s. is_executable s && is_not_words s) sections)

-- an executable section isn't in the file part of one segment of code, or has bytes that describe the
-- file
abbrev pub is_outside : List ℕ → Section → Bool
is_outside file s =
    is_executable s && (not (list_any (is_place_of s) (segments_of file)) || is_in_descriptions file s)

unfoldable pub exec_outside : List ℕ → Option FileRefusal
exec_outside file = option_map ExecOutside (position (is_outside file) (sections_of file))

-- the program begins at no code word
unfoldable pub entry_out : List ℕ → Option FileRefusal
entry_out file = when (not (is_some (code_word file (e_entry file)))) (EntryOut (e_entry file))

-- the function of a name is there twice, or where one of an earlier name is
abbrev pub twice_fault : List ℕ → List HeapName → ℕ → HeapName → Option FileRefusal
twice_fault file names i name = when (is_twice file (take i names) name) (HeapEntryTwice name)

unfoldable pub heap_entry_twice : List ℕ → Option FileRefusal
heap_entry_twice file = first_item (twice_fault file heap_names) heap_names

-- the function of a name is too small
abbrev pub small_fault : List ℕ → ℕ → HeapName → Option FileRefusal
small_fault file i name = when (is_small file name) (HeapEntrySmall name)

unfoldable pub heap_entry_small : List ℕ → Option FileRefusal
heap_entry_small file = first_item (small_fault file) heap_names

unfoldable pub already_rewritten : List ℕ → Option FileRefusal
already_rewritten file = when (list_any (has_mark file) (segments_of file)) AlreadyRewritten

-- a new segment or its stubs would have no room
unfoldable pub image_too_large : List ℕ → Option FileRefusal
image_too_large file =
    when (nat_lt 64 (e_phnum file)) (ImageTooLarge Headers)
    or_else when (nat_lt 67108864 (memory_size (segments_of file))) (ImageTooLarge Bytes)
    or_else when (list_any (ends_above 0x70000000) (segments_of file)) (ImageTooLarge End)

-- the first code word that names x4, which will hold the sites' bits
unfoldable pub tp_used : List ℕ → Option FileRefusal
tp_used file = option_map TpUsed (first_below (uses_tp_at file) (image_end (segments_of file)))

-- the checks of the entry, the heap functions, the segments and the code's registers, in their order
abbrev pub rest_refusal : List ℕ → Option FileRefusal
rest_refusal file =
    entry_out file or_else heap_entry_twice file or_else heap_entry_small file or_else already_rewritten file
    or_else image_too_large file or_else tp_used file

-- the checks of the image, in their order
abbrev pub image_refusal : List ℕ → Option FileRefusal
image_refusal file = exec_not_words (sections_of file) or_else exec_outside file or_else rest_refusal file

-- all checks, in their order: those of the headers and symbols, of the relocations, and of the image
abbrev pub file_refusal : List ℕ → Option FileRefusal
file_refusal file =
    option_map Elf (refusal file) or_else option_map Relocs (reloc_refusal file) or_else image_refusal file
