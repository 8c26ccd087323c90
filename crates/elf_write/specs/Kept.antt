-- When a new file is read again: its tables are kept, and its program headers pass their checks.
use Rattle.std.specs.Prelude.{◌≡◌, ℕ, ◌+◌, ◌*◌, ◌<◌, ◌≤◌, List, [], ◌∷◌, length, sum_by, ◌++◌, find, All, Some, None}
use Rattle.elf_spec.specs.declared.Patch.{Patch}
use Rattle.elf_spec.specs.declared.NewSegment.{NewSegment}
use Rattle.elf_spec.specs.declared.Segment.{Segment}
use Rattle.elf_spec.specs.declared.Section.{Section}
use Rattle.elf_spec.specs.Memory.{image_end}
use Rattle.elf_spec.specs.Records.{e_phnum, e_shnum, e_shoff, sections_of, segments_of}
use Rattle.elf_spec.specs.Tables.{is_symtab, strings_of}
use Rattle.elf_read.specs.Refusals.{memory_size, segment_out, segment_overlap, too_large}
use Rattle.elf_write.specs.Ends.{new_length}
use Rattle.elf_write.specs.Layout.{IsBeside, headers_added}

-- the tables that are read of a file, each by its offset and size, have a property: the section
-- headers, the symbols and their strings
pub record AllTables (P : ℕ → ℕ → Type 0) (file : List ℕ) : Type 0 where
  pub sections : P (e_shoff file) (40 * e_shnum file)
  pub symbols : (t : Section) → find is_symtab (sections_of file) ≡ Some t → P t.offset t.size
  pub strings : (s : Section) → strings_of (sections_of file) (find is_symtab (sections_of file)) ≡ Some s
      → P s.offset s.size

-- no patch lies over a table
abbrev pub AreTablesUnpatched : List ℕ → List Patch → Type 0
AreTablesUnpatched file patches = AllTables (λ at n. (k : ℕ) → k < n → All (λ p. IsBeside p.offset 4 (at + k)) patches)
    file

-- no table lies over the fields of the file header that change, e_phoff and e_phnum
abbrev pub AreFieldsAlone : List ℕ → Type 0
AreFieldsAlone file = AllTables (λ at n. (k : ℕ) → k < n → IsBeside 28 4 (at + k) × IsBeside 44 2 (at + k)) file

-- the program headers of the new file
abbrev pub all_headers : List ℕ → List NewSegment → List Segment
all_headers file segments = segments_of file ++ headers_added file segments

-- the old file has program headers, and those of the new file pass the checks: inside the file and
-- below the stack, no address or file byte of two, and not too large together
pub record DoHeadersPass (file : List ℕ) (segments : List NewSegment) : Type 0 where
  pub some : 0 < e_phnum file
  pub inside : segment_out (new_length file segments) (all_headers file segments) ≡ None
  pub apart : segment_overlap (all_headers file segments) ≡ None
  pub small : too_large (all_headers file segments) ≡ None

-- the added segments stand one above the other from an address on and end below the stack, and each
-- has room for its bytes
abbrev pub AreAbove : ℕ → List NewSegment → Type 0
AreAbove low [] = Unit {0}
AreAbove low (s ∷ ss) =
    (low ≤ s.vaddr) × (length s.bytes ≤ s.mem_size) × (s.vaddr + s.mem_size ≤ 0x7ff00000)
    × AreAbove (s.vaddr + s.mem_size) ss

-- they stand above the old file's image, and are not too large with it; so the headers pass
pub record AreAddedAbove (file : List ℕ) (segments : List NewSegment) : Type 0 where
  pub some : 0 < e_phnum file
  pub above : AreAbove (image_end (segments_of file)) segments
  pub small : memory_size (segments_of file) + sum_by (λ s. s.mem_size) segments ≤ 134217728
