-- What a readable file's fields keep, for those who use them.
use Rattle.std.specs.Prelude.{◌≡◌, ◌≢◌, ℕ, ◌+◌, ◌*◌, ◌<◌, ◌≤◌, true, false, List, length, find, Some}
use Rattle.std.specs.List.{All, AllPairs}
use Rattle.elf_spec.specs.declared.Segment.{Segment}
use Rattle.elf_spec.specs.declared.Section.{Section}
use Rattle.elf_spec.specs.Memory.{is_loaded}
use Rattle.elf_spec.specs.Records.{e_phnum, e_phoff, e_shnum, e_shoff, sections_of, segments_of}
use Rattle.elf_spec.specs.Tables.{is_symtab, strings_of, symbols_of}
use Rattle.elf_read.specs.Checks.{meets}
use Rattle.elf_read.specs.Refusals.{memory_size}

-- a loaded segment's file bytes are inside a file of so many bytes, and fit its memory, which ends in time
pub record IsInside (bytes : ℕ) (s : Segment) : Type 0 where
  pub fits : s.file_size ≤ s.mem_size
  pub file : s.offset + s.file_size ≤ bytes
  pub memory : s.vaddr + s.mem_size ≤ 0x7ff00000

abbrev pub IsLoadedInside : ℕ → Segment → Type 0
IsLoadedInside bytes s = is_loaded s ≡ true → IsInside bytes s

-- a section with bytes in the file has them inside
abbrev pub IsSectionInside : ℕ → Section → Type 0
IsSectionInside bytes s = s.kind ≢ 0 → s.kind ≢ 8 → s.offset + s.size ≤ bytes

pub record ReadableFacts (file : List ℕ) : Type 0 where
  pub long : 52 ≤ length file
  pub few : e_phnum file ≤ 100
  pub segment_count : length (segments_of file) ≡ e_phnum file
  pub section_count : length (sections_of file) ≡ e_shnum file
  pub segment_table : 0 < e_phnum file → e_phoff file + 32 * e_phnum file ≤ length file
  pub section_table : 0 < e_shnum file → e_shoff file + 40 * e_shnum file ≤ length file
  pub segments : All (IsLoadedInside (length file)) (segments_of file)
  -- no two loaded segments have an address or a file byte in common
  pub apart : AllPairs (λ s t. meets s t ≡ false) (segments_of file)
  pub memory : memory_size (segments_of file) ≤ 134217728
  pub sections : All (IsSectionInside (length file)) (sections_of file)
  -- the symbol table and its strings lie in the file
  pub symbols : (t : Section) → find is_symtab (sections_of file) ≡ Some t → t.offset + t.size ≤ length file
  pub strings : (s : Section) → strings_of (sections_of file) (find is_symtab (sections_of file)) ≡ Some s
      → s.offset + s.size ≤ length file
  -- each name is a part of the file
  pub names : All (λ s. s.name_at + s.name_len ≤ length file) (symbols_of file)
