-- The records of a file, each read at its offset (gABI, "ELF Header", "Program Header", "Section
-- Header", "Relocation"), and the two tables that the file header names.
use Rattle.std.specs.Prelude.{ℕ, zero, suc, ◌+◌, ◌*◌, ◌/◌, ◌%◌, List, [], ◌∷◌, ◌++◌}
use Rattle.elf_spec.specs.declared.Segment.{Segment}
use Rattle.elf_spec.specs.declared.Section.{Section}
use Rattle.elf_spec.specs.declared.Reloc.{Reloc}
use Rattle.elf_spec.specs.Fields.{half_at, word_at}

-- the fields of the file header that the product reads
abbrev pub e_type : List ℕ → ℕ
e_type file = half_at file 16

abbrev pub e_machine : List ℕ → ℕ
e_machine file = half_at file 18

abbrev pub e_version : List ℕ → ℕ
e_version file = word_at file 20

abbrev pub e_entry : List ℕ → ℕ
e_entry file = word_at file 24

abbrev pub e_phoff : List ℕ → ℕ
e_phoff file = word_at file 28

abbrev pub e_shoff : List ℕ → ℕ
e_shoff file = word_at file 32

abbrev pub e_flags : List ℕ → ℕ
e_flags file = word_at file 36

abbrev pub e_phentsize : List ℕ → ℕ
e_phentsize file = half_at file 42

abbrev pub e_phnum : List ℕ → ℕ
e_phnum file = half_at file 44

abbrev pub e_shentsize : List ℕ → ℕ
e_shentsize file = half_at file 46

abbrev pub e_shnum : List ℕ → ℕ
e_shnum file = half_at file 48

unfoldable pub segment_at : List ℕ → ℕ → Segment
segment_at file at = record {
  kind = word_at file at;
  offset = word_at file (at + 4);
  vaddr = word_at file (at + 8);
  paddr = word_at file (at + 12);
  file_size = word_at file (at + 16);
  mem_size = word_at file (at + 20);
  flags = word_at file (at + 24);
  align = word_at file (at + 28);
}

unfoldable pub section_at : List ℕ → ℕ → Section
section_at file at = record {
  name = word_at file at;
  kind = word_at file (at + 4);
  flags = word_at file (at + 8);
  addr = word_at file (at + 12);
  offset = word_at file (at + 16);
  size = word_at file (at + 20);
  link = word_at file (at + 24);
  info = word_at file (at + 28);
  align = word_at file (at + 32);
  entry_size = word_at file (at + 36);
}

unfoldable pub reloc_at : List ℕ → ℕ → Reloc
reloc_at file at = record {
  place = word_at file at;
  kind = word_at file (at + 4) % 256;
  symbol = word_at file (at + 4) / 256;
}

-- n records of a size, one after the other from an offset on
abbrev pub entries : {A : Type 0} → (ℕ → A) → ℕ → ℕ → ℕ → List A
entries record_at size at zero = []
entries record_at size at (suc n) = entries record_at size at n ++ record_at (at + size * n) ∷ []

-- the program headers and the section headers, in the file's order
abbrev pub segments_of : List ℕ → List Segment
segments_of file = entries (segment_at file) 32 (e_phoff file) (e_phnum file)

abbrev pub sections_of : List ℕ → List Section
sections_of file = entries (section_at file) 40 (e_shoff file) (e_shnum file)
