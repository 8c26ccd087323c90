-- A small linked executable, byte for byte: the file header, one program header, the code at the file
-- offset 256, the relocation entries, the symbols, the strings and five section headers (gABI, "ELF
-- Header", "Program Header", "Section Header").
use Rattle.std.specs.Prelude.{ℕ, ◌+◌, ◌-◌, ◌*◌, ◌/◌, List, [], ◌∷◌, ◌++◌, length, replicate, codes, flat_map}
use Rattle.elf_spec.specs.declared.Segment.{Segment}
use Rattle.elf_spec.specs.declared.Section.{Section}
use Rattle.elf_spec.specs.Fields.{word_bytes}
use Rattle.rv_build.specs.declared.labels.Label.{Label}
use Rattle.rv_build.specs.declared.offsets.Offsets.{Offsets}
use Rattle.rv_build.specs.Parts.{Parts}
use Rattle.rv_build.specs.RecordBytes.{half_bytes, segment_bytes, section_bytes, reloc_bytes, symbol_bytes}

-- a text with its zero byte
abbrev pub ended : List ℕ → List ℕ
ended text = text ++ 0 ∷ []

-- the names of the sections, from the byte 0 of the strings on: .text at 1, .rela.text at 7, .symtab
-- at 18 and .strtab at 26
abbrev pub section_names : List ℕ
section_names = 0 ∷ ended (codes ".text") ++ ended (codes ".rela.text") ++ ended (codes ".symtab")
    ++ ended (codes ".strtab")

-- the symbols' names, the first at 34
abbrev pub symbol_names : List Label → List ℕ
symbol_names symbols = flat_map (λ s. ended s.name) symbols

-- the entries of symbols whose names stand one after the other from an offset of the strings on
abbrev pub symbol_entries : ℕ → List Label → List ℕ
symbol_entries name [] = []
symbol_entries name (s ∷ ss) = symbol_bytes name s ++ symbol_entries (name + length (ended s.name)) ss

-- the next multiple of 4
abbrev pub up4 : ℕ → ℕ
up4 n = (n + 3) / 4 * 4

-- the size of the code, and where the parts behind it begin
abbrev pub code_size : Parts → ℕ
code_size p = 4 * length p.words

abbrev pub relocs_at : Parts → ℕ
relocs_at p = 256 + code_size p

abbrev pub symbols_at : Parts → ℕ
symbols_at p = relocs_at p + 12 * length p.relocs

abbrev pub strings_at : Parts → ℕ
strings_at p = symbols_at p + 16 * (1 + length p.symbols)

abbrev pub strings_size : Parts → ℕ
strings_size p = 34 + length (symbol_names p.symbols)

abbrev pub sections_at : Parts → ℕ
sections_at p = up4 (strings_at p + strings_size p)

-- all of these
abbrev pub offsets_of : Parts → Offsets
offsets_of p = record {
  relocs = relocs_at p;
  symbols = symbols_at p;
  strings = strings_at p;
  strings_size = strings_size p;
  sections = sections_at p;
}

-- what the file is: 32-bit, little endian, version 1 (ELFCLASS32, ELFDATA2LSB, EV_CURRENT)
unfoldable pub identification : List ℕ
identification = 127 ∷ 69 ∷ 76 ∷ 70 ∷ 1 ∷ 1 ∷ 1 ∷ replicate 9 0

-- the sizes of the file header and of a program header, the number of program headers, the size of a
-- section header, the number of sections and which section has the names
unfoldable pub table_sizes : List ℕ
table_sizes = half_bytes 52 ++ half_bytes 32 ++ half_bytes 1 ++ half_bytes 40 ++ half_bytes 5 ++ half_bytes 4

-- the file header: an executable (2) for RISC-V (243) of version 1 whose entry is 0x10100 (65792), whose
-- program headers begin at 52 and whose flags are 0
unfoldable pub file_header : ℕ → List ℕ
file_header sections =
    identification ++ half_bytes 2 ++ half_bytes 243 ++ word_bytes 1 ++ word_bytes 65792 ++ word_bytes 52
    ++ word_bytes sections ++ word_bytes 0 ++ table_sizes

-- the one segment: the file from its start to the code's end, loaded at 0x10000 (65536) to be read and
-- executed (5)
abbrev pub code_segment : Parts → Segment
code_segment p = record {
  kind = 1;
  offset = 0;
  vaddr = 65536;
  paddr = 65536;
  file_size = 256 + code_size p;
  mem_size = 256 + code_size p;
  flags = 5;
  align = 4096;
}

-- the five sections: none, the code (PROGBITS, to be loaded and executed), its relocation entries
-- (RELA), the symbols (SYMTAB) and the strings (STRTAB)
abbrev pub null_section : Section
null_section = record {
  name = 0;
  kind = 0;
  flags = 0;
  addr = 0;
  offset = 0;
  size = 0;
  link = 0;
  info = 0;
  align = 0;
  entry_size = 0;
}

abbrev pub code_section : Parts → Section
code_section p = record {
  name = 1;
  kind = 1;
  flags = 6;
  addr = 65792;
  offset = 256;
  size = code_size p;
  link = 0;
  info = 0;
  align = 4;
  entry_size = 0;
}

abbrev pub relocs_section : Parts → Section
relocs_section p = record {
  name = 7;
  kind = 4;
  flags = 0;
  addr = 0;
  offset = relocs_at p;
  size = 12 * length p.relocs;
  link = 3;
  info = 1;
  align = 4;
  entry_size = 12;
}

abbrev pub symbols_section : Parts → Section
symbols_section p = record {
  name = 18;
  kind = 2;
  flags = 0;
  addr = 0;
  offset = symbols_at p;
  size = 16 * (1 + length p.symbols);
  link = 4;
  info = 1;
  align = 4;
  entry_size = 16;
}

abbrev pub strings_section : Parts → Section
strings_section p = record {
  name = 26;
  kind = 3;
  flags = 0;
  addr = 0;
  offset = strings_at p;
  size = strings_size p;
  link = 0;
  info = 0;
  align = 1;
  entry_size = 0;
}

abbrev pub sections_built : Parts → List Section
sections_built p = null_section ∷ code_section p ∷ relocs_section p ∷ symbols_section p ∷ strings_section p ∷ []

-- the whole file
unfoldable pub built_file : Parts → List ℕ
built_file p =
    file_header (sections_at p) ++ segment_bytes (code_segment p) ++ replicate 172 0
    ++ flat_map word_bytes p.words
    ++ flat_map reloc_bytes p.relocs
    ++ replicate 16 0 ++ symbol_entries 34 p.symbols
    ++ section_names ++ symbol_names p.symbols ++ replicate (sections_at p - (strings_at p + strings_size p)) 0
    ++ flat_map section_bytes (sections_built p)
