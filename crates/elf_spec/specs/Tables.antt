-- The symbol table and its strings (gABI, "Symbol Table", "String Table"): the table is the first
-- section of kind SYMTAB (2), its names stand in the section that its link names.
use Rattle.std.specs.Prelude.{ℕ, ◌+◌, ◌/◌, ◌==◌, List, [], Bool, not, drop, take, position, find, Option, Some, None}
use Rattle.std.specs.Prelude.{if◌then◌else◌, slice_get}
use Rattle.std.specs.List.{prefix_len}
use Rattle.elf_spec.specs.declared.Section.{Section}
use Rattle.elf_spec.specs.declared.Symbol.{Symbol}
use Rattle.elf_spec.specs.Fields.{byte_at, half_at, word_at}
use Rattle.elf_spec.specs.Records.{entries, sections_of}

abbrev pub is_symtab : Section → Bool
is_symtab s = s.kind == 2

-- which section is the symbol table
abbrev pub symtab_index : List Section → Option ℕ
symtab_index sections = position is_symtab sections

-- the length of the name that begins at an offset: up to the first zero byte
abbrev pub name_len_at : List ℕ → ℕ → ℕ
name_len_at file at = prefix_len (λ b. not (b == 0)) (drop at file)

-- a symbol whose name, where it has one, stands in these strings
unfoldable pub symbol_at : List ℕ → Section → ℕ → Symbol
symbol_at file strings at = record {
  name_at = (if word_at file at == 0 then 0 else strings.offset + word_at file at);
  name_len = (if word_at file at == 0 then 0 else name_len_at file (strings.offset + word_at file at));
  value = word_at file (at + 4);
  size = word_at file (at + 8);
  info = byte_at file (at + 12);
  section = half_at file (at + 14);
}

abbrev pub symbols_in : List ℕ → Option Section → Option Section → List Symbol
symbols_in file (Some table) (Some strings) = entries (symbol_at file strings) 16 table.offset (table.size / 16)
symbols_in file _ _ = []

abbrev pub strings_of : List Section → Option Section → Option Section
strings_of sections (Some table) = slice_get sections table.link
strings_of sections None = None

-- the symbols, in the table's order
abbrev pub symbols_of : List ℕ → List Symbol
symbols_of file =
    let sections : List Section = sections_of file in
    let table : Option Section = find is_symtab sections in
    symbols_in file table (strings_of sections table)

-- the bytes of a symbol's name
abbrev pub symbol_name : List ℕ → Symbol → List ℕ
symbol_name file s = take s.name_len (drop s.name_at file)
