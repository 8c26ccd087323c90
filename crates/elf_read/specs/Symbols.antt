-- The symbol table and its strings inside a file of so many bytes, and what is read of them.
use Rattle.std.specs.Prelude.{◌≡◌, ℕ, ◌+◌, ◌*◌, ◌/◌, ◌≤◌, Bool, List, Some, Result, find}
use Rattle.std.specs.Prelude.{option_map}
use Rattle.first_check.specs.Answers.{GivesOrRefuses}
use Rattle.first_check.specs.First.{first_below}
use Rattle.elf_read.specs.declared.refusals.ElfRefusal.{ElfRefusal}
use Rattle.elf_read.specs.declared.refusals.ElfRefusal.TheVariants.{Memory, NameOut}
use Rattle.elf_read.specs.declared.symbols.Tables.{Tables}
use Rattle.elf_spec.specs.declared.Section.{Section}
use Rattle.elf_spec.specs.declared.Symbol.{Symbol}
use Rattle.elf_spec.specs.Fields.{word_at}
use Rattle.elf_spec.specs.Records.{entries}
use Rattle.elf_spec.specs.Tables.{is_symtab, strings_of, symbol_at, symbols_in}
use Rattle.elf_read.specs.Checks.{is_name_out}
use Rattle.elf_read.specs.Refusals.{name_out}

pub record IsTables (bytes : ℕ) (sections : List Section) (tables : Tables) : Type 0 where
  pub symbols : find is_symtab sections ≡ Some tables.symbols
  pub strings : strings_of sections (Some tables.symbols) ≡ Some tables.strings
  pub symbols_inside : tables.symbols.offset + tables.symbols.size ≤ bytes
  pub strings_inside : tables.strings.offset + tables.strings.size ≤ bytes

-- the name of the i-th symbol does not end in the strings
abbrev pub is_out_at : List ℕ → Tables → ℕ → Bool
is_out_at file tables i = is_name_out file tables.strings (word_at file (tables.symbols.offset + 16 * i))

-- the symbols of these tables, or the refusal of the first whose name is out; memory may lack
abbrev pub GivesIn : Result (List Symbol) ElfRefusal → List ℕ → Tables → Type 0
GivesIn result file tables =
    GivesOrRefuses Memory result
    (option_map NameOut (first_below (is_out_at file tables) (tables.symbols.size / 16)))
    (entries (symbol_at file tables.strings) 16 tables.symbols.offset (tables.symbols.size / 16))

-- the symbols of a file with these sections
abbrev pub symbols_with : List ℕ → List Section → List Symbol
symbols_with file sections = symbols_in file (find is_symtab sections) (strings_of sections (find is_symtab sections))

-- all symbols, or the refusal of the first whose name is out; memory may lack
abbrev pub GivesSymbols : Result (List Symbol) ElfRefusal → List ℕ → List Section → Type 0
GivesSymbols result file sections =
    GivesOrRefuses Memory result (name_out file sections) (symbols_with file sections)
