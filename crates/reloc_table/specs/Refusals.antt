-- Why the relocations of a file are refused: the first check that they fail, with its item, and the
-- lowest index.
use Rattle.std.specs.Prelude.{ℕ, ◌+◌, ◌*◌, ◌/◌, not, List, length, Option, None, option_map}
use Rattle.std.specs.Prelude.{position, if◌then◌else◌}
use Rattle.std.specs.List.{list_any}
use Rattle.reloc_table.specs.declared.refusals.RelocRefusal.{RelocRefusal}
use Rattle.reloc_table.specs.declared.refusals.RelocRefusal.TheVariants.{NoRelocs, EntrySize, SymbolOut, Tls}
use Rattle.reloc_table.specs.declared.refusals.RelocRefusal.TheVariants.{Compressed}
use Rattle.elf_spec.specs.declared.Section.{Section}
use Rattle.elf_spec.specs.declared.Reloc.{Reloc}
use Rattle.elf_spec.specs.Records.{reloc_at, sections_of}
use Rattle.elf_spec.specs.Relocations.{is_kept_rela}
use Rattle.elf_spec.specs.Tables.{symbols_of}
use Rattle.first_check.specs.First.{◌or_else◌, when, first_item, first_of}
use Rattle.reloc_table.specs.Checks.{has_bad_entries, is_compressed, is_for_code, is_symbol_out, is_tls}

-- there are no entries for an executable section
unfoldable pub no_relocs : List Section → Option RelocRefusal
no_relocs sections = when (not (list_any (is_for_code sections) sections)) NoRelocs

unfoldable pub entry_size : List Section → Option RelocRefusal
entry_size sections = option_map EntrySize (position (has_bad_entries sections) sections)

-- the checks of an entry: the symbol is none of so many, or the kind isn't for a static program
-- without compressed code
unfoldable pub entry_refusal : (symbols section entry : ℕ) → Reloc → Option RelocRefusal
entry_refusal symbols section entry r =
    when (is_symbol_out symbols r) (SymbolOut section entry) or_else when (is_tls r) (Tls r.place)
    or_else when (is_compressed r) (Compressed r.place)

-- the first refusal of an entry of the section with this index
unfoldable pub section_refusal : List ℕ → (symbols section : ℕ) → Section → Option RelocRefusal
section_refusal file symbols section s =
    first_of (λ k. entry_refusal symbols section k (reloc_at file (s.offset + 12 * k))) (s.size / 12)

-- the first refusal of an entry of a section that is kept
abbrev pub kept_refusal : List ℕ → (symbols : ℕ) → List Section → ℕ → Section → Option RelocRefusal
kept_refusal file symbols sections i s = if is_kept_rela sections s then section_refusal file symbols i s else None

unfoldable pub bad_entry : List ℕ → (symbols : ℕ) → List Section → Option RelocRefusal
bad_entry file symbols sections = first_item (kept_refusal file symbols sections) sections

-- all checks, in their order
abbrev pub reloc_refusal : List ℕ → Option RelocRefusal
reloc_refusal file =
    no_relocs (sections_of file) or_else entry_size (sections_of file)
    or_else bad_entry file (length (symbols_of file)) (sections_of file)
