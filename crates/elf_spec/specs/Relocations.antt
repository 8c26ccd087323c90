-- The relocation entries of an executable that was linked with its relocations kept (gABI,
-- "Relocation"; psABI, "Relocations"): those of the RELA sections (kind 4) without the ALLOC flag
-- (2) that name the symbol table and apply to a section with the ALLOC flag.
use Rattle.std.specs.Prelude.{ℕ, ◌/◌, ◌==◌, List, Bool, false, not, ◌&&◌, filter, flat_map, Option, Some, None}
use Rattle.std.specs.Prelude.{slice_get}
use Rattle.std.specs.List.{list_any}
use Rattle.elf_spec.specs.declared.Section.{Section}
use Rattle.elf_spec.specs.declared.Reloc.{Reloc}
use Rattle.elf_spec.specs.Fields.{is_set}
use Rattle.elf_spec.specs.Records.{entries, reloc_at, sections_of}
use Rattle.elf_spec.specs.Tables.{symtab_index}

abbrev pub is_at : Option ℕ → ℕ → Bool
is_at (Some i) n = i == n
is_at None n = false

abbrev pub is_alloc : Option Section → Bool
is_alloc (Some s) = is_set 2 s.flags
is_alloc None = false

abbrev pub is_kept_rela : List Section → Section → Bool
is_kept_rela sections s =
    s.kind == 4 && not (is_set 2 s.flags) && is_at (symtab_index sections) s.link && is_alloc
    (slice_get sections s.info)

-- the entries in order of section and entry
abbrev pub relocs_of : List ℕ → List Reloc
relocs_of file =
    let sections : List Section = sections_of file in
    flat_map (λ s. entries (reloc_at file) 12 s.offset (s.size / 12)) (filter (is_kept_rela sections) sections)

-- some entry of this kind applies to this address
abbrev pub has_reloc : List Reloc → ℕ → ℕ → Bool
has_reloc relocs kind place = list_any (λ r. (r.kind == kind) && (r.place == place)) relocs
