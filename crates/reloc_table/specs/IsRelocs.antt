-- What the entries of a file are held as.
use Rattle.std.specs.Prelude.{◌≡◌, Bool, All, length}
use Rattle.std.specs.List.{list_any}
use Rattle.elf_spec.specs.declared.Reloc.{Reloc}
use Rattle.reloc_table.specs.declared.relocs.Relocs.TheInside.{Inside}
use Rattle.reloc_table.specs.Slots.{IsTableInside, entries_of}

-- the tables are in the file, and a test passes for one of the entries that are held once exactly where
-- it passes for one of the tables' entries
pub record IsRelocs (a : Inside) : Type 0 where
  pub inside : All (IsTableInside (length a.file.now)) a.tables.items
  pub once : (p : Reloc → Bool) → list_any p a.once.items ≡ list_any p (entries_of a.file.now a.tables.items)
