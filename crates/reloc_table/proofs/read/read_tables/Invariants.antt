-- The tables of the sections that are left are missing.
use Rattle.std.proofs.Common.{◌≡◌, ◌++◌, drop, filter, map}
use Rattle.elf_spec.specs.Relocations.{is_kept_rela}
use Rattle.reloc_table.specs.Slots.{table_of, tables_of}
use Rattle.reloc_table.proofs.read.read_tables.Given as goal

abbrev pub invariant-loop-s : goal.invariant-loop-s
invariant-loop-s l = l.list.items ++ map table_of (filter (is_kept_rela l.sections) (drop l.s-index l.sections))
    ≡ tables_of l.sections
