-- The entries of the tables that are left are missing.
use Rattle.std.proofs.Common.{◌≡◌, ◌++◌, drop}
use Rattle.reloc_table.specs.Slots.{entries_of}
use Rattle.reloc_table.proofs.entries.table_entries.Given as goal

abbrev pub invariant-loop-t : goal.invariant-loop-t
invariant-loop-t l = l.list.items ++ entries_of l.file (drop l.t-index l.tables) ≡ entries_of l.file l.tables
