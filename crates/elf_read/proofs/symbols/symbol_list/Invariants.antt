-- The symbols so far are read.
use Rattle.std.proofs.Common.{◌≡◌}
use Rattle.elf_spec.specs.Records.{entries}
use Rattle.elf_spec.specs.Tables.{symbol_at}
use Rattle.elf_read.proofs.symbols.symbol_list.Given as goal

abbrev pub invariant-loop-i : goal.invariant-loop-i
invariant-loop-i l = l.list ≡ entries (symbol_at l.file l.tables.strings) 16 l.tables.symbols.offset l.i
