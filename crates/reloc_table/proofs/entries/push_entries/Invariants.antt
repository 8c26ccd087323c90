-- The entries so far are added.
use Rattle.std.proofs.Common.{◌≡◌, ◌++◌}
use Rattle.elf_spec.specs.Records.{entries, reloc_at}
use Rattle.reloc_table.proofs.entries.push_entries.Given as goal

abbrev pub invariant-loop-k : goal.invariant-loop-k
invariant-loop-k l = l.list.items ≡ l.initial.list.items ++ entries (reloc_at l.file) 12 l.t.offset l.k
