-- So many numbers are added.
use Rattle.std.proofs.Common.{◌≡◌, ◌++◌}
use Rattle.reloc_table.specs.Slots.{numbers}
use Rattle.reloc_table.proofs.slots.push_numbers.Given as goal

abbrev pub invariant-loop-k : goal.invariant-loop-k
invariant-loop-k l = l.list.items ≡ l.initial.list.items ++ numbers l.from l.k
