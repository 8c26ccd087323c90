-- The slots of the tables that are left are missing.
use Rattle.std.proofs.Common.{◌≡◌, ◌++◌, drop}
use Rattle.reloc_table.specs.Slots.{covered}
use Rattle.reloc_table.proofs.slots.cover.Given as goal

abbrev pub invariant-loop-t : goal.invariant-loop-t
invariant-loop-t l = l.list.items ++ covered l.at (drop l.t-index l.sorted) ≡ covered 0 l.sorted
