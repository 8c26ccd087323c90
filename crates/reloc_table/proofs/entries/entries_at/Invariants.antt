-- The entries at the slots that are left are missing.
use Rattle.std.proofs.Common.{◌≡◌, ◌++◌, drop, map}
use Rattle.reloc_table.specs.Slots.{entry_in}
use Rattle.reloc_table.proofs.entries.entries_at.Given as goal

abbrev pub invariant-loop-slot : goal.invariant-loop-slot
invariant-loop-slot l = l.list.items ++ map (entry_in l.file) (drop l.slot-index l.slots)
    ≡ map (entry_in l.file) l.slots
