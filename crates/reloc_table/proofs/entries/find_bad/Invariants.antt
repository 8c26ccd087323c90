-- The refused ones of the slots that are left are missing.
use Rattle.std.proofs.Common.{◌≡◌, ◌++◌, drop, filter}
use Rattle.reloc_table.specs.Slots.{is_bad_at}
use Rattle.reloc_table.proofs.entries.find_bad.Given as goal

abbrev pub invariant-loop-slot : goal.invariant-loop-slot
invariant-loop-slot l = l.bad.items ++ filter (is_bad_at l.file l.symbols) (drop l.slot-index l.slots)
    ≡ filter (is_bad_at l.file l.symbols) l.slots
