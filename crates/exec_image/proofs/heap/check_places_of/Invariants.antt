-- The answer is among the names that are left.
use Rattle.std.proofs.Common.{◌≡◌, drop}
use Rattle.first_check.specs.First.{first_from, first_item}
use Rattle.exec_image.specs.Refusals.{twice_fault}
use Rattle.exec_image.proofs.heap.check_places_of.Given as goal

abbrev pub invariant-loop-i : goal.invariant-loop-i
invariant-loop-i l = first_from (twice_fault l.heap.file.now l.names) l.i (drop l.i l.names) ≡ first_item (twice_fault l.heap.file.now l.names) l.names
