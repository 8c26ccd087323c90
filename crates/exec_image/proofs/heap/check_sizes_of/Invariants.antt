-- The answer is among the names that are left.
use Rattle.std.proofs.Common.{◌≡◌, drop}
use Rattle.first_check.specs.First.{first_from, first_item}
use Rattle.exec_image.specs.Refusals.{small_fault}
use Rattle.exec_image.proofs.heap.check_sizes_of.Given as goal

abbrev pub invariant-loop-name : goal.invariant-loop-name
invariant-loop-name l = first_from (small_fault l.heap.file.now) l.name-index (drop l.name-index l.names) ≡ first_item (small_fault l.heap.file.now) l.names
