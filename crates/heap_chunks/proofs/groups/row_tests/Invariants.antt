use Rattle.std.proofs.Common.{◌≡◌, ◌≤◌, length, drop}
use Rattle.frag_code.specs.Fragments.{plain}
use Rattle.heap_chunks.specs.Groups as specs
use Rattle.heap_chunks.proofs.groups.row_tests.Given as goal

abbrev pub invariant-loop-left : goal.invariant-loop-left
invariant-loop-left l = (plain l.all ≡ specs.row_tests (drop l.left l.fn.rows)) × (l.left ≤ length l.fn.rows)

abbrev pub decreases-loop-left : goal.decreases-loop-left
decreases-loop-left l = l.left
