-- The answer is among the lines that are left, with those before them.
use Rattle.std.proofs.Common.{◌≡◌, drop}
use Rattle.first_check.specs.First.{first_from, first_item}
use Rattle.exec_image.specs.PlanFaults.{bit_fault}
use Rattle.exec_image.proofs.plan_check.check_bits.Given as goal

abbrev pub invariant-loop-i : goal.invariant-loop-i
invariant-loop-i l =
    first_from (bit_fault l.lines) l.i (drop l.i l.lines) ≡ first_item (bit_fault l.lines) l.lines
