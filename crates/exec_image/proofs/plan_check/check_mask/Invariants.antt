-- No bit so far is strange.
use Rattle.std.proofs.Common.{◌≡◌, None}
use Rattle.first_check.specs.First.{first_below}
use Rattle.exec_image.specs.PlanFaults.{is_strange_bit}
use Rattle.exec_image.proofs.plan_check.check_mask.Given as goal

abbrev pub invariant-loop-bit : goal.invariant-loop-bit
invariant-loop-bit l = first_below (is_strange_bit l.lines l.mask) l.bit ≡ None
