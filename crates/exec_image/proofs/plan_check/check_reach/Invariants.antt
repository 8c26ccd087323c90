-- The answer is among the lines that are left.
use Rattle.std.proofs.Common.{◌≡◌, drop}
use Rattle.first_check.specs.First.{first_from, first_item}
use Rattle.exec_image.specs.PlanFaults.{reach_fault}
use Rattle.exec_image.proofs.plan_check.check_reach.Given as goal

abbrev pub invariant-loop-k : goal.invariant-loop-k
invariant-loop-k l =
    first_from (reach_fault l.file) l.k (drop l.k l.lines) ≡ first_item (reach_fault l.file) l.lines
