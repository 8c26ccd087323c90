-- The answer is among the rows that are left.
use Rattle.std.proofs.Common.{◌≡◌, ◌≤◌, drop}
use Rattle.first_check.specs.First.{first_from, first_item}
use Rattle.exec_image.specs.PlanFaults.{row_fault}
use Rattle.exec_image.proofs.plan_check.check_rows.Given as goal

abbrev pub invariant-loop-i : goal.invariant-loop-i
invariant-loop-i l = record {
  left : first_from row_fault l.i (drop l.i l.rows) ≡ first_item row_fault l.rows;
  few : l.i ≤ 64;
}
