-- The answer is among the lines that are left, with those before them.
use Rattle.std.proofs.Common.{◌≡◌, drop}
use Rattle.first_check.specs.First.{first_from, first_item}
use Rattle.exec_image.specs.PlanFaults.{site_fault}
use Rattle.exec_image.proofs.plan_check.check_lines.Given as goal

abbrev pub invariant-loop-i : goal.invariant-loop-i
invariant-loop-i l =
    first_from (site_fault l.file l.lines) l.i (drop l.i l.lines) ≡ first_item (site_fault l.file l.lines) l.lines
