-- The answer is among the rows that are left; the masks so far are words.
use Rattle.std.proofs.Common.{◌≡◌, ℕ, ◌<◌, ◌^◌, drop, get_or}
use Rattle.plan_core.specs.declared.types.Row.{Row}
use Rattle.first_check.specs.First.{first_from, first_item}
use Rattle.exec_image.specs.PlanFaults.{mask_fault}
use Rattle.exec_image.proofs.plan_check.check_masks.Given as goal

abbrev pub invariant-loop-row : goal.invariant-loop-row
invariant-loop-row l = record {
  left : first_from (mask_fault l.lines) l.row-index (drop l.row-index l.rows) ≡ first_item (mask_fault l.lines) l.rows;
  bound : (k : ℕ) (d : Row) → k < l.row-index → (get_or l.rows k d).mask < 2 ^ 32;
}
