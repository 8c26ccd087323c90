use Rattle.std.proofs.Common.{◌≡◌, ◌<◌, ◌++◌, ℕ, map, take, get_or}
use Rattle.plan_core.specs.declared.types.Row.{Row}
use Rattle.plan_core.specs.declared.lines.TextLine.TheVariants.{Mask}
use Rattle.plan_core.specs.Plan.{text_of, RowFits}
use Rattle.plan_core.proofs.writer.write_rows.Given as goal

abbrev pub invariant-loop-row : goal.invariant-loop-row
invariant-loop-row l =
    (l.out.items ≡ l.fn.out.items ++ text_of (map Mask (take l.row-index l.rows)))
    × ((k : ℕ) (d : Row) → k < l.row-index → RowFits (get_or l.rows k d))
