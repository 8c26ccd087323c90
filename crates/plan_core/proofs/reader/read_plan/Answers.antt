use Rattle.plan_core.proofs.Unique.{only_from, line_due, over_due}
use Rattle.plan_core.proofs.reader.read_plan.Goals as goal

pub returns-clause-only : goal.returns-clause-only
returns-clause-only c =
    λ p is text_is. only_from c.lines_are_read_as_they_are_written.ensures c.read_lines.result _ p
    c.read_lines.ensures.found c.read_lines.ensures.refused is text_is

pub returns-clause-line : goal.returns-clause-line
returns-clause-line c =
    λ n bad. line_due c.lines_are_read_as_they_are_written.ensures c.read_lines.result _ n c.read_lines.ensures.found
    c.read_lines.ensures.refused bad

pub returns-clause-too_many : goal.returns-clause-too_many
returns-clause-too_many c =
    λ n over. over_due c.lines_are_read_as_they_are_written.ensures c.read_lines.result _ n c.read_lines.ensures.found
    c.read_lines.ensures.refused over
