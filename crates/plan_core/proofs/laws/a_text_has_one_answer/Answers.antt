use Rattle.std.proofs.Common.{refl}
use Rattle.plan_core.specs.Plan.{plan_text}
use Rattle.plan_core.proofs.Unique.{one_bad, one_over, one_text, not_both, not_bad, not_over}
use Rattle.plan_core.proofs.laws.a_text_has_one_answer.Goals as goal

pub returns : goal.returns
returns c = record {
  plan = one_text c.lines_are_read_as_they_are_written.ensures;
  line = one_bad c.lines_are_read_as_they_are_written.ensures;
  too_many = one_over c.lines_are_read_as_they_are_written.ensures;
  line_alone = not_both c.lines_are_read_as_they_are_written.ensures;
  plan_not_line = λ p n is. not_bad c.lines_are_read_as_they_are_written.ensures p (plan_text p) n is refl;
  plan_not_too_many = λ p n is. not_over c.lines_are_read_as_they_are_written.ensures p (plan_text p) n is refl;
}
