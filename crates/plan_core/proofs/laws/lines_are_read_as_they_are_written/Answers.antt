use Rattle.plan_core.proofs.LineLaws.{reads_lines}
use Rattle.plan_core.proofs.laws.lines_are_read_as_they_are_written.Goals as goal

pub returns : goal.returns
returns c = reads_lines (record {
  front = c.parts_are_read_where_they_stand.ensures.front;
  number = c.numbers_are_read_as_they_are_written.ensures.field;
  hexadecimal = c.numbers_are_read_as_they_are_written.ensures.hexadecimal;
})
