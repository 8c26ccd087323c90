use Rattle.profile_text.proofs.Laws.{TextLaws}
use Rattle.profile_text.proofs.Unique.{only_from, line_due}
use Rattle.profile_text.proofs.reader.read_profile.Goals as goal

pub returns-clause-only : goal.returns-clause-only
returns-clause-only c =
    let laws : TextLaws = record {
      field = c.numbers_are_read_as_they_are_written.ensures.field;
      leading = c.numbers_are_read_as_they_are_written.ensures.leading;
      hexadecimal = c.numbers_are_read_as_they_are_written.ensures.hexadecimal;
      front = c.parts_are_read_where_they_stand.ensures.front;
    } in
    λ p is text_is.
    only_from laws c.read_lines.result _ p c.read_lines.ensures.found c.read_lines.ensures.refused is text_is

pub returns-clause-line : goal.returns-clause-line
returns-clause-line c =
    let laws : TextLaws = record {
      field = c.numbers_are_read_as_they_are_written.ensures.field;
      leading = c.numbers_are_read_as_they_are_written.ensures.leading;
      hexadecimal = c.numbers_are_read_as_they_are_written.ensures.hexadecimal;
      front = c.parts_are_read_where_they_stand.ensures.front;
    } in
    λ n bad. line_due laws c.read_lines.result _ n c.read_lines.ensures.found c.read_lines.ensures.refused bad
