use Rattle.std.proofs.Common.{refl}
use Rattle.profile_text.specs.Profile.{profile_text}
use Rattle.profile_text.proofs.Laws.{TextLaws}
use Rattle.profile_text.proofs.Unique.{one_bad, one_text, not_bad}
use Rattle.profile_text.proofs.one_answer.a_profile_text_has_one_answer.Goals as goal

pub returns : goal.returns
returns c =
    let laws : TextLaws = record {
      field = c.numbers_are_read_as_they_are_written.ensures.field;
      leading = c.numbers_are_read_as_they_are_written.ensures.leading;
      hexadecimal = c.numbers_are_read_as_they_are_written.ensures.hexadecimal;
      front = c.parts_are_read_where_they_stand.ensures.front;
    } in
    record {
      profile = one_text laws;
      line = one_bad laws;
      profile_not_line = λ p n is. not_bad laws p (profile_text p) n is refl;
    }
