use Rattle.halo_cli.proofs.Rows.{line_answers}
use Rattle.halo_cli.proofs.halo.Goals as goal

pub returns : goal.returns
returns g c = line_answers
    (record {
      plan = c.a_text_has_one_answer.ensures.plan;
      line = c.a_text_has_one_answer.ensures.line;
      too_many = c.a_text_has_one_answer.ensures.too_many;
      line_alone = c.a_text_has_one_answer.ensures.line_alone;
      plan_not_line = c.a_text_has_one_answer.ensures.plan_not_line;
      plan_not_too_many = c.a_text_has_one_answer.ensures.plan_not_too_many;
    })
    c.profiles_come_to_one_ending.ensures
    c.words_ask_for_one_thing.ensures c.words_with_a_wrong_one_are_no_line.ensures _ _ _ _ _ _
    c.run_line-ending.ensures c.finish.ensures
