use Rattle.frag_code.proofs.Countdowns.{words_are, cost_is, turns_are, last_is, behind_is, counted_is}
use Rattle.frag_code.proofs.laws.a_countdown_costs_39_and_takes_21_steps.Goals as goal

pub returns : goal.returns
returns c = record {
  words = words_are;
  cost = cost_is;
  turns = turns_are;
  last = last_is;
  behind = behind_is;
  counted =
      counted_is;
}
