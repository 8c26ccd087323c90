use Rattle.flat_spec.proofs.Runs.{fetched_turn, more_steps, one_turn, quiet_step}
use Rattle.flat_spec.proofs.laws.turns_follow_one_another.Goals as goal

pub returns : goal.returns
returns c = record {
  more = more_steps;
  one = one_turn;
  word = fetched_turn;
  quiet = quiet_step;
}
