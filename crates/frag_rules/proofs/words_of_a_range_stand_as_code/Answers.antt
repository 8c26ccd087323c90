use Rattle.frag_rules.proofs.Standing.{words_stand}
use Rattle.frag_rules.proofs.words_of_a_range_stand_as_code.Goals as goal

pub returns : goal.returns
returns c = words_stand
