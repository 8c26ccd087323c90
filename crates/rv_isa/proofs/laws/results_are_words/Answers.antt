use Rattle.rv_isa.proofs.Bounds.{computed-lt}
use Rattle.rv_isa.proofs.laws.results_are_words.Goals as goal

pub returns : goal.returns
returns c = computed-lt
