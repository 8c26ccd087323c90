use Rattle.sym_value.proofs.TestLaws.{decide_holds}
use Rattle.sym_value.proofs.ApplyLaw.{apply_holds}
use Rattle.sym_value.proofs.laws.values_stand_for_their_words.Goals as goal

pub returns : goal.returns
returns c = record {
  operations = apply_holds;
  conditions = λ back at live cond a b so v w placed sa sb e. decide_holds back at live cond placed a b so v w sa sb e;
}
