use Rattle.affinity.proofs.HistoryLaws.{different_push}
use Rattle.affinity.proofs.laws.a_new_number_is_one_more.Goals as goal

pub returns : goal.returns
returns c = different_push
