use Rattle.affinity.proofs.HistoryLaws.{legal_nil, legal_push}
use Rattle.affinity.proofs.laws.lists_stay_legal_event_by_event.Goals as goal

pub returns-clause-empty : goal.returns-clause-empty
returns-clause-empty c = legal_nil

pub returns-clause-more : goal.returns-clause-more
returns-clause-more c = legal_push
