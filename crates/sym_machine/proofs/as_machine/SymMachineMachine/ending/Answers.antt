use Rattle.sym_machine.proofs.ByRules.{ended_stays}
use Rattle.sym_machine.proofs.as_machine.SymMachineMachine.ending.Goals as goal

pub returns-clause-stays : goal.returns-clause-stays
returns-clause-stays c = λ ended. ended_stays _ _ c.how_it_ends.ensures ended
