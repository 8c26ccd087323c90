use Rattle.simulation.proofs.OneTurn.{each_turn}
use Rattle.simulation.proofs.Running.{keeps}
use Rattle.simulation.proofs.laws.a_new_file_on_its_ground_keeps_behaviour.Goals as goal

pub returns-clause-keeps : goal.returns-clause-keeps
returns-clause-keeps c = keeps

pub returns-clause-follows : goal.returns-clause-follows
returns-clause-follows c = each_turn
