use Rattle.flat_machine.proofs.ByRules.{ends_read}
use Rattle.flat_machine.proofs.as_machine.FlatMachine.end_read.Goals as goal

pub returns-clause-turn : goal.returns-clause-turn
returns-clause-turn c = ends_read c.args.self.now c.fed.new.self c.fed.ensures.turn
