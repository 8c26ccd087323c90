use Rattle.flat_machine.proofs.ByRules.{steps_by_rules}
use Rattle.flat_machine.proofs.as_machine.FlatMachine.try_step.Goals as goal

pub returns-clause-turn : goal.returns-clause-turn
returns-clause-turn c = λ input. steps_by_rules _ input _ _ c.step.ensures.answer (c.step.ensures.turn input)
