use Rattle.flat_machine.proofs.ByRules.{feeds_on}
use Rattle.flat_machine.proofs.as_machine.FlatMachine.take_piece.Goals as goal

pub returns-clause-adds_up : goal.returns-clause-adds_up
returns-clause-adds_up c = λ m len bytes is. feeds_on _ _ _ m len bytes c.feed.ensures.exact is
