use Rattle.std.proofs.Common.{◌∙◌}
use Rattle.flat_machine.proofs.Waiting.{completes}
use Rattle.flat_machine.proofs.machine.Flat.fed.Goals as goal

pub returns-in-Input-clause-turn : goal.returns-in-Input-clause-turn
returns-in-Input-clause-turn c = λ m bytes rest at seen whole. rw c.gives.ensures
    (completes _ _ m _ _ bytes rest c.in-Input.is c.self.invariant (c.self.view_is ∙ seen) at whole)
