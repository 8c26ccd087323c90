use Rattle.grouping.specs.Weights.{cut_of}
use Rattle.grouping.specs.Choosing.{IsBest, IsIdle}
use Rattle.grouping.proofs.choice.best.Given as goal

abbrev pub invariant-loop-context : goal.invariant-loop-context
invariant-loop-context g l =
    IsBest (λ x answer. (goal.Fn-dyn g).post (l.policy.rule.vtable, l.policy.rule.value)
    (cut_of l.kept.edges.items l.tolerance l.growth.members.items x, tt) answer)
    (IsIdle l.busy) l.context l.best
