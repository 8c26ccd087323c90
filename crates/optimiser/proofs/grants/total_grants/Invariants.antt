-- What was added up, with the rest, is the sum.
use Rattle.std.proofs.Common.{◌≡◌, ◌+◌, drop}
use Rattle.std.specs.Prelude.{sum_by}
use Rattle.optimiser.proofs.grants.total_grants.Given as goal

abbrev pub invariant-loop-k : goal.invariant-loop-k
invariant-loop-k l = l.total + sum_by (λ node. node.grants) (drop l.k l.fn.profile.graph.nodes)
    ≡ sum_by (λ node. node.grants) l.fn.profile.graph.nodes
