use Rattle.std.proofs.Common.{◌≡◌, take}
use Rattle.affinity.specs.Edges.{edges_in}
use Rattle.affinity.proofs.edges.edges_of.Given as goal

abbrev pub invariant-loop-at : goal.invariant-loop-at
invariant-loop-at l = l.edges.items ≡ edges_in (take l.at l.weights.entries)
