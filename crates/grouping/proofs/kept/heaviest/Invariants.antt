use Rattle.grouping.specs.Choosing.{IsHeaviest}
use Rattle.grouping.proofs.kept.heaviest.Given as goal

abbrev pub invariant-loop-edge : goal.invariant-loop-edge
invariant-loop-edge l = IsHeaviest l.edges l.busy l.edge-index l.best
