use Rattle.std.proofs.Common.{◌≡◌, ℕ, ◌+◌, ◌<◌, length, get_or, take}
use Rattle.grouping.specs.Weights.{weight_between}
use Rattle.grouping.proofs.growth.add_edges.Given as goal

abbrev pub invariant-loop-edge : goal.invariant-loop-edge
invariant-loop-edge l = (y : ℕ) → y < length l.cross →
    get_or l.cross y 0 ≡ get_or l.fn.cross y 0 + weight_between (take l.edge-index l.edges) y l.context
