use Rattle.std.proofs.Common.{◌≡◌, ℕ, ◌<◌, length, get_or, take}
use Rattle.grouping.specs.Weights.{weight_between}
use Rattle.grouping.proofs.kept.loop_weights.Given as goal

abbrev pub invariant-loop-edge : goal.invariant-loop-edge
invariant-loop-edge l = (length l.loops.items ≡ l.contexts) × ((y : ℕ) → y < length l.loops.items →
    get_or l.loops.items y 0 ≡ weight_between (take l.edge-index l.edges) y y)
