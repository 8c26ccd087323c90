use Rattle.std.proofs.Common.{◌≡◌, ◌≤◌, ◌<◌, ◌+◌, ℕ, length, drop}
use Rattle.std.specs.Prelude.{All}
use Rattle.indexmap.specs.IndexMap.{spare}
use Rattle.affinity.specs.State.{weight_at}
use Rattle.affinity.specs.Near.{near_count}
use Rattle.affinity.proofs.counting.count_near.Given as goal

abbrev pub invariant-loop-at : goal.invariant-loop-at
invariant-loop-at l =
    ((low high : ℕ) → weight_at l.weights.entries low high + near_count l.grants.contexts l.block low high
    (drop l.at l.ring.entries)
    ≡ weight_at l.fn.weights.entries low high + near_count l.grants.contexts l.block low high l.ring.entries)
    × (length l.ring.entries ≤ spare l.weights + l.at + 1)
    × (All (λ e. 0 < e.1) l.fn.weights.entries → All (λ e. 0 < e.1) l.weights.entries)
