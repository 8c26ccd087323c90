use Rattle.std.proofs.Common.{◌≡◌, length}
use Rattle.affinity.specs.Near.{span, in_reach}
use Rattle.affinity.proofs.ring.drop_far.Given as goal

abbrev pub invariant-loop-reach : goal.invariant-loop-reach
invariant-loop-reach l =
    (l.reach ≡ span l.entries.items) × (in_reach l.distance l.entries.items ≡ in_reach l.distance l.fn.entries.items)

abbrev pub decreases-loop-reach : goal.decreases-loop-reach
decreases-loop-reach l = length l.entries.items
