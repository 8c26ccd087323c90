use Rattle.std.proofs.Common.{ℕ, ◌<◌, ◌≤◌, ◌-◌, length, get_or}
use Rattle.selectors.proofs.site_sets.skip_below.Given as goal

abbrev pub invariant-loop-place : goal.invariant-loop-place
invariant-loop-place l = (l.from ≤ l.place) × (l.place ≤ length l.set)
    × ((k : ℕ) → l.from ≤ k → k < l.place → get_or l.set k 0 < l.site)

abbrev pub decreases-loop-place : goal.decreases-loop-place
decreases-loop-place l = length l.set - l.place
