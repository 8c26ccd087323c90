use Rattle.std.proofs.Common.{◌≡◌, ℕ, ◌<◌, length, get_or}
use Rattle.selectors.specs.Counting.{IsLeast}
use Rattle.selectors.proofs.next_site.least.Given as goal

abbrev pub invariant-loop-i : goal.invariant-loop-i
invariant-loop-i l = (left : ℕ → ℕ) → ((i : ℕ) → i < length l.own → get_or l.counts i 0 ≡ left (get_or l.own i 0)) →
    IsLeast left l.own l.chosen l.i l.best
