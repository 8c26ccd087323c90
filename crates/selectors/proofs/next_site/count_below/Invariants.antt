use Rattle.std.proofs.Common.{◌≡◌, ◌≤◌, take, count_by, nat_lt}
use Rattle.selectors.proofs.next_site.count_below.Given as goal

abbrev pub invariant-loop-other : goal.invariant-loop-other
invariant-loop-other l = (l.count ≡ count_by (λ t. nat_lt t l.site) (take l.other-index l.set)) ×
    (l.count ≤ l.other-index)
