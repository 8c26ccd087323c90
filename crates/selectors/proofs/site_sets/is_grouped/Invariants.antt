use Rattle.std.proofs.Common.{◌≡◌, take, false}
use Rattle.selectors.specs.Sets.{is_in_any}
use Rattle.selectors.proofs.site_sets.is_grouped.Given as goal

abbrev pub invariant-loop-group : goal.invariant-loop-group
invariant-loop-group l = is_in_any (take l.group-index l.groups) l.context ≡ false
