use Rattle.std.proofs.Common.{◌≡◌}
use Rattle.selectors.specs.Sets.{outside_of}
use Rattle.selectors.proofs.site_sets.outsiders.Given as goal

abbrev pub invariant-loop-context : goal.invariant-loop-context
invariant-loop-context l = l.outside.items ≡ outside_of l.context l.groups
