use Rattle.std.proofs.Common.{◌≡◌}
use Rattle.selectors.specs.Sets.{members_of}
use Rattle.selectors.proofs.site_sets.insiders.Given as goal

abbrev pub invariant-loop-context : goal.invariant-loop-context
invariant-loop-context l = l.inside.items ≡ members_of l.context l.group
