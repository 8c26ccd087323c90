use Rattle.std.proofs.Common.{take}
use Rattle.selectors.specs.Sets.{holds_in}
use Rattle.selectors.specs.Counting.{IsTally}
use Rattle.selectors.proofs.site_sets.tally.Given as goal

abbrev pub invariant-loop-context : goal.invariant-loop-context
invariant-loop-context l = IsTally (holds_in l.sets) (take l.context-index l.contexts) l.sites l.counts.items
