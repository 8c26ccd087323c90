use Rattle.std.proofs.Common.{take}
use Rattle.selectors.specs.Counting.{AreSets}
use Rattle.selectors.proofs.site_sets.sorted.Given as goal

abbrev pub invariant-loop-context : goal.invariant-loop-context
invariant-loop-context l = AreSets (take l.context-index l.contexts) l.sets.items
