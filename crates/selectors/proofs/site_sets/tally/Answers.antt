use Rattle.std.proofs.Common.{get_or}
use Rattle.selectors.specs.Sets.{holds_in}
use Rattle.selectors.proofs.Searching.{rising_at, tally_room}
use Rattle.selectors.proofs.site_sets.tally.Goals as goal

pub add_holder-requires-clause-set : goal.add_holder-requires-clause-set
add_holder-requires-clause-set c = rw c.sites_of.ensures
    (rising_at c.args.sets.now (get_or c.args.contexts.now c.loop-context.context-index 0) c.requires.sets)

pub add_holder-requires-clause-room : goal.add_holder-requires-clause-room
add_holder-requires-clause-room c = rw c.as_mut_slice.ensures.value
    (tally_room (holds_in c.args.sets.now) c.args.contexts.now c.args.sites.now c.loop-context.context-index
    c.loop-context.counts.items c.requires.few c.loop-context-test.true c.loop-context.invariant)
