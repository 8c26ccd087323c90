use Rattle.selectors.proofs.Searching.{rising_at}
use Rattle.selectors.proofs.site_sets.has.Goals as goal

pub contains-requires : goal.contains-requires
contains-requires c = rw c.sites_of.ensures (rising_at c.args.sets.now c.args.context c.requires)
