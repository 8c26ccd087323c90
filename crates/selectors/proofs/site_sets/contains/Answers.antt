use Rattle.std.proofs.Common.{◌∙◌}
use Rattle.std.proofs.lemmas.List.Sorted.{searched}
use Rattle.selectors.proofs.Searching.{found_is}
use Rattle.selectors.proofs.site_sets.contains.Goals as goal

pub returns : goal.returns
returns c = c.is_ok.ensures.value ∙ found_is c.args.set.now c.args.site c.binary_search.result
    (searched c.args.set.now c.args.site c.binary_search.result c.binary_search.ensures.position c.requires)
