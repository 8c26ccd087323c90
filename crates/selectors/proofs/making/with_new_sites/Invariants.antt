use Rattle.std.proofs.Common.{◌≡◌, take}
use Rattle.selectors.specs.Rows.{with_new}
use Rattle.selectors.proofs.making.with_new_sites.Given as goal

abbrev pub invariant-loop-site : goal.invariant-loop-site
invariant-loop-site l = l.all.items ≡ with_new l.sites (take l.site-index l.set)
