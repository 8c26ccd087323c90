use Rattle.std.proofs.Common.{◌≡◌, ◌<◌, ◌++◌, ℕ, map, take, get_or}
use Rattle.plan_core.specs.declared.types.PlanLine.{PlanLine}
use Rattle.plan_core.specs.declared.lines.TextLine.TheVariants.{Site}
use Rattle.plan_core.specs.Plan.{text_of, SiteFits}
use Rattle.plan_core.proofs.writer.write_sites.Given as goal

abbrev pub invariant-loop-site : goal.invariant-loop-site
invariant-loop-site l =
    (l.out.items ≡ l.fn.out.items ++ text_of (map Site (take l.site-index l.sites)))
    × ((k : ℕ) (d : PlanLine) → k < l.site-index → SiteFits (get_or l.sites k d))
