-- A plan that is made of contexts of near sites chooses near sites alone.
use Rattle.std.proofs.Common.{◌≡◌, ◌∙◌, ℕ, true, List, Option, Some, sym, ap, subst}
use Rattle.std.proofs.lemmas.List.Elements.{All-weaker}
use Rattle.plan_core.specs.declared.types.Plan.{Plan}
use Rattle.plan_core.specs.declared.types.PlanLine.{PlanLine}
use Rattle.selectors.specs.Fitting.{IsSiteOf}
use Rattle.site_spec.specs.declared.Site.{Site}
use Rattle.site_spec.specs.Sites.{site_at}
use Rattle.plan_making.specs.Plans.{IsMade, AreNearSites}
use Rattle.tidy_runs.specs.Tidy.{AreNear}

pub near_alone : (file : List ℕ) (contexts : List (List ℕ)) (plan : Plan) → IsMade contexts plan
    → AreNearSites file contexts → AreNear file plan.sites
near_alone file contexts plan made near =
    All-weaker (λ line. IsSiteOf contexts line.addr)
    (λ line. (s : Site) → site_at file line.addr ≡ Some s → s.near ≡ true) is_near plan.sites made.sites
  where
    is_near : (line : PlanLine) → IsSiteOf contexts line.addr → (s : Site) → site_at file line.addr ≡ Some s
        → s.near ≡ true
    is_near line (d, low, held) s found =
        let (site, is, close) = near d line.addr held in
        let same : Some site ≡ Some s = sym is ∙ found in
        let one : site ≡ s = cc in
        subst (λ (t : Site). t.near ≡ true) one close
