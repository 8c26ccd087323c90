-- Which plans are made of a profile.
use Rattle.std.specs.Prelude.{◌≡◌, ℤ, List, ℕ, length, true, Some}
use Rattle.plan_core.specs.declared.profiles.Profile.{Profile}
use Rattle.plan_core.specs.declared.types.Area.{Area}
use Rattle.plan_core.specs.declared.types.Plan.{Plan}
use Rattle.group_policy.specs.declared.cut.Cut.{Cut}
use Rattle.grouping.specs.declared.making.Options.{Options}
use Rattle.grouping.specs.Weights.{kept_edges}
use Rattle.grouping.specs.Greedy.{Greedy}
use Rattle.selectors.specs.declared.selecting.Selected.{Selected}
use Rattle.selectors.specs.Sets.{holds_in}
use Rattle.selectors.specs.Rows.{Rows}
use Rattle.selectors.specs.Fitting.{IsFitting}
use Rattle.site_spec.specs.declared.Site.{Site}
use Rattle.site_spec.specs.Sites.{site_at}

-- the groups, made greedily as a rule answers, have these rows and sites, and the plan has them with the area
pub record IsPlanFor (answers : Cut → ℤ → Type 0) (profile : Profile) (area : Area) (options : Options)
    (groups : List (List ℕ)) (plan : Plan) : Type 0 where
  pub greedy : Greedy answers options.tolerance (length profile.graph.nodes)
      (kept_edges options.least_edge profile.graph.edges) groups
  pub selected : Selected
  pub is_selected : Rows (holds_in profile.contexts) (length profile.contexts) groups selected
  pub parts : plan ≡ record { sites = selected.sites; rows = selected.rows; area = area }

-- the plan is one for some groups
abbrev pub IsPlanOf : (Cut → ℤ → Type 0) → Profile → Area → Options → Plan → Type 0
IsPlanOf answers profile area options plan =
    (groups : List (List ℕ)) × IsPlanFor answers profile area options groups plan

-- its sites stand on contexts and on bits of their own, and its rows have bits of sites; both are few
abbrev pub IsMade : List (List ℕ) → Plan → Type 0
IsMade contexts plan = IsFitting contexts (record { rows = plan.rows; sites = plan.sites; dropped = 0 })

-- each address in the contexts is that of a near site of a file
abbrev pub AreNearSites : List ℕ → List (List ℕ) → Type 0
AreNearSites file contexts = (d a : ℕ) → holds_in contexts d a ≡ true
    → (site : Site) × (site_at file a ≡ Some site) × (site.near ≡ true)
