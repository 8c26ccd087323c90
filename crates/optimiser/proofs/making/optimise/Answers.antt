-- A profile that has a text is one that is grouped, and the plan made of it fits the file.
use Rattle.std.proofs.Common.{◌≡◌, ◌≤◌, sym, ap, subst}
use Rattle.plan_core.specs.declared.types.Area.{Area}
use Rattle.plan_core.specs.declared.types.Plan.{Plan}
use Rattle.plan_core.specs.Plan.{granules}
use Rattle.site_spec.specs.Plans.{Fits}
use Rattle.optimiser.proofs.making.optimise.Goals as goal

pub make_plan-requires-clause-few : goal.make_plan-requires-clause-few
make_plan-requires-clause-few g c = c.requires.profile.few

pub make_plan-requires-clause-sizes : goal.make_plan-requires-clause-sizes
make_plan-requires-clause-sizes g c = c.requires.profile.sizes

pub make_plan-requires-clause-ordered : goal.make_plan-requires-clause-ordered
make_plan-requires-clause-ordered g c = c.requires.profile.ordered

pub unreachable-requires : goal.unreachable-requires
unreachable-requires g c =
    let area : c.in_ok-groups.field-0.plan.area ≡ c.args.area =
    ap (λ (p : Plan). p.area) c.in_ok-groups.ensures.plan.parts in
    let fits : Fits c.args.file.now c.in_ok-groups.field-0.plan =
    c.plans_of_near_sites_fit.ensures c.args.file.now c.args.profile.now.contexts c.in_ok-groups.field-0.plan
    c.in_ok-groups.ensures.made c.requires.near
    (subst (λ (a : Area). a.log_chunk ≤ 20) (sym area) c.requires.log_chunk)
    (subst (λ (a : Area). a.chunks ≤ 256) (sym area) c.requires.chunks)
    (subst (λ (a : Area). granules a ≤ 1048576) (sym area) c.requires.area) in
    c.in_default.not-Memory (c.in-Err.ensures.sure c.requires.accepted fits)

pub returns-in-Ok-clause-near : goal.returns-in-Ok-clause-near
returns-in-Ok-clause-near g c =
    c.plans_of_near_sites_choose_near_sites_alone.ensures c.args.file.now c.args.profile.now.contexts
    c.in_ok-groups.field-0.plan c.in_ok-groups.ensures.made c.requires.near
