use Rattle.std.proofs.Common.{◌++◌, ◌∷◌, []}
use Rattle.plan_core.specs.declared.profiles.Event.TheVariants.{Grant}
use Rattle.affinity.specs.Views.{seen_of}
use Rattle.affinity.proofs.Standing.{grant_pushed}
use Rattle.affinity.proofs.pushes.Affinity.grant.Goals as goal

pub invariant_of-self-2 : goal.invariant_of-self-2
invariant_of-self-2 c =
    let t = rw (← c.self.view_is) at c.requires in (
      c.self.invariant.0 ++ (Grant (seen_of c.self.inside).grants c.args.context ∷ []),
      rw (
        c.in_ok-add_grant.ensures.grants,
        c.in_ok-add_grant.ensures.ring,
        c.push_reserved.ensures.items,
        c.reserve.ensures.items,
        c.count_grant.ensures,
        c.reserve-2.ensures.items,
      )
          (grant_pushed (seen_of c.self.inside) c.self.invariant.0 c.args.context c.self.invariant.1 t),
    )

pub returns-clause-pushed : goal.returns-clause-pushed
returns-clause-pushed c = λ h p.
    let t = rw (← c.self.view_is) at c.requires in
    rw (
      ← c.self.view_is,
      c.in_ok-add_grant.ensures.grants,
      c.in_ok-add_grant.ensures.ring,
      c.push_reserved.ensures.items,
      c.reserve.ensures.items,
      c.count_grant.ensures,
      c.reserve-2.ensures.items,
    )
    (grant_pushed (seen_of c.self.inside) h c.args.context (rw (← c.self.view_is) at p) t)
