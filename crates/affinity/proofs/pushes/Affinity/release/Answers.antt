use Rattle.std.proofs.Common.{◌++◌, ◌∷◌, []}
use Rattle.plan_core.specs.declared.profiles.Event.TheVariants.{Release}
use Rattle.affinity.specs.Views.{seen_of}
use Rattle.affinity.proofs.Standing.{release_pushed}
use Rattle.affinity.proofs.pushes.Affinity.release.Goals as goal

pub invariant_of-self : goal.invariant_of-self
invariant_of-self c =
    let t = rw (← c.self.view_is) at c.requires in (
      c.self.invariant.0 ++ (Release c.args.block ∷ []),
      release_pushed (seen_of c.self.inside) c.self.invariant.0 c.args.block c.self.invariant.1 t,
    )

pub returns-clause-pushed : goal.returns-clause-pushed
returns-clause-pushed c = λ h p.
    let t = rw (← c.self.view_is) at c.requires in
    release_pushed (seen_of c.self.inside) h c.args.block (rw (← c.self.view_is) at p) t
