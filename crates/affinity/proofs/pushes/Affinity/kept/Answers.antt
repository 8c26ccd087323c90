use Rattle.std.proofs.Common.{◌∙◌, arith}
use Rattle.affinity.specs.Views.{seen_of}
use Rattle.affinity.proofs.Accesses.{kept_pushed, kept_few}
use Rattle.affinity.proofs.pushes.Affinity.kept.Goals as goal

pub overflow_cast-result : goal.overflow_cast-result
overflow_cast-result c =
    let few = kept_few (seen_of c.self.inside) c.self.invariant.0 c.self.invariant.1 in
    omega (arith, few, c.self.invariant.1.near, c.len.ensures)

pub returns-clause-kept : goal.returns-clause-kept
returns-clause-kept c = λ h p.
    rw (← c.self.view_is) (c.len.ensures ∙ kept_pushed (seen_of c.self.inside) h (rw (← c.self.view_is) at p))

pub returns-clause-few : goal.returns-clause-few
returns-clause-few c =
    let few = kept_few (seen_of c.self.inside) c.self.invariant.0 c.self.invariant.1 in
    rw (← c.self.view_is) (omega (arith, few, c.len.ensures))
