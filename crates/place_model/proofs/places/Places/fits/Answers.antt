use Rattle.std.proofs.Common.{◌≤◌, sym, ◌∙◌, subst}
use Rattle.plan_core.specs.Plan.{granules}
use Rattle.place_model.specs.Heap.{Heap}
use Rattle.place_model.proofs.Kept.{small, spot_small}
use Rattle.place_model.proofs.places.Places.fits.Goals as goal

pub spot-requires-clause-group : goal.spot-requires-clause-group
spot-requires-clause-group c =
    small c.self.inside.plan c.self.inside.base c.args.bits c.self.inside.tables c.group_of-group.result
    c.self.invariant c.group_of-group.ensures.value

pub returns-clause-small : goal.returns-clause-small
returns-clause-small c = λ is.
    subst (λ (h : Heap). c.args.need ≤ granules h.area) c.self.view_is
    (spot_small c.self.inside.plan c.self.inside.base c.args.need c.self.inside.tables c.group_of-group.result
    c.spot.result c.self.invariant c.requires
    (small c.self.inside.plan c.self.inside.base c.args.bits c.self.inside.tables c.group_of-group.result
    c.self.invariant c.group_of-group.ensures.value)
    (sym c.spot.ensures) (sym c.is_some.ensures ∙ is))
