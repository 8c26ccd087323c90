use Rattle.std.proofs.Common.{◌≡◌, ◌-◌, ◌/◌, sym, ◌∙◌, subst}
use Rattle.std.specs.Prelude.{Any}
use Rattle.place_spec.specs.Layout.{Layout, address_of}
use Rattle.place_model.specs.Heap.{Heap, LivesAt}
use Rattle.place_model.specs.Tables.{layout_of}
use Rattle.place_model.proofs.Kept.{release_kept, not_released, granule_back}
use Rattle.place_model.proofs.places.Places.release.Goals as goal

pub invariant_of-self : goal.invariant_of-self
invariant_of-self c =
    release_kept c.self.inside.plan c.self.inside.base _ c.self.inside.tables c.release.new.self c.self.invariant
    c.release.ensures.layout c.release.ensures.kept

pub returns-clause-sound : goal.returns-clause-sound
returns-clause-sound c =
    (release_kept c.self.inside.plan c.self.inside.base _ c.self.inside.tables c.release.new.self c.self.invariant
    c.release.ensures.layout c.release.ensures.kept).sound

pub returns-clause-others : goal.returns-clause-others
returns-clause-others c = λ other n a.
    let b = c.self.inside.base in
    let back = granule_back b c.args.addr (layout_of c.self.inside.tables).blocks
    (subst (λ (h : Heap). LivesAt h c.args.addr) (sym c.self.view_is) c.requires) in
    subst (λ (l : Layout). Any (λ x. other ≡ address_of b x.first) l.blocks) (sym c.release.ensures.layout)
    (not_released b ((c.args.addr - b) / 16) other c.self.inside.plan.area (layout_of c.self.inside.tables)
    (λ e. n (e ∙ back))
    (subst (λ (h : Heap). LivesAt h other) (sym c.self.view_is) a))
