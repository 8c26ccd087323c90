use Rattle.std.proofs.Common.{◌≡◌, ◌≢◌, ◌+◌, ◌*◌, sym, ◌∙◌, subst, ap, refl, arith}
use Rattle.std.specs.Prelude.{Any, option_map}
use Rattle.plan_core.specs.Plan.{group_of_bits}
use Rattle.place_spec.proofs.Refusals.{refused_where, where_refused}
use Rattle.place_spec.specs.Layout.{Layout, address_of}
use Rattle.place_spec.specs.Place.{IsRefused, placed_at, placed_in}
use Rattle.place_spec.proofs.Lists.{Each}
use Rattle.place_model.specs.Heap.{Heap, LivesAt}
use Rattle.place_model.specs.Tables.{layout_of}
use Rattle.place_model.proofs.Kept.{small, place_new, place_kept, new_lives, new_apart, others_live}
use Rattle.place_model.proofs.places.Places.place.Goals as goal

pub spot-requires-clause-group : goal.spot-requires-clause-group
spot-requires-clause-group c =
    small c.self.inside.plan c.self.inside.base c.args.bits c.self.inside.tables c.group_of-group.result
    c.self.invariant c.group_of-group.ensures.value

pub place-granule-requires-clause-group : goal.place-granule-requires-clause-group
place-granule-requires-clause-group c =
    small c.self.inside.plan c.self.inside.base c.args.bits c.self.inside.tables c.group_of-group.result
    c.self.invariant c.group_of-group.ensures.value

pub overflow_mul-result : goal.overflow_mul-result
overflow_mul-result c =
    let n = place_new c.self.inside.plan c.self.inside.base c.args.need c.self.inside.tables c.group_of-group.result
    c.in-Some.spot c.self.invariant c.requires
    (small c.self.inside.plan c.self.inside.base c.args.bits c.self.inside.tables c.group_of-group.result
    c.self.invariant c.group_of-group.ensures.value)
    (sym c.spot.ensures ∙ c.in-Some.is) in
    let i = n.inside in let g = c.place-granule.ensures.granule in let k = c.self.invariant in let a = k.area in
    omega (arith, i, g, a)

pub overflow_add-result : goal.overflow_add-result
overflow_add-result c =
    let n = place_new c.self.inside.plan c.self.inside.base c.args.need c.self.inside.tables c.group_of-group.result
    c.in-Some.spot c.self.invariant c.requires
    (small c.self.inside.plan c.self.inside.base c.args.bits c.self.inside.tables c.group_of-group.result
    c.self.invariant c.group_of-group.ensures.value)
    (sym c.spot.ensures ∙ c.in-Some.is) in
    let i = n.inside in let g = c.place-granule.ensures.granule in let k = c.self.invariant in let a = k.ends in
    omega (arith, i, g, a)

pub invariant_of-self : goal.invariant_of-self
invariant_of-self c =
    place_kept c.self.inside.plan c.self.inside.base c.args.need c.self.inside.tables c.place-granule.new.self
    c.group_of-group.result c.in-Some.spot c.self.invariant c.requires
    (small c.self.inside.plan c.self.inside.base c.args.bits c.self.inside.tables c.group_of-group.result
    c.self.invariant c.group_of-group.ensures.value)
    (sym c.spot.ensures ∙ c.in-Some.is) c.place-granule.ensures.layout c.place-granule.ensures.kept

pub returns-in-Some-clause-sound : goal.returns-in-Some-clause-sound
returns-in-Some-clause-sound c =
    (place_kept c.self.inside.plan c.self.inside.base c.args.need c.self.inside.tables c.place-granule.new.self
    c.group_of-group.result c.in-Some.spot c.self.invariant c.requires
    (small c.self.inside.plan c.self.inside.base c.args.bits c.self.inside.tables c.group_of-group.result
    c.self.invariant c.group_of-group.ensures.value)
    (sym c.spot.ensures ∙ c.in-Some.is) c.place-granule.ensures.layout c.place-granule.ensures.kept).sound

pub returns-in-Some-clause-lives : goal.returns-in-Some-clause-lives
returns-in-Some-clause-lives c =
    let b = c.self.inside.base in
    subst (λ (l : Layout). Any (λ x. b + 16 * c.place-granule.result ≡ address_of b x.first) l.blocks)
    (sym c.place-granule.ensures.layout)
    (subst (λ g. Any (λ x. b + 16 * g ≡ address_of b x.first)
    (placed_at c.self.inside.plan.area (layout_of c.self.inside.tables) c.args.need c.group_of-group.result
    c.in-Some.spot).after.blocks)
    (sym c.place-granule.ensures.granule)
    (new_lives b c.args.need c.self.inside.plan.area (layout_of c.self.inside.tables) c.group_of-group.result
    c.in-Some.spot))

pub returns-in-Some-clause-apart : goal.returns-in-Some-clause-apart
returns-in-Some-clause-apart c = λ a.
    let n = place_new c.self.inside.plan c.self.inside.base c.args.need c.self.inside.tables c.group_of-group.result
    c.in-Some.spot c.self.invariant c.requires
    (small c.self.inside.plan c.self.inside.base c.args.bits c.self.inside.tables c.group_of-group.result
    c.self.invariant c.group_of-group.ensures.value)
    (sym c.spot.ensures ∙ c.in-Some.is) in
    new_apart c.self.inside.base c.place-granule.result (layout_of c.self.inside.tables).blocks
    (subst (λ g. Each (λ x. x.first ≢ g) (layout_of c.self.inside.tables).blocks) (sym c.place-granule.ensures.granule)
    n.others)
    (subst (λ (h : Heap). LivesAt h (c.self.inside.base + 16 * c.place-granule.result)) (sym c.self.view_is) a)

pub returns-in-Some-clause-others : goal.returns-in-Some-clause-others
returns-in-Some-clause-others c = λ addr a.
    let b = c.self.inside.base in
    subst (λ (l : Layout). Any (λ x. addr ≡ address_of b x.first) l.blocks) (sym c.place-granule.ensures.layout)
    (others_live (λ x. addr ≡ address_of b x.first) c.self.inside.plan.area (layout_of c.self.inside.tables) c.args.need
    c.group_of-group.result c.in-Some.spot
    (subst (λ (h : Heap). LivesAt h addr) (sym c.self.view_is) a))

pub returns-in-Some-clause-refused : goal.returns-in-Some-clause-refused
returns-in-Some-clause-refused c = (
  λ e. absurd (cc),
  λ r. absurd (
      let a = where_refused c.self.inside.plan.area (layout_of c.self.inside.tables) c.args.need
      (group_of_bits c.self.inside.plan.rows c.args.bits)
      (subst (λ (h : Heap). IsRefused h.area h.layout c.args.need (group_of_bits h.rows c.args.bits))
      (sym c.self.view_is) r) in
      let b = ap (placed_in c.self.inside.plan.area (layout_of c.self.inside.tables) c.args.need)
      c.group_of-group.ensures.value in
      let d = ap (option_map (placed_at c.self.inside.plan.area (layout_of c.self.inside.tables) c.args.need
      c.group_of-group.result)) (sym c.spot.ensures ∙ c.in-Some.is) in
      cc),
)

pub returns-in-None-clause-refused : goal.returns-in-None-clause-refused
returns-in-None-clause-refused c = (
  λ e.
      subst (λ (h : Heap). IsRefused h.area h.layout c.args.need (group_of_bits h.rows c.args.bits)) c.self.view_is
      (refused_where c.self.inside.plan.area (layout_of c.self.inside.tables) c.args.need
      (group_of_bits c.self.inside.plan.rows c.args.bits)
      (ap (placed_in c.self.inside.plan.area (layout_of c.self.inside.tables) c.args.need)
      (sym c.group_of-group.ensures.value)
      ∙ ap (option_map (placed_at c.self.inside.plan.area (layout_of c.self.inside.tables) c.args.need
      c.group_of-group.result)) (sym c.spot.ensures ∙ c.in-None.is))),
  λ r. refl,
)
