use Rattle.std.proofs.Common.{◌≡◌, ◌+◌, ◌++◌, ◌∷◌, [], ℕ, get_or, ap, sym, ◌∙◌, arith}
use Rattle.plan_core.specs.declared.profiles.Event.TheVariants.{Access}
use Rattle.affinity.specs.Histories.{access_list}
use Rattle.affinity.specs.Near.{near_count}
use Rattle.affinity.specs.State.{Held, entered, access_counted, weight_at}
use Rattle.affinity.specs.Views.{seen_of}
use Rattle.affinity.proofs.Standing.{same_pushed, access_pushed}
use Rattle.affinity.proofs.Accesses.{known, ring_known, count_small, followed, some, all_known, short, small}
use Rattle.affinity.proofs.Accesses.{node_small}
use Rattle.affinity.proofs.pushes.Affinity.access.Goals as goal

pub invariant_of-self : goal.invariant_of-self
invariant_of-self c =
    let t = rw (← c.self.view_is) at c.requires in (
      c.self.invariant.0 ++ (Access c.args.block c.args.width ∷ []),
      same_pushed (seen_of c.self.inside) c.self.invariant.0 c.args.block c.args.width c.self.invariant.1 t
          (sym c.ends_with.ensures ∙ c.if-ends_with.true),
    )

pub returns-then-ends_with-clause-pushed : goal.returns-then-ends_with-clause-pushed
returns-then-ends_with-clause-pushed c = λ h p.
    let t = rw (← c.self.view_is) at c.requires in
    same_pushed (seen_of c.self.inside) h c.args.block c.args.width (rw (← c.self.view_is) at p) t
    (sym c.ends_with.ensures ∙ c.if-ends_with.true)

pub context-context-requires : goal.context-context-requires
context-context-requires c =
    known (seen_of c.self.inside) c.self.invariant.0
    (record { block = c.args.block; width = c.args.width }) c.self.invariant.1 (rw (← c.self.view_is) at c.requires)

pub enter-requires-clause-known : goal.enter-requires-clause-known
enter-requires-clause-known c =
    ring_known (seen_of c.self.inside) c.self.invariant.0
    (record { block = c.args.block; width = c.args.width }) c.self.invariant.1 (rw (← c.self.view_is) at c.requires)

pub enter-requires-clause-small : goal.enter-requires-clause-small
enter-requires-clause-small c =
    count_small (seen_of c.self.inside) c.self.invariant.0
    (record { block = c.args.block; width = c.args.width }) c.self.invariant.1 (rw (← c.self.view_is) at c.requires)

pub count_near-requires-clause-follows : goal.count_near-requires-clause-follows
count_near-requires-clause-follows c =
    rw (c.in_ok-enter.ensures.ok) (
      c.self.inside.distance,
      access_list c.self.invariant.0 ++ (record { block = c.args.block; width = c.args.width } ∷ []),
      followed (seen_of c.self.inside) c.self.invariant.0
          (record { block = c.args.block; width = c.args.width }) c.self.invariant.1
          (rw (← c.self.view_is) at c.requires),
    )

pub count_near-requires-clause-some : goal.count_near-requires-clause-some
count_near-requires-clause-some c =
    rw (c.in_ok-enter.ensures.ok)
    (some (seen_of c.self.inside) c.self.invariant.0
    (record { block = c.args.block; width = c.args.width }) c.self.invariant.1
    (rw (← c.self.view_is) at c.requires))

pub count_near-requires-clause-known : goal.count_near-requires-clause-known
count_near-requires-clause-known c =
    rw (c.in_ok-enter.ensures.ok)
    (all_known (seen_of c.self.inside) c.self.invariant.0
    (record { block = c.args.block; width = c.args.width }) c.self.invariant.1
    (rw (← c.self.view_is) at c.requires))

pub count_near-requires-clause-block_known : goal.count_near-requires-clause-block_known
count_near-requires-clause-block_known c =
    known (seen_of c.self.inside) c.self.invariant.0
    (record { block = c.args.block; width = c.args.width }) c.self.invariant.1 (rw (← c.self.view_is) at c.requires)

pub count_near-requires-clause-room : goal.count_near-requires-clause-room
count_near-requires-clause-room c =
    rw (c.in_ok-enter.ensures.ok)
    (omega (
      arith,
      short (seen_of c.self.inside) c.self.invariant.0
          (record { block = c.args.block; width = c.args.width }) c.self.invariant.1
          (rw (← c.self.view_is) at c.requires),
      c.len.ensures,
      c.in_ok-reserve.ensures.ok,
    ))

pub count_near-requires-clause-small : goal.count_near-requires-clause-small
count_near-requires-clause-small c =
    rw (c.in_ok-enter.ensures.ok, c.reserve.ensures.entries)
    (small (seen_of c.self.inside) c.self.invariant.0
    (record { block = c.args.block; width = c.args.width }) c.self.invariant.1
    (rw (← c.self.view_is) at c.requires))

pub count_access-requires-clause-small : goal.count_access-requires-clause-small
count_access-requires-clause-small c =
    rw (c.context-context.ensures.context)
    (node_small (seen_of c.self.inside) c.self.invariant.0
    (record { block = c.args.block; width = c.args.width }) c.self.invariant.1
    (rw (← c.self.view_is) at c.requires))

pub invariant_of-self-2 : goal.invariant_of-self-2
invariant_of-self-2 c =
    let t = rw (← c.self.view_is) at c.requires in
    let all = rw (c.reserve.ensures.entries) at c.count_near.ensures.counted in
    let nodes : c.count_access.new.nodes.items ≡ access_counted
    (get_or c.self.inside.grants.contexts c.args.block 0) c.self.inside.nodes.items =
    c.count_access.ensures ∙ ap (λ k. access_counted k c.self.inside.nodes.items) c.context-context.ensures.context in
    let weights : (low high : ℕ) → weight_at c.count_near.new.weights.entries low high
    ≡ weight_at c.self.inside.weights.entries low high
    + near_count c.self.inside.grants.contexts c.args.block low high
    (entered c.self.inside.distance c.self.inside.ring
    (record { block = c.args.block; width = c.args.width })).entries =
    λ low high. c.count_near.ensures.weights low high
    ∙ (ap (λ es. weight_at es low high
    + near_count c.self.inside.grants.contexts c.args.block low high c.enter.new.self.entries) c.reserve.ensures.entries
    ∙ ap (λ (r : Held). weight_at c.self.inside.weights.entries low high
    + near_count c.self.inside.grants.contexts c.args.block low high r.entries) c.in_ok-enter.ensures.ok) in (
      c.self.invariant.0 ++ (Access c.args.block c.args.width ∷ []),
      rw (c.in_ok-enter.ensures.ok, nodes)
          (access_pushed (seen_of c.self.inside) c.self.invariant.0
          (record {
            block = c.args.block;
            width =
                c.args.width;
          }) c.count_near.new.weights.entries c.self.invariant.1 t
          (sym c.ends_with.ensures ∙ c.if-ends_with.false) weights (all c.self.invariant.1.counted)),
    )

pub returns-clause-pushed : goal.returns-clause-pushed
returns-clause-pushed c = λ h p.
    let t = rw (← c.self.view_is) at c.requires in
    let all = rw (c.reserve.ensures.entries) at c.count_near.ensures.counted in
    let nodes : c.count_access.new.nodes.items ≡ access_counted
    (get_or c.self.inside.grants.contexts c.args.block 0) c.self.inside.nodes.items =
    c.count_access.ensures ∙ ap (λ k. access_counted k c.self.inside.nodes.items) c.context-context.ensures.context in
    let weights : (low high : ℕ) → weight_at c.count_near.new.weights.entries low high
    ≡ weight_at c.self.inside.weights.entries low high
    + near_count c.self.inside.grants.contexts c.args.block low high
    (entered c.self.inside.distance c.self.inside.ring
    (record { block = c.args.block; width = c.args.width })).entries =
    λ low high. c.count_near.ensures.weights low high
    ∙ (ap (λ es. weight_at es low high
    + near_count c.self.inside.grants.contexts c.args.block low high c.enter.new.self.entries) c.reserve.ensures.entries
    ∙ ap (λ (r : Held). weight_at c.self.inside.weights.entries low high
    + near_count c.self.inside.grants.contexts c.args.block low high r.entries) c.in_ok-enter.ensures.ok) in
    rw (c.in_ok-enter.ensures.ok, nodes)
    (access_pushed (seen_of c.self.inside) h (record {
      block = c.args.block;
      width =
          c.args.width;
    }) c.count_near.new.weights.entries (rw (← c.self.view_is) at p) t
    (sym c.ends_with.ensures ∙ c.if-ends_with.false) weights (all c.self.invariant.1.counted))
