use Rattle.std.proofs.Common.{◌≡◌, ◌+◌, ◌*◌, ◌^◌, ◌<◌, ◌≤◌, ◌∙◌, length, ap, arith, rules}
use Rattle.std.proofs.lemmas.List.{get_or_default, with_items_is, places}
use Rattle.grouping.specs.Weights.{with_member}
use Rattle.grouping.proofs.Weighing.{between_small, cross_fits, inside_fits, loops_step, cross_step, weight_step}
use Rattle.grouping.proofs.growth.Growth.join.Goals as goal

fits : (c : goal.After-self-1) → c.args.self.now.weight + (c.index-own.result.now + c.index-cross.result.now) ≤ 36 * 2 ^
    44
fits c = let few : length c.args.self.now.members.items < 8 = search (rules, places) in
    let x = c.args.context in
    let es = c.args.kept.now.edges.items in
    let old = c.args.self.now.members.items in
    let below_cross : x < length c.args.self.now.cross.items = search (rules, places) in
    let below_loops : x < length c.args.kept.now.loops.items =
    omega (arith, c.requires.kept.count, c.requires.context) in
    let own = c.index-own.ensures ∙ get_or_default _ _ _ 0 below_loops ∙ c.requires.kept.loops x below_loops in
    let cross = c.index-cross.ensures ∙ get_or_default _ _ _ 0 below_cross ∙ c.requires.counted.cross x below_cross in
    let a = between_small _ x x es c.requires.kept.edges.joins c.requires.kept.edges.ascending in
    let b = cross_fits _ x es old c.requires.kept.edges few in
    let d = inside_fits _ es old c.requires.kept.edges few in
    omega (arith, own, cross, a, b, d, c.requires.counted.weight)

pub overflow_add-self-2 : goal.overflow_add-self-2
overflow_add-self-2 c = let f = fits c in omega (arith, f)

pub overflow_add-self-3 : goal.overflow_add-self-3
overflow_add-self-3 c = let f = fits c in omega (arith, f)

pub add_edges-requires-clause-small : goal.add_edges-requires-clause-small
add_edges-requires-clause-small c y h =
    let few : length c.args.self.now.members.items < 8 = search (rules, places) in
    let small = cross_fits _ y c.args.kept.now.edges.items c.args.self.now.members.items c.requires.kept.edges few in
    let below : y < length c.args.self.now.cross.items = rw (c.deref_mut.ensures.value) at h in
    let so = c.requires.counted.cross y below in
    rw (c.deref_mut.ensures.value) (omega (arith, small, so))

pub returns-clause-counted : goal.returns-clause-counted
returns-clause-counted c =
    let members : c.insert.new.self.items ≡ with_member c.args.context c.args.self.now.members.items = search rules in
    let old = c.args.self.now.members.items in
    let x = c.args.context in
    let es = c.args.kept.now.edges.items in
    let h : x < length c.args.self.now.cross.items = search (rules, places) in
    let below_loops : x < length c.args.kept.now.loops.items =
    omega (arith, c.requires.kept.count, c.requires.context) in
    let own = c.index-own.ensures ∙ get_or_default _ _ _ 0 below_loops ∙ c.requires.kept.loops x below_loops in
    let across = c.index-cross.ensures ∙ get_or_default _ _ _ 0 h ∙ c.requires.counted.cross x h in
    let values = c.deref_mut.ensures.value in
    let refilled = with_items_is c.args.self.now.cross c.add_edges.new.cross (search (rules, places)) in
    record {
      loops = rw members (loops_step es x old c.args.self.now.loops _ c.from.result c.requires.counted.loops own
          c.from.ensures);
      weight = rw members (weight_step es x old c.args.self.now.weight _ _ c.requires.counted.weight own across);
      cross = λ y k.
          let whole = ap length refilled in
          let same = ap length values in
          let below : y < length c.args.self.now.cross.items = omega (arith, k, whole, same, c.add_edges.auto.cross) in
          let added = c.add_edges.ensures y (omega (arith, below, same)) in
          rw (members, refilled)
          (cross_step c.args.self.now.cross.items c.add_edges.new.cross old es x y
          (rw (values, c.as_slice.ensures.value) at added)
          (c.requires.counted.cross y below));
    }
