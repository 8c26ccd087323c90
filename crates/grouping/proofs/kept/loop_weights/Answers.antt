use Rattle.std.proofs.Common.{◌<◌, ◌∙◌, length, get_or, arith}
use Rattle.std.proofs.lemmas.List.{get_or_default}
use Rattle.grouping.proofs.Weighing.{loop_between, within}
use Rattle.grouping.proofs.kept.loop_weights.Goals as goal

pub overflow_add-index_mut : goal.overflow_add-index_mut
overflow_add-index_mut c =
    let i = c.loop-edge.edge-index in
    let joins = c.requires.edges.joins i record { low = 0; high = 0; weight = 0 } c.loop-edge-test.true in
    let e = get_or c.args.edges.now i record { low = 0; high = 0; weight = 0 } in
    let there = loop_between e c.if-edge.true in
    let fits = within _ c.loop-edge.loops.items c.args.edges.now i e.low e.low record { low = 0; high = 0; weight = 0 }
    c.requires.edges c.loop-edge-test.true there in
    let below : e.low < length c.loop-edge.loops.items = omega (arith, joins, c.loop-edge.invariant.0) in
    let so = c.loop-edge.invariant.1 e.low below in
    let read = c.index_mut.ensures.value ∙ get_or_default c.loop-edge.loops.items e.low c.index_mut.result.now 0
    below in
    omega (arith, fits, so, read)
