use Rattle.std.proofs.Common.{◌∙◌, arith, refl, eq-eqb}
use Rattle.grouping.proofs.Weighing.{added, unchanged, within, end_below}
use Rattle.grouping.proofs.growth.add_edges.Goals as goal
use Rattle.grouping.proofs.growth.add_edges.Goals.{in-Some, in_default}

pub bounds-cross-other : goal.bounds-cross-other
bounds-cross-other c =
    let below = end_below _ c.args.edges.now c.loop-edge.edge-index c.in-Some.other _ c.requires.edges
    c.loop-edge-test.true c.in-Some.ensures.an_end in omega (arith, below)

pub overflow_add-cross : goal.overflow_add-cross
overflow_add-cross c =
    let below = end_below _ c.args.edges.now c.loop-edge.edge-index c.in-Some.other _ c.requires.edges
    c.loop-edge-test.true c.in-Some.ensures.an_end in
    let there = c.in-Some.ensures.some c.in-Some.other ∙ eq-eqb c.in-Some.other c.in-Some.other refl in
    let fits = within _ c.args.cross.now c.args.edges.now c.loop-edge.edge-index c.args.context c.in-Some.other _
    c.requires.edges c.loop-edge-test.true there in
    let so = c.loop-edge.invariant c.in-Some.other (omega (arith, below)) in
    let small = c.requires.small c.in-Some.other below in
    omega (arith, fits, so, small)

pub loop-edge-preserved : goal.loop-edge-preserved
loop-edge-preserved c y h =
    let so = c.loop-edge.invariant y (omega arith) in
    elim c.match-other_end.branch [
      | in-Some w ↦
          let below = end_below _ c.args.edges.now c.loop-edge.edge-index w.in-Some.other _ c.requires.edges
          c.loop-edge-test.true w.in-Some.ensures.an_end in
          rw w.cross-is (added c.loop-edge.cross c.args.cross.now c.args.edges.now c.loop-edge.edge-index c.args.context
          y
          w.in-Some.other _ c.loop-edge-test.true (omega (arith, below)) so (w.in-Some.ensures.some y))
      | in_default w ↦
          rw w.cross-is (unchanged c.loop-edge.cross c.args.cross.now c.args.edges.now c.loop-edge.edge-index
          c.args.context y _ c.loop-edge-test.true so (w.in_default.ensures.none y))
    ]
