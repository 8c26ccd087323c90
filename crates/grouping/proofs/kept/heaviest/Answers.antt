use Rattle.std.proofs.Common.{◌≡◌, length, arith}
use Rattle.std.proofs.lemmas.Bool.{both_ways}
use Rattle.grouping.proofs.Heaviest.{heaviest_skip, heaviest_more, heaviest_found}
use Rattle.grouping.proofs.kept.heaviest.Goals as goal
use Rattle.grouping.proofs.kept.heaviest.Goals.{then-is_idle, else-is_idle}

pub loop-edge-preserved : goal.loop-edge-preserved
loop-edge-preserved c = let t = heaviest_found in
    elim c.if-is_idle.branch [
      | then-is_idle w ↦ let idle = c.is_idle.ensures.0 w.if-is_idle.true in
          rw (w.best-is, w.heavier-best.ensures)
          (heaviest_more c.args.edges.now c.args.busy.now c.loop-edge.edge-index _ c.loop-edge-test.true
          c.loop-edge.best idle
          c.requires.edges.ascending c.loop-edge.invariant)
      | else-is_idle w ↦
          rw w.best-is
          (heaviest_skip c.args.edges.now c.args.busy.now c.loop-edge.edge-index _ c.loop-edge-test.true
          c.loop-edge.best
          (λ idle. both_ways c.is_idle.result w.if-is_idle.false (c.is_idle.ensures.1 idle)) c.loop-edge.invariant)
    ]

pub returns : goal.returns
returns c = let end : c.loop-edge.edge-index ≡ length c.args.edges.now = omega arith in
    heaviest_found c.args.edges.now c.args.busy.now c.loop-edge.best (rw end at c.loop-edge.invariant)
