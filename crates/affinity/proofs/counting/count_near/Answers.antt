use Rattle.std.proofs.Common.{◌≡◌, ◌<◌, ◌+◌, length, arith}
use Rattle.affinity.proofs.EntryWeights.{near_step, near_end}
use Rattle.affinity.proofs.counting.count_near.Goals as goal

pub loop-at-preserved : goal.loop-at-preserved
loop-at-preserved c =
    let inside : c.loop-at.at + 1 < length c.args.ring.now.entries = omega (arith, c.len-at-end.ensures) in (
      λ low high. omega (
        arith,
        c.loop-at.invariant.0 low high,
        c.count_entry.ensures.weights low high,
        near_step c.args.grants.now.contexts c.args.block low high c.args.ring.now.entries c.loop-at.at inside,
      ),
      omega (arith, c.loop-at.invariant.1, c.count_entry.ensures.room_left),
      λ all. c.count_entry.ensures.counted (c.loop-at.invariant.2 all),
    )

pub returns-clause-weights : goal.returns-clause-weights
returns-clause-weights c = λ low high.
    let last : c.loop-at.at + 1 ≡ length c.args.ring.now.entries =
    omega (arith, c.len-at-end.ensures, c.requires.some) in
    omega (
      arith,
      c.loop-at.invariant.0 low high,
      near_end c.args.grants.now.contexts c.args.block low high c.args.ring.now.entries c.loop-at.at last,
    )
