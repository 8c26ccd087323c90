use Rattle.std.proofs.Common.{◌≤◌, arith, ◌∙◌, sym}
use Rattle.affinity.specs.Near.{span}
use Rattle.affinity.proofs.Spans.{near}
use Rattle.affinity.proofs.ring.drop_far.Goals as goal

pub returns-clause-entries : goal.returns-clause-entries
returns-clause-entries c =
    let close : span c.loop-reach.entries.items ≤ c.args.distance = omega arith in
    sym (near c.args.distance c.loop-reach.entries.items close) ∙ c.loop-reach.invariant.1
