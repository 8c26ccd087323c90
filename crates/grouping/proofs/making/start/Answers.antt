use Rattle.std.proofs.Common.{◌++◌, [], ◌∷◌, arith}
use Rattle.grouping.specs.Growing.{Marks}
use Rattle.grouping.proofs.Marking.{loop_ends, two_ends, marks_begin, marks_more}
use Rattle.grouping.proofs.making.start.Goals as goal

pub take-requires-clause-counted : goal.take-requires-clause-counted
take-requires-clause-counted c = c.in_ok-growth.ensures.counted c.args.kept.now.edges.items

pub returns-then-edge-clause-marks : goal.returns-then-edge-clause-marks
returns-then-edge-clause-marks c = λ groups marks.
    let more = marks_more c.args.busy.now groups [] c.args.edge.low (omega (arith, c.requires.edge))
    (marks_begin c.args.busy.now groups marks) in
    rw (c.in_ok-take.ensures.busy, loop_ends c.args.edge c.if-edge.true) more

pub returns-clause-marks : goal.returns-clause-marks
returns-clause-marks c = λ groups marks.
    let more = marks_more c.args.busy.now groups [] c.args.edge.low (omega (arith, c.requires.edge))
    (marks_begin c.args.busy.now groups marks) in
    let first : Marks c.take.new.busy (groups ++ (c.args.edge.low ∷ []) ∷ []) = rw c.in_ok-take.ensures.busy more in
    let both = marks_more c.take.new.busy groups (c.args.edge.low ∷ []) c.args.edge.high
    (omega (arith, c.requires.edge, c.take.auto.busy)) first in
    rw (c.in_ok-take-2.ensures.busy, two_ends c.args.edge c.if-edge.false c.requires.edge.0) both
