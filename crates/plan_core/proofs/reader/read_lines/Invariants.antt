use Rattle.std.proofs.Common.{◌-◌}
use Rattle.plan_core.proofs.Begun.{Begun}
use Rattle.plan_core.proofs.reader.read_lines.Given as goal

abbrev pub invariant-loop-stage : goal.invariant-loop-stage
invariant-loop-stage l = Begun l.text l.plan l.stage l.rest l.number

abbrev pub decreases-loop-stage : goal.decreases-loop-stage
decreases-loop-stage l = 101 - l.number
