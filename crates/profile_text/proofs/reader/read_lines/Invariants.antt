use Rattle.std.proofs.Common.{length}
use Rattle.profile_text.proofs.Begun.{Begun}
use Rattle.profile_text.proofs.reader.read_lines.Given as goal

abbrev pub invariant-loop-alloc : goal.invariant-loop-alloc
invariant-loop-alloc l = Begun l.text l.profile l.stage l.rest l.number

abbrev pub decreases-loop-alloc : goal.decreases-loop-alloc
decreases-loop-alloc l = length l.rest
