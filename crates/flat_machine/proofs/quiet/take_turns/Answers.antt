use Rattle.std.proofs.Common.{ap, arith}
use Rattle.flat_machine.proofs.QuietTurns.{one_more}
use Rattle.flat_machine.specs.Quiet.{running_at}
use Rattle.flat_machine.proofs.quiet.take_turns.Goals as goal

pub loop-taken-init : goal.loop-taken-init
loop-taken-init c = record { within = omega arith; turns = ap (λ words. running_at c.args.memory.now words c.args.at.now) c.copied-registers.ensures }

pub loop-taken-preserved : goal.loop-taken-preserved
loop-taken-preserved c = record {
  within = omega arith;
  turns = one_more _ _ _ _ _ _ _ c.in-Some.next c.loop-taken.invariant.turns c.in-Some.ensures;
}
