use Rattle.std.proofs.Common.{rules, arith}
use Rattle.machine_run.proofs.Passing.{passes_taken, passes_failed, on_err_is}
use Rattle.machine_run.proofs.pending.Pending.accept.Goals as goal

pub returns-in_err-make_room-clause-part : goal.returns-in_err-make_room-clause-part
returns-in_err-make_room-clause-part g c =
    on_err_is _ (passes_failed _ _ _ _ _ _ _ c.loop-from.invariant.passed c.in_err-make_room.ensures.part)

pub loop-from-preserved : goal.loop-from-preserved
loop-from-preserved g c = record {
  within = omega (arith, c.take_from-from.ensures.count);
  tells = search rules;
  later = omega arith;
  passed = passes_taken _ _ _ _ _ _ _ _ _ _ c.loop-from.invariant.passed c.in_ok-make_room.ensures.whole
      c.take_from-from.ensures.taken;
}
