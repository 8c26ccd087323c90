use Rattle.std.proofs.Common.{rules, arith}
use Rattle.halo_outside.proofs.Told.{appends_next}
use Rattle.halo_outside.proofs.writing.write_all.Goals as goal

pub loop-at-preserved : goal.loop-at-preserved
loop-at-preserved g c = record {
  in_range = search rules;
  tells = search rules;
  later = omega arith;
  front = appends_next _ _ _ _ _ _ c.loop-at.invariant.front c.in_ok-at.ensures.appended;
}
