use Rattle.std.proofs.Common.{◌-◌, ◌≤◌, take}
use Rattle.halo_outside.specs.Seen.{TellsAlike}
use Rattle.machine_run.specs.Output.{Passes}
use Rattle.machine_run.proofs.pending.Pending.accept.Given as goal

-- the bytes so far went to the buffer or to the sink
abbrev pub invariant-loop-from : goal.invariant-loop-from
invariant-loop-from g l = record {
  within : l.from ≤ l.len;
  tells : TellsAlike (g.O.Sink.seen l.fn.out).told (g.O.Sink.seen l.out).told;
  later : (g.O.Sink.seen l.fn.out).faults ≤ (g.O.Sink.seen l.out).faults;
  passed : Passes (g.O.Sink.seen l.fn.out).told (g.O.Sink.seen l.out).told
      l.fn.self l.self (take l.from (g.M.Machine.seen l.machine).written);
}

abbrev pub decreases-loop-from : goal.decreases-loop-from
decreases-loop-from g l = l.len - l.from
