use Rattle.std.proofs.Common.{◌≤◌, ◌-◌, length, take}
use Rattle.halo_outside.specs.Seen.{TellsAlike, Appends}
use Rattle.halo_outside.proofs.writing.write_all.Given as goal

abbrev pub invariant-loop-at : goal.invariant-loop-at
invariant-loop-at g l = record {
  in_range : l.at ≤ length l.bytes;
  tells : TellsAlike (g.S.Sink.seen l.fn.sink).told (g.S.Sink.seen l.sink).told;
  later : (g.S.Sink.seen l.fn.sink).faults ≤ (g.S.Sink.seen l.sink).faults;
  front : Appends (g.S.Sink.seen l.fn.sink).told (g.S.Sink.seen l.sink).told (take l.at l.bytes);
}

abbrev pub decreases-loop-at : goal.decreases-loop-at
decreases-loop-at g l = length l.bytes - l.at
