use Rattle.std.proofs.Common.{◌≡◌, ◌≤◌, ℕ, List, length}
use Rattle.std.specs.Prelude.{Some, None}
use Rattle.machine_spec.specs.declared.Ending.TheVariants.{Running}
use Rattle.plan_core.specs.declared.profiles.Event.{Event}
use Rattle.affinity.specs.Pushed.{Pushed}
use Rattle.heap_trace.specs.Profiles.{Drawn}
use Rattle.heap_trace.specs.Recorded.{HasTurns}
use Rattle.heap_trace.specs.Traces.{Leads}
use Rattle.heap_trace.proofs.RunsTo.{RanTo}
use Rattle.heap_trace.proofs.profiles.record_run.Given as goal

-- the machine still runs, and its turns so far are recorded
abbrev pub invariant-loop-taken : goal.invariant-loop-taken
invariant-loop-taken g l = record {
  goes : l.machine.waits ≡ None;
  runs : l.machine.program.machine.ending ≡ Running;
  file : l.machine.program.file ≡ l.fn.image;
  plan : l.machine.program.plan ≡ l.fn.machine.program.plan;
  places : length l.machine.program.machine.at ≤ l.taken;
  distance : l.recording.affinity.distance ≡ l.fn.recording.affinity.distance;
  recorded : (events : List Event) × Pushed l.recording.affinity events
      × Leads l.fn.image l.fn.machine.program.plan l.taken l.machine.program.machine l.recording.trace events;
  reads : Drawn (g.I.Source.seen l.fn.input) (g.I.Source.seen l.input);
  run : (left : List ℕ) → (g.I.Source.seen l.fn.input).told ≡ Some left
      → RanTo l.fn.image l.fn.machine.program.plan left l.taken l.machine.program (g.I.Source.seen l.input).told
      × HasTurns l.fn.image l.fn.machine.program.plan left l.taken l.recording;
}
