use Rattle.std.proofs.Common.{◌≡◌, ◌+◌, ◌-◌, ◌^◌, ◌<◌, ◌≤◌, ℕ, List}
use Rattle.std.specs.Prelude.{Some, None}
use Rattle.halo_outside.specs.Seen.{TellsAlike}
use Rattle.machine_spec.specs.declared.Ending.TheVariants.{Running}
use Rattle.machine_run.specs.Machines.{ending_of}
use Rattle.machine_run.specs.Runs.{Draws}
use Rattle.machine_run.proofs.TurnByTurn.{RanSoFar}
use Rattle.machine_run.proofs.running.run_turns.Given as goal

-- the machine still runs, and stands where its turns so far lead
abbrev pub invariant-loop-taken : goal.invariant-loop-taken
invariant-loop-taken g l = record {
  within : l.taken ≤ l.steps;
  goes : (g.M.Machine.seen l.machine).waits ≡ None;
  runs : ending_of g.M.Machine.rules (g.M.Machine.seen l.machine).machine ≡ Running;
  lasts : l.steps ≤ g.M.Machine.lasts l.machine + l.taken;
  input_tells : TellsAlike (g.I.Source.seen l.fn.input).told (g.I.Source.seen l.input).told;
  input_later : (g.I.Source.seen l.fn.input).faults ≤ (g.I.Source.seen l.input).faults;
  more : (g.I.Source.seen l.fn.input).taken ≤ (g.I.Source.seen l.input).taken;
  counted : (left : List ℕ) → (g.I.Source.seen l.fn.input).told ≡ Some left
      → (g.I.Source.seen l.fn.input).taken < 2 ^ 64
      → Draws left (g.I.Source.seen l.input).told (g.I.Source.seen l.fn.input).taken (g.I.Source.seen l.input).taken;
  out_tells : TellsAlike (g.O.Sink.seen l.fn.out).told (g.O.Sink.seen l.out).told;
  out_later : (g.O.Sink.seen l.fn.out).faults ≤ (g.O.Sink.seen l.out).faults;
  run : (left : List ℕ) → (g.I.Source.seen l.fn.input).told ≡ Some left
      → RanSoFar g.M.Machine.rules (g.M.Machine.seen l.fn.machine).machine left l.taken (g.M.Machine.seen l.machine)
      (g.I.Source.seen l.input).told
      (g.O.Sink.seen l.fn.out).told (g.O.Sink.seen l.out).told l.pending;
}

abbrev pub decreases-loop-taken : goal.decreases-loop-taken
decreases-loop-taken g l = l.steps - l.taken
