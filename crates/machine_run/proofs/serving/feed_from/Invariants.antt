use Rattle.std.proofs.Common.{◌≡◌, ◌-◌, ◌^◌, ◌<◌, ◌≤◌, ℕ, List, [], length}
use Rattle.std.specs.Prelude.{Some}
use Rattle.halo_outside.specs.Seen.{TellsAlike}
use Rattle.machine_run.specs.Machines.{ending_of, fed_with}
use Rattle.machine_run.specs.Runs.{Draws}
use Rattle.machine_run.proofs.Feeding.{FedSoFar, wait_of}
use Rattle.machine_run.proofs.serving.feed_from.Given as goal

-- the bytes so far went from the source into the buffer
abbrev pub invariant-loop-fed : goal.invariant-loop-fed
invariant-loop-fed g l = record {
  within : l.fed ≤ l.len;
  room : length l.buffer ≡ 4096;
  waits : (g.M.Machine.seen l.machine).waits ≡ Some (wait_of l.len l.fed);
  runs : ending_of g.M.Machine.rules (g.M.Machine.seen l.machine).machine
      ≡ ending_of g.M.Machine.rules (g.M.Machine.seen l.fn.machine).machine;
  lasts : g.M.Machine.lasts l.machine ≡ g.M.Machine.lasts l.fn.machine;
  bytes : (m : g.M.Machine.State) → g.M.Machine.seen l.fn.machine ≡ fed_with g.M.Machine.rules l.len m []
      → (bytes : List ℕ) × (g.M.Machine.seen l.machine ≡ fed_with g.M.Machine.rules l.len m bytes);
  tells : TellsAlike (g.I.Source.seen l.fn.input).told (g.I.Source.seen l.input).told;
  later : (g.I.Source.seen l.fn.input).faults ≤ (g.I.Source.seen l.input).faults;
  more : (g.I.Source.seen l.fn.input).taken ≤ (g.I.Source.seen l.input).taken;
  counted : (left : List ℕ) → (g.I.Source.seen l.fn.input).told ≡ Some left
      → (g.I.Source.seen l.fn.input).taken < 2 ^ 64
      → Draws left (g.I.Source.seen l.input).told (g.I.Source.seen l.fn.input).taken (g.I.Source.seen l.input).taken;
  told : (m : g.M.Machine.State) (left : List ℕ) → g.M.Machine.seen l.fn.machine ≡ fed_with g.M.Machine.rules l.len m []
      → (g.I.Source.seen l.fn.input).told ≡ Some left
      → FedSoFar g.M.Machine.rules l.len m left l.fed (g.M.Machine.seen l.machine) (g.I.Source.seen l.input).told;
}

abbrev pub decreases-loop-fed : goal.decreases-loop-fed
decreases-loop-fed g l = l.len - l.fed
