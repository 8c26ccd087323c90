-- What the flat machine's answer says of the run of a file.
use Rattle.std.proofs.Common.{◌≡◌, ◌≢◌, ℕ, ◌⊎◌, inl, inr, List, [], Some, refl, sym, ap, subst}
use Rattle.std.specs.Prelude.{Ok}
use Rattle.std.specs.declared.alloc.AllocError.{AllocError}
use Rattle.halo_outside.specs.Seen.{Rose}
use Rattle.machine_spec.specs.declared.Ending as machine_ending
use Rattle.machine_spec.specs.declared.Ending.TheVariants as machine
use Rattle.flat_spec.specs.Machine.{register, Machine, start}
use Rattle.flat_spec.specs.Runs.{State, flat_run}
use Rattle.machine_run.specs.declared.RunEnd.{RunEnd}
use Rattle.machine_run.specs.declared.RunEnd.TheVariants as run_end
use Rattle.machine_run.specs.Runs.{Writes}
use Rattle.machine_run.specs.Machines.{Input}
use Rattle.flat_machine.specs.Asks.{asks}
use Rattle.flat_machine.specs.Seen.{FlatSeen, between}
use Rattle.flat_machine.specs.Runs.{run_from, IsRunning, WroteLast, EndsAt, EndsAs, Leaves, Ran, Answers}
use Rattle.halo_cli.specs.World.{Outside}
use Rattle.halo_cli.specs.Runs.{ending_at, RanTo}
use Rattle.halo_cli.specs.Run.{run_of_file, flat_stand}
use Rattle.halo_cli.specs.RunEnds.{ending_of_run}
use Rattle.halo_cli.proofs.RanTo.{IsOver, Answered, Left, Told, Untold, ran_to}

run_is : (file input : List ℕ) (n : ℕ) → run_from (start file) input n ≡ flat_run file input n
unfolding flat_run
run_is file input n = refl

ends_so : (file input : List ℕ) (n : ℕ) (e : machine_ending.Ending)
    → (run_from (start file) input n).machine.ending ≡ e → ending_at (run_of_file file) input n ≡ e
ends_so file input n e is = subst (λ s. s.machine.ending ≡ e) (run_is file input n) is

module _ (file : List ℕ) (bound : ℕ) (before now : Outside) (seen : FlatSeen) where
  is_over : (input : List ℕ) (n : ℕ) (e : machine_ending.Ending) → EndsAt (start file) input bound n e
      → IsOver (run_of_file file) input bound n e
  is_over input n e ends = record {
    within = ends.within;
    runs = λ k less. ends_so file input k machine.Running (ends.runs k less);
    ends = ends_so file input n e ends.ends;
  }

  stopped : (input : List ℕ) (n : ℕ)
      → WroteLast (start file) input n ⊎ (n ≡ bound) ⊎ (IsRunning (run_from (start file) input n) → ⊥)
      → WroteLast (start file) input n ⊎ (n ≡ bound)
      ⊎ (ending_at (run_of_file file) input n ≢ machine.Running) ⊎ ⊥
  stopped input n (inl wrote) = inl wrote
  stopped input n (inr (inl is)) = inr (inl is)
  stopped input n (inr (inr over)) =
      inr (inr (inl (λ runs. over (subst (λ (s : State). s.machine.ending ≡ machine.Running)
      (sym (run_is file input n)) runs))))

  answered : (end : RunEnd) (input : List ℕ) (taken : ℕ) → Answers end (start file) input bound taken
      → Answered {E = AllocError} (run_of_file file) input (Ok end) bound taken
  answered (run_end.Exited s n) input taken (is, ends) = (is, is_over input taken (machine.Exit s) ends)
  answered (run_end.Illegal at n) input taken (is, ends) = (is, is_over input taken (machine.Illegal at) ends)
  answered (run_end.Fault kind at n) input taken (is, ends) =
      (is, is_over input taken (machine.Fault kind at) ends)
  answered run_end.Steps input taken (is, runs) = (is, ends_so file input taken machine.Running runs)
  answered run_end.ReadFault input taken (less, runs) = (less, ends_so file input taken machine.Running runs)
  answered run_end.WriteFault input taken (within, stops) = (within, stopped input taken stops)

  left : (end : RunEnd) (s : State) → Leaves end s seen now.input.told
      → Left {E = AllocError} (Ok end) (λ most. asks s.machine ≡ Input most) (flat_stand s) now
  left (run_end.Exited st n) s leaves = leaves.left
  left (run_end.Illegal at n) s leaves = leaves.left
  left (run_end.Fault kind at n) s leaves = leaves.left
  left run_end.Steps s leaves = leaves.left
  left run_end.ReadFault s leaves = record {
    most = register s.machine 12;
    at_read = leaves.at_read;
    bytes = leaves.bytes;
    rest = leaves.rest;
    fewer = leaves.fewer;
    whole = leaves.whole;
    left = leaves.left;
  }
  left run_end.WriteFault s leaves = leaves.left

  told : (end : RunEnd) (input : List ℕ)
      → Ran end bound (start file) input seen now.input.told (Writes end before.out now.out)
      → Told {E = AllocError} (run_of_file file) (Ok end) bound before now input
  told end input ran = record {
    taken = ran.taken;
    answer = answered end input ran.taken ran.answer;
    left = subst (λ s. Left {E = AllocError} (Ok end) (λ most. asks s.machine ≡ Input most) (flat_stand s) now)
        (run_is file input ran.taken) (left end (run_from (start file) input ran.taken) ran.leaves);
    output = subst (λ (s : State). Writes end before.out now.out s.output) (run_is file input ran.taken) ran.output;
  }

  untold : (end : RunEnd) → EndsAs end bound seen
      → (end ≡ run_end.ReadFault → Rose before.input.faults now.input.faults)
      → (end ≡ run_end.WriteFault → Rose before.out.faults now.out.faults)
      → Untold {E = AllocError} (run_of_file file) (Ok end) bound before now
  untold (run_end.Exited s n) ends reads writes = (ends.0, ends.1)
  untold (run_end.Illegal at n) ends reads writes = ends.0
  untold (run_end.Fault kind at n) ends reads writes = ends.0
  untold run_end.Steps ends reads writes = tt
  untold run_end.ReadFault ends reads writes = reads refl
  untold run_end.WriteFault ends reads writes = writes refl

-- the run of a file, from the answer of a machine that was about to run it
pub flat_ran : (file : List ℕ) (bound : ℕ) (before now : Outside) (old seen : FlatSeen) (end : RunEnd)
    → old ≡ between (start file) []
    → ((input : List ℕ) → before.input.told ≡ Some input
    → Ran end bound old.machine input seen now.input.told (Writes end before.out now.out))
    → EndsAs end bound seen → (end ≡ run_end.ReadFault → Rose before.input.faults now.input.faults)
    → (end ≡ run_end.WriteFault → Rose before.out.faults now.out.faults)
    → RanTo (run_of_file file) bound before now (ending_of_run end bound)
flat_ran file bound before now old seen end is ran ends reads writes =
    ran_to {E = AllocError} (run_of_file file) bound before now (Ok end)
    (λ input given. told file bound before now seen end input
    (subst (λ (m : Machine). Ran end bound m input seen now.input.told (Writes end before.out now.out))
    (ap (λ (f : FlatSeen). f.machine) is) (ran input given)))
    (untold file bound before now seen end ends reads writes)

-- a machine that is about to run a file runs
pub begins_running : (file : List ℕ) (old : FlatSeen) → old ≡ between (start file) []
    → old.machine.ending ≡ machine.Running
unfolding start
begins_running file old is = ap (λ (f : FlatSeen). f.machine.ending) is
