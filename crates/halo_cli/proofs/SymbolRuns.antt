-- What the symbol machine's answer says of the run of a file under a plan.
use Rattle.std.proofs.Common.{◌≡◌, ◌≢◌, ℕ, ◌⊎◌, inl, inr, List, [], Some, refl, sym, ap, subst}
use Rattle.std.specs.Prelude.{IsSome}
use Rattle.halo_outside.specs.Seen.{Rose}
use Rattle.plan_core.specs.declared.types.Plan.{Plan}
use Rattle.machine_spec.specs.declared.Ending as machine_ending
use Rattle.machine_spec.specs.declared.Ending.TheVariants as machine
use Rattle.machine_run.specs.Machines.{Seen, Input, Output}
use Rattle.machine_run.specs.Runs.{WritesAll}
use Rattle.sym_spec.specs.SymMachine.{start}
use Rattle.sym_spec.specs.SymNotes.{note, empty_note}
use Rattle.sym_spec.specs.SymRuns.{SymState, sym_run}
use Rattle.sym_machine.specs.declared.SymEnd.{SymEnd}
use Rattle.sym_machine.specs.declared.SymEnd.TheVariants as sym_end
use Rattle.sym_machine.specs.Asks.{asks}
use Rattle.sym_machine.specs.Ends.{run_end}
use Rattle.sym_machine.specs.Programs.{Program}
use Rattle.sym_machine.specs.Seen.{SymSeen, between}
use Rattle.sym_machine.specs.Runs.{run_from, program_at, EndsAt, WroteLast as WroteAt, GrantsAfter, StopsAt, Answers}
use Rattle.sym_machine.specs.Runs.{Leaves, Ran, EndsAs}
use Rattle.halo_cli.specs.World.{Outside}
use Rattle.halo_cli.specs.Runs.{ending_at, RanTo}
use Rattle.halo_cli.specs.RunEnds.{ending_of_symbols}
use Rattle.halo_cli.specs.Symbols.{symbol_stand, symbol_run, WroteLast, GrantsNext}
use Rattle.halo_cli.proofs.RanTo.{IsOver, Answered, Left, Told, Untold, ran_to}

-- the program that is about to run
abbrev program : List ℕ → Plan → Program
program file plan = record { file = file; plan = plan; machine = start file plan }

run_is : (file : List ℕ) (plan : Plan) (input : List ℕ) (n : ℕ)
    → run_from (program file plan) input n ≡ sym_run file plan input n
unfolding sym_run
run_is file plan input n = refl

ends_so : (file : List ℕ) (plan : Plan) (input : List ℕ) (n : ℕ) (e : machine_ending.Ending)
    → (run_from (program file plan) input n).machine.ending ≡ e → ending_at (symbol_run file plan) input n ≡ e
ends_so file plan input n e is = subst (λ (s : SymState). s.machine.ending ≡ e) (run_is file plan input n) is

module _ (file : List ℕ) (plan : Plan) (bound : ℕ) (before now : Outside) (seen : Seen Program) where
  is_over : (input : List ℕ) (n : ℕ) (e : machine_ending.Ending) → EndsAt (program file plan) input bound n e
      → IsOver (symbol_run file plan) input bound n e
  is_over input n e ends = record {
    within = ends.within;
    runs = λ k less. ends_so file plan input k machine.Running (ends.runs k less);
    ends = ends_so file plan input n e ends.ends;
  }

  wrote : (input : List ℕ) (n : ℕ) → WroteAt (program file plan) input n → WroteLast file plan input n
  wrote input n (k, len, is, asked) = (
    k,
    len,
    is,
    subst (λ (s : SymState). asks (program_at (program file plan) s) ≡ Output len) (run_is file plan input k) asked,
  )

  grants : (input : List ℕ) (n : ℕ) → GrantsAfter (program file plan) input n → GrantsNext file plan input n
  grants input n granted =
      subst (λ (s : SymState). IsSome (note file plan s.machine).grant) (run_is file plan input n) granted

  stopped : (input : List ℕ) (n : ℕ) → StopsAt (program file plan) input bound n
      → WroteLast file plan input n ⊎ (n ≡ bound)
      ⊎ (ending_at (symbol_run file plan) input n ≢ machine.Running) ⊎ GrantsNext file plan input n
  stopped input n (inl at_write) = inl (wrote input n at_write)
  stopped input n (inr (inl is)) = inr (inl is)
  stopped input n (inr (inr (inl over))) =
      inr (inr (inl (λ runs. over (subst (λ (s : SymState). s.machine.ending ≡ machine.Running)
      (sym (run_is file plan input n)) runs))))
  stopped input n (inr (inr (inr granted))) = inr (inr (inr (grants input n granted)))

  answered : (end : SymEnd) (input : List ℕ) (taken : ℕ) → Answers end (program file plan) input bound taken
      → Answered (symbol_run file plan) input (run_end end) bound taken
  answered (sym_end.Exited s n) input taken (is, ends) = (is, is_over input taken (machine.Exit s) ends)
  answered (sym_end.Illegal at n) input taken (is, ends) = (is, is_over input taken (machine.Illegal at) ends)
  answered (sym_end.Fault kind at n) input taken (is, ends) =
      (is, is_over input taken (machine.Fault kind at) ends)
  answered sym_end.Steps input taken (is, runs) = (is, ends_so file plan input taken machine.Running runs)
  answered sym_end.ReadFault input taken (less, runs) = (less, ends_so file plan input taken machine.Running runs)
  answered sym_end.WriteFault input taken (within, stops) = (within, stopped input taken stops)
  answered sym_end.Memory input taken (less, runs, granted) =
      (less, ends_so file plan input taken machine.Running runs, grants input taken granted)

  left : (end : SymEnd) (s : SymState) → Leaves end (program file plan) s seen now.input.told
      → Left (run_end end) (λ most. asks (program_at (program file plan) s) ≡ Input most) (symbol_stand s) now
  left (sym_end.Exited st n) s leaves = leaves.left
  left (sym_end.Illegal at n) s leaves = leaves.left
  left (sym_end.Fault kind at n) s leaves = leaves.left
  left sym_end.Steps s leaves = leaves.left
  left sym_end.ReadFault s leaves = record {
    most = leaves.most;
    at_read = leaves.at_read;
    bytes = leaves.bytes;
    rest = leaves.rest;
    fewer = leaves.fewer;
    whole = leaves.whole;
    left = leaves.left;
  }
  left sym_end.WriteFault s leaves = leaves.left
  left sym_end.Memory s leaves = leaves.left

  told : (end : SymEnd) (input : List ℕ)
      → Ran end bound (program file plan) input seen now.input.told (WritesAll (run_end end) before.out now.out)
      → Told (symbol_run file plan) (run_end end) bound before now input
  told end input ran = record {
    taken = ran.taken;
    answer = answered end input ran.taken ran.answer;
    left = subst (λ s. Left (run_end end) (λ most. asks (program_at (program file plan) s) ≡ Input most)
        (symbol_stand s) now) (run_is file plan input ran.taken)
        (left end (run_from (program file plan) input ran.taken) ran.leaves);
    output = subst (λ (s : SymState). WritesAll (run_end end) before.out now.out s.output)
        (run_is file plan input ran.taken) ran.output;
  }

  untold : (end : SymEnd) → EndsAs end bound seen
      → (end ≡ sym_end.ReadFault → Rose before.input.faults now.input.faults)
      → (end ≡ sym_end.WriteFault → Rose before.out.faults now.out.faults)
      → Untold (symbol_run file plan) (run_end end) bound before now
  untold (sym_end.Exited s n) ends reads writes = (ends.0, ends.1)
  untold (sym_end.Illegal at n) ends reads writes = ends.0
  untold (sym_end.Fault kind at n) ends reads writes = ends.0
  untold sym_end.Steps ends reads writes = tt
  untold sym_end.ReadFault ends reads writes = reads refl
  untold sym_end.WriteFault ends reads writes = writes refl
  untold sym_end.Memory ends reads writes = tt

-- the run of a file under a plan, from the answer of a machine that was about to run it
pub symbols_ran : (file : List ℕ) (plan : Plan) (bound : ℕ) (before now : Outside) (old : SymSeen) (seen : Seen Program)
    (end : SymEnd) → old ≡ between (program file plan) [] empty_note
    → ((input : List ℕ) → before.input.told ≡ Some input
    → Ran end bound old.program input seen now.input.told (WritesAll (run_end end) before.out now.out))
    → EndsAs end bound seen → (end ≡ sym_end.ReadFault → Rose before.input.faults now.input.faults)
    → (end ≡ sym_end.WriteFault → Rose before.out.faults now.out.faults)
    → RanTo (symbol_run file plan) bound before now (ending_of_symbols end bound)
symbols_ran file plan bound before now old seen end is ran ends reads writes =
    ran_to (symbol_run file plan) bound before now (run_end end)
    (λ input given. told file plan bound before now seen end input
    (subst (λ (p : Program). Ran end bound p input seen now.input.told
    (WritesAll (run_end end) before.out now.out)) (ap (λ (f : SymSeen). f.program) is) (ran input given)))
    (untold file plan bound before now seen end ends reads writes)

-- a machine that is about to run runs, and has granted no block
pub begins_running : (file : List ℕ) (plan : Plan) (old : SymSeen) → old ≡ between (program file plan) [] empty_note
    → old.program.machine.ending ≡ machine.Running
unfolding start
begins_running file plan old is = ap (λ (f : SymSeen). f.program.machine.ending) is

pub begins_empty : (file : List ℕ) (plan : Plan) (old : SymSeen) → old ≡ between (program file plan) [] empty_note
    → old.program.machine.at ≡ []
unfolding start
begins_empty file plan old is = ap (λ (f : SymSeen). f.program.machine.at) is
