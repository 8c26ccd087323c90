-- What the profile of a run, and its want, say of the run of a file under an area alone.
use Rattle.std.proofs.Common.{◌≡◌, ℕ, ◌+◌, ◌≤◌, List, Option, None, Some, refl, subst, arith}
use Rattle.std.specs.Prelude.{Result, Ok, Err}
use Rattle.halo_outside.specs.Seen.{Rose}
use Rattle.plan_core.specs.declared.types.Area.{Area}
use Rattle.machine_spec.specs.declared.Ending as machine_ending
use Rattle.machine_spec.specs.declared.Ending.TheVariants as machine
use Rattle.sym_spec.specs.SymRuns.{SymState, sym_run}
use Rattle.sym_machine.specs.Runs.{EndsAt, IsRunning, run_from}
use Rattle.machine_run.specs.Machines.{Input}
use Rattle.sym_machine.specs.Asks.{asks}
use Rattle.sym_machine.specs.Runs.{program_at}
use Rattle.heap_trace.specs.declared.profiles.Profiled.{Profiled}
use Rattle.heap_trace.specs.declared.profiles.ProfileEnd.{ProfileEnd}
use Rattle.heap_trace.specs.declared.profiles.ProfileEnd.TheVariants as end
use Rattle.heap_trace.specs.Profiles.{plan_of_area, program_of, IsProfileOf, IsProfileOfTurns, ProfileRan, StepsWithin}
use Rattle.endings.specs.declared.endings.Ending.{Ending}
use Rattle.endings.specs.declared.endings.Ending.TheVariants.{Exited, StillRunning, Fault, Illegal}
use Rattle.halo_cli.specs.World.{Outside}
use Rattle.halo_cli.specs.Runs.{Run, ending_at, RunsBefore, IsRunEnd, MayRunTo, RunsTo, HasRest, HasPart}
use Rattle.halo_cli.specs.Symbols.{symbol_stand}
use Rattle.halo_cli.specs.Profiling.{area_run, RunStopped, IsProfileBy, RunProfiled, ending_of_profile}

run_is : (file : List ℕ) (area : Area) (input : List ℕ) (n : ℕ)
    → run_from (program_of file (plan_of_area area)) input n ≡ sym_run file (plan_of_area area) input n
unfolding sym_run
run_is file area input n = refl

module _ (file : List ℕ) (area : Area) (distance bound : ℕ) (before now : Outside) where
  abbrev run : Run
  run = area_run file area

  ends_so : (input : List ℕ) (n : ℕ) (e : machine_ending.Ending)
      → (run_from (program_of file (plan_of_area area)) input n).machine.ending ≡ e → ending_at run input n ≡ e
  ends_so input n e is = subst (λ (s : SymState). s.machine.ending ≡ e) (run_is file area input n) is

  rest : (input : List ℕ) (n : ℕ) → now.input.told ≡ Some (run_from (program_of file (plan_of_area area)) input n).input
      → HasRest (run.after input n) now
  rest input n is = subst (λ (s : SymState). now.input.told ≡ Some s.input) (run_is file area input n) is

  -- the turns and the ending of a run that ended at a turn
  over : (input : List ℕ) (taken n : ℕ) (e : machine_ending.Ending) → taken ≡ n
      → EndsAt (program_of file (plan_of_area area)) input bound taken e
      → (n ≤ bound) × RunsBefore run input n × (ending_at run input n ≡ e)
  over input taken n e is ends = subst (λ t. (t ≤ bound) × RunsBefore run input t × (ending_at run input t ≡ e)) is (
    ends.within,
    (λ k less. ends_so input k machine.Running (ends.runs k less)),
    ends_so input taken e ends.ends,
  )

  -- what an answer says where the input is told
  abbrev Told : Result Profiled ProfileEnd → Type 0
  Told end = (left : List ℕ) → before.input.told ≡ Some left
      → ProfileRan end file area distance bound left now.input.told

  by_input : (ending : Ending) → MayRunTo bound ending
      → ((input : List ℕ) → before.input.told ≡ Some input → IsRunEnd run input bound ending)
      → RunsTo before.input.told bound run ending
  by_input ending may ends = at before.input.told refl
    where
      at : (input : Option (List ℕ)) → before.input.told ≡ input → RunsTo input bound run ending
      at None is = may
      at (Some given) is = ends given is

  pub profiled : (p : Profiled) → Told (Ok p) → StepsWithin (Ok (p.status, p.steps)) bound
      → IsProfileOfTurns file area p.steps distance p.profile → RunProfiled file area distance bound before now p
  profiled p told within turns = record {
    exits = by_input (Exited p.status p.steps) within
        (λ input is. (let ran = told input is in
        over input ran.taken p.steps (machine.Exit p.status) ran.ends.0 ran.ends.1));
    profile = of_input before.input.told refl;
    left = λ input is. (let ran = told input is in rest input p.steps
        (subst (λ t. now.input.told ≡ Some (run_from (program_of file (plan_of_area area)) input t).input) ran.ends.0
        ran.leaves));
  }
    where
      of_input : (input : Option (List ℕ)) → before.input.told ≡ input
          → IsProfileBy input file area p.steps distance p.profile
      of_input None is = turns
      of_input (Some given) is = let ran = told given is in
          subst (λ n. IsProfileOf file area given n distance p.profile) ran.ends.0 ran.profile

  pub stopped : (why : ProfileEnd) → Told (Err why) → StepsWithin (Err why) bound
      → (why ≡ end.ReadFault → Rose before.input.faults now.input.faults)
      → RunStopped run bound before now (ending_of_profile why bound)
  stopped (end.Illegal at n) told within rose = (
    by_input (Illegal at n) (omega (arith, within))
        (λ input is. (let ran = told input is in
        let so = over input ran.taken (n + 1) (machine.Illegal at) ran.ends.0 ran.ends.1 in so)),
    λ input is. (let ran = told input is in rest input (n + 1)
        (subst (λ t. now.input.told ≡ Some (run_from (program_of file (plan_of_area area)) input t).input) ran.ends.0
        ran.leaves)),
  )
  stopped (end.Fault kind at n) told within rose = (
    by_input (Fault kind at n) (omega (arith, within))
        (λ input is. (let ran = told input is in
        let so = over input ran.taken (n + 1) (machine.Fault kind at) ran.ends.0 ran.ends.1 in so)),
    λ input is. (let ran = told input is in rest input (n + 1)
        (subst (λ t. now.input.told ≡ Some (run_from (program_of file (plan_of_area area)) input t).input) ran.ends.0
        ran.leaves)),
  )
  stopped end.Steps told within rose = (
    by_input (StillRunning bound) refl
        (λ input is. (let ran = told input is in (
          refl,
          ends_so input bound machine.Running
              (subst (λ t. IsRunning (run_from (program_of file (plan_of_area area)) input t)) ran.ends.0 ran.ends.1),
        ))),
    λ input is. (let ran = told input is in rest input bound
        (subst (λ t. now.input.told ≡ Some (run_from (program_of file (plan_of_area area)) input t).input) ran.ends.0
        ran.leaves)),
  )
  stopped end.ReadFault told within rose = (
    rose refl,
    λ input is. (let ran = told input is in (
      ran.taken,
      ran.ends.0,
      ends_so input ran.taken machine.Running ran.ends.1,
      subst (λ (s : SymState). HasPart
          (λ most. asks (program_at (program_of file (plan_of_area area)) s) ≡ Input most) (symbol_stand s) now)
          (run_is file area input ran.taken) (record {
            most = ran.leaves.most;
            at_read = ran.leaves.at_read;
            bytes = ran.leaves.bytes;
            rest = ran.leaves.rest;
            fewer = ran.leaves.fewer;
            whole = ran.leaves.whole;
            left = ran.leaves.left;
          }),
    )),
  )
  stopped end.Memory told within rose = λ input is.
      (let ran = told input is in (ran.taken, ran.ends, rest input ran.taken ran.leaves))
