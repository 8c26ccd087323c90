-- How a command ends that profiles a run: before it writes, or by the write of its text.
use Rattle.std.proofs.Common.{◌≡◌, ℕ, ◌≤◌, inl, inr, List, Option, Some, MatchOption, refl, sym, subst}
use Rattle.plan_core.specs.declared.profiles.Profile.{Profile}
use Rattle.exec_image.specs.declared.refusals.FileRefusal.{FileRefusal}
use Rattle.exec_image.specs.Images.{IsAccepted}
use Rattle.heap_trace.specs.declared.profiles.Profiled.{Profiled}
use Rattle.endings.specs.declared.endings.Ending.{Ending}
use Rattle.endings.specs.declared.endings.Ending.TheVariants.{Done, File, Plan, Profile as BadProfile, ReadFault}
use Rattle.endings.specs.declared.endings.Ending.TheVariants.{WriteFault, Memory, Usage, Exited, StillRunning, Fault}
use Rattle.endings.specs.declared.endings.Ending.TheVariants.{Illegal}
use Rattle.endings.specs.declared.endings.BadFile.TheVariants.{Refused}
use Rattle.halo_words.specs.Grammar.{Given, operand_in}
use Rattle.halo_cli.specs.World.{Outside, OnlyMoves}
use Rattle.halo_cli.specs.Writing.{WritesOrLacks}
use Rattle.halo_cli.specs.Reads.{file_limit, IsRead, AreFirstReads}
use Rattle.halo_cli.specs.Options.{area_in}
use Rattle.halo_cli.specs.Runs.{IsRunEnd, RunsTo, steps_in}
use Rattle.halo_cli.specs.Profiling.{area_run, distance_in, behind_run, ComesBehind, ProfilingBrings, ProfilingCause}
use Rattle.halo_cli.specs.Profiling.{ProfilingStops, LeftSome, RunStopped, RunProfiled, AcceptsFile, FileStops}
use Rattle.halo_cli.specs.Profiling.{MadeText, file_reads, profiling_entry}
use Rattle.halo_cli.specs.Ends.{HasCauseOf, EndsOf}
use Rattle.halo_cli.proofs.ProfilingDue.{brings_brought}

module _ (word : List ℕ) (Writes : Given → List ℕ → Profile → List ℕ → Type 0) (given : Given) (before now : Outside)
    (moves : OnlyMoves before now) where
  stop_cause : (ending : Ending) → ProfilingCause given before now ending
      → HasCauseOf (profiling_entry word Writes) given before now ending
  stop_cause ReadFault cause = cause
  stop_cause Memory cause = tt
  stop_cause (Usage place) cause = brings_brought given before now (Usage place) cause
  stop_cause WriteFault cause = absurd (brings_brought given before now WriteFault cause)
  stop_cause Done cause = cause
  stop_cause (File why) cause = cause
  stop_cause (Plan why) cause = cause
  stop_cause (BadProfile why) cause = cause
  stop_cause (Exited status steps) cause = cause
  stop_cause (StillRunning steps) cause = cause
  stop_cause (Fault kind at steps) cause = cause
  stop_cause (Illegal at steps) cause = cause

  pub profiling_stops : (ending : Ending)
      → AreFirstReads (file_reads (operand_in given 0)) before.files now.files ending
      → ProfilingStops given before now ending → ProfilingCause given before now ending
      → EndsOf (profiling_entry word Writes) given before now ending
  profiling_stops ending reads stops cause = record {
    cause = stop_cause ending cause;
    leaves = inl stops;
    moves = moves;
    reads = reads;
  }

  module _ (file : List ℕ) (accepts : AcceptsFile given before now file) (profiled : Profiled)
      (ran : RunProfiled file (area_in given) (distance_in given) (steps_in given) before now profiled)
      (reads : (ending : Ending) → AreFirstReads (file_reads (operand_in given 0)) before.files now.files ending) where
    -- the run had exited, so the command is due to be done
    brings_done : ProfilingBrings given before now Done
    brings_done = inr (
      file,
      accepts.0,
      subst (λ (found : Option FileRefusal). MatchOption found
          (ComesBehind (RunsTo before.input.told (steps_in given) (area_run file (area_in given))) Done)
          (λ why. Done ≡ File (Refused why))) (sym accepts.1)
          (Exited profiled.status profiled.steps, ran.exits, refl),
    )

    within : (input : List ℕ) → before.input.told ≡ Some input → profiled.steps ≤ steps_in given
    within input is =
        let end : IsRunEnd (area_run file (area_in given)) input (steps_in given)
        (Exited profiled.status profiled.steps) =
        subst (λ (told : Option (List ℕ)). RunsTo told (steps_in given) (area_run file (area_in given))
        (Exited profiled.status profiled.steps)) is ran.exits in end.0

    left_some : LeftSome (area_run file (area_in given)) (steps_in given) before now
    left_some input is = (profiled.steps, within input is, ran.left input is)

    made : (text : List ℕ) → Writes given file profiled.profile text → MadeText Writes given before now text
    made text writes = record { file = file; accepts = accepts; profiled = profiled; ran = ran; writes = writes }

    pub profiling_wrote : (ending : Ending)
        → WritesOrLacks (Writes given file profiled.profile) before.out now.out ending
        → EndsOf (profiling_entry word Writes) given before now ending
    profiling_wrote ending (inl (is, same)) = subst (λ e. EndsOf (profiling_entry word Writes) given before now e)
        (sym is) (record {
          cause = tt;
          leaves = inl (same, inr (file, accepts, left_some));
          moves = moves;
          reads = reads Memory;
        })
    profiling_wrote ending (inr (text, writes, inl (is, appends))) =
        subst (λ e. EndsOf (profiling_entry word Writes) given before now e) (sym is) (record {
          cause = brings_done;
          leaves = inr (text, made text writes, appends);
          moves = moves;
          reads = reads Done;
        })
    profiling_wrote ending (inr (text, writes, inr (is, rose, part))) =
        subst (λ e. EndsOf (profiling_entry word Writes) given before now e) (sym is) (record {
          cause = (rose, brings_done);
          leaves = inr (text, made text writes, part);
          moves = moves;
          reads = reads WriteFault;
        })

-- ---- before it writes, by what its file came to

module _ (given : Given) (before now : Outside) (file : List ℕ)
    (read : IsRead (operand_in given 0) file_limit before.files now.files file) (out : now.out ≡ before.out) where
  by_run : IsAccepted file → (end : Ending)
      → RunsTo before.input.told (steps_in given) (area_run file (area_in given)) end
      → ProfilingBrings given before now (behind_run end)
  by_run accepted end runs = inr (
    file,
    read,
    subst (λ (found : Option FileRefusal). MatchOption found
        (ComesBehind (RunsTo before.input.told (steps_in given) (area_run file (area_in given))) (behind_run end))
        (λ why. behind_run end ≡ File (Refused why))) (sym accepted) (end, runs, refl),
  )

  -- how the run of the accepted file stopped is the cause
  run_cause : IsAccepted file → (ending : Ending)
      → RunStopped (area_run file (area_in given)) (steps_in given) before now ending
      → ProfilingCause given before now ending
  run_cause accepted ReadFault stopped = inl (inr (stopped.0, (file, (read, accepted))))
  run_cause accepted Memory stopped = tt
  run_cause accepted (StillRunning steps) stopped = by_run accepted (StillRunning steps) stopped.0
  run_cause accepted (Fault kind at steps) stopped = by_run accepted (Fault kind at steps) stopped.0
  run_cause accepted (Illegal at steps) stopped = by_run accepted (Illegal at steps) stopped.0
  run_cause accepted ending stopped = absurd stopped

  pub file_stops : (ending : Ending) → FileStops file (area_in given) (steps_in given) before now ending
      → ProfilingStops given before now ending × ProfilingCause given before now ending
  file_stops ending (inl (is, input)) =
      subst (λ e. ProfilingStops given before now e × ProfilingCause given before now e) (sym is)
      ((out, inl (tt, (λ e. cc), input)), tt)
  file_stops ending (inr (inl (why, refused, is, input))) =
      subst (λ e. ProfilingStops given before now e × ProfilingCause given before now e) (sym is) (
        (out, inl (tt, (λ e. cc), input)),
        inr (
          file,
          read,
          subst (λ (found : Option FileRefusal). MatchOption found
              (ComesBehind (RunsTo before.input.told (steps_in given) (area_run file (area_in given)))
              (File (Refused why))) (λ other. File (Refused why) ≡ File (Refused other))) (sym refused) refl,
        ),
      )
  file_stops ending (inr (inr (accepted, stopped))) =
      ((out, inr (file, (read, accepted), stopped)), run_cause accepted ending stopped)
