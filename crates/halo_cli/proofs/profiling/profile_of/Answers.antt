-- The run of the accepted file gave its profile, or the command ends as it did.
use Rattle.std.proofs.Common.{inr, sym, subst}
use Rattle.halo_cli.specs.World.{Outside}
use Rattle.halo_cli.specs.Profiling.{area_run, RunProfiled, RunStopped, FileStops, ending_of_profile}
use Rattle.halo_cli.proofs.ProfilingRuns.{profiled, stopped}
use Rattle.halo_cli.proofs.profiling.profile_of.Goals as goal

pub returns-in-Ok-profile_run-clause-ran : goal.returns-in-Ok-profile_run-clause-ran
returns-in-Ok-profile_run-clause-ran g c = λ files files' out out'.
    let before : Outside = record { files = files; input = g.I.Source.seen c.args.input.now; out = out } in
    let now : Outside = record { files = files'; input = g.I.Source.seen c.profile_run.new.input; out = out' } in
    subst (λ f. RunProfiled f c.args.area c.args.distance c.args.steps before now c.in-Ok-profile_run.profiled)
    c.in-Ok.ensures.1
    (profiled c.in-Ok.image c.args.area c.args.distance c.args.steps before now c.in-Ok-profile_run.profiled
    c.in-Ok-profile_run.ensures.run c.in-Ok-profile_run.ensures.within c.in-Ok-profile_run.ensures.turns)

pub returns-clause-stops : goal.returns-clause-stops
returns-clause-stops g c = λ files files' out out'.
    let before : Outside = record { files = files; input = g.I.Source.seen c.args.input.now; out = out } in
    let now : Outside = record { files = files'; input = g.I.Source.seen c.profile_run.new.input; out = out' } in
    subst (λ e. FileStops c.args.file.now c.args.area c.args.steps before now e) (sym c.ending_of.ensures)
    (inr (inr (
      c.in-Ok.ensures.0,
      subst (λ f. RunStopped (area_run f c.args.area) c.args.steps before now
          (ending_of_profile c.in-Err-profile_run.end c.args.steps)) c.in-Ok.ensures.1
          (stopped c.in-Ok.image c.args.area c.args.distance c.args.steps before now c.in-Err-profile_run.end
          c.in-Err-profile_run.ensures.run c.in-Err-profile_run.ensures.within
          (λ is. c.in-Err-profile_run.ensures.read_fault cc)),
    )))
