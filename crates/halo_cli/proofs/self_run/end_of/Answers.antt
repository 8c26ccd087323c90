-- The machine was about to run the file, and its source and its sink never fail.
use Rattle.std.proofs.Common.{sym, subst}
use Rattle.halo_cli.specs.SelfRun.{IsNewEnd}
use Rattle.halo_cli.proofs.FlatRuns.{begins_running}
use Rattle.halo_cli.proofs.SelfEnds.{new_end}
use Rattle.halo_cli.proofs.self_run.end_of.Goals as goal

pub run_flat-end-requires-clause-runs : goal.run_flat-end-requires-clause-runs
run_flat-end-requires-clause-runs c = begins_running c.args.file.now c.in_ok-machine.machine c.in_ok-machine.ensures

pub returns : goal.returns
returns c = subst (λ e. IsNewEnd c.args.file.now e) (sym c.ending_of.ensures)
    (new_end c.args.file.now _ _ _ c.in_ok-machine.machine c.run_flat-end.new.machine c.run_flat-end.result
    c.in_ok-machine.ensures (rw c.new.ensures.items at c.new-input.ensures) c.new-out.ensures
    c.run_flat-end.ensures.run c.run_flat-end.ensures.ends c.run_flat-end.ensures.read_fault
    c.run_flat-end.ensures.write_fault)
