use Rattle.std.proofs.Common.{length, ap, arith}
use Rattle.sym_machine.proofs.QuietRuns.{goes_quietly, goes_running, goes_at}
use Rattle.sym_machine.proofs.as_machine.SymMachineMachine.run_quietly.Goals as goal

pub returns-clause-turns : goal.returns-clause-turns
returns-clause-turns c = goes_quietly _ _ _ c.take_quiet_steps.ensures.turns

pub returns-clause-runs : goal.returns-clause-runs
returns-clause-runs c = goes_running _ _ _ c.requires.runs c.take_quiet_steps.ensures.turns

pub returns-clause-fewer : goal.returns-clause-fewer
returns-clause-fewer c =
    let same = ap length (goes_at _ _ _ c.take_quiet_steps.ensures.turns) in
    omega (arith, same)
