use Rattle.machine_run.proofs.Finishing.{finished}
use Rattle.machine_run.proofs.running.run.Goals as goal

pub returns-clause-run : goal.returns-clause-run
returns-clause-run g c = λ left told.
    finished _ _ _ _ _ left _ _ _ _ _ _ c.run_turns-end.ensures.out_later (c.run_turns-end.ensures.run left told)
    c.finish.ensures.ends
