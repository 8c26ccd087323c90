use Rattle.flat_machine.proofs.SameRuns.{ran_same}
use Rattle.flat_machine.proofs.running.run_flat.Goals as goal

pub returns-clause-run : goal.returns-clause-run
returns-clause-run g c = λ left told. ran_same _ c.in-Ok.end _ _ left _ _ _ (c.in-Ok.ensures.run left told)
