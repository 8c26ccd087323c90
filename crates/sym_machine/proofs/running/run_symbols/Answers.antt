use Rattle.sym_machine.proofs.SameRuns.{ran_same, ends_as_same}
use Rattle.sym_machine.proofs.running.run_symbols.Goals as goal

pub returns-clause-run : goal.returns-clause-run
returns-clause-run g c =
    λ left told. ran_same _ _ _ left _ _ _ (rw (← c.end_of.ensures) at (c.run.ensures.run left told))

pub returns-clause-ends : goal.returns-clause-ends
returns-clause-ends g c = ends_as_same _ _ _ (rw (← c.end_of.ensures) at c.run.ensures.ends)
