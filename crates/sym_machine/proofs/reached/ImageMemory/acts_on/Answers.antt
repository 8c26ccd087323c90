use Rattle.std.proofs.Common.{ap, ◌∙◌}
use Rattle.sym_machine.specs.Placing.{machine_with, outcome_of}
use Rattle.sym_machine.proofs.reached.ImageMemory.acts_on.Goals as goal

pub returns-in-Release-clause-done : goal.returns-in-Release-clause-done
returns-in-Release-clause-done c = λ m b.
    ap (λ r. outcome_of c.args.self.now.file c.args.self.now.plan r (machine_with c.args.self.now m)) c.in-Release.is
    ∙ c.releases.ensures.done m

pub returns-in-Nothing-clause-done : goal.returns-in-Nothing-clause-done
returns-in-Nothing-clause-done c = λ m b.
    ap (λ r. outcome_of c.args.self.now.file c.args.self.now.plan r (machine_with c.args.self.now m)) c.in-Nothing.is
    ∙ c.answered.ensures _
