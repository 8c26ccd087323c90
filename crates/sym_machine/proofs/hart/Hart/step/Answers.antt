use Rattle.std.proofs.Common.{◌≡◌, refl, ap, sym, ◌∙◌}
use Rattle.machine_run.specs.Machines.{Nothing}
use Rattle.machine_run.specs.Steps.{answer_to}
use Rattle.sym_machine.proofs.Stepping.{ended_answers, ended_called, ended_note}
use Rattle.sym_machine.proofs.hart.Hart.step.Goals as goal

pub returns-in_default : goal.returns-in_default
returns-in_default c =
    let is : c.args.self.now.machine.ending ≡ c.ending.result = sym c.ending.ensures in
    record {
      answer = c.answer.ensures ∙ ended_answers c.args.self.now c.ending.result is c.in_default.not-Running;
      turn = λ input. rw c.answer.ensures
          (ended_called c.args.self.now c.ending.result input is c.in_default.not-Running);
      note = ended_note c.args.self.now c.ending.result is c.in_default.not-Running;
      again = λ ended. (refl, c.answer.ensures ∙ ap (answer_to Nothing) (sym is), refl);
      lacks = tt;
      kept = tt;
    }
