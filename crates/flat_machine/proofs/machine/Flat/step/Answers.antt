use Rattle.std.proofs.Common.{◌≡◌, [], ap, sym, ◌∙◌}
use Rattle.flat_machine.proofs.Stepping.{step_paused, step_turns, step_pauses, again_between}
use Rattle.flat_machine.proofs.machine.Flat.step.Goals as goal

pub invariant_of-self : goal.invariant_of-self
invariant_of-self c = rw c.pause_of-self-inside.ensures (step_paused _ _ _ _ (c.step-stepped.ensures.turn []))

pub returns-clause-turn : goal.returns-clause-turn
returns-clause-turn c = λ input.
    let e : c.self.inside.hart ≡ c.args.self.now.machine = ap (λ s. s.machine) c.self.view_is in
    rw (← e, c.pause_of-self-inside.ensures)
    (step_turns _ input _ _ c.step-stepped.ensures.answer (c.step-stepped.ensures.turn input))

pub returns-clause-again : goal.returns-clause-again
returns-clause-again c = λ ended.
    let e : c.self.inside.hart ≡ c.args.self.now.machine = ap (λ s. s.machine) c.self.view_is in
    rw c.pause_of-self-inside.ensures
    (again_between _ _ _ _ e (c.step-stepped.ensures.again (λ runs. ended (sym (ap (λ m. m.ending) e) ∙ runs))))

pub returns-clause-pause : goal.returns-clause-pause
returns-clause-pause c =
    rw c.pause_of-self-inside.ensures
    (step_pauses _ _ _ (step_turns _ [] _ _ c.step-stepped.ensures.answer (c.step-stepped.ensures.turn [])))
