use Rattle.std.proofs.Common.{◌≡◌, [], ap}
use Rattle.sym_spec.specs.SymNotes.{empty_note}
use Rattle.sym_machine.proofs.Names.{step_few}
use Rattle.sym_machine.proofs.Stepping.{step_paused, step_turns}
use Rattle.sym_machine.proofs.machine.SymMachine.step.Goals as goal

pub invariant_of-self-2 : goal.invariant_of-self-2
invariant_of-self-2 c = rw c.pause_of-self-inside.ensures (step_paused _ _ _ _ (c.in_ok-stepped.ensures.turn []))

pub returns-clause-turn : goal.returns-clause-turn
returns-clause-turn c = λ input.
    let e : c.self.inside.hart ≡ c.args.self.now.program = ap (λ s. s.program) c.self.view_is in
    rw (← e, c.pause_of-self-inside.ensures)
    (step_turns _ input _ _ empty_note c.in_ok-stepped.ensures.answer (c.in_ok-stepped.ensures.turn input))

pub returns-clause-blocks : goal.returns-clause-blocks
returns-clause-blocks c =
    let e : c.self.inside.hart ≡ c.args.self.now.program = ap (λ s. s.program) c.self.view_is in
    rw (← e) (step_few _ c.self.inside.hart _ (c.in_ok-stepped.ensures.turn []))
