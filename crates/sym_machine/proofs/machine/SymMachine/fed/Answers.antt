use Rattle.std.proofs.Common.{◌≡◌, ◌∙◌, ap}
use Rattle.std.specs.Prelude.{unwrap_or}
use Rattle.sym_spec.specs.SymNotes.{empty_note}
use Rattle.machine_run.specs.declared.pause.Pause.TheVariants as pause
use Rattle.sym_machine.specs.Seen.{IsPaused, seen_by_run, seen_of}
use Rattle.sym_machine.proofs.Feeding.{completes, completes_note}
use Rattle.sym_machine.proofs.machine.SymMachine.fed.Goals as goal

pub returns-in-Input-clause-turn : goal.returns-in-Input-clause-turn
returns-in-Input-clause-turn c = λ p len bytes rest at is whole.
    let paused : IsPaused (pause.Input c.in-Input.len c.in-Input.fed) c.self.inside.hart =
    rw c.in-Input.is at c.self.invariant in
    let seen : seen_of (pause.Input c.in-Input.len c.in-Input.fed) (unwrap_or c.self.inside.last empty_note)
    c.self.inside.hart ≡ c.args.self.now = rw c.in-Input.is at c.self.view_is in
    rw c.gives.ensures
    (completes c.self.inside.hart p (unwrap_or c.self.inside.last empty_note) c.in-Input.len c.in-Input.fed len bytes
    rest
    paused (ap seen_by_run seen ∙ is) at whole)

pub returns-in-Input-clause-last : goal.returns-in-Input-clause-last
returns-in-Input-clause-last c = λ p len bytes at is.
    let seen : seen_of (pause.Input c.in-Input.len c.in-Input.fed) (unwrap_or c.self.inside.last empty_note)
    c.self.inside.hart ≡ c.args.self.now = rw c.in-Input.is at c.self.view_is in
    rw (c.access_to.ensures, c.register.ensures)
    (completes_note c.self.inside.hart p (unwrap_or c.self.inside.last empty_note) c.in-Input.len c.in-Input.fed len
    bytes
    (ap seen_by_run seen ∙ is) at)
