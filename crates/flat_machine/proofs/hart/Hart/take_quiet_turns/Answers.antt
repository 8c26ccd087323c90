use Rattle.std.proofs.Common.{◌≡◌, ◌∙◌, ap}
use Rattle.machine_spec.specs.declared.Ending.TheVariants.{Running}
use Rattle.flat_machine.proofs.hart.Hart.take_quiet_turns.Goals as goal

pub returns-clause-turns : goal.returns-clause-turns
returns-clause-turns c =
    let runs : c.self.inside.ending ≡ Running = ap (λ m. m.ending) c.self.view_is ∙ c.requires in
    rw (← c.self.view_is, runs) c.take_turns.ensures.turns
