use Rattle.std.proofs.Common.{refl, subst}
use Rattle.std.specs.Prelude.{IsSome}
use Rattle.sym_spec.specs.SymMachine.{SymMachine}
use Rattle.sym_machine.specs.Placing.{outcome_of}
use Rattle.sym_machine.specs.Programs.{Program}
use Rattle.sym_machine.proofs.Served.{on_err}
use Rattle.sym_machine.proofs.hart.Hart.acts_on.Goals as goal

pub returns-clause-lacks : goal.returns-clause-lacks
returns-clause-lacks c =
    let m : SymMachine = record {
      memory = c.self.inside.memory.memory;
      layout = c.self.inside.memory.layout;
      at = c.self.inside.memory.at;
      registers = c.self.inside.registers;
      pc = c.self.inside.pc;
      bits = c.self.inside.bits;
      ending = c.self.inside.ending;
    } in
    on_err c.acts_on.result c.acts_on.ensures.lacks
    (λ lacks. subst (λ (p : Program). IsSome (outcome_of p.file p.plan c.args.request p.machine).grant) c.self.view_is
    (rw (c.self.invariant.0, c.self.invariant.1) at (lacks m refl)))
