use Rattle.std.proofs.Common.{refl, rules}
use Rattle.sym_machine.proofs.Served.{err_is, serves_bad, serves_lost, serves_goes, served, served_goes}
use Rattle.sym_machine.proofs.hart.Hart.serves.Goals as goal

pub returns-in_default-clause-turn : goal.returns-in_default-clause-turn
returns-in_default-clause-turn c = λ input.
    rw (
      c.refuses.ensures.answer,
      c.refuses.ensures.state,
      serves_bad c.args.self.now.file c.args.self.now.plan c.args.name c.args.self.now.machine
          (search rules),
    ) refl

pub returns-then-not-is_way_back-clause-turn : goal.returns-then-not-is_way_back-clause-turn
returns-then-not-is_way_back-clause-turn c = λ input.
    rw (
      c.refuses-then-not-is_way_back.ensures.answer,
      c.refuses-then-not-is_way_back.ensures.state,
      c.is_way_back.ensures.same,
      serves_lost c.args.self.now.file c.args.self.now.plan c.args.name c.args.self.now.machine c.in-Some.request
          (search rules) (search rules),
    ) refl

pub returns-in_err-acted-clause-goes : goal.returns-in_err-acted-clause-goes
returns-in_err-acted-clause-goes c =
    err_is c.from_residual.result
    (serves_goes c.args.self.now.file c.args.self.now.plan c.args.name c.args.self.now.machine c.in-Some.request
    (search rules) (search rules) c.requires.running)

pub returns-clause-answer : goal.returns-clause-answer
returns-clause-answer c =
    served_goes c.args.name c.in-Some.request c.in_ok-acted.acted c.register-to.result c.args.self.now
    c.acts_on.new.self
    c.takes.new.self c.returns.new.self (search rules) (search rules) (search rules) (search rules) (search rules)
    c.takes.ensures (c.returns.ensures c.args.self.now.machine) c.requires.running (search rules) (search rules)

pub returns-clause-turn : goal.returns-clause-turn
returns-clause-turn c =
    served c.args.name c.in-Some.request c.in_ok-acted.acted c.register-to.result c.args.self.now c.acts_on.new.self
    c.takes.new.self c.returns.new.self (search rules) (search rules) (search rules) (search rules) (search rules)
    c.takes.ensures (c.returns.ensures c.args.self.now.machine)
