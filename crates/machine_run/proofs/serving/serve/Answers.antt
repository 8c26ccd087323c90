use Rattle.std.proofs.Common.{[], refl, sym, ap, ◌∙◌}
use Rattle.machine_run.proofs.Drawing.{draws_none}
use Rattle.machine_run.proofs.Served.{else_quiet, quiet_served, read_served, wrote_is, wrote_served, wrote_part}
use Rattle.machine_run.proofs.Served.{wants_is}
use Rattle.machine_run.proofs.serving.serve.Goals as goal

pub accept-requires : goal.accept-requires
accept-requires g c =
    let h = wrote_is g.M.Machine.rules _ _ [] (g.M.Machine.seen c.args.machine.now).machine
    (g.M.Machine.seen c.try_step.new.self) (c.in-Ok.ensures.turn []) c.in-Wrote.is in
    sym h.1

pub read_from-requires : goal.read_from-requires
read_from-requires g c =
    let h = wants_is g.M.Machine.rules _ _ [] (g.M.Machine.seen c.args.machine.now).machine
    (g.M.Machine.seen c.try_step.new.self) (c.in-Ok.ensures.turn []) c.in-WantsInput.is in
    ap (λ s. s.waits) h.1

pub returns-in-Ok-accept-clause-turn : goal.returns-in-Ok-accept-clause-turn
returns-in-Ok-accept-clause-turn g c = λ left told.
    wrote_served g.M.Machine.rules _ _ (g.M.Machine.seen c.args.machine.now).machine left
    (g.M.Machine.seen c.try_step.new.self) _ _ _ _ _
    (c.in-Ok.ensures.turn left) c.in-Wrote.is told c.in-Ok-accept.ensures.whole

pub returns-in-Err-clause-turn : goal.returns-in-Err-clause-turn
returns-in-Err-clause-turn g c = λ left told.
    wrote_part g.M.Machine.rules _ _ (g.M.Machine.seen c.args.machine.now).machine left
    (g.M.Machine.seen c.try_step.new.self) _ _ _ _
    (c.in-Ok.ensures.turn left) c.in-Wrote.is told c.in-Err.ensures.part

pub returns-in-Ok-accept-clause-goes : goal.returns-in-Ok-accept-clause-goes
returns-in-Ok-accept-clause-goes g c =
    let h = wrote_is g.M.Machine.rules _ _ [] (g.M.Machine.seen c.args.machine.now).machine
    (g.M.Machine.seen c.try_step.new.self) (c.in-Ok.ensures.turn []) c.in-Wrote.is in
    h.2.0

pub returns-in-Err-clause-stands : goal.returns-in-Err-clause-stands
returns-in-Err-clause-stands g c = λ e.
    let h = wrote_is g.M.Machine.rules _ _ [] (g.M.Machine.seen c.args.machine.now).machine
    (g.M.Machine.seen c.try_step.new.self) (c.in-Ok.ensures.turn []) c.in-Wrote.is in
    h.2.0

pub returns-in-Ok-read_from-clause-turn : goal.returns-in-Ok-read_from-clause-turn
returns-in-Ok-read_from-clause-turn g c = λ left told.
    let h = wants_is g.M.Machine.rules _ _ [] (g.M.Machine.seen c.args.machine.now).machine
    (g.M.Machine.seen c.try_step.new.self) (c.in-Ok.ensures.turn []) c.in-WantsInput.is in
    read_served g.M.Machine.rules (g.M.Machine.seen c.args.machine.now).machine left _ _ _ _
    (c.in-Ok-read_from.ensures.done (g.M.Machine.seen c.args.machine.now).machine left h.0 h.1 told)

pub returns-in-Err-read_from-clause-turn : goal.returns-in-Err-read_from-clause-turn
returns-in-Err-read_from-clause-turn g c = λ left told.
    let h = wants_is g.M.Machine.rules _ _ [] (g.M.Machine.seen c.args.machine.now).machine
    (g.M.Machine.seen c.try_step.new.self) (c.in-Ok.ensures.turn []) c.in-WantsInput.is in
    (c.in-Err-read_from.ensures.cut (g.M.Machine.seen c.args.machine.now).machine left h.0 h.1 told, refl, refl)

pub returns-in-Err-read_from-clause-runs : goal.returns-in-Err-read_from-clause-runs
returns-in-Err-read_from-clause-runs g c = λ e.
    let h = wants_is g.M.Machine.rules _ _ [] (g.M.Machine.seen c.args.machine.now).machine
    (g.M.Machine.seen c.try_step.new.self) (c.in-Ok.ensures.turn []) c.in-WantsInput.is in
    c.in-Err-read_from.ensures.runs ∙ h.2

pub returns-in_default-stepped-clause-turn : goal.returns-in_default-stepped-clause-turn
returns-in_default-stepped-clause-turn g c = λ left told.
    quiet_served g.M.Machine.rules (g.M.Machine.seen c.args.machine.now).machine left _ _ _ _
    (else_quiet g.M.Machine.rules _ left _ _ c.in_default-stepped.not-Wrote c.in_default-stepped.not-WantsInput
    (c.in-Ok.ensures.turn left)) told

pub returns-in_default-stepped-clause-goes : goal.returns-in_default-stepped-clause-goes
returns-in_default-stepped-clause-goes g c =
    let h = else_quiet g.M.Machine.rules _ [] _ _ c.in_default-stepped.not-Wrote c.in_default-stepped.not-WantsInput
    (c.in-Ok.ensures.turn []) in h.1.0

pub returns-in_default-stepped-clause-counted : goal.returns-in_default-stepped-clause-counted
returns-in_default-stepped-clause-counted g c = λ left. draws_none left _ _
