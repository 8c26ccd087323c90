use Rattle.std.proofs.Common.{rules, ◌≡◌, []}
use Rattle.plan_core.specs.declared.steps.Stage.TheVariants.{Ended}
use Rattle.plan_core.proofs.Begun.{went_on, refused, trailing}
use Rattle.plan_core.proofs.reader.read_lines.Goals as goal

pub returns-in-Err-clause-refused : goal.returns-in-Err-clause-refused
returns-in-Err-clause-refused c =
    let going : c.loop-stage.stage ≡ Ended → ⊥ = search rules in
    refused c.lines_are_read_as_they_are_written.ensures _ c.loop-stage.plan c.loop-stage.stage c.loop-stage.rest.now _
    _ c.loop-stage.invariant going c.in-Err.ensures

pub loop-stage-preserved : goal.loop-stage-preserved
loop-stage-preserved c =
    went_on c.lines_are_read_as_they_are_written.ensures _ c.loop-stage.plan c.loop-stage.stage c.loop-stage.rest.now _
    _ _ _ c.loop-stage.invariant c.in-Ok.ensures

pub returns-then-not-is_empty-clause-refused : goal.returns-then-not-is_empty-clause-refused
returns-then-not-is_empty-clause-refused c =
    let ended : c.loop-stage.stage ≡ Ended = search rules in
    let some : c.loop-stage.rest.now ≡ [] → ⊥ = search rules in
    trailing c.lines_are_read_as_they_are_written.ensures _ c.loop-stage.plan _ _ _ c.loop-stage.invariant ended some
