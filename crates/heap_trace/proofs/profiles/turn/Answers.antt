use Rattle.std.proofs.Common.{◌≡◌, ◌++◌, [], refl, ap, sym, ◌∙◌, length, arith}
use Rattle.sym_machine.specs.Seen.{seen_by_run}
use Rattle.heap_trace.proofs.ReadTurns.{is_turn, now_noted, turn_led, wants, read_led, read_some, read_cut, fed_places}
use Rattle.heap_trace.proofs.ReadTurns.{completed_places}
use Rattle.heap_trace.proofs.profiles.turn.Goals as goal

pub feed_from-requires : goal.feed_from-requires
feed_from-requires g c =
    let h = wants _ _ [] c.args.machine.now.program (seen_by_run c.step.new.self) (c.in-Ok.ensures.turn [])
    c.in-WantsInput.is in
    ap (λ s. s.waits) h.1

pub returns-in-Ok-feed_from-clause-done : goal.returns-in-Ok-feed_from-clause-done
returns-in-Ok-feed_from-clause-done g c = λ left told.
    let h = wants _ _ [] c.args.machine.now.program (seen_by_run c.step.new.self) (c.in-Ok.ensures.turn [])
    c.in-WantsInput.is in
    read_led _ _ left (seen_by_run c.feed_from.new.machine) (seen_by_run c.fed.new.self) _ h.0
    (c.in-Ok-feed_from.ensures.whole c.args.machine.now.program left h.1 told) c.fed.ensures.turn

pub returns-in-Ok-feed_from-clause-some : goal.returns-in-Ok-feed_from-clause-some
returns-in-Ok-feed_from-clause-some g c =
    let h = wants _ _ [] c.args.machine.now.program (seen_by_run c.step.new.self) (c.in-Ok.ensures.turn [])
    c.in-WantsInput.is in
    let f = c.in-Ok-feed_from.ensures.fed c.args.machine.now.program h.1 in
    let led = read_some _ _ f.0 (seen_by_run c.feed_from.new.machine) (seen_by_run c.fed.new.self) h.0 f.1
    c.fed.ensures.turn in
    (f.0 ++ [], led)

pub returns-in-Ok-feed_from-clause-last : goal.returns-in-Ok-feed_from-clause-last
returns-in-Ok-feed_from-clause-last g c =
    let h = wants _ _ [] c.args.machine.now.program (seen_by_run c.step.new.self) (c.in-Ok.ensures.turn [])
    c.in-WantsInput.is in
    let f = c.in-Ok-feed_from.ensures.fed c.args.machine.now.program h.1 in
    c.fed.ensures.last c.args.machine.now.program _ f.0 h.0 f.1

pub returns-in-Ok-feed_from-clause-places : goal.returns-in-Ok-feed_from-clause-places
returns-in-Ok-feed_from-clause-places g c =
    let h = wants _ _ [] c.args.machine.now.program (seen_by_run c.step.new.self) (c.in-Ok.ensures.turn [])
    c.in-WantsInput.is in
    let f = c.in-Ok-feed_from.ensures.fed c.args.machine.now.program h.1 in
    let same : c.fed.new.self.program.machine.at ≡ c.args.machine.now.program.machine.at =
    completed_places c.feed_from.new.machine c.fed.new.self c.fed.ensures.exact
    ∙ fed_places c.args.machine.now.program _ f.0 c.feed_from.new.machine f.1 in
    omega (arith, ap length same, c.step.ensures.blocks)

pub returns-in-Err-clause-cut : goal.returns-in-Err-clause-cut
returns-in-Err-clause-cut g c = λ e left told.
    let h = wants _ _ [] c.args.machine.now.program (seen_by_run c.step.new.self) (c.in-Ok.ensures.turn [])
    c.in-WantsInput.is in
    read_cut _ _ left (seen_by_run c.feed_from.new.machine) _ h.0
    (c.in-Err.ensures.part c.args.machine.now.program left h.1 told)

pub returns-in_default-stepped-clause-done : goal.returns-in_default-stepped-clause-done
returns-in_default-stepped-clause-done g c = λ left told.
    turn_led left _ (seen_by_run c.step.new.self) _ _
    (is_turn _ left c.args.machine.now.program (seen_by_run c.step.new.self) (c.in-Ok.ensures.turn left)
    c.in_default-stepped.not-WantsInput) told refl

pub returns-in_default-stepped-clause-some : goal.returns-in_default-stepped-clause-some
returns-in_default-stepped-clause-some g c =
    let h = is_turn _ [] c.args.machine.now.program (seen_by_run c.step.new.self) (c.in-Ok.ensures.turn [])
    c.in_default-stepped.not-WantsInput in
    ([], sym (ap (λ t. t.next) h.1))

pub returns-in_default-stepped-clause-last : goal.returns-in_default-stepped-clause-last
returns-in_default-stepped-clause-last g c =
    now_noted _ _ _ _ c.in-Ok.ensures.last c.in_default-stepped.not-WantsInput

pub returns-in_default-stepped-clause-goes : goal.returns-in_default-stepped-clause-goes
returns-in_default-stepped-clause-goes g c =
    (is_turn _ [] c.args.machine.now.program (seen_by_run c.step.new.self) (c.in-Ok.ensures.turn [])
    c.in_default-stepped.not-WantsInput).0

pub returns-in_default-stepped-clause-places : goal.returns-in_default-stepped-clause-places
returns-in_default-stepped-clause-places g c = c.step.ensures.blocks
