use Rattle.std.proofs.Common.{refl, ap, sym, ◌∙◌}
use Rattle.heap_trace.proofs.AreaPlans.{area_fits}
use Rattle.heap_trace.proofs.Drawing.{drawn_none}
use Rattle.heap_trace.proofs.RunProfiles.{area_alone, begins, ran_nothing, ran_err, ran_ok, ran_unprofiled, turns_ok}
use Rattle.heap_trace.proofs.profiles.profile_run.Goals as goal

pub start-requires : goal.start-requires
start-requires g c = rw (area_alone _ _ c.args.area c.new-sites.ensures c.new-rows.ensures)
    (area_fits c.args.image.now c.args.area c.requires.log_chunk c.requires.chunks c.requires.area)

pub returns-in_default-clause-run : goal.returns-in_default-clause-run
returns-in_default-clause-run g c = λ left told.
    ran_nothing c.args.image.now c.args.area c.args.distance c.args.steps left _ told

pub returns-in_default-clause-reads : goal.returns-in_default-clause-reads
returns-in_default-clause-reads g c = drawn_none _

pub record_run-requires-clause-start : goal.record_run-requires-clause-start
record_run-requires-clause-start g c = begins c.args.image.now _ _ c.in-Ok.ensures

pub into_profile-requires : goal.into_profile-requires
into_profile-requires g c = sym (c.record_run.ensures.distance ∙ c.new-recording.ensures.distance)

pub returns-in-Err-clause-run : goal.returns-in-Err-clause-run
returns-in-Err-clause-run g c = λ left told.
    ran_err c.args.image.now c.args.area c.args.distance c.args.steps left _ _ _ _
    (ap (λ s. s.program.plan) c.in-Ok.ensures ∙ area_alone _ _ c.args.area c.new-sites.ensures c.new-rows.ensures)
    (c.in-Err.ensures.run left told)

pub returns-in-Ok-into_profile-clause-run : goal.returns-in-Ok-into_profile-clause-run
returns-in-Ok-into_profile-clause-run g c = λ left told.
    ran_ok c.args.image.now c.args.area c.args.distance c.args.steps left _ _ _ _ _
    (ap (λ s. s.program.plan) c.in-Ok.ensures ∙ area_alone _ _ c.args.area c.new-sites.ensures c.new-rows.ensures)
    (c.in-Ok-record_run.ensures.run left told) _ refl refl c.in-Ok-into_profile.ensures.distance
    c.in-Ok-into_profile.ensures.contexts c.in-Ok-into_profile.ensures.graph

pub returns-in-Ok-into_profile-clause-turns : goal.returns-in-Ok-into_profile-clause-turns
returns-in-Ok-into_profile-clause-turns g c =
    turns_ok c.args.image.now c.args.area c.args.distance _ _ _ _
    (ap (λ s. s.program.plan) c.in-Ok.ensures ∙ area_alone _ _ c.args.area c.new-sites.ensures c.new-rows.ensures)
    c.in-Ok-record_run.ensures.turns c.in-Ok-into_profile.ensures.distance
    c.in-Ok-into_profile.ensures.contexts c.in-Ok-into_profile.ensures.graph

pub returns-clause-run : goal.returns-clause-run
returns-clause-run g c = λ left told.
    ran_unprofiled c.args.image.now c.args.area c.args.distance c.args.steps left _ _ _ _ _
    (ap (λ s. s.program.plan) c.in-Ok.ensures ∙ area_alone _ _ c.args.area c.new-sites.ensures c.new-rows.ensures)
    (c.in-Ok-record_run.ensures.run left told)
