use Rattle.std.proofs.Common.{◌++◌, List, refl, subst, sym}
use Rattle.std.specs.Prelude.{Option}
use Rattle.plan_core.specs.declared.profiles.Event.{Event}
use Rattle.affinity.specs.Histories.{Legal}
use Rattle.affinity.specs.Pushed.{Pushed}
use Rattle.heap_trace.specs.Traces.{events_in}
use Rattle.heap_trace.proofs.Pushing.{three}
use Rattle.heap_trace.proofs.recording.Recording.take.Goals as goal

pub push_events-requires : goal.push_events-requires
push_events-requires c =
    let t = c.in_ok-grant.ensures.takes in
    let legal : Legal (c.requires.legal.0 ++ events_in c.in_ok-grant.field-0) =
    c.requires.legal.2 c.take.new.self (c.requires.legal.0 ++ events_in c.in_ok-grant.field-0)
    (record { of_step = c.in_ok-grant.field-0; takes = t; all = refl }) in (
      c.requires.legal.0,
      c.requires.legal.1,
      subst (λ (es : List (Option Event)). Legal (c.requires.legal.0 ++ events_in es))
          (sym (three c.in_ok-grant.field-0 _ _ _ t.all)) legal,
    )

pub returns-clause-pushed : goal.returns-clause-pushed
returns-clause-pushed c = λ h p.
    let t = c.in_ok-grant.ensures.takes in (
      h ++ events_in c.in_ok-grant.field-0,
      record { of_step = c.in_ok-grant.field-0; takes = t; all = refl },
      subst (λ (es : List (Option Event)). Pushed c.push_events.new.affinity (h ++ events_in es))
          (three c.in_ok-grant.field-0 _ _ _ t.all) (c.in_ok-push_events.ensures.pushed h p),
    )
