use Rattle.std.proofs.Common.{◌∷◌, []}
use Rattle.heap_trace.specs.Traces.{added}
use Rattle.heap_trace.proofs.Legality.{all_added}
use Rattle.heap_trace.proofs.Pushing.{takes_first, legal_rest}
use Rattle.heap_trace.proofs.recording.push_events.Goals as goal

pub push_event-requires : goal.push_event-requires
push_event-requires c =
    takes_first c.args.affinity.now c.requires.0 c.args.grant
    (c.args.release ∷ c.args.access ∷ []) c.requires.1 c.requires.2

pub push_event-requires-2 : goal.push_event-requires-2
push_event-requires-2 c =
    takes_first c.push_event.new.affinity (added c.requires.0 c.args.grant) c.args.release (c.args.access ∷ [])
    (c.in_ok-push_event.ensures.pushed c.requires.0 c.requires.1)
    (legal_rest c.requires.0 c.args.grant (c.args.release ∷ c.args.access ∷ []) c.requires.2)

pub push_event-requires-3 : goal.push_event-requires-3
push_event-requires-3 c =
    takes_first c.push_event-2.new.affinity (added (added c.requires.0 c.args.grant) c.args.release) c.args.access []
    (c.in_ok-push_event-2.ensures.pushed (added c.requires.0 c.args.grant)
    (c.in_ok-push_event.ensures.pushed c.requires.0 c.requires.1))
    (legal_rest (added c.requires.0 c.args.grant) c.args.release (c.args.access ∷ [])
    (legal_rest c.requires.0 c.args.grant (c.args.release ∷ c.args.access ∷ []) c.requires.2))

pub returns-clause-pushed : goal.returns-clause-pushed
returns-clause-pushed c = λ h p.
    rw (all_added h c.args.grant c.args.release c.args.access)
    (c.in_ok-push_event-3.ensures.pushed (added (added h c.args.grant) c.args.release)
    (c.in_ok-push_event-2.ensures.pushed (added h c.args.grant) (c.in_ok-push_event.ensures.pushed h p)))
