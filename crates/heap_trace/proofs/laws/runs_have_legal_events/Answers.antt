use Rattle.heap_trace.proofs.Legality.{leads_stand, traces_lead}
use Rattle.heap_trace.proofs.laws.runs_have_legal_events.Goals as goal

pub returns-clause-legal : goal.returns-clause-legal
returns-clause-legal c = λ file plan input n t events few traces. (leads_stand
    c.lists_stay_legal_event_by_event.ensures.empty c.lists_stay_legal_event_by_event.ensures.more
    c.a_new_number_is_one_more.ensures file plan n _ t events few (traces_lead file plan input n t events traces)).legal

pub returns-clause-runs : goal.returns-clause-runs
returns-clause-runs c = λ file plan input n t events traces. traces_lead file plan input n t events traces

pub returns-clause-turns : goal.returns-clause-turns
returns-clause-turns c = λ file plan n m t events few leads.
    let s = leads_stand c.lists_stay_legal_event_by_event.ensures.empty c.lists_stay_legal_event_by_event.ensures.more
    c.a_new_number_is_one_more.ensures file plan n m t events few leads in
    record { legal = s.legal; contexts = s.different_are; few = s.few_contexts }
