-- What a run of the symbol machine leads to: the trace after so many turns, and the events so far.
use Rattle.std.specs.Prelude.{◌≡◌, ◌≤◌, ℕ, zero, suc, List, [], ◌∷◌, ◌++◌, length, Option, Some, None, filter_map}
use Rattle.plan_core.specs.declared.types.Plan.{Plan}
use Rattle.plan_core.specs.declared.profiles.Event.{Event}
use Rattle.sym_spec.specs.declared.StepNote.{StepNote}
use Rattle.sym_spec.specs.SymMachine.{SymMachine, start}
use Rattle.sym_spec.specs.SymNotes.{note}
use Rattle.sym_spec.specs.SymRuns.{sym_run}
use Rattle.sym_spec.specs.SymTurns.{turn}
use Rattle.affinity.specs.Histories.{Legal, contexts_of, different}
use Rattle.heap_trace.specs.Events.{Traced, Takes}

-- before the first step nothing was called and nothing granted
abbrev pub nothing_traced : Traced
nothing_traced = record { stack = []; contexts = [] }

abbrev pub events_in : List (Option Event) → List Event
events_in es = filter_map (λ e. e) es

-- an event behind others, or none
abbrev pub added : List Event → Option Event → List Event
added h None = h
added h (Some e) = h ++ e ∷ []

-- a step with this note has its events behind those before
pub record LeadsOn (file : List ℕ) (v : StepNote) (before : Traced) (earlier : List Event) (after : Traced)
    (events : List Event) : Type 0 where
  pub of_step : List (Option Event)
  pub takes : Takes file v before after of_step
  pub all : events ≡ earlier ++ events_in of_step

-- the trace of the first n turns of a run, and their events
abbrev pub Traces : List ℕ → Plan → List ℕ → ℕ → Traced → List Event → Type 0
Traces file plan input zero t events = (t ≡ nothing_traced) × (events ≡ [])
Traces file plan input (suc n) t events =
    (before : Traced) × (earlier : List Event) × Traces file plan input n before earlier
    × LeadsOn file (note file plan (sym_run file plan input n).machine) before earlier t events

-- the machine, the trace and the events after n turns, of which each has an input of its own
abbrev pub Leads : List ℕ → Plan → ℕ → SymMachine → Traced → List Event → Type 0
Leads file plan zero m t events = (m ≡ start file plan) × (t ≡ nothing_traced) × (events ≡ [])
Leads file plan (suc n) m t events =
    (last : SymMachine) × (input : List ℕ) × (before : Traced) × (earlier : List Event)
    × Leads file plan n last before earlier × (m ≡ (turn file plan input last).next)
    × LeadsOn file (note file plan last) before earlier t events

-- the trace of n turns has a legal list of events, which name its contexts, and no more of them than turns
pub record IsLegalTrace (n : ℕ) (t : Traced) (events : List Event) : Type 0 where
  pub legal : Legal events
  pub contexts : different (contexts_of events) ≡ length t.contexts
  pub few : length t.contexts ≤ n
