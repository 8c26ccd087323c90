-- What is recorded of a run under an area alone is its profile.
use Rattle.std.proofs.Common.{◌≡◌, ℕ, List, [], ap, sym, subst, ◌∙◌, arith}
use Rattle.std.specs.Prelude.{Option, Some, Ok, Err}
use Rattle.plan_core.specs.declared.types.Area.{Area}
use Rattle.plan_core.specs.declared.types.Plan.{Plan}
use Rattle.plan_core.specs.declared.types.PlanLine.{PlanLine}
use Rattle.plan_core.specs.declared.types.Row.{Row}
use Rattle.plan_core.specs.declared.profiles.Event.{Event}
use Rattle.plan_core.specs.declared.profiles.Profile.{Profile}
use Rattle.affinity.specs.Graphs.{IsGraph}
use Rattle.affinity.specs.Pushed.{Pushed}
use Rattle.sym_spec.specs.SymNotes.{empty_note}
use Rattle.sym_spec.specs.SymRuns.{steps}
use Rattle.sym_machine.specs.Seen.{SymSeen, between}
use Rattle.heap_trace.specs.declared.profiles.Profiled.{Profiled}
use Rattle.heap_trace.specs.declared.profiles.ProfileEnd.{ProfileEnd}
use Rattle.heap_trace.specs.declared.profiles.ProfileEnd.TheVariants.{Memory}
use Rattle.heap_trace.specs.declared.recording.Recording.{Recording}
use Rattle.heap_trace.specs.Profiles.{IsProfileOfTurns, ProfileRan, plan_of_area, program_of}
use Rattle.heap_trace.specs.Recorded.{HasOwnTurns, Recorded}

-- a plan without sites and rows is one of its area alone
pub area_alone : (sites : List PlanLine) (rows : List Row) (area : Area) → sites ≡ [] → rows ≡ []
    → record { sites = sites; rows = rows; area = area } ≡ plan_of_area area
area_alone sites rows area none none' = λ i. record { sites = none i; rows = none' i; area = area }

-- a machine that is about to run under its plan
pub begins : (file : List ℕ) (plan : Plan) (m : SymSeen) → m ≡ between (program_of file plan) [] empty_note
    → m ≡ between (program_of file m.program.plan) [] empty_note
begins file plan m is =
    is ∙ ap (λ (p : Plan). between (program_of file p) [] empty_note) (sym (ap (λ (s : SymSeen). s.program.plan) is))

module _ (file : List ℕ) (area : Area) (distance bound : ℕ) (input : List ℕ) (told : Option (List ℕ)) where
  -- memory was wanting before the run
  pub ran_nothing : told ≡ Some input → ProfileRan (Err Memory) file area distance bound input told
  unfolding steps
  ran_nothing is = record { taken = 0; ends = omega arith; profile = tt; leaves = is }

  -- the run gave no profile
  pub ran_err : (e : ProfileEnd) (plan : Plan) (r : Recording) → plan ≡ plan_of_area area
      → Recorded (Err e) file plan bound input told r → ProfileRan (Err e) file area distance bound input told
  ran_err e plan r alone h = by_plan (subst (λ p. Recorded (Err e) file p bound input told r) alone h)
    where
      by_plan : Recorded (Err e) file (plan_of_area area) bound input told r
          → ProfileRan (Err e) file area distance bound input told
      by_plan h = record { taken = h.taken; ends = h.ends; profile = tt; leaves = h.leaves }

  module _ (status n : ℕ) (plan : Plan) (r : Recording) (alone : plan ≡ plan_of_area area)
      (h : Recorded (Ok (status, n)) file plan bound input told r) where
    here : Recorded (Ok (status, n)) file (plan_of_area area) bound input told r
    here = subst (λ p. Recorded (Ok (status, n)) file p bound input told r) alone h

    -- it exited, and has its profile
    pub ran_ok : (p : Profiled) → p.status ≡ status → p.steps ≡ n → p.profile.distance ≡ distance
        → p.profile.contexts ≡ r.trace.contexts
        → ((events : List Event) → Pushed r.affinity events → IsGraph distance events p.profile.graph)
        → ProfileRan (Ok p) file area distance bound input told
    ran_ok p at steps at_distance contexts graph = record {
      taken = here.taken;
      ends = rw (at, steps) here.ends;
      profile = record {
        trace = r.trace;
        events = here.has.0;
        traced = here.has.1;
        distance_is = at_distance;
        contexts = contexts;
        graph = graph here.has.0 here.has.2;
      };
      leaves = here.leaves;
    }

    -- it exited, and memory for its profile was wanting
    pub ran_unprofiled : ProfileRan (Err Memory) file area distance bound input told
    ran_unprofiled = record { taken = here.taken; ends = here.ends.1.within; profile = tt; leaves = here.leaves }

-- the profile of its turns, whatever the input was
pub turns_ok : (file : List ℕ) (area : Area) (distance n : ℕ) (plan : Plan) (r : Recording) (p : Profile)
    → plan ≡ plan_of_area area → HasOwnTurns file plan n r → p.distance ≡ distance → p.contexts ≡ r.trace.contexts
    → ((events : List Event) → Pushed r.affinity events → IsGraph distance events p.graph)
    → IsProfileOfTurns file area n distance p
turns_ok file area distance n plan r p alone h at_distance contexts graph =
    by_plan (subst (λ q. HasOwnTurns file q n r) alone h)
  where
    by_plan : HasOwnTurns file (plan_of_area area) n r → IsProfileOfTurns file area n distance p
    by_plan h = record {
      machine = h.0;
      trace = r.trace;
      events = h.1;
      traced = h.2;
      distance_is = at_distance;
      contexts = contexts;
      graph = graph h.1 h.3;
    }
