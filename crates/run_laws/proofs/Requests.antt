-- The requests that the turns of a run make of its layout.
use Rattle.std.proofs.Common.{◌≡◌, ◌∙◌, ℕ, zero, suc, List, [], ◌∷◌, ◌++◌, refl, sym, ap}
use Rattle.std.specs.Prelude.{All, Option, Some, None}
use Rattle.std.specs.Option.{option_map_or}
use Rattle.std.proofs.lemmas.List.Elements.{All-append, All-cons, All-nil}
use Rattle.plan_core.specs.declared.types.Area.{Area}
use Rattle.plan_core.specs.declared.types.Plan.{Plan}
use Rattle.plan_core.specs.declared.types.Row.{Row}
use Rattle.place_spec.specs.Layout.{Layout, first_layout}
use Rattle.place_spec.specs.Place.{Placed, placed}
use Rattle.place_spec.specs.Reached.{IsAllowed, IsReached, Places, Releases, Request, layout_after, layout_after_all}
use Rattle.sym_spec.specs.SymMachine.{SymMachine, start}
use Rattle.sym_spec.specs.SymNotes.{note}
use Rattle.sym_spec.specs.SymRuns.{step, steps, sym_run}
use Rattle.sym_spec.specs.SymTurns.{turn}
use Rattle.sym_spec.specs.HeapActions.{granule_in}
use Rattle.run_laws.specs.Turns.{Heap, ServesHeap, heap_of}
use Rattle.run_laws.specs.Turns as turns
use Rattle.run_laws.specs.Grants.{Run, machine_at}

-- requests one behind the other
pub then_after : (rows : List Row) (area : Area) (layout : Layout) (rs ss : List Request)
    → layout_after_all rows area layout (rs ++ ss)
    ≡ layout_after_all rows area (layout_after_all rows area layout rs) ss
then_after rows area layout [] ss = refl
then_after rows area layout (r ∷ rs) ss = then_after rows area (layout_after rows area layout r) rs ss

-- the request of a release
abbrev pub releasing : List ℕ → Plan → SymMachine → Option ℕ → List Request
releasing file plan m (Some block) = Releases (granule_in file plan block m) ∷ []
releasing file plan m None = []

pub releasing_allowed : (file : List ℕ) (plan : Plan) (m : SymMachine) (o : Option ℕ)
    → All IsAllowed (releasing file plan m o)
releasing_allowed file plan m (Some block) =
    All-cons IsAllowed (Releases (granule_in file plan block m)) [] tt (All-nil IsAllowed)
releasing_allowed file plan m None = All-nil IsAllowed

pub releasing_leads : (file : List ℕ) (plan : Plan) (m : SymMachine) (o : Option ℕ) (before after : Heap)
    → turns.AfterRelease file plan m o before after
    → layout_after_all plan.rows plan.area before.layout (releasing file plan m o) ≡ after.layout
releasing_leads file plan m (Some block) before after is = ap (λ (h : Heap). h.layout) (sym is.after_is)
releasing_leads file plan m None before after is = ap (λ (h : Heap). h.layout) (sym is)

-- a block that is asked for and placed
pub placing_leads : (rows : List Row) (area : Area) (layout : Layout) (need bits : ℕ) (p : Placed)
    → placed rows area layout need bits ≡ Some p → layout_after rows area layout (Places need bits) ≡ p.after
placing_leads rows area layout need bits p found =
    ap (λ (o : Option Placed). option_map_or (λ (q : Placed). q.after) o layout) found

-- the requests of a turn
pub record Asks (plan : Plan) (before after : Layout) : Type 0 where
  pub requests : List Request
  pub allowed : All IsAllowed requests
  pub leads : layout_after_all plan.rows plan.area before requests ≡ after

module _ (file : List ℕ) (plan : Plan) (m n : SymMachine) (between : Heap) (grant release : Option ℕ)
    (releases : turns.AfterRelease file plan m release between (heap_of n)) where
  pub asks : turns.AfterGrant file plan m grant between → Asks plan m.layout n.layout
  asks grants = by grant grants
    where
      by : (o : Option ℕ) → turns.AfterGrant file plan m o between → Asks plan m.layout n.layout
      by None same = record {
        requests = releasing file plan m release;
        allowed = releasing_allowed file plan m release;
        leads = ap (λ (h : Heap). layout_after_all plan.rows plan.area h.layout (releasing file plan m release))
            (sym same) ∙ releasing_leads file plan m release between (heap_of n) releases;
      }
      by (Some block) is = record {
        requests = Places is.need m.bits ∷ releasing file plan m release;
        allowed = All-cons IsAllowed (Places is.need m.bits) (releasing file plan m release) is.some
            (releasing_allowed file plan m release);
        leads = ap (λ l. layout_after_all plan.rows plan.area l (releasing file plan m release))
            (placing_leads plan.rows plan.area m.layout is.need m.bits is.place is.placed_there
            ∙ ap (λ (h : Heap). h.layout) (sym is.after_is))
            ∙ releasing_leads file plan m release between (heap_of n) releases;
      }

-- a turn of a run serves the heap
abbrev pub TurnsServe : Type 0
TurnsServe = (file : List ℕ) (plan : Plan) (input : List ℕ) (m : SymMachine)
    → ServesHeap file plan m (note file plan m) (turn file plan input m).next

pub served : TurnsServe → (run : Run) (n : ℕ)
    → ServesHeap run.file run.plan (machine_at run n) (note run.file run.plan (machine_at run n))
    (machine_at run (suc n))
unfolding sym_run steps step
served serve run n = serve run.file run.plan (sym_run run.file run.plan run.input n).input (machine_at run n)

pub starts : (run : Run) → machine_at run 0 ≡ start run.file run.plan
unfolding sym_run steps
starts run = refl

first : (run : Run) → (machine_at run 0).layout ≡ first_layout run.plan.area
unfolding start
first run = ap (λ (m : SymMachine). m.layout) (starts run)

-- requests lead to the layout of each moment of a run
pub reached : TurnsServe → (run : Run) (n : ℕ) → IsReached run.plan.rows run.plan.area (machine_at run n).layout
reached serve run zero = record { requests = []; allowed = All-nil IsAllowed; leads = sym (first run) }
reached serve run (suc n) =
    let before : IsReached run.plan.rows run.plan.area (machine_at run n).layout = reached serve run n in
    let turn_is = served serve run n in
    let more : Asks run.plan (machine_at run n).layout (machine_at run (suc n)).layout =
    asks run.file run.plan (machine_at run n) (machine_at run (suc n)) turn_is.between
    (note run.file run.plan (machine_at run n)).grant (note run.file run.plan (machine_at run n)).release
    turn_is.releases turn_is.grants in
    record {
      requests = before.requests ++ more.requests;
      allowed = All-append IsAllowed before.requests more.requests before.allowed more.allowed;
      leads = then_after run.plan.rows run.plan.area (first_layout run.plan.area) before.requests more.requests
          ∙ (ap (λ l. layout_after_all run.plan.rows run.plan.area l more.requests) before.leads ∙ more.leads);
    }
