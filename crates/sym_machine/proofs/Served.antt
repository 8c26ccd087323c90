-- The turn of a heap function, by what was done.
use Rattle.std.proofs.Common.{◌≡◌, ℕ, true, false, List, refl, ap, ◌∙◌}
use Rattle.std.specs.Prelude.{Result, Ok, Err, OnErr, Option, Some, None, IsSome, option_map, slice_set}
use Rattle.elf_spec.specs.declared.HeapName.{HeapName}
use Rattle.plan_core.specs.declared.types.Plan.{Plan}
use Rattle.machine_spec.specs.declared.Ending.TheVariants as ending
use Rattle.machine_spec.specs.declared.FaultKind.TheVariants.{F3, F5}
use Rattle.machine_run.specs.declared.Stepped.TheVariants.{Went}
use Rattle.machine_run.specs.Machines.{Nothing, quiet as quiet_run}
use Rattle.machine_run.specs.Steps.{answer_to}
use Rattle.sym_value.specs.declared.Value.{Value}
use Rattle.sym_value.specs.declared.Value.TheVariants.{Num, Ptr, Ret, Mix, Part, Unset}
use Rattle.sym_spec.specs.SymMachine.{SymMachine, value_of, faults}
use Rattle.sym_spec.specs.SymCalls.{quiet}
use Rattle.sym_spec.specs.SymNotes.{empty_note, return_in, heap_note}
use Rattle.place_spec.specs.Layout.{granules_for}
use Rattle.place_spec.specs.Place.{Placed}
use Rattle.place_spec.specs.Release.{moved}
use Rattle.heap_spec.specs.Requests.{placed_for}
use Rattle.sym_spec.specs.HeapActions.{Outcome, granule_in, grants_placed, grants, moves_placed, moves, outcome}
use Rattle.sym_spec.specs.HeapActions.{kept_from, answered, returns, serves}
use Rattle.sym_machine.specs.declared.requests.Acted.{Acted}
use Rattle.sym_machine.specs.declared.requests.Request.{Request}
use Rattle.sym_machine.specs.declared.requests.Request.TheVariants.{Grant, Move, Release, Nothing as NoRequest}
use Rattle.sym_machine.specs.Placing.{outcome_of, outcome_with}
use Rattle.sym_machine.specs.Programs.{Program, turned}
use Rattle.sym_machine.specs.Serving.{is_way_back}

pub on_err : {T E P Q : Type 0} (r : Result T E) → OnErr r P → (P → Q) → OnErr r Q
on_err (Ok x) h f = tt
on_err (Err e) h f = f h

pub err_is : {T E P : Type 0} (r : Result T E) → P → OnErr r P
err_is (Ok x) h = tt
err_is (Err e) h = h

-- an argument that is bad
pub serves_bad : (file : List ℕ) (plan : Plan) (name : HeapName) (m : SymMachine) → outcome file plan name m ≡ None
    → serves file plan name m ≡ faults F5 m
unfolding serves
serves_bad file plan name m e = rw e refl

serves_some : (file : List ℕ) (plan : Plan) (name : HeapName) (m : SymMachine) (o : Outcome)
    → outcome file plan name m ≡ Some o → serves file plan name m ≡ returns file plan (value_of m 1) (answered o) m
unfolding serves
serves_some file plan name m o e = rw e refl

-- no way back
no_way : (file : List ℕ) (plan : Plan) (v : Value) (n m : SymMachine) → is_way_back file v ≡ false
    → returns file plan v n m ≡ faults F3 m
no_way file plan (Ret b) n m e = absurd (cc)
no_way file plan (Num a) n m e = rw e refl
no_way file plan (Ptr b o) n m e = refl
no_way file plan (Mix l) n m e = refl
no_way file plan (Part s i) n m e = refl
no_way file plan Unset n m e = refl

pub serves_lost : (file : List ℕ) (plan : Plan) (name : HeapName) (m : SymMachine) (request : Request)
    → outcome file plan name m ≡ option_map (λ r. outcome_of file plan r m) (Some request)
    → is_way_back file (value_of m 1) ≡ false → serves file plan name m ≡ faults F3 m
serves_lost file plan name m request e w =
    serves_some file plan name m (outcome_of file plan request m) e
    ∙ no_way file plan (value_of m 1) (answered (outcome_of file plan request m)) m w

-- a way back
goes_on : (file : List ℕ) (plan : Plan) (v : Value) (n m : SymMachine) → is_way_back file v ≡ true
    → (returns file plan v n m).ending ≡ n.ending
goes_on file plan (Ret b) n m e = refl
goes_on file plan (Num a) n m e = rw e refl
goes_on file plan (Ptr b o) n m e = absurd (cc)
goes_on file plan (Mix l) n m e = absurd (cc)
goes_on file plan (Part s i) n m e = absurd (cc)
goes_on file plan Unset n m e = absurd (cc)

-- no request ends the machine
grants_ends : (file : List ℕ) (plan : Plan) (size : ℕ) (m : SymMachine)
    → (grants file plan size m).machine.ending ≡ m.ending
grants_ends file plan size m = by_place (placed_for plan.rows plan.area m.layout size m.bits)
  where
    by_place : (p : Option Placed) → (grants_placed file plan (granules_for size) p m).machine.ending ≡ m.ending
    by_place (Some p) = refl
    by_place None = refl

moves_ends : (file : List ℕ) (plan : Plan) (b size : ℕ) (m : SymMachine)
    → (moves file plan b size m).machine.ending ≡ m.ending
moves_ends file plan b size m =
    by_place (moved plan.rows plan.area m.layout (granule_in file plan b m) (granules_for size) m.bits)
  where
    by_place : (p : Option Placed) → (moves_placed file plan b (granules_for size) p m).machine.ending ≡ m.ending
    by_place (Some p) = refl
    by_place None = refl

outcome_ends : (file : List ℕ) (plan : Plan) (r : Request) (m : SymMachine)
    → (outcome_of file plan r m).machine.ending ≡ m.ending
outcome_ends file plan (Grant size) m = grants_ends file plan size m
outcome_ends file plan (Move b size) m = moves_ends file plan b size m
outcome_ends file plan (Release b) m = refl
outcome_ends file plan NoRequest m = refl

-- a turn with a way back neither ends nor faults
pub serves_goes : (file : List ℕ) (plan : Plan) (name : HeapName) (m : SymMachine) (request : Request)
    → outcome file plan name m ≡ option_map (λ r. outcome_of file plan r m) (Some request)
    → is_way_back file (value_of m 1) ≡ true → m.ending ≡ ending.Running
    → (serves file plan name m).ending ≡ ending.Running
serves_goes file plan name m request e w r =
    ap (λ (n : SymMachine). n.ending) (serves_some file plan name m (outcome_of file plan request m) e)
    ∙ goes_on file plan (value_of m 1) (answered (outcome_of file plan request m)) m w
    ∙ outcome_ends file plan request m ∙ r

-- its note has the grant of the request
pub serves_grants : (file : List ℕ) (plan : Plan) (name : HeapName) (m : SymMachine) (request : Request)
    → outcome file plan name m ≡ option_map (λ r. outcome_of file plan r m) (Some request)
    → IsSome (outcome_of file plan request m).grant → IsSome (heap_note (outcome file plan name m) m).grant
serves_grants file plan name m request e h = rw e h

abbrev pub taken : Program → Value → Program
taken p answer = record p {
  machine = record p.machine { registers = slice_set (kept_from 0 p.machine.registers) 10 answer };
}

-- what was done, with the answer in a0, and the way back
module _ (name : HeapName) (request : Request) (acted : Acted) (to : Value) (old mid last new : Program)
    (asked : outcome old.file old.plan name old.machine
    ≡ option_map (λ r. outcome_of old.file old.plan r old.machine) (Some request))
    (way : to ≡ value_of old.machine 1)
    (done : outcome_of old.file old.plan request old.machine ≡ outcome_with acted mid.machine)
    (file : mid.file ≡ old.file) (plan : mid.plan ≡ old.plan) (took : last ≡ taken mid acted.answer)
    (went : new ≡ record last { machine = returns last.file last.plan to last.machine old.machine }) where
  after : new ≡ record old { machine = returns old.file old.plan to (taken mid acted.answer).machine old.machine }
  after = rw (went, took, file, plan) refl

  pub served : (input : List ℕ)
      → turned old (quiet input (serves old.file old.plan name old.machine)) ≡ quiet_run input new
  served input =
      let is : serves old.file old.plan name old.machine
      ≡ returns old.file old.plan to (taken mid acted.answer).machine old.machine =
      serves_some old.file old.plan name old.machine (outcome_of old.file old.plan request old.machine) asked
      ∙ rw (done, way) refl in
      rw (is, after) refl

  pub served_goes : old.machine.ending ≡ ending.Running → mid.machine.ending ≡ old.machine.ending
      → is_way_back old.file to ≡ true → Went ≡ answer_to Nothing new.machine.ending
  served_goes runs same w =
      let goes : new.machine.ending ≡ ending.Running =
      ap (λ (p : Program). p.machine.ending) after
      ∙ goes_on old.file old.plan to (taken mid acted.answer).machine old.machine w ∙ same ∙ runs in
      rw goes refl

  pub served_note : record empty_note { back = return_in to; grant = acted.grant; release = acted.release }
      ≡ heap_note (outcome old.file old.plan name old.machine) old.machine
  served_note = rw (asked, done, way) refl
