-- Turns with a source and a sink.
use Rattle.std.proofs.Common.{◌≡◌, ℕ, List, [], ◌++◌, length, refl, ap, sym, subst, ◌∙◌}
use Rattle.std.specs.Prelude.{Option, Some, Result, Ok, Err, OnOk}
use Rattle.machine_run.specs.declared.Stepped.{Stepped}
use Rattle.machine_run.specs.declared.Stepped.TheVariants.{Went, Wrote, WantsInput, Exited, Illegal, Fault}
use Rattle.halo_outside.specs.Seen.{AppendsPrefix}
use Rattle.machine_spec.specs.declared.Ending.TheVariants as ending
use Rattle.machine_run.specs.Machines.{Input, Output, Rules, Seen, ending_of, fed_with}
use Rattle.machine_run.specs.Steps.{StepsTo, IsTurn, IsQuietTurn}
use Rattle.machine_run.specs.Serving.{IsDone}
use Rattle.machine_run.specs.Output.{Passes}
use Rattle.machine_run.proofs.Passing.{passes_none}

-- a step that neither reads nor writes
pub else_quiet : {S : Type 0} (of : Rules S) (s : Stepped) (input : List ℕ) (m : S) (new : Seen S)
    → ((len : ℕ) → s ≡ Wrote len → ⊥)
    → ((len : ℕ) → s ≡ WantsInput len → ⊥) → StepsTo of s input m new → IsQuietTurn of input m new
else_quiet of Went input m new w r h = h
else_quiet of (Wrote len) input m new w r h = absurd (w len refl)
else_quiet of (WantsInput len) input m new w r h = absurd (r len refl)
else_quiet of (Exited status) input m new w r h = h
else_quiet of (Illegal at) input m new w r h = h
else_quiet of (Fault kind at) input m new w r h = h

-- a turn that is done
pub turn_done : {S : Type 0} (of : Rules S) (m : S) (input : List ℕ) (new : Seen S) (told : Option (List ℕ))
    → IsTurn of input m new → told ≡ Some input
    → IsDone (of.turn input m) new told
turn_done of m input new told h t = record {
  machine = sym (ap (λ t. t.next) h.1);
  waits = h.0;
  left = t ∙ ap (λ x. Some x) (sym (ap (λ t. t.left) h.1));
}

-- nothing goes to the buffer or to the sink
pub quiet_served : {S : Type 0} (of : Rules S) (m : S) (input : List ℕ) (new : Seen S) (told out : Option (List ℕ))
    (pending : List ℕ)
    → IsQuietTurn of input m new → told ≡ Some input
    → IsDone (of.turn input m) new told × Passes out out pending pending (of.turn input m).written
quiet_served of m input new told out pending h t =
    let none : (of.turn input m).written ≡ [] = ap (λ t. t.written) h.1.1 ∙ h.0 in (
      turn_done of m input new told h.1 t,
      subst (λ x. Passes out out pending pending x) (sym none) (passes_none out pending),
    )

pub on_ok_is : {T E P : Type 0} (r : Result T E) → P → OnOk r P
on_ok_is (Ok x) h = h
on_ok_is (Err e) h = tt

-- a read that is done goes neither to the buffer nor to the sink
pub read_served : {S : Type 0} (of : Rules S) (m : S) (input : List ℕ) (new : Seen S) (told out : Option (List ℕ))
    (pending : List ℕ)
    → IsDone (of.turn input m) new told × ((of.turn input m).written ≡ [])
    → IsDone (of.turn input m) new told × Passes out out pending pending (of.turn input m).written
read_served of m input new told out pending h =
    (h.0, subst (λ x. Passes out out pending pending x) (sym h.1) (passes_none out pending))

-- a step that wrote
pub wrote_is : {S : Type 0} (of : Rules S) (s : Stepped) (len : ℕ) (input : List ℕ) (m : S) (new : Seen S)
    → StepsTo of s input m new → s ≡ Wrote len
    → (of.asks m ≡ Output len) × (length new.written ≡ len) × IsTurn of input m new
wrote_is of s len input m new h is = rw is at h

pub wrote_done : {S : Type 0} (of : Rules S) (s : Stepped) (len : ℕ) (m : S) (input : List ℕ) (new : Seen S)
    (told : Option (List ℕ)) → StepsTo of s input m new
    → s ≡ Wrote len → told ≡ Some input
    → IsDone (of.turn input m) new told × (new.written ≡ (of.turn input m).written) × (of.asks m ≡ Output len)
wrote_done of s len m input new told h is t =
    let w = wrote_is of s len input m new h is in
    (turn_done of m input new told w.2 t, sym (ap (λ t. t.written) w.2.1), w.0)

-- its bytes went to the buffer or to the sink
pub wrote_served : {S : Type 0} (of : Rules S) (s : Stepped) (len : ℕ) (m : S) (input : List ℕ) (new : Seen S)
    (told out out' : Option (List ℕ)) (p q : List ℕ)
    → StepsTo of s input m new → s ≡ Wrote len → told ≡ Some input → Passes out out' p q new.written
    → IsDone (of.turn input m) new told × Passes out out' p q (of.turn input m).written
wrote_served of s len m input new told out out' p q h is t passed =
    let w = wrote_done of s len m input new told h is t in (w.0, subst (λ x. Passes out out' p q x) w.1 passed)

-- a part of them did
pub wrote_part : {S : Type 0} (of : Rules S) (s : Stepped) (len : ℕ) (m : S) (input : List ℕ) (new : Seen S)
    (told out out' : Option (List ℕ)) (p : List ℕ)
    → StepsTo of s input m new → s ≡ Wrote len → told ≡ Some input → AppendsPrefix out out' (p ++ new.written)
    → IsDone (of.turn input m) new told × AppendsPrefix out out' (p ++ (of.turn input m).written)
    × ((len : ℕ) × of.asks m ≡ Output len)
wrote_part of s len m input new told out out' p h is t part =
    let w = wrote_done of s len m input new told h is t in
    (w.0, subst (λ x. AppendsPrefix out out' (p ++ x)) w.1 part, (len, w.2))

-- a step that wants input
pub wants_is : {S : Type 0} (of : Rules S) (s : Stepped) (len : ℕ) (input : List ℕ) (m : S) (new : Seen S)
    → StepsTo of s input m new → s ≡ WantsInput len
    → (of.asks m ≡ Input len) × (new ≡ fed_with of len m []) × (ending_of of new.machine ≡ ending.Running)
wants_is of s len input m new h is = rw is at h
