-- Runs, turn by turn.
use Rattle.std.proofs.Common.{◌≡◌, ℕ, zero, suc, ◌+◌, ◌-◌, ◌<◌, ◌≤◌, List, [], ◌++◌, refl, ap, sym, subst, ◌∙◌}
use Rattle.std.proofs.Common.{append-nil, add-one, arith, inl}
use borrow.Author.Count.{below_more}
use Rattle.std.specs.Prelude.{Option, Some, None, Ok, Err}
use Rattle.halo_outside.specs.Seen.{AppendsPrefix}
use Rattle.machine_spec.specs.declared.Ending.{Ending}
use Rattle.machine_spec.specs.declared.Ending.TheVariants as ending
use Rattle.machine_run.specs.declared.RunEnd.TheVariants.{Steps, ReadFault, WriteFault}
use Rattle.machine_run.specs.Machines.{GoesQuietly, Output, Rules, Seen, Stays, ending_of}
use Rattle.machine_run.specs.Output.{Passes}
use Rattle.machine_run.specs.Runs.{State, after, next, steps, run_from, IsRunning, EndsAt, MayLack, IsLeft, IsCutOff}
use Rattle.machine_run.specs.Runs.{Ran}
use Rattle.machine_run.specs.Serving.{IsDone, Holds}
use Rattle.machine_run.proofs.Passing.{passes_none, passes_more, passes_part}

-- one turn more
next_state : {S : Type 0} (of : Rules S) (m : S) (input : List ℕ) (n : ℕ) → run_from of m input (n + 1)
    ≡ after (of.turn (run_from of m input n).input (run_from of m input n).machine) (run_from of m input n).output
unfolding steps
next_state of m input n = ap (λ k. steps of k (record { machine = m; input = input; output = [] })) (add-one n)

-- an ended machine stays as it is
step_stays : {S : Type 0} (of : Rules S) (s : State S) → Stays of s.machine → next of s ≡ s
step_stays of s h = ap (λ t. after t s.output) (h s.input) ∙ ap (λ o. record s { output = o }) (append-nil s.output)

stays_more : {S : Type 0} (of : Rules S) (s : State S) (n j : ℕ) → Stays of (steps of n s).machine
    → steps of (j + n) s ≡ steps of n s
unfolding steps
stays_more of s n zero h = let e : 0 + n ≡ n = omega arith in ap (λ k. steps of k s) e
stays_more of s n (suc j) h =
    let e : suc j + n ≡ suc (j + n) = omega arith in
    ap (λ k. steps of k s) e ∙ ap (next of) (stays_more of s n j h) ∙ step_stays of (steps of n s) h

stays_ended : {S : Type 0} (of : Rules S) (m : S) (input : List ℕ) (n bound : ℕ) → n ≤ bound
    → Stays of (run_from of m input n).machine
    → run_from of m input bound ≡ run_from of m input n
stays_ended {S} of m input n bound le h =
    let start : State S = record { machine = m; input = input; output = [] } in
    let size : bound ≡ (bound - n) + n = omega arith in
    ap (λ k. steps of k start) size ∙ stays_more of start n (bound - n) h

-- what stands after so many turns, where the machine ran before each
pub record RanSoFar {S : Type 0} (of : Rules S) (m : S) (input : List ℕ) (n : ℕ) (now : Seen S)
    (told out out' : Option (List ℕ)) (pending : List ℕ) : Type 0 where
  pub leaves : IsLeft (run_from of m input n) now told
  pub output : Passes out out' [] pending (run_from of m input n).output
  pub runs : (k : ℕ) → k < n → IsRunning of (run_from of m input k)

-- before the first turn
pub ran_none : {S : Type 0} (of : Rules S) (m : S) (input : List ℕ) (now : Seen S) (told out : Option (List ℕ))
    (pending : List ℕ) → now.machine ≡ m
    → now.waits ≡ None → told ≡ Some input → pending ≡ [] → RanSoFar of m input 0 now told out out pending
unfolding steps
ran_none of m input now told out pending is waits t empty = record {
  leaves = record { machine = is; waits = waits; left = t };
  output = subst (λ p. Passes out out [] p []) (sym empty) (passes_none out []);
  runs = λ k l. absurd (omega arith);
}

-- the machine runs in this state
running_now : {S : Type 0} (of : Rules S) (m : S) (input : List ℕ) (n : ℕ) (now : Seen S)
    (told out out' : Option (List ℕ)) (pending : List ℕ)
    → RanSoFar of m input n now told out out' pending → ending_of of now.machine ≡ ending.Running
    → IsRunning of (run_from of m input n)
running_now of m input n now told out out' pending r runs = sym (ap (ending_of of) r.leaves.machine) ∙ runs

-- a turn that was done
pub ran_next : {S : Type 0} (of : Rules S) (m : S) (input : List ℕ) (n : ℕ) (old new : Seen S)
    (told told' out mid out' : Option (List ℕ)) (p q : List ℕ)
    → RanSoFar of m input n old told out mid p → ending_of of old.machine ≡ ending.Running
    → ((left : List ℕ) → told ≡ Some left
    → IsDone (of.turn left old.machine) new told' × Passes mid out' p q (of.turn left old.machine).written)
    → RanSoFar of m input (n + 1) new told' out out' q
ran_next {S} of m input n old new told told' out mid out' p q r runs does =
    let s : State S = run_from of m input n in
    let more = next_state of m input n in
    let done = rw r.leaves.machine at (does s.input r.leaves.left) in
    record {
      leaves = record {
        machine = done.0.machine ∙ sym (ap (λ s. s.machine) more);
        waits = done.0.waits;
        left = done.0.left ∙ ap (λ x. Some x) (sym (ap (λ s. s.input) more));
      };
      output = subst (λ o. Passes out out' [] q o) (sym (ap (λ s. s.output) more))
          (passes_more out mid out' [] p q s.output (of.turn s.input s.machine).written r.output done.1);
      runs = below_more (λ k. IsRunning of (run_from of m input k)) n r.runs
          (running_now of m input n old told out mid p r runs);
    }

-- quiet turns behind the first ones
pub ran_quietly : {S : Type 0} (of : Rules S) (m : S) (input : List ℕ) (n j : ℕ) (old new : Seen S)
    (told out out' : Option (List ℕ)) (p : List ℕ)
    → RanSoFar of m input n old told out out' p → GoesQuietly of j old.machine new.machine → new.waits ≡ None
    → RanSoFar of m input (n + j) new told out out' p
ran_quietly of m input n zero old new told out out' p r h goes =
    let all : n + 0 ≡ n = omega arith in
    rw all (record {
      leaves = record { machine = h ∙ r.leaves.machine; waits = goes; left = r.leaves.left };
      output = r.output;
      runs = r.runs;
    })
ran_quietly {S} of m input n (suc j) old new told out out' p r (mid, led, runs, quiet) goes =
    let at : Seen S = record { machine = mid; waits = None; written = [] } in
    let all : n + suc j ≡ n + j + 1 = omega arith in
    rw all (ran_next of m input (n + j) at new told told out out' out' p p
    (ran_quietly of m input n j old at told out out' p r led refl) runs (λ left is. (
      record {
        machine = ap (λ t. t.next) (sym (quiet left));
        waits = goes;
        left = is ∙ ap (λ t. Some t.left) (sym (quiet left));
      },
      subst (λ t. Passes out' out' p p t.written) (sym (quiet left)) (passes_none out' p),
    )))

-- a run that ended at its last turn
pub ends_at : {S : Type 0} (of : Rules S) (m : S) (input : List ℕ) (n bound : ℕ) (now : Seen S)
    (told out out' : Option (List ℕ)) (p : List ℕ) (e : Ending)
    → RanSoFar of m input n now told out out' p → ending_of of now.machine ≡ e → Stays of now.machine → n ≤ bound
    → EndsAt of m input bound n e
ends_at of m input n bound now told out out' p e r is stays le =
    record {
      within = le;
      runs = r.runs;
      ends = sym (ap (ending_of of) r.leaves.machine) ∙ is;
      stays = stays_ended of m input n bound le (rw r.leaves.machine at stays);
    }

-- a read that failed
pub ran_cut : {S E : Type 0} (of : Rules S) (m : S) (input : List ℕ) (n bound : ℕ) (old new : Seen S)
    (told told' out mid out' : Option (List ℕ)) (p q : List ℕ)
    → RanSoFar of m input n old told out mid p → ending_of of old.machine ≡ ending.Running → n < bound
    → ((left : List ℕ) → told ≡ Some left → IsCutOff of old.machine left new told' × (out' ≡ mid) × (q ≡ p))
    → Ran {E = E} of (Ok ReadFault) bound m input new told' (Holds {E = E} (Ok ReadFault) out out' q)
ran_cut {S} of m input n bound old new told told' out mid out' p q r runs l does =
    let s : State S = run_from of m input n in
    let cut = rw r.leaves.machine at (does s.input r.leaves.left) in
    record {
      taken = n;
      answer = (l, running_now of m input n old told out mid p r runs);
      runs = r.runs;
      leaves = cut.0;
      output = rw (cut.1, cut.2) r.output;
    }

-- a write that failed
pub ran_stopped : {S E : Type 0} (of : Rules S) (m : S) (input : List ℕ) (n bound : ℕ) (old new : Seen S)
    (told told' out mid out' : Option (List ℕ)) (p q : List ℕ)
    → RanSoFar of m input n old told out mid p → ending_of of old.machine ≡ ending.Running → n < bound
    → ((left : List ℕ) → told ≡ Some left → IsDone (of.turn left old.machine) new told'
    × AppendsPrefix mid out' (p ++ (of.turn left old.machine).written) × ((len : ℕ) × of.asks old.machine ≡ Output len))
    → Ran {E = E} of (Ok WriteFault) bound m input new told' (Holds {E = E} (Ok WriteFault) out out' q)
ran_stopped {S} of m input n bound old new told told' out mid out' p q r runs l does =
    let s : State S = run_from of m input n in
    let more = next_state of m input n in
    let done = rw r.leaves.machine at (does s.input r.leaves.left) in
    record {
      taken = n + 1;
      answer = (omega arith, inl (n, done.2.0, refl, done.2.1));
      runs = below_more (λ k. IsRunning of (run_from of m input k)) n r.runs
          (running_now of m input n old told out mid p r runs);
      leaves = record {
        machine = done.0.machine ∙ sym (ap (λ s. s.machine) more);
        waits = done.0.waits;
        left = done.0.left ∙ ap (λ x. Some x) (sym (ap (λ s. s.input) more));
      };
      output = subst (λ o. AppendsPrefix out out' o) (sym (ap (λ s. s.output) more))
          (passes_part out mid out' [] p s.output (of.turn s.input s.machine).written r.output done.1);
    }

-- a step that lacked memory
pub ran_lacking : {S E : Type 0} (of : Rules S) (m : S) (input : List ℕ) (n bound : ℕ) (old new : Seen S)
    (told told' out mid out' : Option (List ℕ)) (p q : List ℕ) (lack : E)
    → RanSoFar of m input n old told out mid p → ending_of of old.machine ≡ ending.Running → n < bound
    → MayLack of old.machine
    → ((left : List ℕ) → told ≡ Some left
    → (new.machine ≡ old.machine) × (new.waits ≡ None) × (told' ≡ Some left) × (out' ≡ mid) × (q ≡ p))
    → Ran of (Err lack) bound m input new told' (Holds {E = E} (Err lack) out out' q)
ran_lacking of m input n bound old new told told' out mid out' p q lack r runs l may does =
    let is = does (run_from of m input n).input r.leaves.left in
    record {
      taken = n;
      answer = (
        l,
        running_now of m input n old told out mid p r runs,
        sym (ap (λ m. of.may_lack m) r.leaves.machine) ∙ may,
      );
      runs = r.runs;
      leaves = record { machine = is.0 ∙ r.leaves.machine; waits = is.1; left = is.2 };
      output = rw (is.3, is.4) r.output;
    }

-- a run that still runs after its last turn
pub ran_all : {S E : Type 0} (of : Rules S) (m : S) (input : List ℕ) (n bound : ℕ) (now : Seen S)
    (told out out' : Option (List ℕ)) (p : List ℕ)
    → RanSoFar of m input n now told out out' p → ending_of of now.machine ≡ ending.Running → n ≡ bound
    → Ran {E = E} of (Ok Steps) bound m input now told (Holds {E = E} (Ok Steps) out out' p)
ran_all of m input n bound now told out out' p r runs all = record {
  taken = n;
  answer = (all, running_now of m input n now told out out' p r runs);
  runs = r.runs;
  leaves = r.leaves;
  output = r.output;
}
