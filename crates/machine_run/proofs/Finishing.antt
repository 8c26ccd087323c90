-- The end of a run, when the buffer before the sink is written.
use Rattle.std.proofs.Common.{◌≡◌, ℕ, ◌<◌, ◌≤◌, List, [], ap, sym, subst, ◌∙◌, append-nil, arith, inl, inr}
use Rattle.std.specs.Prelude.{Option, Result, Ok, Err}
use Rattle.halo_outside.specs.Seen.{SinkSeen, Rose, Appends, AppendsPrefix}
use Rattle.machine_spec.specs.declared.Ending.{Ending}
use Rattle.machine_spec.specs.declared.Ending.TheVariants.{Running}
use Rattle.machine_run.specs.declared.RunEnd.{RunEnd}
use Rattle.machine_run.specs.declared.RunEnd.TheVariants.{Exited, Illegal, Fault, Steps, ReadFault, WriteFault}
use Rattle.machine_run.specs.Machines.{Rules, Seen}
use Rattle.machine_run.specs.Output.{Passes}
use Rattle.machine_run.specs.Runs.{run_from, IsRunning, EndsAt, StopsAt, IsLeft, WritesAll, Ran}
use Rattle.machine_run.specs.Serving.{Holds, IsFlushed, Finishes}
use Rattle.machine_run.proofs.Passing.{appends_both, passes_part}

-- the whole buffer was written behind what was sent
whole_written : (a b c : Option (List ℕ)) (pending output : List ℕ) → Passes a b [] pending output → Appends b c pending
    → Appends a c output
whole_written a b c pending output (sent, f, e) g = subst (λ x. Appends a c x) e (appends_both a b c sent pending f g)

-- a part of it was
part_written : (a b c : Option (List ℕ)) (pending output : List ℕ) → Passes a b [] pending output
    → AppendsPrefix b c pending
    → AppendsPrefix a c output
part_written a b c pending output passed part =
    subst (λ x. AppendsPrefix a c x) (append-nil output)
    (passes_part a b c [] pending output [] passed (subst (λ x. AppendsPrefix b c x) (sym (append-nil pending)) part))

rose_later : (before mid now : ℕ) → before ≤ mid → Rose mid now → Rose before now
rose_later before mid now le rose = grind arith

-- an end other than a failed read or write
flushed_end : {S E : Type 0} (of : Rules S) (end result : Result RunEnd E) (bound : ℕ) (m : S) (input : List ℕ)
    (now : Seen S) (told : Option (List ℕ))
    (before mid new : SinkSeen) (pending : List ℕ) (taken : ℕ) → taken ≤ bound → StopsAt of m input bound taken
    → ((k : ℕ) → k < taken → IsRunning of (run_from of m input k)) → IsLeft (run_from of m input taken) now told
    → Passes before.told mid.told [] pending (run_from of m input taken).output
    → (Appends before.told new.told (run_from of m input taken).output
    → Ran of end bound m input now told (WritesAll end before new))
    → IsFlushed end result mid new pending → Ran of result bound m input now told (WritesAll result before new)
flushed_end of end result bound m input now told before mid new pending taken within stop runs left passed ends
    (inl (is, all)) =
    rw is (ends (whole_written before.told mid.told new.told pending (run_from of m input taken).output passed all))
flushed_end of end result bound m input now told before mid new pending taken within stop runs left passed ends
    (inr (is, rose, part)) =
    rw is (record {
      taken = taken;
      answer = (within, stop);
      runs = runs;
      leaves = left;
      output = part_written before.told mid.told new.told pending (run_from of m input taken).output passed part;
    })

-- a run that ended may stop at its end
stops_ended : {S : Type 0} {of : Rules S} {m : S} {input : List ℕ} {bound n : ℕ} {e : Ending}
    → EndsAt of m input bound n e → (e ≡ Running → ⊥)
    → StopsAt of m input bound n
stops_ended at ended = inr (inr (inl (λ h. ended (sym at.ends ∙ h))))

pub finished : {S E : Type 0} (of : Rules S) (end result : Result RunEnd E) (bound : ℕ) (m : S) (input : List ℕ)
    (now : Seen S) (told : Option (List ℕ))
    (before mid new : SinkSeen) (pending : List ℕ) → before.faults ≤ mid.faults
    → Ran of end bound m input now told (Holds end before.told mid.told pending) → Finishes end result mid new pending
    → Ran of result bound m input now told (WritesAll result before new)
finished of (Ok (Exited status n)) result bound m input now told before mid new pending later r f =
    flushed_end of (Ok (Exited status n)) result bound m input now told before mid new pending r.taken r.answer.1.within
    (stops_ended r.answer.1 (λ h. (cc))) r.runs r.leaves r.output
    (λ o. record { taken = r.taken; answer = r.answer; runs = r.runs; leaves = r.leaves; output = o }) f
finished of (Ok (Illegal at n)) result bound m input now told before mid new pending later r f =
    flushed_end of (Ok (Illegal at n)) result bound m input now told before mid new pending r.taken r.answer.1.within
    (stops_ended r.answer.1 (λ h. (cc))) r.runs r.leaves r.output
    (λ o. record { taken = r.taken; answer = r.answer; runs = r.runs; leaves = r.leaves; output = o }) f
finished of (Ok (Fault kind at n)) result bound m input now told before mid new pending later r f =
    flushed_end of (Ok (Fault kind at n)) result bound m input now told before mid new pending r.taken r.answer.1.within
    (stops_ended r.answer.1 (λ h. (cc))) r.runs r.leaves r.output
    (λ o. record { taken = r.taken; answer = r.answer; runs = r.runs; leaves = r.leaves; output = o }) f
finished of (Ok Steps) result bound m input now told before mid new pending later r f =
    let le : r.taken ≤ bound = omega (arith, r.answer.0) in
    flushed_end of (Ok Steps) result bound m input now told before mid new pending r.taken le (inr (inl r.answer.0))
    r.runs r.leaves r.output
    (λ o. record { taken = r.taken; answer = r.answer; runs = r.runs; leaves = r.leaves; output = o }) f
finished of (Err lack) result bound m input now told before mid new pending later r f =
    let le : r.taken ≤ bound = omega (arith, r.answer.0) in
    flushed_end of (Err lack) result bound m input now told before mid new pending r.taken le
    (inr (inr (inr r.answer.2))) r.runs r.leaves r.output
    (λ o. record { taken = r.taken; answer = r.answer; runs = r.runs; leaves = r.leaves; output = o }) f
finished of (Ok ReadFault) result bound m input now told before mid new pending later r (is, inl all) =
    rw is (record {
      taken = r.taken;
      answer = r.answer;
      runs = r.runs;
      leaves = r.leaves;
      output = inl (whole_written before.told mid.told new.told pending (run_from of m input r.taken).output r.output
          all);
    })
finished of (Ok ReadFault) result bound m input now told before mid new pending later r (is, inr (rose, part)) =
    rw is (record {
      taken = r.taken;
      answer = r.answer;
      runs = r.runs;
      leaves = r.leaves;
      output = inr (
        rose_later before.faults mid.faults new.faults later rose,
        part_written before.told mid.told new.told pending (run_from of m input r.taken).output r.output part,
      );
    })
finished of (Ok WriteFault) result bound m input now told before mid new pending later r (is, same) =
    rw is (record {
      taken = r.taken;
      answer = r.answer;
      runs = r.runs;
      leaves = r.leaves;
      output = rw (ap (λ s. s.told) same) r.output;
    })
