-- Runs by the flat machine's rules are runs of the flat machine.
use Rattle.std.proofs.Common.{◌≡◌, ℕ, zero, suc, ◌<◌, ◌≤◌, List, [], length, refl, ap, sym, ◌∙◌, inl, inr}
use Rattle.std.specs.Prelude.{Option, Some, Ok}
use Rattle.machine_spec.specs.declared.Ending.{Ending}
use Rattle.flat_spec.specs.Machine.{Machine, register}
use Rattle.flat_spec.specs.Runs.{State, step, steps}
use Rattle.machine_run.specs.declared.RunEnd.{RunEnd}
use Rattle.machine_run.specs.declared.RunEnd.TheVariants.{Exited, Illegal, Fault, Steps, ReadFault, WriteFault}
use Rattle.machine_run.specs.Machines.{Input}
use Rattle.machine_run.specs.Runs as any
use Rattle.flat_machine.specs.Seen.{FlatSeen, fed_with}
use Rattle.flat_machine.specs.Rules.{flat_rules}
use Rattle.flat_machine.specs.Runs.{run_from, IsRunning, EndsAt, Answers, IsLeft, IsCutOff, Leaves, Ran}
use Rattle.flat_machine.proofs.Waiting.{at_read, wait_of}

abbrev seen_as : State → any.State Machine
seen_as s = record { machine = s.machine; input = s.input; output = s.output }

abbrev seen_back : any.State Machine → State
seen_back s = record { machine = s.machine; input = s.input; output = s.output }

steps_same : (n : ℕ) (s : State) → any.steps flat_rules n (seen_as s) ≡ seen_as (steps n s)
unfolding steps step any.steps
steps_same zero s = refl
steps_same (suc n) s = ap (any.next flat_rules) (steps_same n s)

run_same : (m : Machine) (input : List ℕ) (n : ℕ) → any.run_from flat_rules m input n ≡ seen_as (run_from m input n)
run_same m input n = steps_same n (record { machine = m; input = input; output = [] })

running : (m : Machine) (input : List ℕ) (n : ℕ) → any.IsRunning flat_rules (any.run_from flat_rules m input n)
    → IsRunning (run_from m input n)
running m input n h = rw (run_same m input n) at h

runs_same : (m : Machine) (input : List ℕ) (n : ℕ) → ((k : ℕ) → k < n
    → any.IsRunning flat_rules (any.run_from flat_rules m input k))
    → (k : ℕ) → k < n → IsRunning (run_from m input k)
runs_same m input n h k l = running m input k (h k l)

ends_same : (m : Machine) (input : List ℕ) (bound n : ℕ) (e : Ending) → any.EndsAt flat_rules m input bound n e
    → EndsAt m input bound n e
ends_same m input bound n e h =
    record {
      within = h.within;
      runs = runs_same m input n h.runs;
      ends = rw (run_same m input n) at h.ends;
      stays = ap seen_back (sym (run_same m input bound) ∙ h.stays ∙ run_same m input n);
    }

stops_same : (m : Machine) (input : List ℕ) (bound taken : ℕ) → (taken ≤ bound)
    × any.StopsAt flat_rules m input bound taken
    → Answers WriteFault m input bound taken
stops_same m input bound taken (le, inl (before, len, is, wrote)) =
    (le, inl (before, len, is, rw (run_same m input before) at wrote))
stops_same m input bound taken (le, inr (inl all)) = (le, inr (inl all))
stops_same m input bound taken (le, inr (inr (inl ended))) =
    (le, inr (inr (λ h. ended (ap (λ s. s.machine.ending) (run_same m input taken) ∙ h))))
stops_same m input bound taken (le, inr (inr (inr lack))) = absurd (cc)

answers_same : (E : Type 0) (end : RunEnd) (m : Machine) (input : List ℕ) (bound taken : ℕ)
    → any.Answers {E = E} flat_rules (Ok end) m input bound taken
    → Answers end m input bound taken
answers_same E (Exited status n) m input bound taken h = (h.0, ends_same m input bound taken _ h.1)
answers_same E (Illegal at n) m input bound taken h = (h.0, ends_same m input bound taken _ h.1)
answers_same E (Fault kind at n) m input bound taken h = (h.0, ends_same m input bound taken _ h.1)
answers_same E Steps m input bound taken h = (h.0, running m input taken h.1)
answers_same E ReadFault m input bound taken h = (h.0, running m input taken h.1)
answers_same E WriteFault m input bound taken h = stops_same m input bound taken h

left_same : (m : Machine) (input : List ℕ) (n : ℕ) (now : FlatSeen) (told : Option (List ℕ))
    → any.IsLeft (any.run_from flat_rules m input n) now told
    → IsLeft (run_from m input n) now told
left_same m input n now told h =
    let e = run_same m input n in
    record {
      machine = h.machine ∙ ap (λ s. s.machine) e;
      waits = h.waits;
      left = h.left ∙ ap (λ s. Some s.input) e;
    }

cut_same : (m : Machine) (input : List ℕ) (now : FlatSeen) (told : Option (List ℕ))
    → any.IsCutOff flat_rules m input now told → IsCutOff m input now told
cut_same m input now told h =
    let most : register m 12 ≡ h.most = (at_read m h.most h.at_read).0 in
    record {
      at_read = h.at_read ∙ ap (λ k. Input k) (sym most);
      bytes = h.bytes;
      rest = h.rest;
      fewer = rw most h.fewer;
      whole = h.whole;
      machine = h.machine ∙ ap (λ k. record (fed_with m h.bytes) { waits = Some (wait_of k (length h.bytes)) })
          (sym most);
      left = h.left;
    }

leaves_same : (E : Type 0) (end : RunEnd) (m : Machine) (input : List ℕ) (n : ℕ) (now : FlatSeen)
    (told : Option (List ℕ))
    → any.Leaves {E = E} flat_rules (Ok end) (any.run_from flat_rules m input n) now told
    → Leaves end (run_from m input n) now told
leaves_same E (Exited status k) m input n now told h = left_same m input n now told h
leaves_same E (Illegal at k) m input n now told h = left_same m input n now told h
leaves_same E (Fault kind at k) m input n now told h = left_same m input n now told h
leaves_same E Steps m input n now told h = left_same m input n now told h
leaves_same E ReadFault m input n now told h =
    let e = run_same m input n in
    cut_same (run_from m input n).machine (run_from m input n).input now told (rw e at h)
leaves_same E WriteFault m input n now told h = left_same m input n now told h

pub ran_same : (E : Type 0) (end : RunEnd) (bound : ℕ) (m : Machine) (input : List ℕ) (now : FlatSeen)
    (told : Option (List ℕ)) (IsWritten : List ℕ → Type 0)
    → any.Ran {E = E} flat_rules (Ok end) bound m input now told IsWritten → Ran end bound m input now told IsWritten
ran_same E end bound m input now told IsWritten h = record {
  taken = h.taken;
  answer = answers_same E end m input bound h.taken h.answer;
  runs = runs_same m input h.taken h.runs;
  leaves = leaves_same E end m input h.taken now told h.leaves;
  output = rw (ap (λ s. s.output) (run_same m input h.taken)) at h.output;
}
