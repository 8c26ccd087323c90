-- Runs by the symbol machine's rules are runs of the symbol machine.
use Rattle.std.proofs.Common.{◌≡◌, ℕ, zero, suc, ◌<◌, List, [], refl, ap, sym, ◌∙◌, inl, inr}
use Rattle.std.specs.Prelude.{Option, Some}
use Rattle.machine_spec.specs.declared.Ending.{Ending}
use Rattle.machine_run.specs.Machines.{Seen}
use Rattle.machine_run.specs.Runs as any
use Rattle.sym_spec.specs.SymRuns.{SymState, step, steps}
use Rattle.sym_machine.specs.declared.SymEnd.{SymEnd}
use Rattle.sym_machine.specs.declared.SymEnd.TheVariants.{Exited, Illegal, Fault, Steps, ReadFault, WriteFault, Memory}
use Rattle.sym_machine.specs.Ends.{run_end}
use Rattle.sym_machine.specs.Programs.{Program, turn}
use Rattle.sym_machine.specs.Rules.{sym_rules}
use Rattle.sym_machine.specs.Runs.{run_from, program_at, IsRunning, EndsAt, WroteLast, GrantsAfter, StopsAt, Answers}
use Rattle.sym_machine.specs.Runs.{IsLeft, Leaves, Ran, EndsAs}

abbrev seen_as : Program → SymState → any.State Program
seen_as p s = record { machine = program_at p s; input = s.input; output = s.output }

abbrev seen_back : any.State Program → SymState
seen_back s = record { machine = s.machine.machine; input = s.input; output = s.output }

next_same : (p : Program) (s : SymState) → any.next sym_rules (seen_as p s) ≡ seen_as p (step p.file p.plan s)
unfolding step turn
next_same p s = refl

steps_same : (p : Program) (n : ℕ) (s : SymState)
    → any.steps sym_rules n (seen_as p s) ≡ seen_as p (steps p.file p.plan n s)
unfolding steps any.steps
steps_same p zero s = refl
steps_same p (suc n) s = ap (any.next sym_rules) (steps_same p n s) ∙ next_same p (steps p.file p.plan n s)

run_same : (p : Program) (input : List ℕ) (n : ℕ) → any.run_from sym_rules p input n ≡ seen_as p (run_from p input n)
run_same p input n = steps_same p n (record { machine = p.machine; input = input; output = [] })

running : (p : Program) (input : List ℕ) (n : ℕ) → any.IsRunning sym_rules (any.run_from sym_rules p input n)
    → IsRunning (run_from p input n)
running p input n h = rw (run_same p input n) at h

runs_same : (p : Program) (input : List ℕ) (n : ℕ)
    → ((k : ℕ) → k < n → any.IsRunning sym_rules (any.run_from sym_rules p input k))
    → (k : ℕ) → k < n → IsRunning (run_from p input k)
runs_same p input n h k l = running p input k (h k l)

ends_same : (p : Program) (input : List ℕ) (bound n : ℕ) (e : Ending) → any.EndsAt sym_rules p input bound n e
    → EndsAt p input bound n e
ends_same p input bound n e h =
    record {
      within = h.within;
      runs = runs_same p input n h.runs;
      ends = rw (run_same p input n) at h.ends;
      stays = ap seen_back (sym (run_same p input bound) ∙ h.stays ∙ run_same p input n);
    }

wrote_same : (p : Program) (input : List ℕ) (taken : ℕ) → any.WroteLast sym_rules p input taken
    → WroteLast p input taken
wrote_same p input taken (before, len, is, wrote) = (before, len, is, rw (run_same p input before) at wrote)

grants_same : (p : Program) (input : List ℕ) (taken : ℕ)
    → any.MayLack sym_rules (any.run_from sym_rules p input taken).machine → GrantsAfter p input taken
grants_same p input taken h = rw (run_same p input taken) at h

stops_same : (p : Program) (input : List ℕ) (bound taken : ℕ) → any.StopsAt sym_rules p input bound taken
    → StopsAt p input bound taken
stops_same p input bound taken (inl wrote) = inl (wrote_same p input taken wrote)
stops_same p input bound taken (inr (inl all)) = inr (inl all)
stops_same p input bound taken (inr (inr (inl ended))) =
    inr (inr (inl (λ runs. ended (ap (λ s. s.machine.machine.ending) (run_same p input taken) ∙ runs))))
stops_same p input bound taken (inr (inr (inr grants))) = inr (inr (inr (grants_same p input taken grants)))

answers_same : (end : SymEnd) (p : Program) (input : List ℕ) (bound taken : ℕ)
    → any.Answers sym_rules (run_end end) p input bound taken
    → Answers end p input bound taken
answers_same (Exited status n) p input bound taken h = (h.0, ends_same p input bound taken _ h.1)
answers_same (Illegal at n) p input bound taken h = (h.0, ends_same p input bound taken _ h.1)
answers_same (Fault kind at n) p input bound taken h = (h.0, ends_same p input bound taken _ h.1)
answers_same Steps p input bound taken h = (h.0, running p input taken h.1)
answers_same ReadFault p input bound taken h = (h.0, running p input taken h.1)
answers_same WriteFault p input bound taken h = (h.0, stops_same p input bound taken h.1)
answers_same Memory p input bound taken h = (h.0, running p input taken h.1, grants_same p input taken h.2)

left_same : (p : Program) (input : List ℕ) (n : ℕ) (now : Seen Program) (told : Option (List ℕ))
    → any.IsLeft (any.run_from sym_rules p input n) now told
    → IsLeft p (run_from p input n) now told
left_same p input n now told h =
    let e = run_same p input n in
    record {
      machine = h.machine ∙ ap (λ s. s.machine) e;
      waits = h.waits;
      left = h.left ∙ ap (λ s. Some s.input) e;
    }

leaves_same : (end : SymEnd) (p : Program) (input : List ℕ) (n : ℕ) (now : Seen Program) (told : Option (List ℕ))
    → any.Leaves sym_rules (run_end end) (any.run_from sym_rules p input n) now told
    → Leaves end p (run_from p input n) now told
leaves_same (Exited status k) p input n now told h = left_same p input n now told h
leaves_same (Illegal at k) p input n now told h = left_same p input n now told h
leaves_same (Fault kind at k) p input n now told h = left_same p input n now told h
leaves_same Steps p input n now told h = left_same p input n now told h
leaves_same ReadFault p input n now told h =
    let e = run_same p input n in
    rw e at h
leaves_same WriteFault p input n now told h = left_same p input n now told h
leaves_same Memory p input n now told h = left_same p input n now told h

pub ran_same : (end : SymEnd) (bound : ℕ) (p : Program) (input : List ℕ) (now : Seen Program) (told : Option (List ℕ))
    (IsWritten : List ℕ → Type 0)
    → any.Ran sym_rules (run_end end) bound p input now told IsWritten → Ran end bound p input now told IsWritten
ran_same end bound p input now told IsWritten h = record {
  taken = h.taken;
  answer = answers_same end p input bound h.taken h.answer;
  runs = runs_same p input h.taken h.runs;
  leaves = leaves_same end p input h.taken now told h.leaves;
  output = rw (ap (λ s. s.output) (run_same p input h.taken)) at h.output;
}

pub ends_as_same : (end : SymEnd) (bound : ℕ) (now : Seen Program) → any.EndsAs sym_rules (run_end end) bound now
    → EndsAs end bound now
ends_as_same (Exited status n) bound now h = h
ends_as_same (Illegal at n) bound now h = h
ends_as_same (Fault kind at n) bound now h = h
ends_as_same Steps bound now h = h
ends_as_same ReadFault bound now h = h
ends_as_same WriteFault bound now h = h
ends_as_same Memory bound now h = h
