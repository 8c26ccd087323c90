-- Runs that are recorded, turn by turn.
use Rattle.std.proofs.Common.{◌≡◌, ℕ, zero, suc, ◌+◌, ◌-◌, ◌<◌, ◌≤◌, List, [], refl, ap, sym, subst, ◌∙◌, append-nil}
use Rattle.std.proofs.Common.{add-one, arith}
use borrow.Author.Count.{below_more}
use Rattle.std.specs.Prelude.{Option, Some}
use Rattle.machine_spec.specs.declared.Ending.{Ending}
use Rattle.machine_spec.specs.declared.Ending.TheVariants as ending
use Rattle.plan_core.specs.declared.types.Plan.{Plan}
use Rattle.plan_core.specs.declared.profiles.Event.{Event}
use Rattle.sym_spec.specs.declared.StepNote.{StepNote}
use Rattle.sym_spec.specs.SymMachine.{SymMachine, start}
use Rattle.sym_spec.specs.SymNotes.{note}
use Rattle.sym_spec.specs.SymRuns.{SymState, after, step, steps, sym_run}
use Rattle.sym_spec.specs.SymCalls.{quiet}
use Rattle.sym_spec.specs.SymTurns.{turn_of, turn as machine_turn}
use Rattle.sym_machine.specs.Programs.{Program, turn}
use Rattle.sym_machine.specs.Runs.{EndsAt, IsRunning, program_at, run_from}
use Rattle.heap_trace.specs.Events.{Traced}
use Rattle.heap_trace.specs.Traces.{LeadsOn, Traces, Leads, IsLegalTrace}
use Rattle.heap_trace.specs.Profiles.{IsCutInput, program_of}
use Rattle.heap_trace.specs.Recorded.{LedTo}

-- one turn more
next_state : (file : List ℕ) (plan : Plan) (input : List ℕ) (n : ℕ) → sym_run file plan input (n + 1)
    ≡ step file plan (sym_run file plan input n)
unfolding sym_run steps
next_state file plan input n =
    ap (λ k. steps file plan k (record { machine = start file plan; input = input; output = [] })) (add-one n)

-- an ended machine stays as it is
turn_stays : (e : Ending) (file : List ℕ) (plan : Plan) (input : List ℕ) (m : SymMachine)
    → (e ≡ ending.Running → ⊥) → turn_of file plan e input m ≡ quiet input m
turn_stays ending.Running file plan input m h = absurd (h refl)
turn_stays (ending.Exit status) file plan input m h = refl
turn_stays (ending.Illegal at) file plan input m h = refl
turn_stays (ending.Fault kind at) file plan input m h = refl

step_stays : (file : List ℕ) (plan : Plan) (s : SymState) → (s.machine.ending ≡ ending.Running → ⊥)
    → step file plan s ≡ s
unfolding step machine_turn
step_stays file plan s h =
    ap (λ t. after t s.output) (turn_stays s.machine.ending file plan s.input s.machine h)
    ∙ ap (λ o. record s { output = o }) (append-nil s.output)

stays_more : (file : List ℕ) (plan : Plan) (s : SymState) (n j : ℕ)
    → ((steps file plan n s).machine.ending ≡ ending.Running → ⊥) → steps file plan (j + n) s ≡ steps file plan n s
unfolding steps
stays_more file plan s n zero h = let e : 0 + n ≡ n = omega arith in ap (λ k. steps file plan k s) e
stays_more file plan s n (suc j) h =
    let e : suc j + n ≡ suc (j + n) = omega arith in
    ap (λ k. steps file plan k s) e ∙ ap (step file plan) (stays_more file plan s n j h)
    ∙ step_stays file plan (steps file plan n s) h

-- the machine at the start
pub started_runs : (file : List ℕ) (plan : Plan) → (start file plan).ending ≡ ending.Running
unfolding start
started_runs file plan = refl

pub started_places : (file : List ℕ) (plan : Plan) → (start file plan).at ≡ []
unfolding start
started_places file plan = refl

-- a file that runs under a plan
abbrev at_machine : List ℕ → Plan → SymMachine → Program
at_machine file plan m = record { file = file; plan = plan; machine = m }

-- the run of a file on an input, of which n turns are taken: the program and what the source has left
pub record RanTo (file : List ℕ) (plan : Plan) (input : List ℕ) (n : ℕ) (p : Program) (told : Option (List ℕ))
    : Type 0 where
  pub program : p ≡ at_machine file plan (sym_run file plan input n).machine
  pub left : told ≡ Some (sym_run file plan input n).input
  pub runs : (k : ℕ) → k < n → (sym_run file plan input k).machine.ending ≡ ending.Running

pub ran_none : (file : List ℕ) (plan : Plan) (input : List ℕ) (p : Program) (told : Option (List ℕ))
    → p ≡ program_of file plan → told ≡ Some input → RanTo file plan input 0 p told
unfolding sym_run steps
ran_none file plan input p told same is = record { program = same; left = is; runs = λ k l. absurd (omega arith) }

pub ran_next : (file : List ℕ) (plan : Plan) (input : List ℕ) (n : ℕ) (p q : Program) (told told' : Option (List ℕ))
    → RanTo file plan input n p told → p.machine.ending ≡ ending.Running
    → ((left : List ℕ) → told ≡ Some left → LedTo left p q told')
    → RanTo file plan input (n + 1) q told'
unfolding step turn
ran_next file plan input n p q told told' r runs does =
    let now : Program = at_machine file plan (sym_run file plan input n).machine in
    let done : LedTo (sym_run file plan input n).input now q told' =
    subst (λ (x : Program). LedTo (sym_run file plan input n).input x q told') r.program
    (does (sym_run file plan input n).input r.left) in
    let more = next_state file plan input n in
    record {
      program = done.next_is ∙ ap (λ (s : SymState). at_machine file plan s.machine) (sym more);
      left = done.left_is ∙ ap (λ (s : SymState). Some s.input) (sym more);
      runs = below_more (λ k. (sym_run file plan input k).machine.ending ≡ ending.Running) n r.runs
          (sym (ap (λ (x : Program). x.machine.ending) r.program) ∙ runs);
    }

-- a run that ended at its last turn
pub ends_at : (file : List ℕ) (plan : Plan) (input : List ℕ) (n bound : ℕ) (p : Program) (told : Option (List ℕ))
    (e : Ending) → RanTo file plan input n p told → e ≡ p.machine.ending → (e ≡ ending.Running → ⊥) → n ≤ bound
    → EndsAt (program_of file plan) input bound n e
unfolding sym_run
ends_at file plan input n bound p told e r is ended le =
    let last : (sym_run file plan input n).machine.ending ≡ e =
    sym (ap (λ (x : Program). x.machine.ending) r.program) ∙ sym is in
    let size : bound ≡ (bound - n) + n = omega arith in
    let first : SymState = record { machine = start file plan; input = input; output = [] } in
    record {
      within = le;
      runs = r.runs;
      ends = last;
      stays = ap (λ k. steps file plan k first) size
          ∙ stays_more file plan first n (bound - n) (λ x. ended (sym last ∙ x));
    }

-- it runs so far
pub running_now : (file : List ℕ) (plan : Plan) (input : List ℕ) (n : ℕ) (p : Program) (told : Option (List ℕ))
    → RanTo file plan input n p told → p.machine.ending ≡ ending.Running
    → IsRunning (run_from (program_of file plan) input n)
unfolding sym_run
running_now file plan input n p told r runs = sym (ap (λ (x : Program). x.machine.ending) r.program) ∙ runs

-- what the source has left
pub left_now : (file : List ℕ) (plan : Plan) (input : List ℕ) (n : ℕ) (p : Program) (told : Option (List ℕ))
    → RanTo file plan input n p told → told ≡ Some (run_from (program_of file plan) input n).input
unfolding sym_run
left_now file plan input n p told r = r.left

-- a read that failed at its next turn
pub cut_now : (file : List ℕ) (plan : Plan) (input : List ℕ) (n : ℕ) (p : Program) (told told' : Option (List ℕ))
    → RanTo file plan input n p told → ((left : List ℕ) → told ≡ Some left → IsCutInput p left told')
    → IsCutInput (program_at (program_of file plan) (run_from (program_of file plan) input n))
    (run_from (program_of file plan) input n).input told'
unfolding sym_run
cut_now file plan input n p told told' r does =
    subst (λ (x : Program). IsCutInput x (sym_run file plan input n).input told') r.program
    (does (sym_run file plan input n).input r.left)

-- a turn changes neither the file nor the plan
pub keeps_file : (p q : Program) (bytes : List ℕ) → q ≡ (turn bytes p).next → q.file ≡ p.file
unfolding turn
keeps_file p q bytes is = ap (λ (x : Program). x.file) is

pub keeps_plan : (p q : Program) (bytes : List ℕ) → q ≡ (turn bytes p).next → q.plan ≡ p.plan
unfolding turn
keeps_plan p q bytes is = ap (λ (x : Program). x.plan) is

-- its trace with one turn more
pub traced_next : (file : List ℕ) (plan : Plan) (input : List ℕ) (n : ℕ) (p : Program) (told : Option (List ℕ))
    (v : StepNote) (before after : Traced) (earlier events : List Event)
    → RanTo file plan input n p told → Traces file plan input n before earlier → v ≡ note p.file p.plan p.machine
    → LeadsOn file v before earlier after events
    → Traces file plan input (n + 1) after events
traced_next file plan input n p told v before after earlier events r traces is on =
    let noted : v ≡ note file plan (sym_run file plan input n).machine =
    is ∙ ap (λ (x : Program). note x.file x.plan x.machine) r.program in
    let here : LeadsOn file (note file plan (sym_run file plan input n).machine) before earlier after events =
    subst (λ (w : StepNote). LeadsOn file w before earlier after events) noted on in
    subst (λ k. Traces file plan input k after events) (sym (add-one n)) (before, earlier, traces, here)

-- and where each turn has an input of its own
pub leads_next : (file : List ℕ) (plan : Plan) (n : ℕ) (p q : Program) (bytes : List ℕ) (v : StepNote)
    (before after : Traced) (earlier events : List Event)
    → p.file ≡ file → p.plan ≡ plan → Leads file plan n p.machine before earlier → q ≡ (turn bytes p).next
    → v ≡ note p.file p.plan p.machine → LeadsOn file v before earlier after events
    → Leads file plan (n + 1) q.machine after events
unfolding turn
leads_next file plan n p q bytes v before after earlier events f g leads is noted on =
    let here : LeadsOn file (note file plan p.machine) before earlier after events =
    subst (λ (w : StepNote). LeadsOn file w before earlier after events)
    (noted ∙ (λ i. note (f i) (g i) p.machine)) on in
    let there : q.machine ≡ (machine_turn file plan bytes p.machine).next =
    ap (λ (x : Program). x.machine) is ∙ (λ i. (machine_turn (f i) (g i) bytes p.machine).next) in
    subst (λ k. Leads file plan k q.machine after events) (sym (add-one n))
    (p.machine, bytes, before, earlier, leads, there, here)

-- a trace of few turns is one of some more
pub more_turns : (n m : ℕ) (t : Traced) (events : List Event) → IsLegalTrace n t events → n ≤ m
    → IsLegalTrace m t events
more_turns n m t events h le = record { legal = h.legal; contexts = h.contexts; few = omega (arith, h.few, le) }
