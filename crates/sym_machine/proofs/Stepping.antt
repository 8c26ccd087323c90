-- Steps, by what the machine alone did.
use Rattle.std.proofs.Common.{◌≡◌, ℕ, zero, suc, ◌+◌, ◌≤◌, ◌∷◌, Bool, true, false, List, [], length, take, drop, refl}
use Rattle.std.proofs.Common.{ap, sym, ◌∙◌, subst, arith}
use Rattle.std.specs.declared.alloc.AllocError.{AllocError}
use Rattle.std.specs.Prelude.{Result, Ok, Err, IfOk, IsSome, OnErr, Option, Some, None, is_some, unwrap_or, slice_index}
use Rattle.std.specs.Prelude.{if◌then◌else◌}
use Rattle.machine_spec.specs.declared.Ending.{Ending}
use Rattle.machine_spec.specs.declared.Ending.TheVariants as ending
use Rattle.machine_spec.specs.declared.FaultKind.{FaultKind}
use Rattle.machine_run.specs.declared.Stepped.{Stepped}
use Rattle.machine_run.specs.declared.Stepped.TheVariants.{Went, Wrote, WantsInput, Exited, Illegal, Fault}
use Rattle.machine_run.specs.Machines.{Asks, Nothing, Input, Output, Turned, quiet}
use Rattle.machine_run.specs.Steps.{answer_to, paused_by, StepsTo}
use Rattle.sym_value.specs.declared.Value.{Value}
use Rattle.sym_cells.specs.Buffers.{taken}
use Rattle.sym_spec.specs.declared.StepNote.{StepNote}
use Rattle.sym_spec.specs.SymMachine.{SymMachine, value_of}
use Rattle.sym_spec.specs.SymCalls.{buffer_in, reads_into}
use Rattle.sym_spec.specs.SymTurns.{turn as machine_turn}
use Rattle.sym_spec.specs.SymNotes.{empty_note, is_fault, ending_note, note}
use Rattle.sym_machine.specs.Programs.{Program, turn, turned, GrantsNext}
use Rattle.sym_machine.specs.Asks.{asks, asks_of as asks_of_ending}
use Rattle.sym_machine.specs.Found.{found_at}
use Rattle.sym_machine.specs.declared.found.Found.{Found}
use Rattle.sym_machine.specs.Turning.{note_found, runs_found}
use Rattle.sym_machine.specs.Rules.{fed_program, sym_rules}
use Rattle.sym_machine.specs.Seen.{seen_by_run, seen_of, between, buffer_of, IsInMemory, IsStorable, IsPaused}
use Rattle.sym_machine.specs.Steps.{Called, noted, note_after}
use Rattle.sym_machine.proofs.Filling.{taken_long}
use Rattle.sym_machine.proofs.Finding.{note_at, turn_running}
use Rattle.sym_machine.proofs.ByRules.{ended_stays}
use Rattle.sym_machine.proofs.Reading.{Reading, reading, empty_at_read}

-- where the machine stands after a step
pub step_paused : (s : Stepped) (p new : Program) (t : Turned Program) → Called s [] p new t
    → IsPaused (paused_by s) new
step_paused Went p new t h = tt
step_paused (Wrote len) p new t h = h.1
step_paused (WantsInput len) p new t h = rw h.0 (h.1, omega arith, h.2)
step_paused (Exited status) p new t h = tt
step_paused (Illegal at) p new t h = tt
step_paused (Fault kind at) p new t h = tt

wants : (a : Asks) (e : Ending) (len : ℕ) → WantsInput len ≡ answer_to a e → a ≡ Input len
wants (Input most) e len h = cc
wants (Output most) e len h = absurd (cc)
wants Nothing ending.Running len h = absurd (cc)
wants Nothing (ending.Exit status) len h = absurd (cc)
wants Nothing (ending.Illegal at) len h = absurd (cc)
wants Nothing (ending.Fault kind at) len h = absurd (cc)

writes : (a : Asks) (e : Ending) (len : ℕ) → Wrote len ≡ answer_to a e → a ≡ Output len
writes (Input most) e len h = absurd (cc)
writes (Output most) e len h = cc
writes Nothing ending.Running len h = absurd (cc)
writes Nothing (ending.Exit status) len h = absurd (cc)
writes Nothing (ending.Illegal at) len h = absurd (cc)
writes Nothing (ending.Fault kind at) len h = absurd (cc)

-- a buffer has as many bytes as was asked for
pub buffer_is : (m : SymMachine) (len : ℕ) (start : Value) → buffer_in len (value_of m 11) ≡ Some start
    → buffer_of m len ≡ unwrap_or (taken m.memory len start) []
buffer_is m len start e = rw e refl

pub buffer_long : (file : List ℕ) (m : SymMachine) (len : ℕ) → IsInMemory file m len → length (buffer_of m len) ≡ len
buffer_long file m len h =
    ap length (buffer_is m len h.start h.starts) ∙ by_taken (taken m.memory len h.start) refl h.known
  where
    by_taken : (r : Option (List ℕ)) → taken m.memory len h.start ≡ r → is_some r ≡ true → length (unwrap_or r []) ≡ len
    by_taken None e k = absurd (cc)
    by_taken (Some bytes) e k = taken_long m.memory h.start len bytes e

-- nothing was fed so far
fed_nothing : (p : Program) (len : ℕ) → IsStorable p.file p.machine len → fed_program p [] ≡ p
fed_nothing p len s = rw s.starts refl

-- a step is a turn, or waits
pub step_turns : (s : Stepped) (input : List ℕ) (p new : Program) (last : StepNote)
    → s ≡ answer_to (asks p) new.machine.ending
    → Called s input p new (turn input p) → StepsTo sym_rules s input p (seen_by_run (seen_of (paused_by s) last new))
step_turns Went input p new last is h = (refl, (refl, h))
step_turns (Wrote len) input p new last is h =
    (writes (asks p) new.machine.ending len is, buffer_long new.file new.machine len h.1, (refl, h.0))
step_turns (WantsInput len) input p new last is h =
    (wants (asks p) new.machine.ending len is, rw (h.0, fed_nothing p len h.1) refl, rw h.0 h.2)
step_turns (Exited status) input p new last is h = (refl, (refl, h))
step_turns (Illegal at) input p new last is h = (refl, (refl, h))
step_turns (Fault kind at) input p new last is h = (refl, (refl, h))

-- an answer that is no fault comes from an ending that is none
went_ends : (a : Asks) (e : Ending) → Went ≡ answer_to a e → is_fault e ≡ false
went_ends (Input most) e h = absurd (cc)
went_ends (Output most) e h = absurd (cc)
went_ends Nothing ending.Running h = refl
went_ends Nothing (ending.Exit status) h = refl
went_ends Nothing (ending.Illegal at) h = refl
went_ends Nothing (ending.Fault kind at) h = absurd (cc)

exited_ends : (a : Asks) (e : Ending) (status : ℕ) → Exited status ≡ answer_to a e → is_fault e ≡ false
exited_ends (Input most) e status h = absurd (cc)
exited_ends (Output most) e status h = absurd (cc)
exited_ends Nothing ending.Running status h = refl
exited_ends Nothing (ending.Exit s) status h = refl
exited_ends Nothing (ending.Illegal at) status h = refl
exited_ends Nothing (ending.Fault kind at) status h = absurd (cc)

illegal_ends : (a : Asks) (e : Ending) (at : ℕ) → Illegal at ≡ answer_to a e → is_fault e ≡ false
illegal_ends (Input most) e at h = absurd (cc)
illegal_ends (Output most) e at h = absurd (cc)
illegal_ends Nothing ending.Running at h = refl
illegal_ends Nothing (ending.Exit s) at h = refl
illegal_ends Nothing (ending.Illegal a) at h = refl
illegal_ends Nothing (ending.Fault kind a) at h = absurd (cc)

faulted : (a : Asks) (e : Ending) (kind : FaultKind) (at : ℕ) → Fault kind at ≡ answer_to a e → is_fault e ≡ true
faulted (Input most) e kind at h = absurd (cc)
faulted (Output most) e kind at h = absurd (cc)
faulted Nothing ending.Running kind at h = absurd (cc)
faulted Nothing (ending.Exit status) kind at h = absurd (cc)
faulted Nothing (ending.Illegal a) kind at h = absurd (cc)
faulted Nothing (ending.Fault k a) kind at h = refl

-- the note of a turn of a machine that runs, by whether it faults
pub by_fault : (p : Program) (b : Bool) → p.machine.ending ≡ ending.Running
    → is_fault (machine_turn p.file p.plan [] p.machine).next.ending ≡ b
    → note p.file p.plan p.machine
    ≡ (if b then empty_note else note_found p.file p.plan (found_at p.file p.plan p.machine.pc) p.machine)
unfolding note
by_fault p true r e = ap (λ (x : Ending). ending_note p.file p.plan x p.machine) r ∙ rw e refl
by_fault p false r e =
    ap (λ (x : Ending). ending_note p.file p.plan x p.machine) r ∙ rw e (note_at p.file p.plan p.machine)

ends_as : (p new : Program) (written : List ℕ) → turn [] p ≡ record { next = new; written = written; left = [] }
    → (machine_turn p.file p.plan [] p.machine).next.ending ≡ new.machine.ending
unfolding turn
ends_as p new written h = ap (λ t. t.next.machine.ending) h

fault_at_read : (p : Program) (n : ℕ) → Reading p n
    → is_fault (machine_turn p.file p.plan [] p.machine).next.ending ≡ false
fault_at_read p n r =
    let turns : machine_turn p.file p.plan [] p.machine ≡ reads_into [] n (Some p.machine.memory) p.machine =
    empty_at_read p n r in
    rw (turns, r.runs) refl

-- the note that was made is that of the step
pub step_noted : (s : Stepped) (p new : Program) → p.machine.ending ≡ ending.Running
    → s ≡ answer_to (asks p) new.machine.ending → Called s [] p new (turn [] p)
    → noted s (note_found p.file p.plan (found_at p.file p.plan p.machine.pc) p.machine) ≡ note p.file p.plan p.machine
step_noted Went p new r is h =
    sym (by_fault p false r (ap is_fault (ends_as p new [] h) ∙ went_ends (asks p) new.machine.ending is))
step_noted (Wrote len) p new r is h =
    sym (by_fault p false r (ap is_fault (ends_as p new _ h.0) ∙ ap is_fault h.2))
step_noted (WantsInput len) p new r is h =
    sym (by_fault p false r (fault_at_read p len (reading p len (wants (asks p) new.machine.ending len is))))
step_noted (Exited status) p new r is h =
    sym (by_fault p false r (ap is_fault (ends_as p new [] h) ∙ exited_ends (asks p) new.machine.ending status is))
step_noted (Illegal at) p new r is h =
    sym (by_fault p false r (ap is_fault (ends_as p new [] h) ∙ illegal_ends (asks p) new.machine.ending at is))
step_noted (Fault kind at) p new r is h =
    sym (by_fault p true r (ap is_fault (ends_as p new [] h) ∙ faulted (asks p) new.machine.ending kind at is))

-- an answer of an ended machine leaves nothing waiting or written
pub between_steps : (e : Ending) (p : Program) (before : StepNote)
    → seen_of (paused_by (answer_to Nothing e)) (note_after (answer_to Nothing e) before empty_note) p
    ≡ between p [] empty_note
between_steps ending.Running p before = refl
between_steps (ending.Exit status) p before = refl
between_steps (ending.Illegal at) p before = refl
between_steps (ending.Fault kind at) p before = refl

-- one of a list's elements
pub first_of : (bs : List ℕ) (i : ℕ) → i + 1 ≤ length bs → slice_index (take 1 (drop i bs)) 0 ≡ slice_index bs i
first_of [] i l = absurd (omega arith)
first_of (b ∷ bs) zero l = refl
first_of (b ∷ bs) (suc i) l = first_of bs i (omega arith)

-- a step of an ended machine
ended_asks : (p : Program) (e : Ending) → p.machine.ending ≡ e → (e ≡ ending.Running → ⊥) → asks p ≡ Nothing
unfolding asks
ended_asks p ending.Running r h = absurd (h refl)
ended_asks p (ending.Exit status) r h = ap (λ (x : Ending). asks_of_ending p.file p.machine x) r
ended_asks p (ending.Illegal at) r h = ap (λ (x : Ending). asks_of_ending p.file p.machine x) r
ended_asks p (ending.Fault kind at) r h = ap (λ (x : Ending). asks_of_ending p.file p.machine x) r

pub ended_answers : (p : Program) (e : Ending) → p.machine.ending ≡ e → (e ≡ ending.Running → ⊥)
    → answer_to Nothing e ≡ answer_to (asks p) p.machine.ending
ended_answers p e r h = rw (ended_asks p e r h, r) refl

pub ended_note : (p : Program) (e : Ending) → p.machine.ending ≡ e → (e ≡ ending.Running → ⊥)
    → empty_note ≡ note p.file p.plan p.machine
unfolding note
ended_note p ending.Running r h = absurd (h refl)
ended_note p (ending.Exit status) r h = sym (ap (λ (x : Ending). ending_note p.file p.plan x p.machine) r)
ended_note p (ending.Illegal at) r h = sym (ap (λ (x : Ending). ending_note p.file p.plan x p.machine) r)
ended_note p (ending.Fault kind at) r h = sym (ap (λ (x : Ending). ending_note p.file p.plan x p.machine) r)

quiet_called : (e : Ending) (input : List ℕ) (p : Program) (t : Turned Program) → t ≡ quiet input p
    → Called (answer_to Nothing e) input p p t
quiet_called ending.Running input p t h = h
quiet_called (ending.Exit status) input p t h = h
quiet_called (ending.Illegal at) input p t h = h
quiet_called (ending.Fault kind at) input p t h = h

pub ended_called : (p : Program) (e : Ending) (input : List ℕ) → p.machine.ending ≡ e → (e ≡ ending.Running → ⊥)
    → Called (answer_to Nothing e) input p p (turn input p)
ended_called p e input r h = quiet_called e input p (turn input p) (ended_stays e p (sym r) h input)

-- the turn at what was found
pub turn_ok : (r : Result (Stepped × Option StepNote) AllocError) (p new : Program) (f : Found)
    → p.machine.ending ≡ ending.Running
    → f ≡ found_at p.file p.plan p.machine.pc
    → IfOk r (λ r. (input : List ℕ) → Called r.0 input p new (turned p (runs_found p.file p.plan input f p.machine)))
    → IfOk r (λ r. (input : List ℕ) → Called r.0 input p new (turn input p))
turn_ok (Ok (s, n)) p new f run is h =
    λ input. subst (λ (t : Turned Program). Called s input p new t) (sym (turn_running p input f run is)) (h input)
turn_ok (Err lack) p new f run is h = tt

-- the note of a step that was made
pub noted_ok : (r : Result (Stepped × Option StepNote) AllocError) (p new : Program) → p.machine.ending ≡ ending.Running
    → IfOk r (λ r. r.0 ≡ answer_to (asks p) new.machine.ending)
    → IfOk r (λ r. (input : List ℕ) → Called r.0 input p new (turn input p))
    → IfOk r (λ r. unwrap_or r.1 empty_note
    ≡ noted r.0 (note_found p.file p.plan (found_at p.file p.plan p.machine.pc) p.machine))
    → IfOk r (λ r. unwrap_or r.1 empty_note ≡ note p.file p.plan p.machine)
noted_ok (Ok (s, n)) p new run is h e = e ∙ step_noted s p new run is (h [])
noted_ok (Err lack) p new run is h e = tt

-- a step that lacks memory would have granted a block
ends_found : (p : Program) (f : Found) → p.machine.ending ≡ ending.Running → f ≡ found_at p.file p.plan p.machine.pc
    → (machine_turn p.file p.plan [] p.machine).next.ending ≡ (runs_found p.file p.plan [] f p.machine).next.ending
unfolding turn
ends_found p f run is = ap (λ (t : Turned Program). t.next.machine.ending) (turn_running p [] f run is)

pub lack_noted : (r : Result (Stepped × Option StepNote) AllocError) (p : Program) (f : Found)
    → p.machine.ending ≡ ending.Running → f ≡ found_at p.file p.plan p.machine.pc
    → OnErr r ((input : List ℕ) → (runs_found p.file p.plan input f p.machine).next.ending ≡ ending.Running)
    → OnErr r (IsSome (note_found p.file p.plan f p.machine).grant) → OnErr r (GrantsNext p)
lack_noted (Ok x) p f run is goes grants = tt
lack_noted (Err lack) p f run is goes grants =
    ap (λ (n : StepNote). is_some n.grant) (by_fault p false run (ap is_fault (ends_found p f run is ∙ goes [])))
    ∙ ap (λ (g : Found). is_some (note_found p.file p.plan g p.machine).grant) (sym is) ∙ grants
