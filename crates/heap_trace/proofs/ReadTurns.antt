-- Turns of the symbol machine over a source.
use Rattle.std.proofs.Common.{◌≡◌, ℕ, List, [], ◌++◌, refl, ap, sym, subst, ◌∙◌, inr}
use Rattle.std.specs.Prelude.{Option, Some, None, MatchOption}
use Rattle.machine_run.specs.declared.Stepped.{Stepped}
use Rattle.machine_run.specs.declared.Stepped.TheVariants.{Went, Wrote, WantsInput, Exited, Illegal, Fault}
use Rattle.machine_run.specs.Machines.{Input, Seen, Turned, Wait, fed_with}
use Rattle.machine_run.specs.Steps.{StepsTo, IsTurn, EndsRead}
use Rattle.machine_run.specs.Serving.{IsFedPart, IsFedWhole}
use Rattle.sym_spec.specs.declared.StepNote.{StepNote}
use Rattle.sym_spec.specs.SymCalls.{answers}
use Rattle.sym_machine.specs.Asks.{asks}
use Rattle.sym_machine.specs.Programs.{Program, turn}
use Rattle.sym_machine.specs.Rules.{sym_rules}
use Rattle.sym_machine.specs.Seen.{SymSeen, seen_by_run, between, Completed, read_note}
use Rattle.sym_machine.specs.Steps.{note_after}
use Rattle.heap_trace.specs.Profiles.{IsCutInput}
use Rattle.heap_trace.specs.Recorded.{LedTo}

-- a step that wants no input is a turn
pub is_turn : (s : Stepped) (input : List ℕ) (p : Program) (new : Seen Program) → StepsTo sym_rules s input p new
    → ((len : ℕ) → s ≡ WantsInput len → ⊥) → IsTurn sym_rules input p new
is_turn Went input p new h other = h.1
is_turn (Wrote len) input p new h other = h.2
is_turn (WantsInput len) input p new h other = absurd (other len refl)
is_turn (Exited status) input p new h other = h.1
is_turn (Illegal at) input p new h other = h.1
is_turn (Fault kind at) input p new h other = h.1

pub now_noted : (s : Stepped) (before now last : StepNote) → last ≡ note_after s before now
    → ((len : ℕ) → s ≡ WantsInput len → ⊥) → last ≡ now
now_noted Went before now last h other = h
now_noted (Wrote len) before now last h other = h
now_noted (WantsInput len) before now last h other = absurd (other len refl)
now_noted (Exited status) before now last h other = h
now_noted (Illegal at) before now last h other = h
now_noted (Fault kind at) before now last h other = h

pub turn_led : (input : List ℕ) (p : Program) (new : Seen Program) (told told' : Option (List ℕ))
    → IsTurn sym_rules input p new → told ≡ Some input → told' ≡ told → LedTo input p new.machine told'
turn_led input p new told told' h is same = record {
  next_is = sym (ap (λ (t : Turned Program). t.next) h.1);
  left_is = same ∙ is ∙ ap (λ (t : Turned Program). Some t.left) (sym h.1);
}

-- a step that wants input waits for it
pub wants : (s : Stepped) (len : ℕ) (input : List ℕ) (p : Program) (new : Seen Program)
    → StepsTo sym_rules s input p new → s ≡ WantsInput len → (asks p ≡ Input len) × (new ≡ fed_with sym_rules len p [])
wants Went len input p new h is = absurd cc
wants (Wrote n) len input p new h is = absurd cc
wants (WantsInput n) len input p new h is =
    let same : n ≡ len = cc in
    let pair : (asks p ≡ Input n) × (new ≡ fed_with sym_rules n p []) = (h.0, h.1) in
    subst (λ k. (asks p ≡ Input k) × (new ≡ fed_with sym_rules k p [])) same pair
wants (Exited status) len input p new h is = absurd cc
wants (Illegal at) len input p new h is = absurd cc
wants (Fault kind at) len input p new h is = absurd cc

-- a read that was fed whole is a turn
pub read_led : (p : Program) (len : ℕ) (input : List ℕ) (old new : Seen Program) (told : Option (List ℕ))
    → asks p ≡ Input len → IsFedWhole sym_rules len p input old told → EndsRead sym_rules old new
    → LedTo input p new.machine told
read_led p len input old new told at w ends =
    let t = ends p len w.part.bytes w.part.rest at w.part.machine w.all in
    let here : turn input p ≡ record { next = new.machine; written = []; left = w.part.rest } =
    ap (λ i. turn i p) w.part.whole ∙ t in
    record {
      next_is = sym (ap (λ (t : Turned Program). t.next) here);
      left_is = w.part.left ∙ ap (λ (t : Turned Program). Some t.left) (sym here);
    }

-- so is one that was fed some bytes, where no more is left
pub read_some : (p : Program) (len : ℕ) (bytes : List ℕ) (old new : Seen Program)
    → asks p ≡ Input len → old ≡ fed_with sym_rules len p bytes → EndsRead sym_rules old new
    → new.machine ≡ (turn (bytes ++ []) p).next
read_some p len bytes old new at fed ends =
    sym (ap (λ (t : Turned Program). t.next) (ends p len bytes [] at fed (inr refl)))

-- a read that failed
pub read_cut : (p : Program) (len : ℕ) (input : List ℕ) (now : Seen Program) (told : Option (List ℕ))
    → asks p ≡ Input len → IsFedPart sym_rules len p input now told → IsCutInput p input told
read_cut p len input now told at f = record {
  most = len;
  at_read = at;
  bytes = f.part.bytes;
  rest = f.part.rest;
  fewer = f.fewer;
  whole = f.part.whole;
  left = f.part.left;
}

-- neither what a read is fed nor its end changes where blocks stand
pub fed_places : (p : Program) (len : ℕ) (bytes : List ℕ) (now : SymSeen)
    → seen_by_run now ≡ fed_with sym_rules len p bytes → now.program.machine.at ≡ p.machine.at
fed_places p len bytes now is = ap (λ (s : Seen Program). s.machine.machine.at) is

pub completed_places : (old new : SymSeen) → Completed old new → new.program.machine.at ≡ old.program.machine.at
completed_places old new h = by_wait old.waits h
  where
    by_wait : (w : Option Wait)
        → MatchOption w ⊥ (λ wait. new ≡ between
        (record old.program { machine = answers wait.fed old.program.machine }) []
        (read_note old.program.machine wait.len))
        → new.program.machine.at ≡ old.program.machine.at
    by_wait None h = absurd h
    by_wait (Some wait) h = ap (λ (s : SymSeen). s.program.machine.at) h
