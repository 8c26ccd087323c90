-- Steps and reads of the flat machine, as those of any machine.
use Rattle.std.proofs.Common.{◌≡◌, ℕ, ◌+◌, List, [], ◌++◌, length, refl, ap, sym, ◌∙◌}
use Rattle.std.specs.Prelude.{Option, Some, None, MatchOption}
use Rattle.std.proofs.lemmas.List.{length-append}
use Rattle.machine_spec.specs.declared.Ending.{Ending}
use Rattle.machine_spec.specs.declared.Ending.TheVariants as ending
use Rattle.flat_spec.specs.Stores.{put_bytes}
use Rattle.flat_spec.specs.Machine.{Machine, register}
use Rattle.flat_spec.specs.Calls.{quiet, answers}
use Rattle.flat_spec.specs.Turns.{turn, turn_of}
use Rattle.machine_run.specs.declared.Stepped.{Stepped}
use Rattle.machine_run.specs.declared.Stepped.TheVariants.{Went, Wrote, WantsInput, Exited, Illegal, Fault}
use Rattle.machine_run.specs.Machines.{Input, Wait, WaitsOn, Stays, fed_with as fed_by}
use Rattle.machine_run.specs.Steps.{answer_to, EndsRead, IsWholeRead, StepsTo as StepsAsRules, IsTurn as IsTurnByRules}
use Rattle.flat_machine.specs.Asks.{asks, IsAtRead}
use Rattle.flat_machine.specs.Seen.{FlatSeen, FedMore, Completed, between, fed_with}
use Rattle.flat_machine.specs.Steps.{StepsTo, IsTurn}
use Rattle.flat_machine.specs.Rules.{turned, flat_rules}
use Rattle.flat_machine.proofs.Buffers.{put_append}
use Rattle.flat_machine.proofs.Waiting.{at_read, runs_at_read, wait_of}
use Rattle.flat_machine.proofs.Stepping.{step_wrote}

turn_by_rules : (input : List ℕ) (m : Machine) (new : FlatSeen) → IsTurn input m new
    → IsTurnByRules flat_rules input m new
turn_by_rules input m new h = (h.0, ap turned h.1)

-- a step by its answer
pub steps_by_rules : (s : Stepped) (input : List ℕ) (m : Machine) (new : FlatSeen)
    → s ≡ answer_to (asks m) new.machine.ending
    → StepsTo s input m new → StepsAsRules flat_rules s input m new
steps_by_rules Went input m new is h = (h.0, turn_by_rules input m new h.1)
steps_by_rules (Wrote len) input m new is h = (step_wrote m new.machine len is, h.0, turn_by_rules input m new h.1)
steps_by_rules (WantsInput len) input m new is h =
    let same : new ≡ fed_by flat_rules len m [] = h.2 ∙ ap (λ k. record (fed_with m []) { waits = Some (wait_of k 0) })
    h.1 in
    (h.0, same, ap (λ s. s.machine.ending) h.2 ∙ runs_at_read m len h.0)
steps_by_rules (Exited status) input m new is h = (h.0, turn_by_rules input m new h.1)
steps_by_rules (Illegal at) input m new is h = (h.0, turn_by_rules input m new h.1)
steps_by_rules (Fault kind at) input m new is h = (h.0, turn_by_rules input m new h.1)

-- pieces add up
pub feeds_on : (old new : FlatSeen) (piece : List ℕ) (m : Machine) (len : ℕ) (bytes : List ℕ) → FedMore old piece new
    → old ≡ fed_by flat_rules len m bytes
    → new ≡ fed_by flat_rules len m (bytes ++ piece)
feeds_on old new piece m len bytes more is =
    let e = rw is at more in
    let size : length bytes + length piece ≡ length (bytes ++ piece) = sym (length-append bytes piece) in
    e ∙ rw (size, put_append m.memory (register m 11) bytes piece) refl

-- a machine that was fed more waits on and runs on
waits_more : (o : Option Wait) (old new : FlatSeen) (piece : List ℕ) → MatchOption o ⊥ (λ wait. new ≡ record {
  machine = record old.machine { memory = put_bytes old.machine.memory (register old.machine 11 + wait.fed) piece };
  waits = Some (record { len = wait.len; fed = wait.fed + length piece });
  written = [];
}) → WaitsOn o (length piece) new.waits × (new.machine.ending ≡ old.machine.ending)
waits_more None old new piece h = absurd h
waits_more (Some wait) old new piece h = (ap (λ s. s.waits) h, ap (λ s. s.machine.ending) h)

pub waits_on : (old new : FlatSeen) (piece : List ℕ) → FedMore old piece new
    → WaitsOn old.waits (length piece) new.waits
waits_on old new piece h = (waits_more old.waits old new piece h).0

pub runs_on : (old new : FlatSeen) (piece : List ℕ) → FedMore old piece new → new.machine.ending ≡ old.machine.ending
runs_on old new piece h = (waits_more old.waits old new piece h).1

-- a completed machine doesn't wait
completed : (o : Option Wait) (old new : FlatSeen) → MatchOption o ⊥
    (λ wait. new ≡ between (answers wait.fed old.machine) [])
    → new.waits ≡ None
completed None old new h = absurd h
completed (Some wait) old new h = ap (λ s. s.waits) h

pub completed_goes : (old new : FlatSeen) → Completed old new → new.waits ≡ None
completed_goes old new h = completed old.waits old new h

-- a read that was fed all is a turn
pub ends_read : (old new : FlatSeen)
    → ((m : Machine) (bytes rest : List ℕ) → IsAtRead m → old ≡ fed_with m bytes
    → IsWholeRead (register m 12) bytes rest
    → turn (bytes ++ rest) m ≡ record { next = new.machine; written = []; left = rest })
    → EndsRead flat_rules old new
ends_read old new ends m len bytes rest at is whole =
    let most : register m 12 ≡ len = (at_read m len at).0 in
    let here : IsAtRead m = at ∙ ap (λ k. Input k) (sym most) in
    let seen : old ≡ fed_with m bytes = is ∙ ap (λ k. record (fed_with m bytes)
    { waits = Some (wait_of k (length bytes)) }) (sym most) in
    ap turned (ends m bytes rest here seen (rw most whole))

-- an ended machine stays as it is
turn_stays : (e : Ending) (input : List ℕ) (m : Machine) → (e ≡ ending.Running → ⊥) → turn_of e input m ≡ quiet input m
turn_stays ending.Running input m h = absurd (h refl)
turn_stays (ending.Exit status) input m h = refl
turn_stays (ending.Illegal at) input m h = refl
turn_stays (ending.Fault kind at) input m h = refl

pub ended_stays : (e : Ending) (m : Machine) → e ≡ m.ending → (e ≡ ending.Running → ⊥) → Stays flat_rules m
unfolding turn
ended_stays e m is ended = λ input. ap turned (turn_stays m.ending input m (λ r. ended (is ∙ r)))
