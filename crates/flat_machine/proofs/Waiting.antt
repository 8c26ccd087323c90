-- Reads that wait for their input.
use Rattle.std.proofs.Common.{◌≡◌, ℕ, ◌+◌, ◌≤◌, List, [], ◌++◌, Bool, true, false, cond, ◌&&◌, length, take, drop, refl}
use Rattle.std.proofs.Common.{ap, sym, ◌∙◌, arith, inl, inr, append-nil}
use Rattle.std.specs.Prelude.{Option, Some, None, IsSomeAnd, not, ◌==◌}
use Rattle.flat_machine.proofs.Buffers.{PassTogether, KeepRanges, SameStores, storable_part, storable_after, put_append}
use Rattle.std.proofs.Math.Seq.{take-append_seam, drop-append_seam}
use Rattle.std.proofs.lemmas.List.{take_all, drop_all, length-append}
use Rattle.rv_isa.specs.declared.Instr.{Instr}
use Rattle.rv_isa.specs.declared.Instr.TheVariants.{Lui, Auipc, Jal, Jalr, Branch, Load, Store, OpImm, Reg, Fence}
use Rattle.rv_isa.specs.declared.Instr.TheVariants.{Ecall, Ebreak}
use Rattle.rv_isa.specs.Table.{decoded}
use Rattle.machine_spec.specs.declared.Ending.{Ending}
use Rattle.machine_spec.specs.declared.Ending.TheVariants.{Running, Exit, Illegal, Fault}
use Rattle.machine_spec.specs.declared.FaultKind.TheVariants.{F1}
use Rattle.machine_spec.specs.Calls.{Call, Read, Write, Exits, Brk, Unknown, call_of, bad_descriptor}
use Rattle.flat_spec.specs.Stores.{can_store, fetched, put_bytes}
use Rattle.flat_spec.specs.Machine.{Machine, register, faults}
use Rattle.flat_spec.specs.Calls.{Turn, quiet, answers, calls, calls_by}
use Rattle.flat_spec.specs.Turns.{turn, turn_of, runs_word, executes}
use Rattle.machine_run.specs.Machines.{Nothing, Input, Output, Wait}
use Rattle.machine_run.specs.Steps.{waits_of, IsWholeRead}
use Rattle.flat_machine.specs.Asks.{asks, asks_by, asks_instr, asks_word, asks_of}
use Rattle.flat_machine.specs.Seen.{FlatSeen, fed_with}
use Rattle.machine_run.specs.declared.pause.Pause.{Pause}
use Rattle.machine_run.specs.declared.pause.Pause.TheVariants as pause
use Rattle.flat_machine.specs.Paused.{seen_of, IsPaused}

-- what a read does that was fed these bytes
abbrev pub read_turn : Machine → List ℕ → List ℕ → Turn
read_turn m bytes rest = record {
  next = answers (length bytes) (record m { memory = put_bytes m.memory (register m 11) bytes });
  written = [];
  left = rest;
}

-- a machine that asks for input stands at a read, which takes at most so many bytes
abbrev pub ReadsMost : (List ℕ → Turn) → Machine → ℕ → Type 0
ReadsMost t m n = (register m 12 ≡ n) × ((input : List ℕ) → t input ≡ read_turn m (take n input) (drop n input))

at_read_call : (m : Machine) (n : ℕ) (good can some : Bool)
    → cond (good && can && some) (Input (register m 12)) Nothing ≡ Input n
    → ReadsMost (λ input. cond good (cond can (read_turn m (take (register m 12) input) (drop (register m 12) input))
    (quiet input (faults F1 m))) (quiet input (answers bad_descriptor m))) m n
at_read_call m n true true true h =
    let e : register m 12 ≡ n = cc in
    (e, λ input. ap (λ x. read_turn m (take x input) (drop x input)) e)
at_read_call m n true true false h = absurd (cc)
at_read_call m n true false some h = absurd (cc)
at_read_call m n false can some h = absurd (cc)

no_input : (len n : ℕ) (test : Bool) → cond test (Output len) Nothing ≡ Input n → ⊥
no_input len n true h = absurd (cc)
no_input len n false h = absurd (cc)

at_call : (m : Machine) (n : ℕ) (call : Call) → asks_by call m ≡ Input n
    → ReadsMost (λ input. calls_by call input m) m n
at_call m n Read h =
    at_read_call m n (register m 10 == 0) (can_store m.memory (register m 11) (register m 12))
    (not (register m 12 == 0)) h
at_call m n Write h = absurd (no_input _ n _ h)
at_call m n Exits h = absurd (cc)
at_call m n Brk h = absurd (cc)
at_call m n Unknown h = absurd (cc)

at_instr : (m : Machine) (n : ℕ) (o : Option Instr) → asks_instr o m ≡ Input n
    → ReadsMost (λ input. executes input o m) m n
unfolding calls
at_instr m n (Some Ecall) h = at_call m n (call_of (register m 17)) h
at_instr m n (Some (Lui rd imm)) h = absurd (cc)
at_instr m n (Some (Auipc rd imm)) h = absurd (cc)
at_instr m n (Some (Jal rd imm)) h = absurd (cc)
at_instr m n (Some (Jalr rd rs1 imm)) h = absurd (cc)
at_instr m n (Some (Branch cond rs1 rs2 imm)) h = absurd (cc)
at_instr m n (Some (Load width rd rs1 imm)) h = absurd (cc)
at_instr m n (Some (Store width rs1 rs2 imm)) h = absurd (cc)
at_instr m n (Some (OpImm op rd rs1 imm)) h = absurd (cc)
at_instr m n (Some (Reg op rd rs1 rs2)) h = absurd (cc)
at_instr m n (Some (Fence rest)) h = absurd (cc)
at_instr m n (Some Ebreak) h = absurd (cc)
at_instr m n None h = absurd (cc)

at_word : (m : Machine) (n : ℕ) (o : Option ℕ) → asks_word o m ≡ Input n → ReadsMost (λ input. runs_word input o m) m n
at_word m n (Some w) h = at_instr m n (decoded w) h
at_word m n None h = absurd (cc)

at_ending : (m : Machine) (n : ℕ) (e : Ending) → asks_of e m ≡ Input n → ReadsMost (λ input. turn_of e input m) m n
at_ending m n Running h = at_word m n (fetched m.memory m.pc) h
at_ending m n (Exit status) h = absurd (cc)
at_ending m n (Illegal at) h = absurd (cc)
at_ending m n (Fault kind at) h = absurd (cc)

pub at_read : (m : Machine) (n : ℕ) → asks m ≡ Input n → ReadsMost (λ input. turn input m) m n
unfolding asks turn
at_read m n h = at_ending m n m.ending h

-- a machine that asks for input runs
runs_at : (m : Machine) (n : ℕ) (e : Ending) → asks_of e m ≡ Input n → e ≡ Running
runs_at m n Running h = refl
runs_at m n (Exit status) h = absurd (cc)
runs_at m n (Illegal at) h = absurd (cc)
runs_at m n (Fault kind at) h = absurd (cc)

pub runs_at_read : (m : Machine) (n : ℕ) → asks m ≡ Input n → m.ending ≡ Running
unfolding asks
runs_at_read m n h = runs_at m n m.ending h

-- where the bytes are all that the read takes, it takes these
split : (n : ℕ) (bytes rest : List ℕ) → length bytes ≤ n → IsWholeRead n bytes rest
    → (take n (bytes ++ rest) ≡ bytes) × (drop n (bytes ++ rest) ≡ rest)
split n bytes rest le (inl e) = (
  ap (λ k. take k (bytes ++ rest)) (sym e) ∙ take-append_seam bytes rest,
  ap (λ k. drop k (bytes ++ rest)) (sym e) ∙ drop-append_seam bytes rest,
)
split n bytes rest le (inr e) =
    let whole : bytes ++ rest ≡ bytes = ap (λ x. bytes ++ x) e ∙ append-nil bytes in (
      ap (λ x. take n x) whole ∙ take_all n bytes le,
      ap (λ x. drop n x) whole ∙ drop_all n bytes le ∙ sym e,
    )

-- the turn of a read that was fed all that it takes
pub fed_turn : (m : Machine) (bytes rest : List ℕ) → asks m ≡ Input (register m 12) → length bytes ≤ register m 12
    → IsWholeRead (register m 12) bytes rest → turn (bytes ++ rest) m ≡ read_turn m bytes rest
fed_turn m bytes rest h le whole =
    let parts = split (register m 12) bytes rest le whole in
    (at_read m (register m 12) h).1 (bytes ++ rest)
    ∙ ap (λ x. read_turn m x (drop (register m 12) (bytes ++ rest))) parts.0
    ∙ ap (λ x. read_turn m bytes x) parts.1

abbrev pub wait_of : ℕ → ℕ → Wait
wait_of len fed = record { len = len; fed = fed }

waits_are : (a b : Wait) (x y : FlatSeen) → x ≡ y → x.waits ≡ Some a → y.waits ≡ Some b → a ≡ b
waits_are a b x y h e f = let same : x.waits ≡ y.waits = ap (λ s. s.waits) h in cc

-- a machine that waits, seen as one that was fed some bytes
pub record SeenFed (hart m : Machine) (len fed : ℕ) (bytes : List ℕ) : Type 0 where
  pub machine : hart ≡ record m { memory = put_bytes m.memory (register m 11) bytes }
  pub len_is : len ≡ register m 12
  pub fed_is : fed ≡ length bytes

pub seen_fed : (hart m : Machine) (len fed : ℕ) (bytes : List ℕ) → seen_of (pause.Input len fed) hart ≡ fed_with m bytes
    → SeenFed hart m len fed bytes
seen_fed hart m len fed bytes h =
    let wait : wait_of len fed ≡ wait_of (register m 12) (length bytes) = waits_are _ _ _ _ h refl refl in
    record { machine = ap (λ s. s.machine) h; len_is = ap (λ w. w.len) wait; fed_is = ap (λ w. w.fed) wait }

-- the turn of a machine that waits
completes_read : (hart m : Machine) (len fed : ℕ) (bytes rest : List ℕ)
    → seen_of (pause.Input len fed) hart ≡ fed_with m bytes
    → fed ≤ len → asks m ≡ Input (register m 12) → IsWholeRead (register m 12) bytes rest
    → turn (bytes ++ rest) m ≡ quiet rest (answers fed hart)
completes_read hart m len fed bytes rest h le at whole =
    let s = seen_fed hart m len fed bytes h in
    let few : length bytes ≤ register m 12 = omega (arith, s.len_is, s.fed_is) in
    let e : quiet rest (answers fed hart) ≡ read_turn m bytes rest = rw (s.machine, s.fed_is) refl in
    fed_turn m bytes rest at few whole ∙ sym e

pub completes : (p : Pause) (hart m : Machine) (len fed : ℕ) (bytes rest : List ℕ) → p ≡ pause.Input len fed
    → IsPaused p hart → seen_of p hart ≡ fed_with m bytes
    → asks m ≡ Input (register m 12) → IsWholeRead (register m 12) bytes rest
    → turn (bytes ++ rest) m ≡ quiet rest (answers fed hart)
completes p hart m len fed bytes rest is paused seen =
    completes_read hart m len fed bytes rest (rw is at seen) (rw is at paused).1

-- what a machine that waits still takes
pub room_left : (p : Pause) (hart : Machine) (s : FlatSeen) (len fed n : ℕ) → seen_of p hart ≡ s
    → p ≡ pause.Input len fed
    → IsSomeAnd s.waits (λ wait. wait.fed + n ≤ wait.len) → fed + n ≤ len
room_left p hart s len fed n seen is room =
    let e : s.waits ≡ Some (wait_of len fed) = sym (ap (λ s. s.waits) seen) ∙ ap waits_of is in
    rw e at room

-- a machine that was fed more
abbrev pub FedOn : Machine → ℕ → List ℕ → Machine → Type 0
FedOn hart fed piece new = new ≡ record hart { memory = put_bytes hart.memory (register hart 11 + fed) piece }

-- the piece goes into the buffer
pub piece_fits : PassTogether → (p : Pause) (hart : Machine) (len fed n : ℕ) → p ≡ pause.Input len fed → IsPaused p hart
    → fed + n ≤ len
    → can_store hart.memory (register hart 11 + fed) n ≡ true
piece_fits together p hart len fed n is paused room =
    storable_part together hart.memory (register hart 11) fed n len (rw is at paused).0 room

-- the machine still waits
pub feeds_paused : KeepRanges → SameStores → (p : Pause) (hart new : Machine) (len fed : ℕ) (piece : List ℕ)
    → p ≡ pause.Input len fed
    → IsPaused p hart → fed + length piece ≤ len → FedOn hart fed piece new
    → IsPaused (pause.Input len (fed + length piece)) new
feeds_paused keep same p hart new len fed piece is paused room e =
    let was : IsPaused (pause.Input len fed) hart = rw is at paused in
    rw e (storable_after keep same hart.memory (register hart 11) len _ piece was.0, room, was.2, was.3)

-- pieces add up
adds_fed : (hart m new : Machine) (len fed : ℕ) (bytes piece : List ℕ) → SeenFed hart m len fed bytes
    → FedOn hart fed piece new → seen_of (pause.Input len (fed + length piece)) new ≡ fed_with m (bytes ++ piece)
adds_fed hart m new len fed bytes piece s e =
    let joined : new ≡ record m { memory = put_bytes m.memory (register m 11) (bytes ++ piece) } =
    e ∙ rw (s.machine, s.fed_is) (ap (λ x. record m { memory = x })
    (put_append m.memory (register m 11) bytes piece)) in
    let size : fed + length piece ≡ length (bytes ++ piece) = omega (arith, s.fed_is, length-append bytes piece) in
    rw (joined, size, s.len_is) refl

pub adds_up : (p : Pause) (hart m new : Machine) (len fed : ℕ) (bytes piece : List ℕ) → p ≡ pause.Input len fed
    → seen_of p hart ≡ fed_with m bytes → FedOn hart fed piece new
    → seen_of (pause.Input len (fed + length piece)) new ≡ fed_with m (bytes ++ piece)
adds_up p hart m new len fed bytes piece is seen e =
    adds_fed hart m new len fed bytes piece (seen_fed hart m len fed bytes (rw is at seen)) e
