-- Reads that wait: pieces add up, and a read that was fed all is a turn.
use Rattle.std.proofs.Common.{◌≡◌, ℕ, ◌+◌, ◌≤◌, Bool, true, List, [], ◌∷◌, ◌++◌, length, map, take, drop, refl, ap, sym}
use Rattle.std.proofs.Common.{subst, ◌∙◌, inl, inr, append-nil, arith}
use Rattle.std.specs.Prelude.{Option, Some, None, option_and_then, IsSomeAnd, MatchOption}
use Rattle.std.proofs.Math.Seq.{take-append_seam, drop-append_seam}
use Rattle.std.proofs.lemmas.List.{take_all, drop_all, length-append}
use Rattle.rv_isa.specs.declared.Width.TheVariants.{ByteU}
use Rattle.machine_run.specs.declared.pause.Pause.TheVariants as pause
use Rattle.machine_run.specs.Machines.{Input, Wait, Seen, WaitsOn, fed_with, quiet}
use Rattle.machine_run.specs.Steps.{IsWholeRead}
use Rattle.sym_value.specs.declared.Value.{Value}
use Rattle.sym_value.specs.declared.Value.TheVariants.{Num, Ptr, Ret, Mix, Part, Unset}
use Rattle.sym_cells.specs.Memory.{Memory, life_of, stored}
use Rattle.sym_cells.specs.Buffers.{is_within, next_byte, stored_each, filled}
use Rattle.sym_spec.specs.declared.StepNote.{StepNote}
use Rattle.sym_spec.specs.Plain.{is_plain_store}
use Rattle.sym_spec.specs.SymMachine.{SymMachine, value_of}
use Rattle.sym_spec.specs.SymCalls.{answers, pointer_in, reads_into}
use Rattle.sym_spec.specs.SymNotes.{note}
use Rattle.sym_memory.specs.Held.{memory_after}
use Rattle.sym_machine.specs.Programs.{Program, turn, turned}
use Rattle.sym_machine.specs.Asks.{asks}
use Rattle.sym_machine.specs.Reached.{behind_by, put_from}
use Rattle.sym_machine.specs.Rules.{put_at, fed_machine, fed_program, sym_rules}
use Rattle.sym_machine.specs.Seen.{SymSeen, seen_by_run, seen_of, IsPaused, IsStorable, fed_on, FedMore, read_note}
use Rattle.sym_machine.proofs.Reaching.{behind_zero, shorter}
use Rattle.sym_machine.proofs.Filling.{IsStored, stored_one, next_behind, within_after}
use Rattle.sym_machine.proofs.Reading.{Reading, reading, turn_at_read, note_at_read}

-- bytes that are stored one after the other inside a buffer
pub record AreStored (o : Option Memory) (m : Memory) : Type 0 where
  pub after : Memory
  pub is : o ≡ Some after
  pub lives : map life_of after.blocks ≡ map life_of m.blocks

pub stored_all : (storable : ℕ → Bool) (m : Memory) (n k : ℕ) (at : Value) (bytes : List ℕ)
    → is_within storable m n at ≡ true → k + length bytes ≤ n
    → AreStored (stored_each storable bytes (behind_by k at) m) m
stored_all storable m n k at [] h le = record { after = m; is = refl; lives = refl }
stored_all storable m n k at (b ∷ bytes) h le =
    let s : IsStored (stored storable m ByteU (behind_by k at) (Num b)) m =
    stored_one storable m n k at (Num b) h (omega (arith, le)) in
    let within : is_within storable s.after n at ≡ true = within_after storable m s.after n at s.lives ∙ h in
    let rest : AreStored (stored_each storable bytes (behind_by (k + 1) at) s.after) s.after =
    stored_all storable s.after n (k + 1) at bytes within (omega (arith, le)) in
    record { after = rest.after; is = rw (s.is, next_behind k at) rest.is; lives = rest.lives ∙ s.lives }

-- from the start of the buffer
pub stored_front : (storable : ℕ → Bool) (m : Memory) (n : ℕ) (at : Value) (bytes : List ℕ)
    → is_within storable m n at ≡ true → length bytes ≤ n → AreStored (stored_each storable bytes at m) m
stored_front storable m n at bytes h le =
    subst (λ q. AreStored (stored_each storable bytes q m) m) (behind_zero at)
    (stored_all storable m n 0 at bytes h (omega (arith, le)))

behind_twice : (k j : ℕ) (at : Value) → behind_by j (behind_by k at) ≡ behind_by (k + j) at
behind_twice k j (Num a) = ap Num (omega arith)
behind_twice k j (Ptr b o) = ap (Ptr b) (omega arith)
behind_twice k j (Ret r) = refl
behind_twice k j (Mix l) = refl
behind_twice k j (Part s i) = refl
behind_twice k j Unset = refl

next_one : (at : Value) → next_byte at ≡ behind_by 1 at
next_one (Num a) = refl
next_one (Ptr b o) = refl
next_one (Ret r) = refl
next_one (Mix l) = refl
next_one (Part s i) = refl
next_one Unset = refl

-- two pieces, one behind the other
each_append : (storable : ℕ → Bool) (xs ys : List ℕ) (at : Value) (m : Memory)
    → stored_each storable (xs ++ ys) at m
    ≡ option_and_then (stored_each storable ys (behind_by (length xs) at)) (stored_each storable xs at m)
each_append storable [] ys at m = rw (behind_zero at) refl
each_append storable (x ∷ xs) ys at m =
    let place : behind_by (length xs) (next_byte at) ≡ behind_by (length (x ∷ xs)) at =
    ap (behind_by (length xs)) (next_one at) ∙ behind_twice 1 (length xs) at ∙ ap (λ j. behind_by j at) (omega arith) in
    by_first (stored storable m ByteU at (Num x)) place (λ k. each_append storable xs ys (next_byte at) k)
  where
    by_first : (o : Option Memory) → behind_by (length xs) (next_byte at) ≡ behind_by (length (x ∷ xs)) at
        → ((k : Memory) → stored_each storable (xs ++ ys) (next_byte at) k
        ≡ option_and_then (stored_each storable ys (behind_by (length xs) (next_byte at)))
        (stored_each storable xs (next_byte at) k))
        → option_and_then (stored_each storable (xs ++ ys) (next_byte at)) o
        ≡ option_and_then (stored_each storable ys (behind_by (length (x ∷ xs)) at))
        (option_and_then (stored_each storable xs (next_byte at)) o)
    by_first None place ih = refl
    by_first (Some k) place ih = rw (← place) (ih k)

put_append : (storable : ℕ → Bool) (n : ℕ) (at : Value) (xs ys : List ℕ) (m : Memory)
    → is_within storable (put_from storable xs at m) n at ≡ true → length xs + length ys ≤ n
    → put_from storable ys (behind_by (length xs) at) (put_from storable xs at m) ≡ put_from storable (xs ++ ys) at m
put_append storable n at xs ys m h le = by_first (stored_each storable xs at m) refl h
  where
    by_first : (o : Option Memory) → stored_each storable xs at m ≡ o
        → is_within storable (memory_after o m) n at ≡ true
        → put_from storable ys (behind_by (length xs) at) (memory_after o m) ≡ put_from storable (xs ++ ys) at m
    by_first None e h =
        let s : AreStored (stored_each storable xs at m) m = stored_front storable m n at xs h (omega (arith, le)) in
        let clash : None ≡ Some s.after = sym e ∙ s.is in
        absurd (cc)
    by_first (Some k) e h =
        let s : AreStored (stored_each storable ys (behind_by (length xs) at) k) k =
        stored_all storable k n (length xs) at ys h le in
        let whole : stored_each storable (xs ++ ys) at m ≡ Some s.after =
        each_append storable xs ys at m ∙ rw e s.is in
        rw (s.is, whole) refl

abbrev pub wait_of : ℕ → ℕ → Wait
wait_of len fed = record { len = len; fed = fed }

waits_are : {S : Type 0} (a b : Wait) (x y : Seen S) → x ≡ y → x.waits ≡ Some a → y.waits ≡ Some b → a ≡ b
waits_are a b x y h e f = let same : x.waits ≡ y.waits = ap (λ s. s.waits) h in cc

-- a machine that waits, seen as one that was fed some bytes
pub record SeenFed (hart p : Program) (len fed most : ℕ) (bytes : List ℕ) : Type 0 where
  pub program : hart ≡ fed_program p bytes
  pub len_is : len ≡ most
  pub fed_is : fed ≡ length bytes

pub seen_fed : (hart p : Program) (last : StepNote) (len fed most : ℕ) (bytes : List ℕ)
    → seen_by_run (seen_of (pause.Input len fed) last hart) ≡ fed_with sym_rules most p bytes
    → SeenFed hart p len fed most bytes
seen_fed hart p last len fed most bytes h =
    let wait : wait_of len fed ≡ wait_of most (length bytes) = waits_are _ _ _ _ h refl refl in
    record { program = ap (λ s. s.machine) h; len_is = ap (λ w. w.len) wait; fed_is = ap (λ w. w.fed) wait }

-- the start of the buffer of a machine that was fed is that from before
pub record FedStart (hart p : Program) (n : ℕ) (bytes : List ℕ) : Type 0 where
  pub start : Value
  pub starts : pointer_in (value_of p.machine 11) ≡ Some start
  pub memory : hart.machine.memory ≡ put_from (is_plain_store p.file) bytes start p.machine.memory
  pub within : is_within (is_plain_store p.file) (put_from (is_plain_store p.file) bytes start p.machine.memory) n start
      ≡ true

pub fed_start : (hart p : Program) (n : ℕ) (bytes : List ℕ) → hart ≡ fed_program p bytes
    → IsStorable hart.file hart.machine n → FedStart hart p n bytes
fed_start hart p n bytes e s =
    let here : IsStorable p.file (fed_machine p.file p.machine bytes) n =
    subst (λ (h : Program). IsStorable h.file h.machine n) e s in
    let memory : put_at (is_plain_store p.file) bytes (pointer_in (value_of p.machine 11)) p.machine.memory
    ≡ put_from (is_plain_store p.file) bytes here.start p.machine.memory = rw here.starts refl in
    record {
      start = here.start;
      starts = here.starts;
      memory = ap (λ (h : Program). h.machine.memory) e ∙ memory;
      within = rw (← memory) here.within;
    }

-- a piece goes into the buffer
pub piece_fits : (hart : Program) (len fed n : ℕ) → IsPaused (pause.Input len fed) hart → fed + n ≤ len
    → IsStorable hart.file hart.machine (fed + n)
piece_fits hart len fed n (s, below, runs) le = record {
  start = s.start;
  starts = s.starts;
  within = shorter (is_plain_store hart.file) hart.machine.memory len (fed + n) s.start s.within le;
}

-- the machine still waits, and still its buffer can be stored to
pub feeds_paused : (hart : Program) (len fed : ℕ) (piece : List ℕ) → IsPaused (pause.Input len fed) hart
    → fed + length piece ≤ len
    → IsPaused (pause.Input len (fed + length piece))
    (record hart { machine = fed_on hart.file hart.machine fed piece })
feeds_paused hart len fed piece (s, below, runs) le =
    let t : AreStored (stored_each (is_plain_store hart.file) piece (behind_by fed s.start) hart.machine.memory)
    hart.machine.memory =
    stored_all (is_plain_store hart.file) hart.machine.memory len fed s.start piece s.within le in (
      record {
        start = s.start;
        starts = s.starts;
        within = rw (s.starts, t.is)
            (within_after (is_plain_store hart.file) hart.machine.memory t.after len s.start t.lives ∙ s.within);
      },
      le,
      runs,
    )

pub adds_up : (hart p : Program) (last : StepNote) (len fed most : ℕ) (bytes piece : List ℕ)
    → IsPaused (pause.Input len fed) hart → fed + length piece ≤ len
    → seen_by_run (seen_of (pause.Input len fed) last hart) ≡ fed_with sym_rules most p bytes
    → seen_by_run
    (seen_of (pause.Input len (fed + length piece)) last
    (record hart { machine = fed_on hart.file hart.machine fed piece }))
    ≡ fed_with sym_rules most p (bytes ++ piece)
adds_up hart p last len fed most bytes piece (s, below, runs) le h =
    let f : SeenFed hart p len fed most bytes = seen_fed hart p last len fed most bytes h in
    let start : FedStart hart p len bytes = fed_start hart p len bytes f.program s in
    let size : fed + length piece ≡ length (bytes ++ piece) = omega (arith, f.fed_is, length-append bytes piece) in
    let room : length bytes + length piece ≤ len = omega (arith, f.fed_is, le) in
    let joined : put_from (is_plain_store p.file) piece (behind_by (length bytes) start.start)
    (put_from (is_plain_store p.file) bytes start.start p.machine.memory)
    ≡ put_from (is_plain_store p.file) (bytes ++ piece) start.start p.machine.memory =
    put_append (is_plain_store p.file) len start.start bytes piece p.machine.memory start.within room in
    rw (f.program, f.len_is, size, f.fed_is, start.starts, joined) refl

-- where the bytes are all that the read takes, it takes these
split : (n : ℕ) (bytes rest : List ℕ) → length bytes ≤ n → IsWholeRead n bytes rest
    → (take n (bytes ++ rest) ≡ bytes) × (drop n (bytes ++ rest) ≡ rest)
split n bytes rest le (inl e) = (
  ap (λ k. take k (bytes ++ rest)) (sym e) ∙ take-append_seam bytes rest,
  ap (λ k. drop k (bytes ++ rest)) (sym e) ∙ drop-append_seam bytes rest,
)
split n bytes rest le (inr e) =
    let whole : bytes ++ rest ≡ bytes = ap (λ x. bytes ++ x) e ∙ append-nil bytes in (
      ap (λ x. take n x) whole ∙ take_all n bytes le,
      ap (λ x. drop n x) whole ∙ drop_all n bytes le ∙ sym e,
    )

-- what a read gives
read_gives : (input : List ℕ) (n : ℕ) (memory : Memory) (m : SymMachine) (bytes rest : List ℕ)
    → take n input ≡ bytes → drop n input ≡ rest → reads_into input n (Some memory) m
    ≡ record { next = answers (length bytes) (record m { memory = memory }); written = []; left = rest }
read_gives input n memory m bytes rest e f = rw (e, f) refl

gives_fed : (p : Program) (bytes rest : List ℕ) (k : ℕ) (after : Memory)
    → put_at (is_plain_store p.file) bytes (pointer_in (value_of p.machine 11)) p.machine.memory ≡ after
    → turned p (record { next = answers k (record p.machine { memory = after }); written = []; left = rest })
    ≡ quiet rest (record (fed_program p bytes) { machine = answers k (fed_program p bytes).machine })
gives_fed p bytes rest k after e = rw e refl

hart_gives : (hart other : Program) (rest : List ℕ) (fed k : ℕ) → hart ≡ other → fed ≡ k
    → quiet rest (record other { machine = answers k other.machine })
    ≡ quiet rest (record hart { machine = answers fed hart.machine })
hart_gives hart other rest fed k e f = rw (e, f) refl

-- the turn of a machine that waits and was fed all
pub completes : (hart p : Program) (last : StepNote) (len fed most : ℕ) (bytes rest : List ℕ)
    → IsPaused (pause.Input len fed) hart
    → seen_by_run (seen_of (pause.Input len fed) last hart) ≡ fed_with sym_rules most p bytes
    → asks p ≡ Input most → IsWholeRead most bytes rest
    → turn (bytes ++ rest) p ≡ quiet rest (record hart { machine = answers fed hart.machine })
unfolding filled
completes hart p last len fed most bytes rest (s, below, runs) h at whole =
    let f : SeenFed hart p len fed most bytes = seen_fed hart p last len fed most bytes h in
    let few : length bytes ≤ most = omega (arith, below, f.fed_is, f.len_is) in
    let parts = split most bytes rest few whole in
    let r : Reading p most = reading p most at in
    let t : AreStored (stored_each (is_plain_store p.file) bytes r.start p.machine.memory) p.machine.memory =
    stored_front (is_plain_store p.file) p.machine.memory most r.start bytes r.within few in
    let filled_is : filled (is_plain_store p.file) p.machine.memory most (take most (bytes ++ rest)) r.start
    ≡ Some t.after =
    ap (λ bs. filled (is_plain_store p.file) p.machine.memory most bs r.start) parts.0 ∙ rw r.within t.is in
    let memory : put_at (is_plain_store p.file) bytes (pointer_in (value_of p.machine 11)) p.machine.memory ≡ t.after =
    rw (r.points, t.is) refl in
    turn_at_read p most (bytes ++ rest) r
    ∙ ap (λ o. turned p (reads_into (bytes ++ rest) most o p.machine)) filled_is
    ∙ ap (turned p) (read_gives (bytes ++ rest) most t.after p.machine bytes rest parts.0 parts.1)
    ∙ gives_fed p bytes rest (length bytes) t.after memory
    ∙ hart_gives hart (fed_program p bytes) rest fed (length bytes) f.program f.fed_is

pub completes_note : (hart p : Program) (last : StepNote) (len fed most : ℕ) (bytes : List ℕ)
    → seen_by_run (seen_of (pause.Input len fed) last hart) ≡ fed_with sym_rules most p bytes
    → asks p ≡ Input most → read_note hart.machine len ≡ note p.file p.plan p.machine
completes_note hart p last len fed most bytes h at =
    let f : SeenFed hart p len fed most bytes = seen_fed hart p last len fed most bytes h in
    rw (f.program, f.len_is) (sym (note_at_read p most (reading p most at)))

-- what a machine that waits still takes
pub room_left : (hart : Program) (last : StepNote) (s : SymSeen) (len fed n : ℕ)
    → seen_of (pause.Input len fed) last hart ≡ s
    → IsSomeAnd s.waits (λ wait. wait.fed + n ≤ wait.len) → fed + n ≤ len
room_left hart last s len fed n seen room =
    let e : s.waits ≡ Some (wait_of len fed) = sym (ap (λ s. s.waits) seen) in
    rw e at room

-- a machine that was fed more waits on and runs on
waits_more : (o : Option Wait) (old new : SymSeen) (piece : List ℕ) → MatchOption o ⊥ (λ wait. new ≡ record old {
  program = record old.program { machine = fed_on old.program.file old.program.machine wait.fed piece };
  waits = Some (record { len = wait.len; fed = wait.fed + length piece });
}) → WaitsOn o (length piece) new.waits × (new.program.machine.ending ≡ old.program.machine.ending)
waits_more None old new piece h = absurd h
waits_more (Some wait) old new piece h = (ap (λ s. s.waits) h, ap (λ s. s.program.machine.ending) h)

pub waits_on : (old new : SymSeen) (piece : List ℕ) → FedMore old piece new → WaitsOn old.waits (length piece) new.waits
waits_on old new piece h = (waits_more old.waits old new piece h).0

pub runs_on : (old new : SymSeen) (piece : List ℕ) → FedMore old piece new
    → new.program.machine.ending ≡ old.program.machine.ending
runs_on old new piece h = (waits_more old.waits old new piece h).1
