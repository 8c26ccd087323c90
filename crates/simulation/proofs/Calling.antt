-- System calls on both machines.
use Rattle.std.proofs.Common.{◌≡◌, ℕ, ◌%◌, ◌^◌, ◌<◌, ◌≤◌, List, [], Bool, true, false, cond, length, refl, sym, ◌∙◌}
use Rattle.std.proofs.Common.{subst, arith, take, drop}
use Rattle.std.specs.List.{All}
use Rattle.std.proofs.lemmas.List.Elements.{All-take}
use Rattle.std.specs.Prelude.{Option, Some, None, nat_eq, ◌||◌}
use Rattle.std.proofs.lemmas.Bool.Decides.{nat_tests}
use Rattle.std.proofs.lemmas.List.{length-take}
use Rattle.elf_spec.specs.Memory.{image_end}
use Rattle.elf_spec.specs.Records.{segments_of}
use Rattle.plan_core.specs.declared.types.Plan.{Plan}
use Rattle.machine_spec.specs.declared.Ending.{Ending}
use Rattle.machine_spec.specs.declared.Ending.TheVariants.{Exit}
use Rattle.machine_spec.specs.declared.FaultKind.TheVariants.{F1}
use Rattle.machine_spec.specs.Calls.{Call, Read, Write, Exits, Brk, Unknown, call_of, bad_descriptor, no_such_call}
use Rattle.flat_spec.specs.Stores.{can_store, bytes_from, put_bytes}
use Rattle.flat_spec.specs.Machine.{Machine, register}
use Rattle.flat_spec.specs.Machine as flat_machine
use Rattle.flat_spec.specs.Calls as flat
use Rattle.flat_spec.specs.Calls.{Turn}
use Rattle.sym_value.specs.declared.Value.{Value}
use Rattle.sym_value.specs.declared.Value.TheVariants.{Num, Ptr, Ret, Mix, Part, Unset}
use Rattle.sym_cells.specs.Memory.{Memory}
use Rattle.sym_cells.specs.Buffers.{is_within, taken, filled}
use Rattle.sym_cells.specs.Region.{FillsAlike}
use Rattle.sym_spec.specs.Plain.{is_plain, is_plain_store}
use Rattle.sym_spec.specs.SymMachine.{SymMachine, value_of, ends, faults}
use Rattle.sym_spec.specs.SymCalls.{SymTurn, quiet, answers, number_of_value, pointer_in, buffer_in, reads_into}
use Rattle.sym_spec.specs.SymCalls.{reads_to, writes_known, writes_from, reads, writes, calls_with, calls_by, calls}
use Rattle.match_spec.specs.Stands.{Places, places_of, back_of, Holds}
use Rattle.match_spec.specs.Matches.{InStep}
use Rattle.match_spec.specs.Keeps.{IsNoFault}
use Rattle.simulation.specs.Ground.{Ground}
use Rattle.simulation.proofs.InMemory.{puts_memory}
use Rattle.simulation.proofs.InHeap.{puts_heap}
use Rattle.simulation.proofs.Operations.{holds_num}
use Rattle.simulation.proofs.Stepping.{gives_alike}

pub record TurnsAlike (file : List ℕ) (plan : Plan) (new : List ℕ) (t : SymTurn) (u : Turn) : Type 0 where
  pub next : InStep file plan new t.next u.next
  pub left : u.left ≡ t.left
  pub written : u.written ≡ t.written

pub quiet_alike : (file : List ℕ) (plan : Plan) (new input : List ℕ) (s : SymMachine) (m : Machine)
    → InStep file plan new s m
    → TurnsAlike file plan new (quiet input s) (flat.quiet input m)
quiet_alike file plan new input s m h = record { next = h; left = refl; written = refl }

pub ends_alike : (file : List ℕ) (plan : Plan) (new : List ℕ) (s : SymMachine) (m : Machine) (e : Ending)
    → InStep file plan new s m
    → InStep file plan new (ends e s) (flat_machine.ends e m)
ends_alike file plan new s m e h =
    record { pc = h.pc; ending = refl; registers = h.registers; memory = h.memory; heap = h.heap }

answers_alike : (file : List ℕ) (plan : Plan) (new : List ℕ) (s : SymMachine) (m : Machine) (v : ℕ) → v < 2 ^ 32
    → InStep file plan new s m
    → InStep file plan new (answers v s) (flat.answers v m)
answers_alike file plan new s m v small h =
    gives_alike file plan new s m 10 (Num v) v h (omega arith) (omega arith)
    (holds_num (places_of file plan s.at) v small)

-- the word that a register holds is the flat machine's
decided : (places : Places) (v : Value) (w n : ℕ) → Holds places v w → number_of_value v ≡ Some n → w ≡ n
decided places (Num x) w n h e = let is : x ≡ n = cc in sym h.is.stands ∙ is
decided places (Ptr b o) w n h e = absurd (cc)
decided places (Ret a) w n h e = absurd (cc)
decided places (Mix l) w n h e = absurd (cc)
decided places (Part p i) w n h e = absurd (cc)
decided places Unset w n h e = absurd (cc)

-- the start of a buffer is what the register holds
pointed : (v p : Value) → pointer_in v ≡ Some p → v ≡ p
pointed (Num x) p e = cc
pointed (Ptr b o) p e = cc
pointed (Ret a) p e = absurd (cc)
pointed (Mix l) p e = absurd (cc)
pointed (Part q i) p e = absurd (cc)
pointed Unset p e = absurd (cc)

-- a read to a buffer
read_at : (file : List ℕ) (plan : Plan) (new input : List ℕ) (s : SymMachine) (m : Machine) (p : Value) (a n : ℕ)
    → Ground file plan new → All (λ b. b < 256) input → InStep file plan new s m
    → n < 2 ^ 32 → Holds (places_of file plan s.at) p a → register m 11 ≡ a → register m 12 ≡ n
    → IsNoFault (reads_to file input n (Some p) s).next.ending
    → TurnsAlike file plan new (reads_to file input n (Some p) s) (flat.reads input m)
read_at file plan new input s m p a n g bytes h small to ea en safe =
    rw (ea, en) (at (filled (is_plain_store file) s.memory n (take n input) p) refl safe)
  where
    at : (o : Option Memory) → filled (is_plain_store file) s.memory n (take n input) p ≡ o
        → IsNoFault (reads_into input n o s).next.ending
        → TurnsAlike file plan new (reads_into input n o s)
        (cond (can_store m.memory a n) (record {
          next =
              flat.answers (length (take n input)) (record m { memory = put_bytes m.memory a (take n input) });
          written =
              [];
          left = drop n input;
        })
        (flat.quiet input (flat_machine.faults F1 m)))
    at None e safe = absurd safe
    at (Some after) e safe =
        let le : length (take n input) ≤ n = omega (arith, length-take n input) in
        let piece : All (λ b. b < 256) (take n input) = All-take (λ b. b < 256) n input bytes in
        let alike : FillsAlike (back_of file plan) s.at (image_end (segments_of file)) (is_plain file)
        (is_plain_store file) m.memory s.memory after n a (take n input) =
        g.laws.reads (back_of file plan) s.at (image_end (segments_of file)) (is_plain file)
        (is_plain_store file) m.memory s.memory after n (take n input) p a
        h.memory.laid h.memory.stands to.is piece le e in
        rw alike.there (record {
          next = answers_alike file plan new (record s { memory = after })
              (record m { memory = put_bytes m.memory a (take n input) })
              (length (take n input)) (omega (arith, le, small)) (record {
                pc = h.pc;
                ending = h.ending;
                registers = h.registers;
                memory = puts_memory file new (places_of file plan s.at) s.memory after m.memory a
                    (take n input) g.memory h.memory piece alike.stands alike.laid alike.lives alike.went;
                heap = puts_heap file plan new s.layout s.at s.memory after m.memory a (take n input) g h.memory
                    h.heap alike.lives alike.went;
              });
          left = refl;
          written = refl;
        })

-- a read of nothing
nothing_stored : (file : List ℕ) (m : Memory) → filled (is_plain_store file) m 0 [] (Num 0) ≡ Some m
unfolding filled is_within
nothing_stored file m = refl

read_none : (file : List ℕ) (plan : Plan) (new input : List ℕ) (s : SymMachine) (m : Machine)
    → InStep file plan new s m → register m 12 ≡ 0
    → TurnsAlike file plan new (reads_to file input 0 (Some (Num 0)) s) (flat.reads input m)
read_none file plan new input s m h e = rw (e, nothing_stored file s.memory) (record {
  next = answers_alike file plan new s m 0 (omega arith) h;
  left = refl;
  written = refl;
})

-- a write of the bytes of a buffer
write_at : (file : List ℕ) (plan : Plan) (new input : List ℕ) (s : SymMachine) (m : Machine) (p : Value) (a n : ℕ)
    → Ground file plan new → InStep file plan new s m
    → n < 2 ^ 32 → Holds (places_of file plan s.at) p a → register m 11 ≡ a → register m 12 ≡ n
    → IsNoFault (writes_from file input n (Some p) s).next.ending
    → TurnsAlike file plan new (writes_from file input n (Some p) s)
    (flat.writes input (bytes_from m.memory (register m 11) (register m 12)) m)
write_at file plan new input s m p a n g h small to ea en safe =
    rw (ea, en) (at (is_within (is_plain file) s.memory n p) refl safe)
  where
    known : is_within (is_plain file) s.memory n p ≡ true → (o : Option (List ℕ)) → taken s.memory n p ≡ o
        → IsNoFault (writes_known input n o s).next.ending
        → TurnsAlike file plan new (writes_known input n o s) (flat.writes input (bytes_from m.memory a n) m)
    known within (Some bytes) e safe =
        let read : bytes_from m.memory a n ≡ Some bytes =
        g.laws.writes (back_of file plan) s.at (image_end (segments_of file)) (is_plain file)
        (is_plain_store file) m.memory s.memory n p a bytes
        h.memory.laid h.memory.stands to.is within e in
        rw read (rw en (record {
          next = answers_alike file plan new s m n small h;
          left = refl;
          written = refl;
        }))
    known within None e safe = absurd safe

    at : (t : Bool) → is_within (is_plain file) s.memory n p ≡ t
        → IsNoFault (cond t (writes_known input n (taken s.memory n p) s) (quiet input (faults F1 s))).next.ending
        → TurnsAlike file plan new (cond t (writes_known input n (taken s.memory n p) s) (quiet input (faults F1 s)))
        (flat.writes input (bytes_from m.memory a n) m)
    at true e safe = known e (taken s.memory n p) refl safe
    at false e safe = absurd safe

nothing_within : (file : List ℕ) (m : Memory) → is_within (is_plain file) m 0 (Num 0) ≡ true
unfolding is_within
nothing_within file m = refl

nothing_taken : (m : Memory) → taken m 0 (Num 0) ≡ Some []
unfolding taken
nothing_taken m = refl

write_none : (file : List ℕ) (plan : Plan) (new input : List ℕ) (s : SymMachine) (m : Machine)
    → InStep file plan new s m → register m 12 ≡ 0
    → TurnsAlike file plan new (writes_from file input 0 (Some (Num 0)) s)
    (flat.writes input (bytes_from m.memory (register m 11) (register m 12)) m)
write_none file plan new input s m h e =
    rw (nothing_within file s.memory, nothing_taken s.memory, e)
    (rw e (record { next = answers_alike file plan new s m 0 (omega arith) h; left = refl; written = refl }))

-- a read, and a write, whose buffer is used only where its length isn't 0
read_alike : (file : List ℕ) (plan : Plan) (new input : List ℕ) (s : SymMachine) (m : Machine) (n : ℕ)
    → Ground file plan new → All (λ b. b < 256) input → InStep file plan new s m
    → Holds (places_of file plan s.at) (value_of s 11) (register m 11) → n < 2 ^ 32 → register m 12 ≡ n
    → IsNoFault (reads_to file input n (buffer_in n (value_of s 11)) s).next.ending
    → TurnsAlike file plan new (reads_to file input n (buffer_in n (value_of s 11)) s) (flat.reads input m)
read_alike file plan new input s m n g bytes h holds small en safe = at (nat_eq n 0) refl safe
  where
    buffer : (o : Option Value) → pointer_in (value_of s 11) ≡ o → IsNoFault (reads_to file input n o s).next.ending
        → TurnsAlike file plan new (reads_to file input n o s) (flat.reads input m)
    buffer (Some p) e safe = read_at file plan new input s m p (register m 11) n g bytes h small
        (subst (λ v. Holds (places_of file plan s.at) v (register m 11)) (pointed (value_of s 11) p e) holds) refl en
        safe
    buffer None e safe = absurd safe

    at : (t : Bool) → nat_eq n 0 ≡ t → IsNoFault
        (reads_to file input n (cond t (Some (Num 0)) (pointer_in (value_of s 11))) s).next.ending
        → TurnsAlike file plan new (reads_to file input n (cond t (Some (Num 0)) (pointer_in (value_of s 11))) s)
        (flat.reads input m)
    at true e safe = let none : n ≡ 0 = grind (arith, nat_tests) in rw none
        (read_none file plan new input s m h (en ∙ none))
    at false e safe = buffer (pointer_in (value_of s 11)) refl safe

write_alike : (file : List ℕ) (plan : Plan) (new input : List ℕ) (s : SymMachine) (m : Machine) (n : ℕ)
    → Ground file plan new → InStep file plan new s m
    → Holds (places_of file plan s.at) (value_of s 11) (register m 11) → n < 2 ^ 32 → register m 12 ≡ n
    → IsNoFault (writes_from file input n (buffer_in n (value_of s 11)) s).next.ending
    → TurnsAlike file plan new (writes_from file input n (buffer_in n (value_of s 11)) s)
    (flat.writes input (bytes_from m.memory (register m 11) (register m 12)) m)
write_alike file plan new input s m n g h holds small en safe = at (nat_eq n 0) refl safe
  where
    buffer : (o : Option Value) → pointer_in (value_of s 11) ≡ o → IsNoFault (writes_from file input n o s).next.ending
        → TurnsAlike file plan new (writes_from file input n o s)
        (flat.writes input (bytes_from m.memory (register m 11) (register m 12)) m)
    buffer (Some p) e safe = write_at file plan new input s m p (register m 11) n g h small
        (subst (λ v. Holds (places_of file plan s.at) v (register m 11)) (pointed (value_of s 11) p e) holds) refl en
        safe
    buffer None e safe = absurd safe

    at : (t : Bool) → nat_eq n 0 ≡ t → IsNoFault
        (writes_from file input n (cond t (Some (Num 0)) (pointer_in (value_of s 11))) s).next.ending
        → TurnsAlike file plan new (writes_from file input n (cond t (Some (Num 0)) (pointer_in (value_of s 11))) s)
        (flat.writes input (bytes_from m.memory (register m 11) (register m 12)) m)
    at true e safe = let none : n ≡ 0 = grind (arith, nat_tests) in rw none
        (write_none file plan new input s m h (en ∙ none))
    at false e safe = buffer (pointer_in (value_of s 11)) refl safe

reads_alike : (file : List ℕ) (plan : Plan) (new input : List ℕ) (s : SymMachine) (m : Machine) → Ground file plan new
    → All (λ b. b < 256) input → InStep file plan new s m
    → IsNoFault (reads file input (number_of_value (value_of s 12)) s).next.ending
    → TurnsAlike file plan new (reads file input (number_of_value (value_of s 12)) s) (flat.reads input m)
reads_alike file plan new input s m g bytes h safe = at (number_of_value (value_of s 12)) refl safe
  where
    at : (o : Option ℕ) → number_of_value (value_of s 12) ≡ o → IsNoFault (reads file input o s).next.ending
        → TurnsAlike file plan new (reads file input o s) (flat.reads input m)
    at (Some n) e safe =
        let count : Holds (places_of file plan s.at) (value_of s 12) (register m 12) =
        h.registers.holds 12 (omega arith) (omega arith) in
        let is : register m 12 ≡ n = decided (places_of file plan s.at) (value_of s 12) (register m 12) n count e in
        read_alike file plan new input s m n g bytes h (h.registers.holds 11 (omega arith) (omega arith))
        (subst (λ z. z < 2 ^ 32) is count.small) is safe
    at None e safe = absurd safe

writes_alike : (file : List ℕ) (plan : Plan) (new input : List ℕ) (s : SymMachine) (m : Machine)
    → Ground file plan new → InStep file plan new s m
    → IsNoFault (writes file input (number_of_value (value_of s 12)) s).next.ending
    → TurnsAlike file plan new (writes file input (number_of_value (value_of s 12)) s)
    (flat.writes input (bytes_from m.memory (register m 11) (register m 12)) m)
writes_alike file plan new input s m g h safe = at (number_of_value (value_of s 12)) refl safe
  where
    at : (o : Option ℕ) → number_of_value (value_of s 12) ≡ o → IsNoFault (writes file input o s).next.ending
        → TurnsAlike file plan new (writes file input o s)
        (flat.writes input (bytes_from m.memory (register m 11) (register m 12)) m)
    at (Some n) e safe =
        let count : Holds (places_of file plan s.at) (value_of s 12) (register m 12) =
        h.registers.holds 12 (omega arith) (omega arith) in
        let is : register m 12 ≡ n = decided (places_of file plan s.at) (value_of s 12) (register m 12) n count e in
        write_alike file plan new input s m n g h (h.registers.holds 11 (omega arith) (omega arith))
        (subst (λ z. z < 2 ^ 32) is count.small) is safe
    at None e safe = absurd safe

-- a call by its name, with its first argument
with_alike : (file : List ℕ) (plan : Plan) (new input : List ℕ) (s : SymMachine) (m : Machine) (call : Call)
    → Ground file plan new → All (λ b. b < 256) input → InStep file plan new s m
    → IsNoFault (calls_with file input call (number_of_value (value_of s 10)) s).next.ending
    → TurnsAlike file plan new (calls_with file input call (number_of_value (value_of s 10)) s)
    (flat.calls_by call input m)
with_alike file plan new input s m call g bytes h safe = at call (number_of_value (value_of s 10)) refl safe
  where
    first : (n : ℕ) → number_of_value (value_of s 10) ≡ Some n → register m 10 ≡ n
    first n e = decided (places_of file plan s.at) (value_of s 10) (register m 10) n
        (h.registers.holds 10 (omega arith) (omega arith)) e

    bad : TurnsAlike file plan new (quiet input (answers bad_descriptor s))
        (flat.quiet input (flat.answers bad_descriptor m))
    bad = quiet_alike file plan new input (answers bad_descriptor s) (flat.answers bad_descriptor m)
        (answers_alike file plan new s m bad_descriptor (omega arith) h)

    reading : (t : Bool) → IsNoFault (cond t (reads file input (number_of_value (value_of s 12)) s)
        (quiet input (answers bad_descriptor s))).next.ending
        → TurnsAlike file plan new (cond t (reads file input (number_of_value (value_of s 12)) s)
        (quiet input (answers bad_descriptor s)))
        (cond t (flat.reads input m) (flat.quiet input (flat.answers bad_descriptor m)))
    reading true safe = reads_alike file plan new input s m g bytes h safe
    reading false safe = bad

    writing : (t : Bool) → IsNoFault (cond t (writes file input (number_of_value (value_of s 12)) s)
        (quiet input (answers bad_descriptor s))).next.ending
        → TurnsAlike file plan new (cond t (writes file input (number_of_value (value_of s 12)) s)
        (quiet input (answers bad_descriptor s)))
        (cond t (flat.writes input (bytes_from m.memory (register m 11) (register m 12)) m)
        (flat.quiet input (flat.answers bad_descriptor m)))
    writing true safe = writes_alike file plan new input s m g h safe
    writing false safe = bad

    at : (call : Call) (o : Option ℕ) → number_of_value (value_of s 10) ≡ o
        → IsNoFault (calls_with file input call o s).next.ending
        → TurnsAlike file plan new (calls_with file input call o s) (flat.calls_by call input m)
    at Read (Some fd) e safe = rw (first fd e) (reading (nat_eq fd 0) safe)
    at Read None e safe = absurd safe
    at Write (Some fd) e safe = rw (first fd e) (writing (nat_eq fd 1 || nat_eq fd 2) safe)
    at Write None e safe = absurd safe
    at Exits (Some status) e safe =
        rw (first status e) (quiet_alike file plan new input (ends (Exit (status % 256)) s)
        (flat_machine.ends (Exit (status % 256)) m)
        (ends_alike file plan new s m (Exit (status % 256)) h))
    at Exits None e safe = absurd safe
    at Brk o e safe = quiet_alike file plan new input (answers 0 s) (flat.answers 0 m)
        (answers_alike file plan new s m 0 (omega arith) h)
    at Unknown o e safe = quiet_alike file plan new input (answers no_such_call s) (flat.answers no_such_call m)
        (answers_alike file plan new s m no_such_call (omega arith) h)

-- a system call
pub calls_alike : (file : List ℕ) (plan : Plan) (new input : List ℕ) (s : SymMachine) (m : Machine)
    → Ground file plan new → All (λ b. b < 256) input → InStep file plan new s m
    → IsNoFault (calls file input s).next.ending → TurnsAlike file plan new (calls file input s) (flat.calls input m)
unfolding calls flat.calls
calls_alike file plan new input s m g bytes h safe = at (number_of_value (value_of s 17)) refl safe
  where
    at : (o : Option ℕ) → number_of_value (value_of s 17) ≡ o → IsNoFault (calls_by file input o s).next.ending
        → TurnsAlike file plan new (calls_by file input o s) (flat.calls_by (call_of (register m 17)) input m)
    at (Some number) e safe =
        let same : register m 17 ≡ number = decided (places_of file plan s.at) (value_of s 17) (register m 17) number
        (h.registers.holds 17 (omega arith) (omega arith)) e in
        rw same (with_alike file plan new input s m (call_of number) g bytes h safe)
    at None e safe = absurd safe
