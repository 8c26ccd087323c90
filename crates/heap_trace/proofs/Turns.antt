-- What a turn does to the blocks is what its note says.
use Rattle.std.proofs.Common.{◌≡◌, ℕ, zero, suc, ◌*◌, ◌/◌, ◌≤◌, ◌==◌, Bool, true, false, ◌&&◌, ◌||◌, List, [], ◌∷◌}
use Rattle.std.proofs.Common.{◌++◌, length, refl, ap, sym, ◌∙◌, subst, arith, Option, Some, None}
use Rattle.std.specs.Prelude.{if◌then◌else◌, is_some, take, slice_set, MatchOption}
use Rattle.std.proofs.lemmas.List.{length-map}
use Rattle.std.proofs.lemmas.Bool.Decides.{nat_tests}
use Rattle.rv_isa.specs.declared.Instr.{Instr}
use Rattle.rv_isa.specs.declared.Instr.TheVariants.{Lui, Auipc, Jal, Jalr, Branch, Load, Store, OpImm, Reg, Fence}
use Rattle.rv_isa.specs.declared.Instr.TheVariants.{Ecall, Ebreak}
use Rattle.rv_isa.specs.declared.Width.{Width}
use Rattle.rv_isa.specs.declared.Width.TheVariants.{Byte, Half, Word, ByteU, HalfU}
use Rattle.rv_isa.specs.Addresses.{plus}
use Rattle.rv_isa.specs.Table.{decoded}
use Rattle.elf_spec.specs.declared.HeapName.{HeapName}
use Rattle.elf_spec.specs.declared.HeapName.TheVariants.{Malloc, Calloc, Realloc, Free, MallocR, CallocR, ReallocR}
use Rattle.elf_spec.specs.declared.HeapName.TheVariants.{FreeR}
use Rattle.elf_spec.specs.Code.{code_word}
use Rattle.elf_spec.specs.Memory.{image_end}
use Rattle.elf_spec.specs.Records.{segments_of}
use Rattle.machine_spec.specs.declared.Ending.{Ending}
use Rattle.machine_spec.specs.declared.Ending.TheVariants.{Running, Exit, Illegal, Fault}
use Rattle.machine_spec.specs.declared.FaultKind.TheVariants.{F1, F3}
use Rattle.machine_spec.specs.Calls.{Call, Read, Write, Exits, Brk, Unknown, call_of, bad_descriptor}
use Rattle.machine_spec.specs.Widths.{size_of}
use Rattle.plan_core.specs.declared.types.Plan.{Plan}
use Rattle.place_spec.specs.Layout.{granules_for}
use Rattle.place_spec.specs.Place.{Placed}
use Rattle.place_spec.specs.Release.{moved}
use Rattle.heap_spec.specs.Requests.{placed_for}
use Rattle.sym_value.specs.declared.Value.{Value}
use Rattle.sym_value.specs.declared.Value.TheVariants.{Num, Ptr, Ret, Mix, Part, Unset}
use Rattle.sym_value.specs.Places.{is_living}
use Rattle.sym_value.specs.Decisions.{decide}
use Rattle.sym_cells.specs.Memory.{Memory, loaded, stored, granted, copied}
use Rattle.sym_cells.specs.Buffers.{is_within, taken, filled}
use Rattle.sym_spec.specs.declared.BlockAccess.{BlockAccess}
use Rattle.sym_spec.specs.declared.StepNote.{StepNote}
use Rattle.sym_spec.specs.Plain.{is_plain, is_plain_store}
use Rattle.sym_spec.specs.SymMachine.{SymMachine, lives_of, value_of, faults, loads, stores, links, jumps, goes_back}
use Rattle.sym_spec.specs.SymCalls.{SymTurn, quiet, answers, number_of_value, pointer_in, buffer_in, reads_into}
use Rattle.sym_spec.specs.SymCalls.{reads_to, writes_known, writes_from, reads, writes, calls_with, calls_by, calls}
use Rattle.sym_spec.specs.SymTurns.{Here, Nothing, Heap, Pair, Code, here, address_of, jumps_to, branches, acts}
use Rattle.sym_spec.specs.SymTurns.{executes, runs_here, turn_of, turn}
use Rattle.sym_spec.specs.SymNotes.{empty_note, access_to, uses_buffer, buffer_access, call_access, access_of}
use Rattle.sym_spec.specs.SymNotes.{instr_note, heap_note, here_note, is_fault, ending_note, note}
use Rattle.sym_spec.specs.HeapActions.{Outcome, Action, granule_in, grants_placed, grants, moves_placed, moves}
use Rattle.sym_spec.specs.HeapActions.{releases, is_front, mallocs, callocs, reallocs, frees, function, outcome}
use Rattle.sym_spec.specs.HeapActions.{answered, returns, returns_with, serves}
use Rattle.heap_trace.proofs.Blocks.{lives, IsAlive, got, loaded_alive, stored_alive, within_alive, stored_lives}
use Rattle.heap_trace.proofs.Blocks.{filled_lives, copied_lives, granted_lives, dropped_lives, living_alive}

abbrev pub alive_in : SymMachine → List Bool
alive_in m = lives m.memory

-- the blocks after a grant and after a release
abbrev pub with_grant : Option ℕ → List Bool → List Bool
with_grant None ls = ls
with_grant (Some b) ls = ls ++ true ∷ []

abbrev pub with_release : Option ℕ → List Bool → List Bool
with_release None ls = ls
with_release (Some b) ls = slice_set ls b false

-- an access has a width, and is to a living block
abbrev pub Accesses : Option BlockAccess → List Bool → Type 0
Accesses a ls = MatchOption a (Unit {0}) (λ a. (1 ≤ a.width) × IsAlive ls a.block)

-- a turn with this note led from these blocks to those
pub record Did (v : StepNote) (before after : List Bool) : Type 0 where
  pub blocks : after ≡ with_release v.release (with_grant v.grant before)
  pub grant : MatchOption v.grant (Unit {0}) (λ b. b ≡ length before)
  pub release : MatchOption v.release (Unit {0}) (IsAlive (with_grant v.grant before))
  pub access : Accesses v.access after

-- one way or the other
either : (b : Bool) (x y m : SymMachine) → alive_in x ≡ alive_in m → alive_in y ≡ alive_in m
    → alive_in (if b then x else y) ≡ alive_in m
either true x y m e f = e
either false x y m e f = f

either_turn : (b : Bool) (x y : SymTurn) (m : SymMachine) → alive_in x.next ≡ alive_in m → alive_in y.next ≡ alive_in m
    → alive_in (if b then x else y).next ≡ alive_in m
either_turn true x y m e f = e
either_turn false x y m e f = f

-- instructions
links_lives : (plan : Plan) (r : ℕ) (m : SymMachine) → alive_in (links plan r m) ≡ alive_in m
links_lives plan r m = either (r == 1) _ _ m refl refl

jumps_lives : (file : List ℕ) (plan : Plan) (r target : ℕ) (m : SymMachine)
    → alive_in (jumps file plan r target m) ≡ alive_in m
jumps_lives file plan r target m =
    either (is_some (code_word file target)) (record (links plan r m) { pc = target }) (faults F3 m) m
    (links_lives plan r m) refl

jumps_to_lives : (file : List ℕ) (plan : Plan) (rd imm : ℕ) (v : Value) (m : SymMachine)
    → alive_in (jumps_to file plan rd imm v m) ≡ alive_in m
jumps_to_lives file plan rd imm (Num v) m = jumps_lives file plan rd (plus v imm / 2 * 2) m
jumps_to_lives file plan rd imm (Ret back) m =
    either ((rd == 0) && (imm == 0)) (goes_back file plan back m) (faults F3 m) m refl refl
jumps_to_lives file plan rd imm (Ptr b o) m = refl
jumps_to_lives file plan rd imm (Mix l) m = refl
jumps_to_lives file plan rd imm (Part s i) m = refl
jumps_to_lives file plan rd imm Unset m = refl

branches_lives : (file : List ℕ) (decided : Option Bool) (target : ℕ) (m : SymMachine)
    → alive_in (branches file decided target m) ≡ alive_in m
branches_lives file (Some true) target m =
    either (is_some (code_word file target)) (record m { pc = target }) (faults F3 m) m refl refl
branches_lives file (Some false) target m = refl
branches_lives file None target m = refl

loads_lives : (r : ℕ) (v : Option Value) (m : SymMachine) → alive_in (loads r v m) ≡ alive_in m
loads_lives r (Some v) m = refl
loads_lives r None m = refl

stores_lives : (r : Option Memory) (m : SymMachine) → ((n : Memory) → r ≡ Some n → lives n ≡ alive_in m)
    → alive_in (stores r m) ≡ alive_in m
stores_lives (Some n) m h = h n refl
stores_lives None m h = refl

acts_lives : (file : List ℕ) (plan : Plan) (i : Instr) (m : SymMachine) → alive_in (acts file plan i m) ≡ alive_in m
unfolding acts
acts_lives file plan (Lui rd imm) m = refl
acts_lives file plan (Auipc rd imm) m = refl
acts_lives file plan (Jal rd imm) m = jumps_lives file plan rd (plus m.pc imm) m
acts_lives file plan (Jalr rd rs1 imm) m = jumps_to_lives file plan rd imm (value_of m rs1) m
acts_lives file plan (Branch cond rs1 rs2 imm) m =
    branches_lives file (decide (lives_of file m) cond (value_of m rs1) (value_of m rs2)) (plus m.pc imm) m
acts_lives file plan (Load width rd rs1 imm) m =
    loads_lives rd (loaded (is_plain file) m.memory width (address_of file m rs1 imm)) m
acts_lives file plan (Store width rs1 rs2 imm) m =
    stores_lives (stored (is_plain_store file) m.memory width (address_of file m rs1 imm) (value_of m rs2)) m
    (λ n is. stored_lives (is_plain_store file) m.memory n width (address_of file m rs1 imm) (value_of m rs2) is)
acts_lives file plan (OpImm op rd rs1 imm) m = refl
acts_lives file plan (Reg op rd rs1 rs2) m = refl
acts_lives file plan (Fence rest) m = refl
acts_lives file plan Ecall m = refl
acts_lives file plan Ebreak m = refl

-- system calls
reads_to_lives : (file input : List ℕ) (n : ℕ) (p : Option Value) (m : SymMachine)
    → alive_in (reads_to file input n p m).next ≡ alive_in m
reads_to_lives file input n None m = refl
reads_to_lives file input n (Some p) m = by_memory (filled (is_plain_store file) m.memory n (take n input) p) refl
  where
    by_memory : (r : Option Memory) → filled (is_plain_store file) m.memory n (take n input) p ≡ r
        → alive_in (reads_into input n r m).next ≡ alive_in m
    by_memory None is = refl
    by_memory (Some k) is = (filled_lives (is_plain_store file) m.memory k n (take n input) p is).0

reads_lives : (file input : List ℕ) (n : Option ℕ) (m : SymMachine) → alive_in (reads file input n m).next ≡ alive_in m
reads_lives file input (Some n) m = reads_to_lives file input n (buffer_in n (value_of m 11)) m
reads_lives file input None m = refl

writes_known_lives : (input : List ℕ) (n : ℕ) (bytes : Option (List ℕ)) (m : SymMachine)
    → alive_in (writes_known input n bytes m).next ≡ alive_in m
writes_known_lives input n (Some bytes) m = refl
writes_known_lives input n None m = refl

writes_from_lives : (file input : List ℕ) (n : ℕ) (p : Option Value) (m : SymMachine)
    → alive_in (writes_from file input n p m).next ≡ alive_in m
writes_from_lives file input n (Some p) m =
    either_turn (is_within (is_plain file) m.memory n p) (writes_known input n (taken m.memory n p) m)
    (quiet input (faults F1 m)) m (writes_known_lives input n (taken m.memory n p) m) refl
writes_from_lives file input n None m = refl

writes_lives : (file input : List ℕ) (n : Option ℕ) (m : SymMachine)
    → alive_in (writes file input n m).next ≡ alive_in m
writes_lives file input (Some n) m = writes_from_lives file input n (buffer_in n (value_of m 11)) m
writes_lives file input None m = refl

calls_with_lives : (file input : List ℕ) (call : Call) (first : Option ℕ) (m : SymMachine)
    → alive_in (calls_with file input call first m).next ≡ alive_in m
calls_with_lives file input Read (Some fd) m =
    either_turn (fd == 0) (reads file input (number_of_value (value_of m 12)) m)
    (quiet input (answers bad_descriptor m)) m
    (reads_lives file input (number_of_value (value_of m 12)) m) refl
calls_with_lives file input Write (Some fd) m =
    either_turn ((fd == 1) || (fd == 2)) (writes file input (number_of_value (value_of m 12)) m)
    (quiet input (answers bad_descriptor m)) m (writes_lives file input (number_of_value (value_of m 12)) m) refl
calls_with_lives file input Exits (Some status) m = refl
calls_with_lives file input Brk (Some first) m = refl
calls_with_lives file input Unknown (Some first) m = refl
calls_with_lives file input Read None m = refl
calls_with_lives file input Write None m = refl
calls_with_lives file input Exits None m = refl
calls_with_lives file input Brk None m = refl
calls_with_lives file input Unknown None m = refl

calls_lives : (file input : List ℕ) (m : SymMachine) → alive_in (calls file input m).next ≡ alive_in m
unfolding calls
calls_lives file input m = by_number (number_of_value (value_of m 17))
  where
    by_number : (n : Option ℕ) → alive_in (calls_by file input n m).next ≡ alive_in m
    by_number (Some number) = calls_with_lives file input (call_of number) (number_of_value (value_of m 10)) m
    by_number None = refl

executes_lives : (file : List ℕ) (plan : Plan) (input : List ℕ) (i : Option Instr) (m : SymMachine)
    → alive_in (executes file plan input i m).next ≡ alive_in m
executes_lives file plan input (Some (Lui rd imm)) m = acts_lives file plan (Lui rd imm) m
executes_lives file plan input (Some (Auipc rd imm)) m = acts_lives file plan (Auipc rd imm) m
executes_lives file plan input (Some (Jal rd imm)) m = acts_lives file plan (Jal rd imm) m
executes_lives file plan input (Some (Jalr rd rs1 imm)) m = acts_lives file plan (Jalr rd rs1 imm) m
executes_lives file plan input (Some (Branch cond rs1 rs2 imm)) m = acts_lives file plan (Branch cond rs1 rs2 imm) m
executes_lives file plan input (Some (Load width rd rs1 imm)) m = acts_lives file plan (Load width rd rs1 imm) m
executes_lives file plan input (Some (Store width rs1 rs2 imm)) m = acts_lives file plan (Store width rs1 rs2 imm) m
executes_lives file plan input (Some (OpImm op rd rs1 imm)) m = acts_lives file plan (OpImm op rd rs1 imm) m
executes_lives file plan input (Some (Reg op rd rs1 rs2)) m = acts_lives file plan (Reg op rd rs1 rs2) m
executes_lives file plan input (Some (Fence rest)) m = acts_lives file plan (Fence rest) m
executes_lives file plan input (Some Ecall) m = calls_lives file input m
executes_lives file plan input (Some Ebreak) m = acts_lives file plan Ebreak m
executes_lives file plan input None m = refl

-- a turn that doesn't fault
abbrev Goes : SymTurn → Type 0
Goes t = is_fault t.next.ending ≡ false

-- widths
size_some : (width : Width) → 1 ≤ size_of width
size_some Byte = omega arith
size_some Half = omega arith
size_some Word = omega arith
size_some ByteU = omega arith
size_some HalfU = omega arith

-- loads and stores that don't fault are to living blocks
load_access : (file : List ℕ) (r : ℕ) (m : SymMachine) (width : Width) (p : Value)
    → is_fault (loads r (loaded (is_plain file) m.memory width p) m).ending ≡ false
    → Accesses (access_to p (size_of width)) (alive_in m)
load_access file r m width (Ptr b o) h = by_value (loaded (is_plain file) m.memory width (Ptr b o)) refl h
  where
    by_value : (v : Option Value) → loaded (is_plain file) m.memory width (Ptr b o) ≡ v
        → is_fault (loads r v m).ending ≡ false → (1 ≤ size_of width) × IsAlive (alive_in m) b
    by_value (Some v) is h = (size_some width, loaded_alive (is_plain file) m.memory width b o v is)
    by_value None is h = absurd cc
load_access file r m width (Num a) h = tt
load_access file r m width (Ret a) h = tt
load_access file r m width (Mix l) h = tt
load_access file r m width (Part s i) h = tt
load_access file r m width Unset h = tt

store_access : (file : List ℕ) (m : SymMachine) (width : Width) (p v : Value)
    → is_fault (stores (stored (is_plain_store file) m.memory width p v) m).ending ≡ false
    → Accesses (access_to p (size_of width)) (alive_in m)
store_access file m width (Ptr b o) v h = by_memory (stored (is_plain_store file) m.memory width (Ptr b o) v) refl h
  where
    by_memory : (r : Option Memory) → stored (is_plain_store file) m.memory width (Ptr b o) v ≡ r
        → is_fault (stores r m).ending ≡ false → (1 ≤ size_of width) × IsAlive (alive_in m) b
    by_memory (Some n) is h = (size_some width, stored_alive (is_plain_store file) m.memory n width b o v is)
    by_memory None is h = absurd cc
store_access file m width (Num a) v h = tt
store_access file m width (Ret a) v h = tt
store_access file m width (Mix l) v h = tt
store_access file m width (Part s i) v h = tt
store_access file m width Unset v h = tt

-- buffers of system calls that don't fault are in living blocks
buffer_alive : (m : SymMachine) (n : ℕ) (p : Value) → (n == 0) ≡ false
    → ((b o : ℕ) → p ≡ Ptr b o → IsAlive (alive_in m) b) → Accesses (access_to p n) (alive_in m)
buffer_alive m n (Ptr b o) some h = (above some, h b o refl)
  where
    above : (n == 0) ≡ false → 1 ≤ n
    above some = grind (arith, nat_tests)
buffer_alive m n (Num a) some h = tt
buffer_alive m n (Ret a) some h = tt
buffer_alive m n (Mix l) some h = tt
buffer_alive m n (Part s i) some h = tt
buffer_alive m n Unset some h = tt

read_alive : (file input : List ℕ) (n : ℕ) (m : SymMachine) (b o : ℕ)
    → is_fault (reads_into input n (filled (is_plain_store file) m.memory n (take n input)
    (Ptr b o)) m).next.ending ≡ false
    → IsAlive (alive_in m) b
read_alive file input n m b o h = by_memory (filled (is_plain_store file) m.memory n (take n input) (Ptr b o)) refl h
  where
    by_memory : (r : Option Memory) → filled (is_plain_store file) m.memory n (take n input) (Ptr b o) ≡ r
        → is_fault (reads_into input n r m).next.ending ≡ false → IsAlive (alive_in m) b
    by_memory (Some k) is h =
        within_alive (is_plain_store file) m.memory n b o
        (filled_lives (is_plain_store file) m.memory k n (take n input) (Ptr b o) is).1
    by_memory None is h = absurd cc

write_alive : (file input : List ℕ) (n : ℕ) (m : SymMachine) (b o : ℕ)
    → is_fault (writes_from file input n (Some (Ptr b o)) m).next.ending ≡ false → IsAlive (alive_in m) b
write_alive file input n m b o h = by_test (is_within (is_plain file) m.memory n (Ptr b o)) refl h
  where
    by_test : (t : Bool) → is_within (is_plain file) m.memory n (Ptr b o) ≡ t
        → is_fault (if t then writes_known input n (taken m.memory n (Ptr b o)) m else quiet input
        (faults F1 m)).next.ending
        ≡ false
        → IsAlive (alive_in m) b
    by_test true is h = within_alive (is_plain file) m.memory n b o is
    by_test false is h = absurd cc

read_access : (file input : List ℕ) (n : Option ℕ) (m : SymMachine) → Goes (reads file input n m)
    → Accesses (buffer_access n m) (alive_in m)
read_access file input None m h = tt
read_access file input (Some n) m h = by_test (n == 0) refl h
  where
    by_test : (t : Bool) → (n == 0) ≡ t
        → Goes (reads_to file input n (if t then Some (Num 0) else pointer_in (value_of m 11)) m)
        → Accesses (if t then None else access_to (value_of m 11) n) (alive_in m)
    by_test true none h = tt
    by_test false some h = buffer_alive m n (value_of m 11) some
        (λ b o is. read_alive file input n m b o (rw is at h))

write_access : (file input : List ℕ) (n : Option ℕ) (m : SymMachine) → Goes (writes file input n m)
    → Accesses (buffer_access n m) (alive_in m)
write_access file input None m h = tt
write_access file input (Some n) m h = by_test (n == 0) refl h
  where
    by_test : (t : Bool) → (n == 0) ≡ t
        → Goes (writes_from file input n (if t then Some (Num 0) else pointer_in (value_of m 11)) m)
        → Accesses (if t then None else access_to (value_of m 11) n) (alive_in m)
    by_test true none h = tt
    by_test false some h = buffer_alive m n (value_of m 11) some
        (λ b o is. write_alive file input n m b o (rw is at h))

with_access : (file input : List ℕ) (call : Call) (first : Option ℕ) (m : SymMachine)
    → Goes (calls_with file input call first m)
    → Accesses (if uses_buffer call first then buffer_access (number_of_value (value_of m 12)) m else None) (alive_in m)
with_access file input Read (Some fd) m h = by_test (fd == 0) h
  where
    by_test : (t : Bool)
        → Goes (if t then reads file input (number_of_value (value_of m 12)) m
        else quiet input (answers bad_descriptor m))
        → Accesses (if t then buffer_access (number_of_value (value_of m 12)) m else None) (alive_in m)
    by_test true h = read_access file input (number_of_value (value_of m 12)) m h
    by_test false h = tt
with_access file input Write (Some fd) m h = by_test ((fd == 1) || (fd == 2)) h
  where
    by_test : (t : Bool)
        → Goes (if t then writes file input (number_of_value (value_of m 12)) m
        else quiet input (answers bad_descriptor m))
        → Accesses (if t then buffer_access (number_of_value (value_of m 12)) m else None) (alive_in m)
    by_test true h = write_access file input (number_of_value (value_of m 12)) m h
    by_test false h = tt
with_access file input Exits (Some status) m h = tt
with_access file input Brk (Some first) m h = tt
with_access file input Unknown (Some first) m h = tt
with_access file input Read None m h = tt
with_access file input Write None m h = tt
with_access file input Exits None m h = tt
with_access file input Brk None m h = tt
with_access file input Unknown None m h = tt

ecall_access : (file input : List ℕ) (m : SymMachine) → Goes (calls file input m)
    → Accesses (call_access (number_of_value (value_of m 17)) m) (alive_in m)
unfolding calls
ecall_access file input m h = by_number (number_of_value (value_of m 17)) h
  where
    by_number : (n : Option ℕ) → Goes (calls_by file input n m) → Accesses (call_access n m) (alive_in m)
    by_number (Some number) h = with_access file input (call_of number) (number_of_value (value_of m 10)) m h
    by_number None h = tt

executes_access : (file : List ℕ) (plan : Plan) (i : Instr) (m : SymMachine) → Goes (executes file plan [] (Some i) m)
    → Accesses (access_of file i m) (alive_in m)
unfolding acts
executes_access file plan (Lui rd imm) m h = tt
executes_access file plan (Auipc rd imm) m h = tt
executes_access file plan (Jal rd imm) m h = tt
executes_access file plan (Jalr rd rs1 imm) m h = tt
executes_access file plan (Branch cond rs1 rs2 imm) m h = tt
executes_access file plan (Load width rd rs1 imm) m h = load_access file rd m width (address_of file m rs1 imm) h
executes_access file plan (Store width rs1 rs2 imm) m h =
    store_access file m width (address_of file m rs1 imm) (value_of m rs2) h
executes_access file plan (OpImm op rd rs1 imm) m h = tt
executes_access file plan (Reg op rd rs1 rs2) m h = tt
executes_access file plan (Fence rest) m h = tt
executes_access file plan Ecall m h = ecall_access file [] m h
executes_access file plan Ebreak m h = tt

-- a turn of an instruction names no block
access_did : (call back : Option ℕ) (a : Option BlockAccess) (before after : List Bool) → after ≡ before
    → Accesses a before
    → Did (record empty_note { call = call; back = back; access = a }) before after
access_did call back a before after same h = record { blocks = same; grant = tt; release = tt; access = rw same h }

did_nothing : (before after : List Bool) → after ≡ before → Did empty_note before after
did_nothing before after same = record { blocks = same; grant = tt; release = tt; access = tt }

instr_did : (file : List ℕ) (plan : Plan) (input : List ℕ) (i : Option Instr) (m : SymMachine)
    → Did (if is_fault (executes file plan [] i m).next.ending then empty_note else instr_note file i m)
    (alive_in m) (alive_in (executes file plan input i m).next)
instr_did file plan input i m = by_fault i (is_fault (executes file plan [] i m).next.ending) refl
  where
    by_fault : (i : Option Instr) (t : Bool) → is_fault (executes file plan [] i m).next.ending ≡ t
        → Did (if t then empty_note else instr_note file i m) (alive_in m) (alive_in
        (executes file plan input i m).next)
    by_fault i true h = did_nothing _ _ (executes_lives file plan input i m)
    by_fault None false h = did_nothing _ _ refl
    by_fault (Some i) false h =
        access_did _ _ (access_of file i m) _ _ (executes_lives file plan input (Some i) m)
        (executes_access file plan i m h)

-- heap functions: an outcome names the blocks that it granted and released
pub record Had (o : Outcome) (m : SymMachine) : Type 0 where
  pub blocks : alive_in o.machine ≡ with_release o.release (with_grant o.grant (alive_in m))
  pub grant : MatchOption o.grant (Unit {0}) (λ b. b ≡ length (alive_in m))
  pub release : MatchOption o.release (Unit {0}) (IsAlive (with_grant o.grant (alive_in m)))
  pub ending : o.machine.ending ≡ m.ending

names_are : (m : SymMachine) → length m.memory.blocks ≡ length (alive_in m)
names_are m = sym (length-map m.memory.blocks (λ k. k.lives))

grants_had : (file : List ℕ) (plan : Plan) (size : ℕ) (m : SymMachine) → Had (grants file plan size m) m
grants_had file plan size m = by_place (placed_for plan.rows plan.area m.layout size m.bits)
  where
    by_place : (p : Option Placed) → Had (grants_placed file plan (granules_for size) p m) m
    by_place (Some p) = record {
      blocks = granted_lives (granules_for size) m.memory;
      grant = names_are m;
      release = tt;
      ending = refl;
    }
    by_place None = record { blocks = refl; grant = tt; release = tt; ending = refl }

alive_push : (ls : List Bool) (b : ℕ) (l : Bool) → IsAlive ls b → IsAlive (ls ++ l ∷ []) b
alive_push [] b l h = absurd cc
alive_push (k ∷ ls) zero l h = h
alive_push (k ∷ ls) (suc b) l h = alive_push ls b l h

moves_had : (file : List ℕ) (plan : Plan) (b size : ℕ) (m : SymMachine) → IsAlive (alive_in m) b
    → Had (moves file plan b size m) m
moves_had file plan b size m h =
    by_place (moved plan.rows plan.area m.layout (granule_in file plan b m) (granules_for size) m.bits)
  where
    by_place : (p : Option Placed) → Had (moves_placed file plan b (granules_for size) p m) m
    by_place (Some p) = record {
      blocks = dropped_lives b (copied b (length m.memory.blocks) (granted (granules_for size) m.memory))
          ∙ ap (λ ls. slice_set ls b false)
          (copied_lives b (length m.memory.blocks) (granted (granules_for size) m.memory)
          ∙ granted_lives (granules_for size) m.memory);
      grant = names_are m;
      release = alive_push (alive_in m) b true h;
      ending = refl;
    }
    by_place None = record { blocks = refl; grant = tt; release = tt; ending = refl }

abbrev ActsSo : Action → Type 0
ActsSo action =
    (file : List ℕ) (plan : Plan) (m : SymMachine) (u v : Value) (o : Outcome) → action file plan m u v ≡ Some o
    → Had o m

had_of : (n o : Outcome) (m : SymMachine) → Some n ≡ Some o → Had n m → Had o m
had_of n o m e h = subst (λ (x : Outcome). Had x m) (got n o e) h

had_where : (t : Bool) (n o : Outcome) (m : SymMachine) → (if t then Some n else None) ≡ Some o → (t ≡ true → Had n m)
    → Had o m
had_where true n o m e h = had_of n o m e (h refl)
had_where false n o m e h = absurd cc

mallocs_so : ActsSo mallocs
mallocs_so file plan m (Num size) v o e = had_of (grants file plan size m) o m e (grants_had file plan size m)
mallocs_so file plan m u v o e = absurd cc

callocs_so : ActsSo callocs
callocs_so file plan m (Num n) (Num size) o e =
    had_of (grants file plan (n * size) m) o m e (grants_had file plan (n * size) m)
callocs_so file plan m u v o e = absurd cc

front_alive : (file : List ℕ) (b o : ℕ) (m : SymMachine) → is_front file b o m ≡ true → IsAlive (alive_in m) b
front_alive file b o m h =
    living_alive (image_end (segments_of file)) m.memory b (second (o == 0) (is_living (lives_of file m) b) h)
  where
    second : (t u : Bool) → (t && u) ≡ true → u ≡ true
    second true u h = h
    second false u h = absurd cc

reallocs_so : ActsSo reallocs
reallocs_so file plan m (Num p) (Num size) o e =
    had_where (p == 0) (grants file plan size m) o m e (λ h. grants_had file plan size m)
reallocs_so file plan m (Ptr b i) (Num size) o e =
    had_where (is_front file b i m) (moves file plan b size m) o m e
    (λ h. moves_had file plan b size m (front_alive file b i m h))
reallocs_so file plan m u v o e = absurd cc

frees_so : ActsSo frees
frees_so file plan m (Num p) v o e =
    had_where (p == 0) _ o m e (λ h. record { blocks = refl; grant = tt; release = tt; ending = refl })
frees_so file plan m (Ptr b i) v o e =
    had_where (is_front file b i m) (releases file plan b m) o m e (λ h. record {
      blocks = dropped_lives b m.memory;
      grant = tt;
      release = front_alive file b i m h;
      ending = refl;
    })
frees_so file plan m u v o e = absurd cc

function_so : (name : HeapName) → ActsSo (function name).action
function_so Malloc = mallocs_so
function_so Calloc = callocs_so
function_so Realloc = reallocs_so
function_so Free = frees_so
function_so MallocR = mallocs_so
function_so CallocR = callocs_so
function_so ReallocR = reallocs_so
function_so FreeR = frees_so

-- the way back of a heap function
goes_had : (o : Outcome) (m : SymMachine) (back : Option ℕ) (after : SymMachine) → Had o m
    → alive_in after ≡ alive_in o.machine
    → Did (record empty_note { back = back; grant = o.grant; release = o.release }) (alive_in m) (alive_in after)
goes_had o m back after h same =
    record { blocks = same ∙ h.blocks; grant = h.grant; release = h.release; access = tt }

returns_did : (file : List ℕ) (plan : Plan) (v : Value) (o : Outcome) (m : SymMachine) → m.ending ≡ Running → Had o m
    → Did (if is_fault (returns file plan v (answered o) m).ending then empty_note else
    heap_note (Some o) m) (alive_in m) (alive_in (returns file plan v (answered o) m))
returns_did file plan (Ret back) o m runs h =
    let going : is_fault o.machine.ending ≡ false = ap is_fault (h.ending ∙ runs) in
    rw going (goes_had o m _ (goes_back file plan back (answered o)) h refl)
returns_did file plan (Num a) o m runs h = by_test (is_some (code_word file a))
  where
    by_test : (t : Bool)
        → Did (if is_fault (if t then record (answered o) { pc = a } else faults F3 m).ending then empty_note else
        heap_note (Some o) m) (alive_in m) (alive_in (if t then record (answered o) { pc = a } else faults F3 m))
    by_test true =
        let going : is_fault o.machine.ending ≡ false = ap is_fault (h.ending ∙ runs) in
        rw going (goes_had o m _ (record (answered o) { pc = a }) h refl)
    by_test false = did_nothing _ _ refl
returns_did file plan (Ptr b i) o m runs h = did_nothing _ _ refl
returns_did file plan (Mix l) o m runs h = did_nothing _ _ refl
returns_did file plan (Part s i) o m runs h = did_nothing _ _ refl
returns_did file plan Unset o m runs h = did_nothing _ _ refl

serves_did : (file : List ℕ) (plan : Plan) (name : HeapName) (m : SymMachine) → m.ending ≡ Running
    → Did (if is_fault (serves file plan name m).ending then empty_note else heap_note (outcome file plan name m) m)
    (alive_in m) (alive_in (serves file plan name m))
unfolding serves outcome
serves_did file plan name m runs = by_outcome (outcome file plan name m) refl
  where
    by_outcome : (o : Option Outcome) → outcome file plan name m ≡ o
        → Did (if is_fault (returns_with file plan o m).ending then empty_note else heap_note o m)
        (alive_in m) (alive_in (returns_with file plan o m))
    by_outcome None e = did_nothing _ _ refl
    by_outcome (Some o) e = returns_did file plan (value_of m 1) o m runs (function_so name file plan m _ _ o e)

-- turns
here_did : (file : List ℕ) (plan : Plan) (input : List ℕ) (h : Here) (m : SymMachine) → m.ending ≡ Running
    → Did (if is_fault (runs_here file plan [] h m).next.ending then empty_note else here_note file plan h m)
    (alive_in m) (alive_in (runs_here file plan input h m).next)
here_did file plan input Nothing m runs = did_nothing _ _ refl
here_did file plan input (Heap name) m runs = serves_did file plan name m runs
here_did file plan input (Pair s) m runs = by_fault (is_fault m.ending)
  where
    by_fault : (t : Bool)
        → Did (if t then empty_note else record empty_note { call = Some m.pc }) (alive_in m) (alive_in m)
    by_fault true = did_nothing _ _ refl
    by_fault false = access_did (Some m.pc) None None _ _ refl tt
here_did file plan input (Code w) m runs = instr_did file plan input (decoded w) m

-- a running machine does what stands at its pc
running : (file : List ℕ) (plan : Plan) (input : List ℕ) (m : SymMachine) → m.ending ≡ Running
    → turn file plan input m ≡ runs_here file plan input (here file m.pc) m
unfolding turn
running file plan input m runs = ap (λ e. turn_of file plan e input m) runs

-- what a turn does to the blocks is what its note says
pub turn_did : (file : List ℕ) (plan : Plan) (input : List ℕ) (m : SymMachine)
    → Did (note file plan m) (alive_in m) (alive_in (turn file plan input m).next)
unfolding turn note
turn_did file plan input m = by_ending m.ending refl
  where
    by_ending : (e : Ending) → m.ending ≡ e → Did (ending_note file plan e m) (alive_in m)
        (alive_in (turn_of file plan e input m).next)
    by_ending Running runs =
        subst (λ (t : SymTurn). Did (if is_fault t.next.ending then empty_note else here_note file plan
        (here file m.pc) m)
        (alive_in m) (alive_in (runs_here file plan input (here file m.pc) m).next))
        (sym (running file plan [] m runs)) (here_did file plan input (here file m.pc) m runs)
    by_ending (Exit status) is = did_nothing _ _ refl
    by_ending (Illegal at) is = did_nothing _ _ refl
    by_ending (Fault kind at) is = did_nothing _ _ refl
