-- A turn names at most one block more.
use Rattle.std.proofs.Common.{◌≡◌, ℕ, ◌+◌, ◌*◌, ◌/◌, ◌≤◌, ◌==◌, Bool, true, false, ◌&&◌, ◌||◌, List, [], ◌∷◌, length}
use Rattle.std.proofs.Common.{refl, ap, subst, arith, length-append, Option, Some, None, is_some}
use Rattle.std.specs.Prelude.{if◌then◌else◌, take}
use Rattle.rv_isa.specs.declared.Instr.{Instr}
use Rattle.rv_isa.specs.declared.Instr.TheVariants.{Lui, Auipc, Jal, Jalr, Branch, Load, Store, OpImm, Reg, Fence}
use Rattle.rv_isa.specs.declared.Instr.TheVariants.{Ecall, Ebreak}
use Rattle.rv_isa.specs.Addresses.{plus}
use Rattle.rv_isa.specs.Table.{decoded}
use Rattle.elf_spec.specs.declared.HeapName.{HeapName}
use Rattle.elf_spec.specs.declared.HeapName.TheVariants.{Malloc, Calloc, Realloc, Free, MallocR, CallocR, ReallocR}
use Rattle.elf_spec.specs.declared.HeapName.TheVariants.{FreeR}
use Rattle.elf_spec.specs.Code.{code_word}
use Rattle.machine_spec.specs.declared.Ending.{Ending}
use Rattle.machine_spec.specs.declared.Ending.TheVariants as ending
use Rattle.machine_spec.specs.declared.FaultKind.TheVariants.{F1, F3}
use Rattle.machine_spec.specs.Calls.{Call, Read, Write, Exits, Brk, Unknown, call_of, bad_descriptor}
use Rattle.plan_core.specs.declared.types.Plan.{Plan}
use Rattle.place_spec.specs.Layout.{granules_for, address_of as block_address}
use Rattle.place_spec.specs.Place.{Placed}
use Rattle.place_spec.specs.Release.{moved}
use Rattle.heap_spec.specs.Requests.{placed_for}
use Rattle.machine_run.specs.declared.Stepped.{Stepped}
use Rattle.machine_run.specs.declared.Stepped.TheVariants.{Went, Wrote, WantsInput, Exited, Illegal, Fault}
use Rattle.machine_run.specs.Machines.{Turned}
use Rattle.sym_value.specs.declared.Value.{Value}
use Rattle.sym_value.specs.declared.Value.TheVariants.{Num, Ptr, Ret, Mix, Part, Unset}
use Rattle.sym_value.specs.Decisions.{decide}
use Rattle.sym_cells.specs.Memory.{Memory, loaded, stored}
use Rattle.sym_cells.specs.Buffers.{is_within, taken, filled}
use Rattle.sym_spec.specs.Plain.{is_plain, is_plain_store}
use Rattle.sym_spec.specs.SymMachine.{SymMachine, lives_of, value_of, faults, loads, stores, goes_to, links, jumps}
use Rattle.sym_spec.specs.SymMachine.{goes_back}
use Rattle.sym_spec.specs.SymCalls.{SymTurn, quiet, answers, number_of_value, buffer_in, reads_into, reads_to}
use Rattle.sym_spec.specs.SymCalls.{writes_known, writes_from, reads, writes, calls_with, calls_by, calls}
use Rattle.sym_spec.specs.SymTurns.{Here, Nothing, Heap, Pair, Code, here, address_of, jumps_to, branches, acts}
use Rattle.sym_spec.specs.SymTurns.{executes, runs_here, turn_of, turn as machine_turn}
use Rattle.sym_spec.specs.HeapActions.{Outcome, Action, base, granule_in, grants_placed, grants, moves_placed, moves}
use Rattle.sym_spec.specs.HeapActions.{releases, is_front, mallocs, callocs, reallocs, frees, function, outcome}
use Rattle.sym_spec.specs.HeapActions.{answered, returns, returns_with, serves}
use Rattle.sym_machine.specs.Programs.{Program, turn}
use Rattle.sym_machine.specs.Steps.{Called}

-- one way or the other
either : (b : Bool) (x y m : SymMachine) → x.at ≡ m.at → y.at ≡ m.at → (if b then x else y).at ≡ m.at
either true x y m e f = e
either false x y m e f = f

either_turn : (b : Bool) (x y : SymTurn) (m : SymMachine) → x.next.at ≡ m.at → y.next.at ≡ m.at
    → (if b then x else y).next.at ≡ m.at
either_turn true x y m e f = e
either_turn false x y m e f = f

-- instructions
goes_at : (file : List ℕ) (target : ℕ) (m : SymMachine) → (goes_to file target m).at ≡ m.at
goes_at file target m = either (is_some (code_word file target)) (record m { pc = target }) (faults F3 m) m refl refl

links_at : (plan : Plan) (r : ℕ) (m : SymMachine) → (links plan r m).at ≡ m.at
links_at plan r m = either (r == 1) _ _ m refl refl

jumps_at : (file : List ℕ) (plan : Plan) (r target : ℕ) (m : SymMachine) → (jumps file plan r target m).at ≡ m.at
jumps_at file plan r target m =
    either (is_some (code_word file target)) (record (links plan r m) { pc = target }) (faults F3 m) m
    (links_at plan r m) refl

jumps_to_at : (file : List ℕ) (plan : Plan) (rd imm : ℕ) (v : Value) (m : SymMachine)
    → (jumps_to file plan rd imm v m).at ≡ m.at
jumps_to_at file plan rd imm (Num v) m = jumps_at file plan rd (plus v imm / 2 * 2) m
jumps_to_at file plan rd imm (Ret back) m =
    either ((rd == 0) && (imm == 0)) (goes_back file plan back m) (faults F3 m) m refl refl
jumps_to_at file plan rd imm (Ptr b o) m = refl
jumps_to_at file plan rd imm (Mix l) m = refl
jumps_to_at file plan rd imm (Part s i) m = refl
jumps_to_at file plan rd imm Unset m = refl

branches_at : (file : List ℕ) (decided : Option Bool) (target : ℕ) (m : SymMachine)
    → (branches file decided target m).at ≡ m.at
branches_at file (Some true) target m = goes_at file target m
branches_at file (Some false) target m = refl
branches_at file None target m = refl

loads_at : (r : ℕ) (v : Option Value) (m : SymMachine) → (loads r v m).at ≡ m.at
loads_at r (Some v) m = refl
loads_at r None m = refl

stores_at : (memory : Option Memory) (m : SymMachine) → (stores memory m).at ≡ m.at
stores_at (Some memory) m = refl
stores_at None m = refl

acts_at : (file : List ℕ) (plan : Plan) (i : Instr) (m : SymMachine) → (acts file plan i m).at ≡ m.at
unfolding acts
acts_at file plan (Lui rd imm) m = refl
acts_at file plan (Auipc rd imm) m = refl
acts_at file plan (Jal rd imm) m = jumps_at file plan rd (plus m.pc imm) m
acts_at file plan (Jalr rd rs1 imm) m = jumps_to_at file plan rd imm (value_of m rs1) m
acts_at file plan (Branch cond rs1 rs2 imm) m =
    branches_at file (decide (lives_of file m) cond (value_of m rs1) (value_of m rs2)) (plus m.pc imm) m
acts_at file plan (Load width rd rs1 imm) m =
    loads_at rd (loaded (is_plain file) m.memory width (address_of file m rs1 imm)) m
acts_at file plan (Store width rs1 rs2 imm) m =
    stores_at (stored (is_plain_store file) m.memory width (address_of file m rs1 imm) (value_of m rs2)) m
acts_at file plan (OpImm op rd rs1 imm) m = refl
acts_at file plan (Reg op rd rs1 rs2) m = refl
acts_at file plan (Fence rest) m = refl
acts_at file plan Ecall m = refl
acts_at file plan Ebreak m = refl

-- system calls
reads_into_at : (input : List ℕ) (n : ℕ) (memory : Option Memory) (m : SymMachine)
    → (reads_into input n memory m).next.at ≡ m.at
reads_into_at input n (Some memory) m = refl
reads_into_at input n None m = refl

reads_to_at : (file input : List ℕ) (n : ℕ) (p : Option Value) (m : SymMachine)
    → (reads_to file input n p m).next.at ≡ m.at
reads_to_at file input n (Some p) m = reads_into_at input n (filled (is_plain_store file) m.memory n (take n input) p) m
reads_to_at file input n None m = refl

reads_at : (file input : List ℕ) (n : Option ℕ) (m : SymMachine) → (reads file input n m).next.at ≡ m.at
reads_at file input (Some n) m = reads_to_at file input n (buffer_in n (value_of m 11)) m
reads_at file input None m = refl

writes_known_at : (input : List ℕ) (n : ℕ) (bytes : Option (List ℕ)) (m : SymMachine)
    → (writes_known input n bytes m).next.at ≡ m.at
writes_known_at input n (Some bytes) m = refl
writes_known_at input n None m = refl

writes_from_at : (file input : List ℕ) (n : ℕ) (p : Option Value) (m : SymMachine)
    → (writes_from file input n p m).next.at ≡ m.at
writes_from_at file input n (Some p) m =
    either_turn (is_within (is_plain file) m.memory n p) (writes_known input n (taken m.memory n p) m)
    (quiet input (faults F1 m)) m (writes_known_at input n (taken m.memory n p) m) refl
writes_from_at file input n None m = refl

writes_at : (file input : List ℕ) (n : Option ℕ) (m : SymMachine) → (writes file input n m).next.at ≡ m.at
writes_at file input (Some n) m = writes_from_at file input n (buffer_in n (value_of m 11)) m
writes_at file input None m = refl

calls_with_at : (file input : List ℕ) (call : Call) (first : Option ℕ) (m : SymMachine)
    → (calls_with file input call first m).next.at ≡ m.at
calls_with_at file input Read (Some fd) m =
    either_turn (fd == 0) (reads file input (number_of_value (value_of m 12)) m)
    (quiet input (answers bad_descriptor m)) m
    (reads_at file input (number_of_value (value_of m 12)) m) refl
calls_with_at file input Write (Some fd) m =
    either_turn ((fd == 1) || (fd == 2)) (writes file input (number_of_value (value_of m 12)) m)
    (quiet input (answers bad_descriptor m)) m
    (writes_at file input (number_of_value (value_of m 12)) m) refl
calls_with_at file input Exits (Some status) m = refl
calls_with_at file input Brk (Some first) m = refl
calls_with_at file input Unknown (Some first) m = refl
calls_with_at file input Read None m = refl
calls_with_at file input Write None m = refl
calls_with_at file input Exits None m = refl
calls_with_at file input Brk None m = refl
calls_with_at file input Unknown None m = refl

calls_by_at : (file input : List ℕ) (number : Option ℕ) (m : SymMachine) → (calls_by file input number m).next.at ≡ m.at
calls_by_at file input (Some number) m = calls_with_at file input (call_of number) (number_of_value (value_of m 10)) m
calls_by_at file input None m = refl

executes_at : (file : List ℕ) (plan : Plan) (input : List ℕ) (i : Option Instr) (m : SymMachine)
    → (executes file plan input i m).next.at ≡ m.at
unfolding calls
executes_at file plan input (Some Ecall) m = calls_by_at file input (number_of_value (value_of m 17)) m
executes_at file plan input (Some (Lui rd imm)) m = acts_at file plan (Lui rd imm) m
executes_at file plan input (Some (Auipc rd imm)) m = acts_at file plan (Auipc rd imm) m
executes_at file plan input (Some (Jal rd imm)) m = acts_at file plan (Jal rd imm) m
executes_at file plan input (Some (Jalr rd rs1 imm)) m = acts_at file plan (Jalr rd rs1 imm) m
executes_at file plan input (Some (Branch cond rs1 rs2 imm)) m = acts_at file plan (Branch cond rs1 rs2 imm) m
executes_at file plan input (Some (Load width rd rs1 imm)) m = acts_at file plan (Load width rd rs1 imm) m
executes_at file plan input (Some (Store width rs1 rs2 imm)) m = acts_at file plan (Store width rs1 rs2 imm) m
executes_at file plan input (Some (OpImm op rd rs1 imm)) m = acts_at file plan (OpImm op rd rs1 imm) m
executes_at file plan input (Some (Reg op rd rs1 rs2)) m = acts_at file plan (Reg op rd rs1 rs2) m
executes_at file plan input (Some (Fence rest)) m = acts_at file plan (Fence rest) m
executes_at file plan input (Some Ebreak) m = acts_at file plan Ebreak m
executes_at file plan input None m = refl

-- heap functions: no more than one name
abbrev IsFew : SymMachine → SymMachine → Type 0
IsFew n m = length n.at ≤ length m.at + 1

few_same : (n m : SymMachine) → n.at ≡ m.at → IsFew n m
few_same n m e = let same : length n.at ≡ length m.at = ap length e in omega (arith, same)

grants_few : (file : List ℕ) (plan : Plan) (size : ℕ) (m : SymMachine) → IsFew (grants file plan size m).machine m
grants_few file plan size m = by_place (placed_for plan.rows plan.area m.layout size m.bits)
  where
    by_place : (p : Option Placed) → IsFew (grants_placed file plan (granules_for size) p m).machine m
    by_place (Some p) = let n = length-append m.at (block_address (base file plan) p.granule ∷ []) in omega (arith, n)
    by_place None = omega arith

moves_few : (file : List ℕ) (plan : Plan) (b size : ℕ) (m : SymMachine) → IsFew (moves file plan b size m).machine m
moves_few file plan b size m =
    by_place (moved plan.rows plan.area m.layout (granule_in file plan b m) (granules_for size) m.bits)
  where
    by_place : (p : Option Placed) → IsFew (moves_placed file plan b (granules_for size) p m).machine m
    by_place (Some p) = let n = length-append m.at (block_address (base file plan) p.granule ∷ []) in omega (arith, n)
    by_place None = omega arith

abbrev ActsFew : Action → Type 0
ActsFew action = (file : List ℕ) (plan : Plan) (m : SymMachine) (u v : Value) (o : Outcome)
    → action file plan m u v ≡ Some o → IsFew o.machine m

few_of : (n : Outcome) (o : Outcome) (m : SymMachine) → Some n ≡ Some o → IsFew n.machine m → IsFew o.machine m
few_of n o m e h = let same : n ≡ o = cc in subst (λ (x : Outcome). IsFew x.machine m) same h

few_where : (b : Bool) (n o : Outcome) (m : SymMachine) → (if b then Some n else None) ≡ Some o → IsFew n.machine m
    → IsFew o.machine m
few_where true n o m e h = few_of n o m e h
few_where false n o m e h = absurd (cc)

mallocs_few : ActsFew mallocs
mallocs_few file plan m (Num size) v o e = few_of (grants file plan size m) o m e (grants_few file plan size m)
mallocs_few file plan m u v o e = absurd (cc)

callocs_few : ActsFew callocs
callocs_few file plan m (Num n) (Num size) o e =
    few_of (grants file plan (n * size) m) o m e (grants_few file plan (n * size) m)
callocs_few file plan m u v o e = absurd (cc)

reallocs_few : ActsFew reallocs
reallocs_few file plan m (Num p) (Num size) o e =
    few_where (p == 0) (grants file plan size m) o m e (grants_few file plan size m)
reallocs_few file plan m (Ptr b i) (Num size) o e =
    few_where (is_front file b i m) (moves file plan b size m) o m e (moves_few file plan b size m)
reallocs_few file plan m u v o e = absurd (cc)

frees_few : ActsFew frees
frees_few file plan m (Num p) v o e = few_where (p == 0) _ o m e (omega arith)
frees_few file plan m (Ptr b i) v o e = few_where (is_front file b i m) (releases file plan b m) o m e (omega arith)
frees_few file plan m u v o e = absurd (cc)

function_few : (name : HeapName) → ActsFew (function name).action
function_few Malloc = mallocs_few
function_few Calloc = callocs_few
function_few Realloc = reallocs_few
function_few Free = frees_few
function_few MallocR = mallocs_few
function_few CallocR = callocs_few
function_few ReallocR = reallocs_few
function_few FreeR = frees_few

returns_few : (file : List ℕ) (plan : Plan) (v : Value) (n m : SymMachine) → IsFew n m
    → IsFew (returns file plan v n m) m
returns_few file plan (Ret back) n m h = h
returns_few file plan (Num a) n m h = by_test (is_some (code_word file a))
  where
    by_test : (b : Bool) → IsFew (if b then record n { pc = a } else faults F3 m) m
    by_test true = h
    by_test false = few_same (faults F3 m) m refl
returns_few file plan (Ptr b o) n m h = few_same (faults F3 m) m refl
returns_few file plan (Mix l) n m h = few_same (faults F3 m) m refl
returns_few file plan (Part s i) n m h = few_same (faults F3 m) m refl
returns_few file plan Unset n m h = few_same (faults F3 m) m refl

serves_few : (file : List ℕ) (plan : Plan) (name : HeapName) (m : SymMachine) → IsFew (serves file plan name m) m
unfolding serves outcome
serves_few file plan name m = by_outcome (outcome file plan name m) refl
  where
    by_outcome : (o : Option Outcome) → outcome file plan name m ≡ o → IsFew (returns_with file plan o m) m
    by_outcome None e = few_same (returns_with file plan None m) m refl
    by_outcome (Some o) e =
        returns_few file plan (value_of m 1) (answered o) m (function_few name file plan m _ _ o e)

-- turns
runs_few : (file : List ℕ) (plan : Plan) (input : List ℕ) (h : Here) (m : SymMachine)
    → IsFew (runs_here file plan input h m).next m
runs_few file plan input Nothing m = few_same (runs_here file plan input Nothing m).next m refl
runs_few file plan input (Heap name) m = serves_few file plan name m
runs_few file plan input (Pair s) m = few_same (runs_here file plan input (Pair s) m).next m refl
runs_few file plan input (Code w) m =
    few_same (runs_here file plan input (Code w) m).next m (executes_at file plan input (decoded w) m)

turn_of_few : (file : List ℕ) (plan : Plan) (e : Ending) (input : List ℕ) (m : SymMachine)
    → IsFew (turn_of file plan e input m).next m
turn_of_few file plan ending.Running input m = runs_few file plan input (here file m.pc) m
turn_of_few file plan (ending.Exit status) input m = few_same m m refl
turn_of_few file plan (ending.Illegal at) input m = few_same m m refl
turn_of_few file plan (ending.Fault kind at) input m = few_same m m refl

turn_few : (input : List ℕ) (p : Program) → IsFew (turn input p).next.machine p.machine
unfolding turn machine_turn
turn_few input p = turn_of_few p.file p.plan p.machine.ending input p.machine

-- what a step leaves
next_few : (input written left : List ℕ) (p new : Program)
    → turn input p ≡ record { next = new; written = written; left = left }
    → IsFew new.machine p.machine
next_few input written left p new h =
    subst (λ (t : Turned Program). IsFew t.next.machine p.machine) h (turn_few input p)

pub step_few : (s : Stepped) (p new : Program) → Called s [] p new (turn [] p)
    → length new.machine.at ≤ length p.machine.at + 1
step_few Went p new h = next_few [] [] [] p new h
step_few (Wrote len) p new h = next_few [] _ [] p new h.0
step_few (WantsInput len) p new h = few_same new.machine p.machine (ap (λ (q : Program). q.machine.at) h.0)
step_few (Exited status) p new h = next_few [] [] [] p new h
step_few (Illegal at) p new h = next_few [] [] [] p new h
step_few (Fault kind at) p new h = next_few [] [] [] p new h
