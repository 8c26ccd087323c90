-- Instructions and system calls keep the heap, and those that neither call nor go back keep the bits.
use Rattle.std.proofs.Common.{◌≡◌, ℕ, ◌*◌, ◌/◌, List, Bool, true, false, cond, take, refl, ap}
use Rattle.std.specs.Prelude.{Option, Some, None, is_some, ◌==◌, ◌&&◌, ◌||◌}
use Rattle.rv_isa.specs.declared.Instr.{Instr}
use Rattle.rv_isa.specs.declared.Instr.TheVariants.{Lui, Auipc, Jal, Jalr, Branch, Load, Store, OpImm, Reg, Fence}
use Rattle.rv_isa.specs.declared.Instr.TheVariants.{Ecall, Ebreak}
use Rattle.rv_isa.specs.Addresses.{plus}
use Rattle.elf_spec.specs.Code.{code_word}
use Rattle.plan_core.specs.declared.types.Plan.{Plan}
use Rattle.machine_spec.specs.Calls.{Call, Read, Write, Exits, Brk, Unknown, call_of}
use Rattle.sym_value.specs.declared.Value.{Value}
use Rattle.sym_value.specs.declared.Value.TheVariants.{Num, Ptr, Ret, Mix, Part, Unset}
use Rattle.sym_value.specs.Decisions.{decide}
use Rattle.sym_cells.specs.Memory.{Memory, loaded, stored}
use Rattle.sym_cells.specs.Buffers.{filled, is_within, taken}
use Rattle.sym_spec.specs.Plain.{is_plain, is_plain_store}
use Rattle.sym_spec.specs.SymMachine.{SymMachine, lives_of, value_of, jumps, links, loads, stores}
use Rattle.sym_spec.specs.SymCalls.{SymTurn, buffer_in, calls, calls_by, calls_with, reads, reads_into, reads_to}
use Rattle.sym_spec.specs.SymCalls.{number_of_value, writes, writes_from, writes_known}
use Rattle.sym_spec.specs.SymTurns.{acts, address_of, branches, executes, jumps_to}
use Rattle.run_laws.specs.Turns.{heap_of}
use Rattle.run_laws.proofs.Stores.{lives, KeepsCells, filled_lives, stored_lives}

-- a machine has the heap and the bits of another
pub record Keeps (s t : SymMachine) : Type 0 where
  pub heap : heap_of t ≡ heap_of s
  pub bits : t.bits ≡ s.bits

pub nothing : (s : SymMachine) → Keeps s s
nothing s = record { heap = refl; bits = refl }

-- one of two machines, and one of two turns
one_kept : (t : Bool) (s x y : SymMachine) → Keeps s x → Keeps s y → Keeps s (cond t x y)
one_kept true s x y h k = h
one_kept false s x y h k = k

one_heap : (t : Bool) (s x y : SymMachine) → heap_of x ≡ heap_of s → heap_of y ≡ heap_of s
    → heap_of (cond t x y) ≡ heap_of s
one_heap true s x y h k = h
one_heap false s x y h k = k

one_turn : (t : Bool) (s : SymMachine) (x y : SymTurn) → Keeps s x.next → Keeps s y.next → Keeps s (cond t x y).next
one_turn true s x y h k = h
one_turn false s x y h k = k

-- another memory with the same blocks
same_blocks : (s : SymMachine) (m : Memory) → lives m ≡ lives s.memory → heap_of (record s { memory = m }) ≡ heap_of s
same_blocks s m same = ap (λ ls. record { layout = s.layout; at = s.at; lives = ls }) same

-- system calls
into_keeps : (input : List ℕ) (n : ℕ) (o : Option Memory) (s : SymMachine)
    → ((m : Memory) → o ≡ Some m → lives m ≡ lives s.memory) → Keeps s (reads_into input n o s).next
into_keeps input n (Some m) s h = record { heap = same_blocks s m (h m refl); bits = refl }
into_keeps input n None s h = record { heap = refl; bits = refl }

read_keeps : KeepsCells → (file input : List ℕ) (n : ℕ) (o : Option Value) (s : SymMachine)
    → Keeps s (reads_to file input n o s).next
read_keeps as_many file input n (Some p) s =
    into_keeps input n (filled (is_plain_store file) s.memory n (take n input) p) s
    (λ m e. filled_lives as_many (is_plain_store file) s.memory m n (take n input) p e)
read_keeps as_many file input n None s = record { heap = refl; bits = refl }

known_keeps : (input : List ℕ) (n : ℕ) (o : Option (List ℕ)) (s : SymMachine) → Keeps s (writes_known input n o s).next
known_keeps input n (Some bytes) s = record { heap = refl; bits = refl }
known_keeps input n None s = record { heap = refl; bits = refl }

write_keeps : (file input : List ℕ) (n : ℕ) (o : Option Value) (s : SymMachine)
    → Keeps s (writes_from file input n o s).next
write_keeps file input n (Some p) s = one_turn (is_within (is_plain file) s.memory n p) s _ _
    (known_keeps input n (taken s.memory n p) s) (record { heap = refl; bits = refl })
write_keeps file input n None s = record { heap = refl; bits = refl }

reads_keep : KeepsCells → (file input : List ℕ) (o : Option ℕ) (s : SymMachine) → Keeps s (reads file input o s).next
reads_keep as_many file input (Some n) s = read_keeps as_many file input n (buffer_in n (value_of s 11)) s
reads_keep as_many file input None s = record { heap = refl; bits = refl }

writes_keep : (file input : List ℕ) (o : Option ℕ) (s : SymMachine) → Keeps s (writes file input o s).next
writes_keep file input (Some n) s = write_keeps file input n (buffer_in n (value_of s 11)) s
writes_keep file input None s = record { heap = refl; bits = refl }

with_keeps : KeepsCells → (file input : List ℕ) (call : Call) (o : Option ℕ) (s : SymMachine)
    → Keeps s (calls_with file input call o s).next
with_keeps as_many file input Read (Some fd) s = one_turn (fd == 0) s _ _
    (reads_keep as_many file input (number_of_value (value_of s 12)) s) (record { heap = refl; bits = refl })
with_keeps as_many file input Write (Some fd) s = one_turn ((fd == 1) || (fd == 2)) s _ _
    (writes_keep file input (number_of_value (value_of s 12)) s) (record { heap = refl; bits = refl })
with_keeps as_many file input Exits (Some status) s = record { heap = refl; bits = refl }
with_keeps as_many file input Brk first s = record { heap = refl; bits = refl }
with_keeps as_many file input Unknown first s = record { heap = refl; bits = refl }
with_keeps as_many file input Read None s = record { heap = refl; bits = refl }
with_keeps as_many file input Write None s = record { heap = refl; bits = refl }
with_keeps as_many file input Exits None s = record { heap = refl; bits = refl }

by_keeps : KeepsCells → (file input : List ℕ) (o : Option ℕ) (s : SymMachine) → Keeps s (calls_by file input o s).next
by_keeps as_many file input (Some number) s =
    with_keeps as_many file input (call_of number) (number_of_value (value_of s 10)) s
by_keeps as_many file input None s = record { heap = refl; bits = refl }

pub calls_keep : KeepsCells → (file input : List ℕ) (s : SymMachine) → Keeps s (calls file input s).next
unfolding calls
calls_keep as_many file input s = by_keeps as_many file input (number_of_value (value_of s 17)) s

-- instructions
links_heap : (plan : Plan) (r : ℕ) (s : SymMachine) → heap_of (links plan r s) ≡ heap_of s
links_heap plan r s = one_heap (r == 1) s _ _ refl refl

jumps_heap : (file : List ℕ) (plan : Plan) (r target : ℕ) (s : SymMachine)
    → heap_of (jumps file plan r target s) ≡ heap_of s
jumps_heap file plan r target s = one_heap (is_some (code_word file target)) s _ _ (links_heap plan r s) refl

to_heap : (file : List ℕ) (plan : Plan) (rd imm : ℕ) (v : Value) (s : SymMachine)
    → heap_of (jumps_to file plan rd imm v s) ≡ heap_of s
to_heap file plan rd imm (Num v) s = jumps_heap file plan rd (plus v imm / 2 * 2) s
to_heap file plan rd imm (Ret back) s = one_heap ((rd == 0) && (imm == 0)) s _ _ refl refl
to_heap file plan rd imm (Ptr b o) s = refl
to_heap file plan rd imm (Mix l) s = refl
to_heap file plan rd imm (Part p i) s = refl
to_heap file plan rd imm Unset s = refl

pub branches_keep : (file : List ℕ) (o : Option Bool) (target : ℕ) (s : SymMachine) → Keeps s (branches file o target s)
branches_keep file (Some true) target s = one_kept (is_some (code_word file target)) s _ _
    (record { heap = refl; bits = refl }) (record { heap = refl; bits = refl })
branches_keep file (Some false) target s = record { heap = refl; bits = refl }
branches_keep file None target s = record { heap = refl; bits = refl }

pub loads_keep : (r : ℕ) (o : Option Value) (s : SymMachine) → Keeps s (loads r o s)
loads_keep r (Some v) s = record { heap = refl; bits = refl }
loads_keep r None s = record { heap = refl; bits = refl }

into_store : (o : Option Memory) (s : SymMachine) → ((m : Memory) → o ≡ Some m → lives m ≡ lives s.memory)
    → Keeps s (stores o s)
into_store (Some m) s h = record { heap = same_blocks s m (h m refl); bits = refl }
into_store None s h = record { heap = refl; bits = refl }

-- what neither jumps nor calls the system
abbrev pub IsQuiet : Instr → Type 0
IsQuiet (Jal rd imm) = ⊥
IsQuiet (Jalr rd rs1 imm) = ⊥
IsQuiet i = Unit {0}

pub quiet_keeps : KeepsCells → (file : List ℕ) (plan : Plan) (i : Instr) (s : SymMachine) → IsQuiet i
    → Keeps s (acts file plan i s)
unfolding acts
quiet_keeps as_many file plan (Lui rd imm) s q = record { heap = refl; bits = refl }
quiet_keeps as_many file plan (Auipc rd imm) s q = record { heap = refl; bits = refl }
quiet_keeps as_many file plan (Jal rd imm) s q = absurd q
quiet_keeps as_many file plan (Jalr rd rs1 imm) s q = absurd q
quiet_keeps as_many file plan (Branch c rs1 rs2 imm) s q =
    branches_keep file (decide (lives_of file s) c (value_of s rs1) (value_of s rs2)) (plus s.pc imm) s
quiet_keeps as_many file plan (Load width rd rs1 imm) s q =
    loads_keep rd (loaded (is_plain file) s.memory width (address_of file s rs1 imm)) s
quiet_keeps as_many file plan (Store width rs1 rs2 imm) s q =
    into_store (stored (is_plain_store file) s.memory width (address_of file s rs1 imm) (value_of s rs2)) s
    (λ m e. stored_lives as_many (is_plain_store file) s.memory m width (address_of file s rs1 imm) (value_of s rs2) e)
quiet_keeps as_many file plan (OpImm op rd rs1 imm) s q = record { heap = refl; bits = refl }
quiet_keeps as_many file plan (Reg op rd rs1 rs2) s q = record { heap = refl; bits = refl }
quiet_keeps as_many file plan (Fence rest) s q = record { heap = refl; bits = refl }
quiet_keeps as_many file plan Ecall s q = record { heap = refl; bits = refl }
quiet_keeps as_many file plan Ebreak s q = record { heap = refl; bits = refl }

acts_heap : KeepsCells → (file : List ℕ) (plan : Plan) (i : Instr) (s : SymMachine)
    → heap_of (acts file plan i s) ≡ heap_of s
unfolding acts
acts_heap as_many file plan (Jal rd imm) s = jumps_heap file plan rd (plus s.pc imm) s
acts_heap as_many file plan (Jalr rd rs1 imm) s = to_heap file plan rd imm (value_of s rs1) s
acts_heap as_many file plan (Lui rd imm) s = refl
acts_heap as_many file plan (Auipc rd imm) s = refl
acts_heap as_many file plan (Branch c rs1 rs2 imm) s = (quiet_keeps as_many file plan (Branch c rs1 rs2 imm) s tt).heap
acts_heap as_many file plan (Load width rd rs1 imm) s =
    (quiet_keeps as_many file plan (Load width rd rs1 imm) s tt).heap
acts_heap as_many file plan (Store width rs1 rs2 imm) s =
    (quiet_keeps as_many file plan (Store width rs1 rs2 imm) s tt).heap
acts_heap as_many file plan (OpImm op rd rs1 imm) s = refl
acts_heap as_many file plan (Reg op rd rs1 rs2) s = refl
acts_heap as_many file plan (Fence rest) s = refl
acts_heap as_many file plan Ecall s = refl
acts_heap as_many file plan Ebreak s = refl

-- every instruction keeps the heap
pub executes_heap : KeepsCells → (file : List ℕ) (plan : Plan) (input : List ℕ) (o : Option Instr) (s : SymMachine)
    → heap_of (executes file plan input o s).next ≡ heap_of s
executes_heap as_many file plan input (Some Ecall) s = (calls_keep as_many file input s).heap
executes_heap as_many file plan input None s = refl
executes_heap as_many file plan input (Some i) s = acts_heap as_many file plan i s
