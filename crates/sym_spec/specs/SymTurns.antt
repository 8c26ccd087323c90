-- One turn of the symbol machine: one instruction, or the call of a pair site, or the whole action of a
-- heap function, or an ending.
use Rattle.std.specs.Prelude.{ℕ, ◌+◌, ◌-◌, ◌*◌, ◌/◌, ◌==◌, List, Bool, true, false, ◌&&◌, ◌||◌, Option, Some, None}
use Rattle.std.specs.Prelude.{nat_le, if◌then◌else◌}
use Rattle.std.specs.List.{list_any}
use Rattle.rv_isa.specs.declared.Instr.{Instr}
use Rattle.rv_isa.specs.declared.Instr.TheVariants.{Lui, Auipc, Jal, Jalr, Branch, Load, Store, OpImm, Reg, Fence}
use Rattle.rv_isa.specs.declared.Instr.TheVariants.{Ecall, Ebreak}
use Rattle.rv_isa.specs.declared.Op.TheVariants.{Add}
use Rattle.rv_isa.specs.Table.{decoded}
use Rattle.elf_spec.specs.declared.HeapName.{HeapName}
use Rattle.elf_spec.specs.Code.{code_word}
use Rattle.elf_spec.specs.Heap.{heap_entries}
use Rattle.plan_core.specs.declared.types.Plan.{Plan}
use Rattle.site_spec.specs.declared.Site.{Site}
use Rattle.rv_isa.specs.Addresses.{plus}
use Rattle.site_spec.specs.Sites.{site_at}
use Rattle.machine_spec.specs.declared.Ending.{Ending}
use Rattle.machine_spec.specs.declared.Ending.TheVariants.{Running, Exit, Illegal, Fault}
use Rattle.machine_spec.specs.declared.FaultKind.TheVariants.{F2, F3, F6}
use Rattle.sym_value.specs.declared.Value.{Value}
use Rattle.sym_value.specs.declared.Value.TheVariants.{Num, Ret}
use Rattle.sym_value.specs.Decisions.{decide}
use Rattle.sym_value.specs.Operations.{apply}
use Rattle.sym_cells.specs.Memory.{loaded, stored}
use Rattle.sym_spec.specs.Plain.{is_plain, is_plain_store}
use Rattle.sym_spec.specs.SymMachine.{SymMachine, lives_of, value_of, gives, passes, ends, faults, loads, stores}
use Rattle.sym_spec.specs.SymMachine.{goes_to, jumps, calls_from, goes_back}
use Rattle.sym_spec.specs.SymCalls.{SymTurn, quiet, calls}
use Rattle.sym_spec.specs.HeapActions.{function_at, serves}

-- the address of a load or a store
abbrev pub address_of : List ℕ → SymMachine → ℕ → ℕ → Value
address_of file m rs1 imm = apply (lives_of file m) Add (value_of m rs1) (Num imm)

-- a jump to a register: `jalr x0, 0(r)` goes back to a return address, and no other jump goes to one
abbrev pub jumps_to : List ℕ → Plan → ℕ → ℕ → Value → SymMachine → SymMachine
jumps_to file plan rd imm (Num v) m = jumps file plan rd (plus v imm / 2 * 2) m
jumps_to file plan rd imm (Ret back) m = if (rd == 0) && (imm == 0) then goes_back file plan back m else faults F3 m
jumps_to file plan rd imm v m = faults F3 m

abbrev pub branches : List ℕ → Option Bool → ℕ → SymMachine → SymMachine
branches file (Some true) target m = goes_to file target m
branches file (Some false) target m = passes m
branches file None target m = faults F2 m

-- what an instruction other than a system call does, whose turn is `calls`
unfoldable pub acts : List ℕ → Plan → Instr → SymMachine → SymMachine
acts file plan (Lui rd imm) m = gives rd (Num imm) m
acts file plan (Auipc rd imm) m = gives rd (Num (plus m.pc imm)) m
acts file plan (Jal rd imm) m = jumps file plan rd (plus m.pc imm) m
acts file plan (Jalr rd rs1 imm) m = jumps_to file plan rd imm (value_of m rs1) m
acts file plan (Branch cond rs1 rs2 imm) m =
    branches file (decide (lives_of file m) cond (value_of m rs1) (value_of m rs2)) (plus m.pc imm) m
acts file plan (Load width rd rs1 imm) m =
    loads rd (loaded (is_plain file) m.memory width (address_of file m rs1 imm)) m
acts file plan (Store width rs1 rs2 imm) m =
    stores (stored (is_plain_store file) m.memory width (address_of file m rs1 imm) (value_of m rs2)) m
acts file plan (OpImm op rd rs1 imm) m = gives rd (apply (lives_of file m) op (value_of m rs1) (Num imm)) m
acts file plan (Reg op rd rs1 rs2) m = gives rd (apply (lives_of file m) op (value_of m rs1) (value_of m rs2)) m
acts file plan (Fence rest) m = passes m
acts file plan Ecall m = m
acts file plan Ebreak m = ends (Illegal m.pc) m

-- what stands at an address: nothing that can be fetched, a heap function, the call of a pair site, or a
-- code word
pub data Here : Type 0 where
  Nothing : Here
  Heap : (name : HeapName) → Here
  Pair : (site : Site) → Here
  Code : (word : ℕ) → Here

abbrev pub is_pair : Option Site → Bool
is_pair (Some s) = s.pair
is_pair None = false

-- the second word of a pair site or of a heap function
abbrev pub is_second : List ℕ → ℕ → Bool
is_second file a =
    (nat_le 4 a && is_pair (site_at file (a - 4))) || list_any (λ e. e + 4 == a) (heap_entries file)

abbrev pub here_with : Option ℕ → Option HeapName → Option Site → Here
here_with (Some w) (Some name) s = Heap name
here_with (Some w) None (Some s) = if s.pair then Pair s else Code w
here_with (Some w) None None = Code w
here_with None name s = Nothing

unfoldable pub here : List ℕ → ℕ → Here
here file a =
    if is_second file a then Nothing else here_with (code_word file a) (function_at file a) (site_at file a)

-- the turn of an instruction; a word without one ends the run as illegal
abbrev pub executes : List ℕ → Plan → List ℕ → Option Instr → SymMachine → SymTurn
executes file plan input (Some Ecall) m = calls file input m
executes file plan input (Some i) m = quiet input (acts file plan i m)
executes file plan input None m = quiet input (ends (Illegal m.pc) m)

abbrev pub runs_here : List ℕ → Plan → List ℕ → Here → SymMachine → SymTurn
runs_here file plan input Nothing m = quiet input (faults F6 m)
runs_here file plan input (Heap name) m = quiet input (serves file plan name m)
runs_here file plan input (Pair s) m = quiet input (record (calls_from plan s.back m) { pc = s.target })
runs_here file plan input (Code w) m = executes file plan input (decoded w) m

-- an ended machine stays as it is
abbrev pub turn_of : List ℕ → Plan → Ending → List ℕ → SymMachine → SymTurn
turn_of file plan Running input m = runs_here file plan input (here file m.pc) m
turn_of file plan (Exit status) input m = quiet input m
turn_of file plan (Illegal at) input m = quiet input m
turn_of file plan (Fault kind at) input m = quiet input m

unfoldable pub turn : List ℕ → Plan → List ℕ → SymMachine → SymTurn
turn file plan input m = turn_of file plan m.ending input m
