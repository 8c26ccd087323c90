-- One turn of the flat machine: one instruction (RISC-V unprivileged manual), or an ending.
use Rattle.std.specs.Prelude.{ℕ, ◌+◌, ◌*◌, ◌/◌, ◌%◌, ◌^◌, List, Option, Some, None, if◌then◌else◌}
use Rattle.rv_isa.specs.declared.Instr.{Instr}
use Rattle.rv_isa.specs.declared.Instr.TheVariants.{Lui, Auipc, Jal, Jalr, Branch, Load, Store, OpImm, Reg, Fence}
use Rattle.rv_isa.specs.declared.Instr.TheVariants.{Ecall, Ebreak}
use Rattle.rv_isa.specs.Table.{decoded}
use Rattle.rv_isa.specs.Addresses.{plus}
use Rattle.rv_isa.specs.Compute.{computed, is_held}
use Rattle.machine_spec.specs.declared.Ending.{Ending}
use Rattle.machine_spec.specs.declared.Ending.TheVariants.{Running, Exit, Illegal, Fault}
use Rattle.machine_spec.specs.declared.FaultKind.TheVariants.{F6}
use Rattle.flat_spec.specs.Stores.{loaded, stored, fetched}
use Rattle.flat_spec.specs.Machine.{Machine, register, gives, passes, ends, faults, jumps, loads, stores}
use Rattle.flat_spec.specs.Calls.{Turn, quiet, calls}

-- what an instruction other than a system call does, whose turn is `calls`; a branch is a jump that
-- links x0
unfoldable pub acts : Instr → Machine → Machine
acts (Lui rd imm) m = gives rd imm m
acts (Auipc rd imm) m = gives rd (plus m.pc imm) m
acts (Jal rd imm) m = jumps rd (plus m.pc imm) m
acts (Jalr rd rs1 imm) m = jumps rd (plus (register m rs1) imm / 2 * 2) m
acts (Branch cond rs1 rs2 imm) m =
    if is_held cond (register m rs1) (register m rs2) then jumps 0 (plus m.pc imm) m else passes m
acts (Load width rd rs1 imm) m = loads rd (loaded m.memory width (plus (register m rs1) imm)) m
acts (Store width rs1 rs2 imm) m = stores (stored m.memory width (plus (register m rs1) imm) (register m rs2)) m
acts (OpImm op rd rs1 imm) m = gives rd (computed op (register m rs1) imm) m
acts (Reg op rd rs1 rs2) m = gives rd (computed op (register m rs1) (register m rs2)) m
acts (Fence rest) m = passes m
acts Ecall m = m
acts Ebreak m = ends (Illegal m.pc) m

-- the turn of a fetched word's instruction; a word without one ends the run as illegal
abbrev pub executes : List ℕ → Option Instr → Machine → Turn
executes input (Some Ecall) m = calls input m
executes input (Some i) m = quiet input (acts i m)
executes input None m = quiet input (ends (Illegal m.pc) m)

abbrev pub runs_word : List ℕ → Option ℕ → Machine → Turn
runs_word input (Some w) m = executes input (decoded w) m
runs_word input None m = quiet input (faults F6 m)

-- an ended machine stays as it is
abbrev pub turn_of : Ending → List ℕ → Machine → Turn
turn_of Running input m = runs_word input (fetched m.memory m.pc) m
turn_of (Exit status) input m = quiet input m
turn_of (Illegal at) input m = quiet input m
turn_of (Fault kind at) input m = quiet input m

unfoldable pub turn : List ℕ → Machine → Turn
turn input m = turn_of m.ending input m
