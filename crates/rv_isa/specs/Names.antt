-- The registers that an instruction names in its fields.
use Rattle.std.specs.Prelude.{ℕ, ◌==◌, ◌||◌, Bool, false}
use Rattle.rv_isa.specs.declared.Instr.{Instr}
use Rattle.rv_isa.specs.declared.Instr.TheVariants.{Lui, Auipc, Jal, Jalr, Branch, Load, Store, OpImm, Reg, Fence}
use Rattle.rv_isa.specs.declared.Instr.TheVariants.{Ecall, Ebreak}

-- rd, rs1 or rs2 of the instruction is this register; the amount of a shift is none of them
abbrev pub names_register : Instr → ℕ → Bool
names_register (Lui rd imm) r = rd == r
names_register (Auipc rd imm) r = rd == r
names_register (Jal rd imm) r = rd == r
names_register (Jalr rd rs1 imm) r = (rd == r) || (rs1 == r)
names_register (Branch cond rs1 rs2 imm) r = (rs1 == r) || (rs2 == r)
names_register (Load width rd rs1 imm) r = (rd == r) || (rs1 == r)
names_register (Store width rs1 rs2 imm) r = (rs1 == r) || (rs2 == r)
names_register (OpImm op rd rs1 imm) r = (rd == r) || (rs1 == r)
names_register (Reg op rd rs1 rs2) r = ((rd == r) || (rs1 == r)) || (rs2 == r)
names_register (Fence rest) r = false
names_register Ecall r = false
names_register Ebreak r = false
