-- Lines of assembly: the instruction that a line is at the address where it stands. Jumps and branches name
-- the address that they go to (RISC-V unprivileged manual, chapter "RISC-V Assembly Programmer's Handbook").
use Rattle.std.specs.Prelude.{ℕ, ◌+◌, ◌-◌, ◌^◌, List, [], ◌∷◌}
use Rattle.rv_isa.specs.declared.Op.TheVariants.{Add, And}
use Rattle.rv_isa.specs.declared.Cond.TheVariants.{Eq, Ne}
use Rattle.rv_isa.specs.declared.Width.TheVariants.{Word}
use Rattle.rv_isa.specs.declared.Instr.{Instr}
use Rattle.rv_isa.specs.declared.Instr.TheVariants.{Lui, Auipc, Jal, Jalr, Branch, Load, Store, OpImm, Reg, Ecall}
use Rattle.rv_isa.specs.declared.Instr.TheVariants.{Ebreak}
use Rattle.rv_isa.specs.Addresses.{minus}

-- the registers (psABI, "Integer Register Convention")
abbrev pub x0 : ℕ
x0 = 0

abbrev pub ra : ℕ
ra = 1

abbrev pub sp : ℕ
sp = 2

abbrev pub s0 : ℕ
s0 = 8

abbrev pub s1 : ℕ
s1 = 9

abbrev pub a0 : ℕ
a0 = 10

abbrev pub a4 : ℕ
a4 = 14

abbrev pub a5 : ℕ
a5 = 15

abbrev pub a7 : ℕ
a7 = 17

abbrev pub s2 : ℕ
s2 = 18

abbrev pub s3 : ℕ
s3 = 19

abbrev pub s4 : ℕ
s4 = 20

-- the word of a negative number
abbrev pub below_zero : ℕ → ℕ
below_zero n = 2 ^ 32 - n

abbrev pub lui : (rd upper : ℕ) → ℕ → Instr
lui rd upper at = Lui rd upper

abbrev pub auipc : (rd upper : ℕ) → ℕ → Instr
auipc rd upper at = Auipc rd upper

abbrev pub addi : (rd rs imm : ℕ) → ℕ → Instr
addi rd rs imm at = OpImm Add rd rs imm

abbrev pub andi : (rd rs imm : ℕ) → ℕ → Instr
andi rd rs imm at = OpImm And rd rs imm

abbrev pub add : (rd rs other : ℕ) → ℕ → Instr
add rd rs other at = Reg Add rd rs other

abbrev pub lw : (rd offset base : ℕ) → ℕ → Instr
lw rd offset base at = Load Word rd base offset

abbrev pub sw : (rs offset base : ℕ) → ℕ → Instr
sw rs offset base at = Store Word base rs offset

abbrev pub jal : (rd target : ℕ) → ℕ → Instr
jal rd target at = Jal rd (minus target at)

abbrev pub jalr : (rd offset base : ℕ) → ℕ → Instr
jalr rd offset base at = Jalr rd base offset

abbrev pub beq : (rs other target : ℕ) → ℕ → Instr
beq rs other target at = Branch Eq rs other (minus target at)

abbrev pub bne : (rs other target : ℕ) → ℕ → Instr
bne rs other target at = Branch Ne rs other (minus target at)

abbrev pub ecall : ℕ → Instr
ecall at = Ecall

abbrev pub ebreak : ℕ → Instr
ebreak at = Ebreak

-- lines that stand one after the other, from an address on
abbrev pub placed : ℕ → List (ℕ → Instr) → List Instr
placed at [] = []
placed at (line ∷ lines) = line at ∷ placed (at + 4) lines
