-- The word of an instruction, and which instructions have one (RISC-V unprivileged manual, sections
-- "Base Instruction Formats" and "Immediate Encoding Variants").
use Rattle.std.specs.Prelude.{◌≡◌, ℕ, ◌+◌, ◌-◌, ◌*◌, ◌%◌, ◌^◌, ◌<◌, Bool, true, false, if◌then◌else◌}
use Rattle.rv_isa.specs.declared.Op.{Op}
use Rattle.rv_isa.specs.declared.Op.TheVariants.{Add, Sub, Sll, Slt, Sltu, Xor, Srl, Sra, Or, And, Mul, Mulh, Mulhsu}
use Rattle.rv_isa.specs.declared.Op.TheVariants.{Mulhu, Div, Divu, Rem, Remu}
use Rattle.rv_isa.specs.declared.Cond.{Cond}
use Rattle.rv_isa.specs.declared.Cond.TheVariants.{Eq, Ne, Lt, Ge, Ltu, Geu}
use Rattle.rv_isa.specs.declared.Width.{Width}
use Rattle.rv_isa.specs.declared.Width.TheVariants.{Byte, Half, Word, ByteU, HalfU}
use Rattle.rv_isa.specs.declared.Instr.{Instr}
use Rattle.rv_isa.specs.declared.Instr.TheVariants.{Lui, Auipc, Jal, Jalr, Branch, Load, Store, OpImm, Reg, Fence}
use Rattle.rv_isa.specs.declared.Instr.TheVariants.{Ecall, Ebreak}
use Rattle.rv_isa.specs.Words.{bits_at}

-- the low five bits of a register's number
abbrev pub register : ℕ → ℕ
register r = bits_at 0 5 r

-- the formats, each from its opcode, funct3, funct7, registers and immediate
abbrev pub r_word : (opcode funct3 funct7 rd rs1 rs2 : ℕ) → ℕ
r_word opcode funct3 funct7 rd rs1 rs2 =
    opcode + register rd * 2 ^ 7 + funct3 * 2 ^ 12 + register rs1 * 2 ^ 15 + register rs2 * 2 ^ 20
    + funct7 * 2 ^ 25

abbrev pub i_word : (opcode funct3 rd rs1 imm : ℕ) → ℕ
i_word opcode funct3 rd rs1 imm =
    opcode + register rd * 2 ^ 7 + funct3 * 2 ^ 12 + register rs1 * 2 ^ 15 + bits_at 0 12 imm * 2 ^ 20

abbrev pub s_word : (opcode funct3 rs1 rs2 imm : ℕ) → ℕ
s_word opcode funct3 rs1 rs2 imm =
    opcode + bits_at 0 5 imm * 2 ^ 7 + funct3 * 2 ^ 12 + register rs1 * 2 ^ 15
    + register rs2 * 2 ^ 20 + bits_at 5 7 imm * 2 ^ 25

abbrev pub b_word : (opcode funct3 rs1 rs2 imm : ℕ) → ℕ
b_word opcode funct3 rs1 rs2 imm =
    opcode + bits_at 11 1 imm * 2 ^ 7 + bits_at 1 4 imm * 2 ^ 8 + funct3 * 2 ^ 12
    + register rs1 * 2 ^ 15 + register rs2 * 2 ^ 20 + bits_at 5 6 imm * 2 ^ 25
    + bits_at 12 1 imm * 2 ^ 31

abbrev pub u_word : (opcode rd imm : ℕ) → ℕ
u_word opcode rd imm = opcode + register rd * 2 ^ 7 + bits_at 12 20 imm * 2 ^ 12

abbrev pub j_word : (opcode rd imm : ℕ) → ℕ
j_word opcode rd imm =
    opcode + register rd * 2 ^ 7 + bits_at 12 8 imm * 2 ^ 12 + bits_at 11 1 imm * 2 ^ 20
    + bits_at 1 10 imm * 2 ^ 21 + bits_at 20 1 imm * 2 ^ 31

-- funct3 and funct7 of an operation on registers; those of an immediate have the same funct3
abbrev pub funct3_of : Op → ℕ
funct3_of Add = 0
funct3_of Sub = 0
funct3_of Sll = 1
funct3_of Slt = 2
funct3_of Sltu = 3
funct3_of Xor = 4
funct3_of Srl = 5
funct3_of Sra = 5
funct3_of Or = 6
funct3_of And = 7
funct3_of Mul = 0
funct3_of Mulh = 1
funct3_of Mulhsu = 2
funct3_of Mulhu = 3
funct3_of Div = 4
funct3_of Divu = 5
funct3_of Rem = 6
funct3_of Remu = 7

abbrev pub funct7_of : Op → ℕ
funct7_of Add = 0x00
funct7_of Sub = 0x20
funct7_of Sll = 0x00
funct7_of Slt = 0x00
funct7_of Sltu = 0x00
funct7_of Xor = 0x00
funct7_of Srl = 0x00
funct7_of Sra = 0x20
funct7_of Or = 0x00
funct7_of And = 0x00
funct7_of Mul = 0x01
funct7_of Mulh = 0x01
funct7_of Mulhsu = 0x01
funct7_of Mulhu = 0x01
funct7_of Div = 0x01
funct7_of Divu = 0x01
funct7_of Rem = 0x01
funct7_of Remu = 0x01

abbrev pub funct3_of_cond : Cond → ℕ
funct3_of_cond Eq = 0
funct3_of_cond Ne = 1
funct3_of_cond Lt = 4
funct3_of_cond Ge = 5
funct3_of_cond Ltu = 6
funct3_of_cond Geu = 7

abbrev pub funct3_of_width : Width → ℕ
funct3_of_width Byte = 0
funct3_of_width Half = 1
funct3_of_width Word = 2
funct3_of_width ByteU = 4
funct3_of_width HalfU = 5

-- the operation takes an amount of 0 to 31, in the place of rs2, where it takes an immediate
abbrev pub is_shift : Op → Bool
is_shift Add = false
is_shift Sub = false
is_shift Sll = true
is_shift Slt = false
is_shift Sltu = false
is_shift Xor = false
is_shift Srl = true
is_shift Sra = true
is_shift Or = false
is_shift And = false
is_shift Mul = false
is_shift Mulh = false
is_shift Mulhsu = false
is_shift Mulhu = false
is_shift Div = false
is_shift Divu = false
is_shift Rem = false
is_shift Remu = false

-- the word of an instruction; where a field is too large, its low bits
unfoldable pub encoded : Instr → ℕ
encoded (Lui rd imm) = u_word 0x37 rd imm
encoded (Auipc rd imm) = u_word 0x17 rd imm
encoded (Jal rd imm) = j_word 0x6f rd imm
encoded (Jalr rd rs1 imm) = i_word 0x67 0 rd rs1 imm
encoded (Branch cond rs1 rs2 imm) = b_word 0x63 (funct3_of_cond cond) rs1 rs2 imm
encoded (Load width rd rs1 imm) = i_word 0x03 (funct3_of_width width) rd rs1 imm
encoded (Store width rs1 rs2 imm) = s_word 0x23 (funct3_of_width width) rs1 rs2 imm
encoded (OpImm op rd rs1 imm) =
    if is_shift op then r_word 0x13 (funct3_of op) (funct7_of op) rd rs1 imm
    else i_word 0x13 (funct3_of op) rd rs1 imm
encoded (Reg op rd rs1 rs2) = r_word 0x33 (funct3_of op) (funct7_of op) rd rs1 rs2
encoded (Fence rest) = 0x0f + bits_at 0 25 rest * 2 ^ 7
encoded Ecall = 0x00000073
encoded Ebreak = 0x00100073

-- a word that is the sign extension of its low `n` bits: from -2^(n-1) to 2^(n-1) - 1, modulo 2^32
pub record IsExtended (n x : ℕ) : Type 0 where
  pub word : x < 2 ^ 32
  pub sign : (x + 2 ^ (n - 1)) % 2 ^ 32 < 2 ^ n

-- what an operation takes as immediate, where a row has it: twelve bits, or the amount of a shift
abbrev pub IsOperand : Op → ℕ → Type 0
IsOperand Add imm = IsExtended 12 imm
IsOperand Sub imm = ⊥
IsOperand Sll imm = imm < 32
IsOperand Slt imm = IsExtended 12 imm
IsOperand Sltu imm = IsExtended 12 imm
IsOperand Xor imm = IsExtended 12 imm
IsOperand Srl imm = imm < 32
IsOperand Sra imm = imm < 32
IsOperand Or imm = IsExtended 12 imm
IsOperand And imm = IsExtended 12 imm
IsOperand Mul imm = ⊥
IsOperand Mulh imm = ⊥
IsOperand Mulhsu imm = ⊥
IsOperand Mulhu imm = ⊥
IsOperand Div imm = ⊥
IsOperand Divu imm = ⊥
IsOperand Rem imm = ⊥
IsOperand Remu imm = ⊥

-- the width that a store has: none extends a sign
abbrev pub IsStored : Width → Type 0
IsStored Byte = Unit {0}
IsStored Half = Unit {0}
IsStored Word = Unit {0}
IsStored ByteU = ⊥
IsStored HalfU = ⊥

-- the instruction has a word: its registers and immediate are in the ranges of its format
abbrev pub IsFormed : Instr → Type 0
IsFormed (Lui rd imm) = (rd < 32) × (imm < 2 ^ 32) × (imm % 2 ^ 12 ≡ 0)
IsFormed (Auipc rd imm) = (rd < 32) × (imm < 2 ^ 32) × (imm % 2 ^ 12 ≡ 0)
IsFormed (Jal rd imm) = (rd < 32) × IsExtended 21 imm × (imm % 2 ≡ 0)
IsFormed (Jalr rd rs1 imm) = (rd < 32) × (rs1 < 32) × IsExtended 12 imm
IsFormed (Branch cond rs1 rs2 imm) = (rs1 < 32) × (rs2 < 32) × IsExtended 13 imm × (imm % 2 ≡ 0)
IsFormed (Load width rd rs1 imm) = (rd < 32) × (rs1 < 32) × IsExtended 12 imm
IsFormed (Store width rs1 rs2 imm) = IsStored width × (rs1 < 32) × (rs2 < 32) × IsExtended 12 imm
IsFormed (OpImm op rd rs1 imm) = (rd < 32) × (rs1 < 32) × IsOperand op imm
IsFormed (Reg op rd rs1 rs2) = (rd < 32) × (rs1 < 32) × (rs2 < 32)
IsFormed (Fence rest) = (rest < 2 ^ 25) × (bits_at 5 3 rest ≡ 0)
IsFormed Ecall = Unit {0}
IsFormed Ebreak = Unit {0}

-- the register fields of an instruction are below 32
abbrev pub NamesRegisters : Instr → Type 0
NamesRegisters (Lui rd imm) = rd < 32
NamesRegisters (Auipc rd imm) = rd < 32
NamesRegisters (Jal rd imm) = rd < 32
NamesRegisters (Jalr rd rs1 imm) = (rd < 32) × (rs1 < 32)
NamesRegisters (Branch cond rs1 rs2 imm) = (rs1 < 32) × (rs2 < 32)
NamesRegisters (Load width rd rs1 imm) = (rd < 32) × (rs1 < 32)
NamesRegisters (Store width rs1 rs2 imm) = (rs1 < 32) × (rs2 < 32)
NamesRegisters (OpImm op rd rs1 imm) = (rd < 32) × (rs1 < 32)
NamesRegisters (Reg op rd rs1 rs2) = (rd < 32) × (rs1 < 32) × (rs2 < 32)
NamesRegisters (Fence rest) = Unit {0}
NamesRegisters Ecall = Unit {0}
NamesRegisters Ebreak = Unit {0}
