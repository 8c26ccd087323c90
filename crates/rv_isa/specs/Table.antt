-- The table of instructions (RISC-V unprivileged manual, chapter "RV32/64G Instruction Set Listings",
-- tables "RV32I Base Instruction Set" and "RV32M Standard Extension").
use Rattle.std.specs.Prelude.{◌≡◌, ℕ, ◌+◌, ◌*◌, ◌^◌, ◌==◌, if◌then◌else◌, bit_and, List, [], ◌∷◌, Option, None, Some}
use Rattle.rv_isa.specs.declared.Op.{Op}
use Rattle.rv_isa.specs.declared.Op.TheVariants.{Add, Sub, Sll, Slt, Sltu, Xor, Srl, Sra, Or, And, Mul, Mulh, Mulhsu}
use Rattle.rv_isa.specs.declared.Op.TheVariants.{Mulhu, Div, Divu, Rem, Remu}
use Rattle.rv_isa.specs.declared.Cond.{Cond}
use Rattle.rv_isa.specs.declared.Cond.TheVariants.{Eq, Ne, Lt, Ge, Ltu, Geu}
use Rattle.rv_isa.specs.declared.Width.{Width}
use Rattle.rv_isa.specs.declared.Width.TheVariants.{Byte, Half, Word, ByteU, HalfU}
use Rattle.rv_isa.specs.declared.Instr.{Instr}
use Rattle.rv_isa.specs.declared.Instr.TheVariants.{Lui, Auipc, Jal, Jalr, Branch, Load, Store, OpImm, Reg, Fence}
use Rattle.rv_isa.specs.declared.Instr.TheVariants.{Ecall, Ebreak}
use Rattle.rv_isa.specs.Words.{rd, rs1, rs2, imm_i, imm_s, imm_b, imm_u, imm_j, rest_of}

-- which fields of a word a row fixes: the opcode; also funct3; also funct7; or every bit
pub data Shape : Type 0 where
  Opcode : (opcode : ℕ) → Shape
  Funct3 : (opcode funct3 : ℕ) → Shape
  Funct7 : (opcode funct3 funct7 : ℕ) → Shape
  Whole : (word : ℕ) → Shape

-- the bits that the row fixes
abbrev pub mask_of : Shape → ℕ
mask_of (Opcode o) = 0x0000007f
mask_of (Funct3 o f) = 0x0000707f
mask_of (Funct7 o f g) = 0xfe00707f
mask_of (Whole w) = 0xffffffff

-- what these bits are
abbrev pub match_of : Shape → ℕ
match_of (Opcode o) = o
match_of (Funct3 o f) = o + f * 2 ^ 12
match_of (Funct7 o f g) = o + f * 2 ^ 12 + g * 2 ^ 25
match_of (Whole w) = w

-- a row: the words that fit it, and what instruction such a word is
pub record Row : Type 0 where
  pub shape : Shape
  pub read : ℕ → Instr

-- the words of a row
abbrev pub Fits : Row → ℕ → Type 0
Fits row word = bit_and word (mask_of row.shape) ≡ match_of row.shape

-- rows that differ in funct3, or in funct3 and funct7, by their opcodes
abbrev pub branch : (funct3 : ℕ) → Cond → Row
branch f cond =
    record { shape = Funct3 0x63 f; read = λ w. Branch cond (rs1 w) (rs2 w) (imm_b w) }

abbrev pub load : (funct3 : ℕ) → Width → Row
load f width = record { shape = Funct3 0x03 f; read = λ w. Load width (rd w) (rs1 w) (imm_i w) }

abbrev pub store : (funct3 : ℕ) → Width → Row
store f width = record { shape = Funct3 0x23 f; read = λ w. Store width (rs1 w) (rs2 w) (imm_s w) }

abbrev pub op_imm : (funct3 : ℕ) → Op → Row
op_imm f op = record { shape = Funct3 0x13 f; read = λ w. OpImm op (rd w) (rs1 w) (imm_i w) }

abbrev pub shift : (funct3 funct7 : ℕ) → Op → Row
shift f g op = record { shape = Funct7 0x13 f g; read = λ w. OpImm op (rd w) (rs1 w) (rs2 w) }

abbrev pub reg : (funct3 funct7 : ℕ) → Op → Row
reg f g op = record { shape = Funct7 0x33 f g; read = λ w. Reg op (rd w) (rs1 w) (rs2 w) }

-- the 48 rows, each with the manual's name
unfoldable pub table : List Row
table =
    record { shape = Opcode 0x37; read = λ w. Lui (rd w) (imm_u w) } ∷  -- LUI
    record { shape = Opcode 0x17; read = λ w. Auipc (rd w) (imm_u w) } ∷  -- AUIPC
    record { shape = Opcode 0x6f; read = λ w. Jal (rd w) (imm_j w) } ∷  -- JAL
    record { shape = Funct3 0x67 0; read = λ w. Jalr (rd w) (rs1 w) (imm_i w) } ∷  -- JALR
    branch 0 Eq ∷  -- BEQ
    branch 1 Ne ∷  -- BNE
    branch 4 Lt ∷  -- BLT
    branch 5 Ge ∷  -- BGE
    branch 6 Ltu ∷  -- BLTU
    branch 7 Geu ∷  -- BGEU
    load 0 Byte ∷  -- LB
    load 1 Half ∷  -- LH
    load 2 Word ∷  -- LW
    load 4 ByteU ∷  -- LBU
    load 5 HalfU ∷  -- LHU
    store 0 Byte ∷  -- SB
    store 1 Half ∷  -- SH
    store 2 Word ∷  -- SW
    op_imm 0 Add ∷  -- ADDI
    op_imm 2 Slt ∷  -- SLTI
    op_imm 3 Sltu ∷  -- SLTIU
    op_imm 4 Xor ∷  -- XORI
    op_imm 6 Or ∷  -- ORI
    op_imm 7 And ∷  -- ANDI
    shift 1 0x00 Sll ∷  -- SLLI
    shift 5 0x00 Srl ∷  -- SRLI
    shift 5 0x20 Sra ∷  -- SRAI
    reg 0 0x00 Add ∷  -- ADD
    reg 0 0x20 Sub ∷  -- SUB
    reg 1 0x00 Sll ∷  -- SLL
    reg 2 0x00 Slt ∷  -- SLT
    reg 3 0x00 Sltu ∷  -- SLTU
    reg 4 0x00 Xor ∷  -- XOR
    reg 5 0x00 Srl ∷  -- SRL
    reg 5 0x20 Sra ∷  -- SRA
    reg 6 0x00 Or ∷  -- OR
    reg 7 0x00 And ∷  -- AND
    record { shape = Funct3 0x0f 0; read = λ w. Fence (rest_of w) } ∷  -- FENCE
    record { shape = Whole 0x00000073; read = λ w. Ecall } ∷  -- ECALL
    record { shape = Whole 0x00100073; read = λ w. Ebreak } ∷  -- EBREAK
    reg 0 0x01 Mul ∷  -- MUL
    reg 1 0x01 Mulh ∷  -- MULH
    reg 2 0x01 Mulhsu ∷  -- MULHSU
    reg 3 0x01 Mulhu ∷  -- MULHU
    reg 4 0x01 Div ∷  -- DIV
    reg 5 0x01 Divu ∷  -- DIVU
    reg 6 0x01 Rem ∷  -- REM
    reg 7 0x01 Remu ∷  -- REMU
    []

-- what the first of these rows that the word fits says of it
unfoldable pub read_by : List Row → ℕ → Option Instr
read_by [] word = None
read_by (row ∷ rows) word =
    if bit_and word (mask_of row.shape) == match_of row.shape then Some (row.read word)
    else read_by rows word

-- the instruction that a word is, or none where no row fits
unfoldable pub decoded : ℕ → Option Instr
decoded word = read_by table word

-- no word fits both rows
abbrev pub SharesNoWord : Row → Row → Type 0
SharesNoWord row other = (word : ℕ) → Fits row word → ¬ Fits other word
