-- The fields and immediates of an instruction word (RISC-V unprivileged manual, sections "Base
-- Instruction Formats" and "Immediate Encoding Variants"). A word is a number below 2^32.
use Rattle.std.specs.Prelude.{ℕ, ◌+◌, ◌-◌, ◌*◌, ◌/◌, ◌%◌, ◌^◌, nat_lt, if◌then◌else◌}

-- the `n` bits of a word from bit `lo` up
abbrev pub bits_at : (lo n word : ℕ) → ℕ
bits_at lo n word = word / 2 ^ lo % 2 ^ n

-- a number of `n` bits as a word, its top bit copied into all bits above
abbrev pub extended : (n x : ℕ) → ℕ
extended n x = if nat_lt x (2 ^ (n - 1)) then x else x + (2 ^ 32 - 2 ^ n)

-- the register that is written
abbrev pub rd : ℕ → ℕ
rd word = bits_at 7 5 word

-- the first register that is read
abbrev pub rs1 : ℕ → ℕ
rs1 word = bits_at 15 5 word

-- the second register that is read, or the amount of a shift by a constant
abbrev pub rs2 : ℕ → ℕ
rs2 word = bits_at 20 5 word

-- bits 31:20
abbrev pub imm_i : ℕ → ℕ
imm_i word = extended 12 (word / 2 ^ 20)

-- bits 31:25 and 11:7
abbrev pub imm_s : ℕ → ℕ
imm_s word = extended 12 (word / 2 ^ 25 * 2 ^ 5 + bits_at 7 5 word)

-- bits 31, 7, 30:25 and 11:8, then a 0
abbrev pub imm_b : ℕ → ℕ
imm_b word =
    extended 13 (word / 2 ^ 31 * 2 ^ 12 + bits_at 7 1 word * 2 ^ 11 + bits_at 25 6 word * 2 ^ 5
    + bits_at 8 4 word * 2)

-- bits 31:12, then twelve zeros
abbrev pub imm_u : ℕ → ℕ
imm_u word = word / 2 ^ 12 * 2 ^ 12

-- bits 31, 19:12, 20 and 30:21, then a 0
abbrev pub imm_j : ℕ → ℕ
imm_j word =
    extended 21 (word / 2 ^ 31 * 2 ^ 20 + bits_at 12 8 word * 2 ^ 12 + bits_at 20 1 word * 2 ^ 11
    + bits_at 21 10 word * 2)

-- all bits but the opcode
abbrev pub rest_of : ℕ → ℕ
rest_of word = word / 2 ^ 7
