-- A test of a fragment's fields, and its number of words by its parts.
use Rattle.std.specs.Prelude.{ℕ, ◌+◌, ◌%◌, ◌^◌, ◌&&◌, Bool, true, false, nat_lt}
use Rattle.rv_isa.specs.declared.Op.{Op}
use Rattle.rv_isa.specs.declared.Op.TheVariants.{Add, Sub, Sll, Slt, Sltu, Xor, Srl, Sra, Or, And, Mul, Mulh, Mulhsu}
use Rattle.rv_isa.specs.declared.Op.TheVariants.{Mulhu, Div, Divu, Rem, Remu}
use Rattle.frag_code.specs.Fragments.{Fragment, Skip, Set, Compute, Imm, Load, Store, Seq, If, While}
use Rattle.frag_code.specs.Forms.{is_target, is_source}

-- a word that is the sign extension of its low twelve bits
abbrev pub is_near : ℕ → Bool
is_near x = nat_lt x (2 ^ 32) && nat_lt ((x + 2 ^ 11) % 2 ^ 32) (2 ^ 12)

-- an immediate that the operation takes
abbrev pub is_operand : Op → ℕ → Bool
is_operand Add imm = is_near imm
is_operand Sub imm = false
is_operand Sll imm = nat_lt imm 32
is_operand Slt imm = is_near imm
is_operand Sltu imm = is_near imm
is_operand Xor imm = is_near imm
is_operand Srl imm = nat_lt imm 32
is_operand Sra imm = nat_lt imm 32
is_operand Or imm = is_near imm
is_operand And imm = is_near imm
is_operand Mul imm = false
is_operand Mulh imm = false
is_operand Mulhsu imm = false
is_operand Mulhu imm = false
is_operand Div imm = false
is_operand Divu imm = false
is_operand Rem imm = false
is_operand Remu imm = false

-- each register, offset and immediate is in its range
abbrev pub has_fields : Fragment → Bool
has_fields Skip = true
has_fields (Set rd value) = is_target rd
has_fields (Compute op rd rs1 rs2) = is_target rd && (is_source rs1 && is_source rs2)
has_fields (Imm op rd rs1 imm) = is_target rd && (is_source rs1 && is_operand op imm)
has_fields (Load rd rs1 offset) = is_target rd && (is_source rs1 && is_near offset)
has_fields (Store rs1 rs2 offset) = is_source rs1 && (is_source rs2 && is_near offset)
has_fields (Seq first second) = has_fields first && has_fields second
has_fields (If cond rs1 rs2 taken other) = is_source rs1 && (is_source rs2 && (has_fields taken && has_fields other))
has_fields (While cond rs1 rs2 body) = is_source rs1 && (is_source rs2 && has_fields body)

-- how many words a fragment's code has
abbrev pub words_in : Fragment → ℕ
words_in Skip = 0
words_in (Set rd value) = 2
words_in (Compute op rd rs1 rs2) = 1
words_in (Imm op rd rs1 imm) = 1
words_in (Load rd rs1 offset) = 1
words_in (Store rs1 rs2 offset) = 1
words_in (Seq first second) = words_in first + words_in second
words_in (If cond rs1 rs2 taken other) = words_in taken + words_in other + 3
words_in (While cond rs1 rs2 body) = words_in body + 3
