-- What operations and conditions are of two words (RISC-V unprivileged manual, sections "Integer
-- Computational Instructions", "Conditional Branches", and chapter "M Standard Extension").
use Rattle.std.specs.Prelude.{ℕ, ◌+◌, ◌-◌, ◌*◌, ◌/◌, ◌%◌, ◌^◌, ◌==◌, nat_lt, if◌then◌else◌, Bool, not, bit_and, bit_or}
use Rattle.std.specs.Prelude.{bit_xor, ℤ, pos, ◌*ℤ◌, int_lt}
use Rattle.std.specs.Int.{w32, w64, cast_signed, cast_unsigned, int_shr}
use Rattle.std.specs.Int.RustNames.{int_div, int_rem}
use Rattle.rv_isa.specs.declared.Op.{Op}
use Rattle.rv_isa.specs.declared.Op.TheVariants.{Add, Sub, Sll, Slt, Sltu, Xor, Srl, Sra, Or, And, Mul, Mulh, Mulhsu}
use Rattle.rv_isa.specs.declared.Op.TheVariants.{Mulhu, Div, Divu, Rem, Remu}
use Rattle.rv_isa.specs.declared.Cond.{Cond}
use Rattle.rv_isa.specs.declared.Cond.TheVariants.{Eq, Ne, Lt, Ge, Ltu, Geu}

-- a word read with a sign, and the word of a number from -2^31 to 2^32 - 1
abbrev pub signed : ℕ → ℤ
signed a = cast_signed w32 a

abbrev pub word_of : ℤ → ℕ
word_of z = cast_unsigned w32 z

-- the upper word of a product of two words
abbrev pub upper_word : ℤ → ℕ
upper_word z = cast_unsigned w64 z / 2 ^ 32

-- the word that an operation gives
unfoldable pub computed : Op → ℕ → ℕ → ℕ
computed Add a b = (a + b) % 2 ^ 32
computed Sub a b = (a + (2 ^ 32 - b)) % 2 ^ 32
computed Sll a b = a * 2 ^ (b % 32) % 2 ^ 32
computed Slt a b = if int_lt (signed a) (signed b) then 1 else 0
computed Sltu a b = if nat_lt a b then 1 else 0
computed Xor a b = bit_xor a b
computed Srl a b = a / 2 ^ (b % 32)
computed Sra a b = word_of (int_shr (signed a) (b % 32))
computed Or a b = bit_or a b
computed And a b = bit_and a b
computed Mul a b = a * b % 2 ^ 32
computed Mulh a b = upper_word (signed a *ℤ signed b)
computed Mulhsu a b = upper_word (signed a *ℤ pos b)
computed Mulhu a b = a * b / 2 ^ 32
computed Div a b = if b == 0 then 2 ^ 32 - 1 else word_of (int_div (signed a) (signed b))
computed Divu a b = if b == 0 then 2 ^ 32 - 1 else a / b
computed Rem a b = if b == 0 then a else word_of (int_rem (signed a) (signed b))
computed Remu a b = if b == 0 then a else a % b

-- whether a condition holds
unfoldable pub is_held : Cond → ℕ → ℕ → Bool
is_held Eq a b = a == b
is_held Ne a b = not (a == b)
is_held Lt a b = int_lt (signed a) (signed b)
is_held Ge a b = not (int_lt (signed a) (signed b))
is_held Ltu a b = nat_lt a b
is_held Geu a b = not (nat_lt a b)
