-- What operations give of words, and the word of an instruction, are below 2^32.
use Rattle.std.proofs.Common.{ℕ, ◌-◌, ◌*◌, ◌/◌, ◌%◌, ◌^◌, ◌<◌, ◌≤◌, zero, suc, Bool, true, false, ℤ, pos, negsuc, ◌*ℤ◌}
use Rattle.std.proofs.Common.{neg_ℤ, unsigned_abs, of_z, w32, w64, lit<, FitsSigned, rules, arith}
use Rattle.std.specs.Prelude.{nat_lt, ◌==◌, if◌then◌else◌, int_lt}
use Rattle.std.specs.Int.{int_shr}
use Rattle.std.specs.Int.RustNames.{int_div, int_rem}
use Rattle.std.specs.Int.Signed.{mag, mag_shr, mag_rem}
use Rattle.std.specs.Int.Bits.{and_lt, or_lt}
use Rattle.std.proofs.Math.Facts.{Fits-of_z}
use Rattle.std.proofs.lemmas.Nat.{xor_lt}
use Rattle.std.proofs.lemmas.Int.{fits_signed_mul}
use Rattle.rv_isa.specs.declared.Op.{Op}
use Rattle.rv_isa.specs.declared.Op.TheVariants.{Add, Sub, Sll, Slt, Sltu, Xor, Srl, Sra, Or, And, Mul, Mulh, Mulhsu}
use Rattle.rv_isa.specs.declared.Op.TheVariants.{Mulhu, Div, Divu, Rem, Remu}
use Rattle.rv_isa.specs.declared.Cond.{Cond}
use Rattle.rv_isa.specs.declared.Cond.TheVariants.{Eq}
use Rattle.rv_isa.specs.declared.Width.{Width}
use Rattle.rv_isa.specs.declared.Width.TheVariants.{Byte}
use Rattle.rv_isa.specs.declared.Instr.{Instr}
use Rattle.rv_isa.specs.declared.Instr.TheVariants.{Lui, Auipc, Jal, Jalr, Branch, Load, Store, OpImm, Reg, Fence}
use Rattle.rv_isa.specs.declared.Instr.TheVariants.{Ecall, Ebreak}
use Rattle.rv_isa.specs.Encoded.{encoded, funct3_of, funct7_of, funct3_of_cond, funct3_of_width, is_shift, r_word}
use Rattle.rv_isa.specs.Encoded.{i_word, s_word, b_word}
use Rattle.rv_isa.specs.Compute.{signed, word_of, upper_word, computed}

either-lt : (b : Bool) (x y : ℕ) → x < 2 ^ 32 → y < 2 ^ 32 → (if b then x else y) < 2 ^ 32
either-lt true x y m n = m
either-lt false x y m n = n

quotient-lt : (a b : ℕ) → a < 2 ^ 32 → a / b < 2 ^ 32
quotient-lt a b m = omega arith

remainder-lt : (a b : ℕ) → a < 2 ^ 32 → a % b < 2 ^ 32
remainder-lt a b m = omega arith

signed-lt : (a : ℕ) → a < 2 ^ 32 → FitsSigned w32 (signed a)
signed-lt a m = search rules

word_of-lt : (z : ℤ) → mag z < 2 ^ 32 → word_of z < 2 ^ 32
word_of-lt (pos n) m = m
word_of-lt (negsuc n) m = omega arith

negative-lt : (n : ℕ) → word_of (neg_ℤ (pos n)) < 2 ^ 32
negative-lt zero = lit< tt
negative-lt (suc n) = omega arith

div-lt : (a b : ℤ) → FitsSigned w32 a → word_of (int_div a b) < 2 ^ 32
div-lt (pos a) (pos b) f = let m : a < 2 ^ 31 = f.sfits in omega arith
div-lt (pos a) (negsuc b) f = negative-lt (a / suc b)
div-lt (negsuc a) (pos b) f = negative-lt (suc a / b)
div-lt (negsuc a) (negsuc b) f = let m : a < 2 ^ 31 = f.sfits in omega arith

rem-lt : (a b : ℤ) → FitsSigned w32 a → word_of (int_rem a b) < 2 ^ 32
rem-lt a b f =
    let m : mag a < 2 ^ 31 = f.sfits in
    let less : mag (int_rem a b) ≤ mag a = mag_rem a b in
    word_of-lt (int_rem a b) (omega arith)

shr-lt : (a : ℤ) (k : ℕ) → FitsSigned w32 a → word_of (int_shr a k) < 2 ^ 32
shr-lt a k f =
    let m : mag a < 2 ^ 31 = f.sfits in
    let less : mag (int_shr a k) ≤ mag a = mag_shr a (2 ^ k) in
    word_of-lt (int_shr a k) (omega arith)

abs-le : (z : ℤ) → FitsSigned w32 z → unsigned_abs z ≤ 2 ^ 31
abs-le (pos n) f = let h : n < 2 ^ 31 = f.sfits in omega arith
abs-le (negsuc n) f = let h : n < 2 ^ 31 = f.sfits in omega arith

upper-lt : (z : ℤ) → FitsSigned w64 z → upper_word z < 2 ^ 32
upper-lt z f = let m : of_z w64 z < 2 ^ 64 = (Fits-of_z f).fits in omega arith

product-le : (a b : ℕ) → a < 2 ^ 32 → b < 2 ^ 32 → a * b ≤ (2 ^ 32 - 1) * (2 ^ 32 - 1)
product-le a b m n = grind arith

-- an operation gives a word of words
pub computed-lt : (op : Op) (a b : ℕ) → a < 2 ^ 32 → b < 2 ^ 32 → computed op a b < 2 ^ 32
unfolding computed
computed-lt Add a b m n = omega arith
computed-lt Sub a b m n = omega arith
computed-lt Sll a b m n = omega arith
computed-lt Slt a b m n = either-lt (int_lt (signed a) (signed b)) 1 0 (lit< tt) (lit< tt)
computed-lt Sltu a b m n = either-lt (nat_lt a b) 1 0 (lit< tt) (lit< tt)
computed-lt Xor a b m n = xor_lt 32 a b m n
computed-lt Srl a b m n = quotient-lt a (2 ^ (b % 32)) m
computed-lt Sra a b m n = shr-lt (signed a) (b % 32) (signed-lt a m)
computed-lt Or a b m n = or_lt 32 a b m n
computed-lt And a b m n = and_lt 32 a b m n
computed-lt Mul a b m n = omega arith
computed-lt Mulh a b m n =
    upper-lt (signed a *ℤ signed b)
    (fits_signed_mul w64 (signed a) (signed b) (2 ^ 31) (2 ^ 31) (abs-le (signed a) (signed-lt a m))
    (abs-le (signed b) (signed-lt b n)) (lit< tt))
computed-lt Mulhsu a b m n =
    upper-lt (signed a *ℤ pos b)
    (fits_signed_mul w64 (signed a) (pos b) (2 ^ 31) (2 ^ 32 - 1) (abs-le (signed a) (signed-lt a m)) (omega arith)
    (lit< tt))
computed-lt Mulhu a b m n =
    let k : a * b ≤ (2 ^ 32 - 1) * (2 ^ 32 - 1) = product-le a b m n in omega arith
computed-lt Div a b m n =
    either-lt (b == 0) (2 ^ 32 - 1) (word_of (int_div (signed a) (signed b))) (lit< tt)
    (div-lt (signed a) (signed b) (signed-lt a m))
computed-lt Divu a b m n = either-lt (b == 0) (2 ^ 32 - 1) (a / b) (lit< tt) (quotient-lt a b m)
computed-lt Rem a b m n =
    either-lt (b == 0) a (word_of (int_rem (signed a) (signed b))) m (rem-lt (signed a) (signed b) (signed-lt a m))
computed-lt Remu a b m n = either-lt (b == 0) a (a % b) m (remainder-lt a b m)

funct3_of-lt : (op : Op) → funct3_of op < 2 ^ 3
funct3_of-lt Add = lit< tt
funct3_of-lt _ = lit< tt

funct7_of-lt : (op : Op) → funct7_of op < 2 ^ 7
funct7_of-lt Add = lit< tt
funct7_of-lt _ = lit< tt

funct3_of_cond-lt : (cond : Cond) → funct3_of_cond cond < 2 ^ 3
funct3_of_cond-lt Eq = lit< tt
funct3_of_cond-lt _ = lit< tt

funct3_of_width-lt : (width : Width) → funct3_of_width width < 2 ^ 3
funct3_of_width-lt Byte = lit< tt
funct3_of_width-lt _ = lit< tt

-- the formats give words, of an opcode, funct3 and funct7 in range
r_word-lt : (o f g a b c : ℕ) → o < 2 ^ 7 → f < 2 ^ 3 → g < 2 ^ 7 → r_word o f g a b c < 2 ^ 32
r_word-lt o f g a b c lo lf lg = omega arith

i_word-lt : (o f a b c : ℕ) → o < 2 ^ 7 → f < 2 ^ 3 → i_word o f a b c < 2 ^ 32
i_word-lt o f a b c lo lf = omega arith

s_word-lt : (o f a b c : ℕ) → o < 2 ^ 7 → f < 2 ^ 3 → s_word o f a b c < 2 ^ 32
s_word-lt o f a b c lo lf = omega arith

b_word-lt : (o f a b c : ℕ) → o < 2 ^ 7 → f < 2 ^ 3 → b_word o f a b c < 2 ^ 32
b_word-lt o f a b c lo lf = omega arith

-- every instruction's word is one, also where a field is too large
pub encoded-lt : (i : Instr) → encoded i < 2 ^ 32
unfolding encoded
encoded-lt (Lui a b) = omega arith
encoded-lt (Auipc a b) = omega arith
encoded-lt (Jal a b) = omega arith
encoded-lt (Jalr a b c) = omega arith
encoded-lt (Branch cond a b c) = b_word-lt 0x63 (funct3_of_cond cond) a b c (lit< tt) (funct3_of_cond-lt cond)
encoded-lt (Load width a b c) = i_word-lt 0x03 (funct3_of_width width) a b c (lit< tt) (funct3_of_width-lt width)
encoded-lt (Store width a b c) = s_word-lt 0x23 (funct3_of_width width) a b c (lit< tt) (funct3_of_width-lt width)
encoded-lt (OpImm op a b c) =
    either-lt (is_shift op) (r_word 0x13 (funct3_of op) (funct7_of op) a b c) (i_word 0x13 (funct3_of op) a b c)
    (r_word-lt 0x13 (funct3_of op) (funct7_of op) a b c (lit< tt) (funct3_of-lt op) (funct7_of-lt op))
    (i_word-lt 0x13 (funct3_of op) a b c (lit< tt) (funct3_of-lt op))
encoded-lt (Reg op a b c) =
    r_word-lt 0x33 (funct3_of op) (funct7_of op) a b c (lit< tt) (funct3_of-lt op) (funct7_of-lt op)
encoded-lt (Fence a) = omega arith
encoded-lt Ecall = lit< tt
encoded-lt Ebreak = lit< tt
