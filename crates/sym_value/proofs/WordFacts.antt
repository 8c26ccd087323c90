-- Sums, differences and bits of words, in plain numbers.
use Rattle.std.proofs.Common.{◌≡◌, ◌≢◌, ℕ, ◌+◌, ◌-◌, ◌*◌, ◌/◌, ◌%◌, ◌^◌, ◌<◌, ◌≤◌, bit_and, bit_or, bit_xor, nat_eq}
use Rattle.std.proofs.Common.{nat_lt, sym, ap, ap₂, ◌∙◌, arith}
use Rattle.std.proofs.lemmas.Bool.{eqb-true, eq-eqb, ltb-true, lt-ltb}
use Rattle.std.specs.Cmp.{both_ways}
use Rattle.std.proofs.lemmas.Nat.{xor_mod, or_mod, and_mod, and_block, and_mask, and_le_l, and_le_r, le_or_l, le_or_r}
use lib.Bits.{xor_assoc, xor_self, xor_zero_r, xor_comm}
use Rattle.sym_value.specs.Operations.{difference}

-- an offset moves as its address does
pub sum_moves : (a o w : ℕ) → (a + (o + w) % 2 ^ 32) % 2 ^ 32 ≡ ((a + o) % 2 ^ 32 + w) % 2 ^ 32
sum_moves a o w = omega arith

pub difference_moves : (a o w : ℕ) → (a + difference o w) % 2 ^ 32 ≡ difference ((a + o) % 2 ^ 32) w
difference_moves a o w = omega arith

-- the distance of two offsets is that of their addresses
pub difference_stays : (a o p : ℕ) → o < 2 ^ 32 → p < 2 ^ 32
    → difference o p ≡ difference ((a + o) % 2 ^ 32) ((a + p) % 2 ^ 32)
difference_stays a o p so sp = omega arith

pub equality_stays : (a o p : ℕ) → o < 2 ^ 32 → p < 2 ^ 32 → (a + o) % 2 ^ 32 ≡ (a + p) % 2 ^ 32 → o ≡ p
equality_stays a o p so sp e = omega arith

pub test_stays : (a o p : ℕ) → o < 2 ^ 32 → p < 2 ^ 32 → nat_eq ((a + o) % 2 ^ 32) ((a + p) % 2 ^ 32) ≡ nat_eq o p
test_stays a o p so sp =
    both_ways _ _ (λ e. eq-eqb o p (equality_stays a o p so sp (eqb-true _ _ e)))
    (λ e. eq-eqb _ _ (ap (λ x. (a + x) % 2 ^ 32) (eqb-true o p e)))

-- of numbers above one start, the order is that of the distances
pub order_stays : (v w m n c d : ℕ) → v + d ≡ c + m → w + d ≡ c + n → nat_lt v w ≡ nat_lt m n
order_stays v w m n c d e f =
    both_ways _ _ (λ t. let h : v < w = ltb-true v w t in lt-ltb m n (omega arith))
    (λ t. let h : m < n = ltb-true m n t in lt-ltb v w (omega arith))

-- addresses of blocks leave the low four bits of an offset
pub low_bits_stay : (a o : ℕ) → a % 16 ≡ 0 → (a + o) % 2 ^ 32 % 16 ≡ o % 16
low_bits_stay a o e = omega arith

pub difference_low : (v w o p : ℕ) → w < 2 ^ 32 → p < 2 ^ 32 → v % 16 ≡ o % 16 → w % 16 ≡ p % 16
    → difference v w % 16 ≡ difference o p % 16
difference_low v w o p sw sp e f = omega arith

pub difference_nonzero : (v w : ℕ) → v < 2 ^ 32 → w < 2 ^ 32 → v ≢ w → difference v w ≢ 0
difference_nonzero v w sv sw n e = n (omega arith)

pub xor_low : (v w o p : ℕ) → v % 16 ≡ o % 16 → w % 16 ≡ p % 16 → bit_xor v w % 16 ≡ bit_xor o p % 16
xor_low v w o p e f = xor_mod v w 4 ∙ ap₂ bit_xor e f ∙ sym (xor_mod o p 4)

pub xor_nonzero : (v w : ℕ) → v ≢ w → bit_xor v w ≢ 0
xor_nonzero v w n e =
    n (sym (xor_zero_r v) ∙ ap (bit_xor v) (sym (xor_self w)) ∙ sym (xor_assoc v w w) ∙ ap (λ x. bit_xor x w) e
    ∙ xor_comm 0 w ∙ xor_zero_r w)

pub or_low : (v w o p : ℕ) → v % 16 ≡ o % 16 → w % 16 ≡ p % 16 → bit_or v w % 16 ≡ bit_or o p % 16
or_low v w o p e f = or_mod v w 4 ∙ ap₂ bit_or e f ∙ sym (or_mod o p 4)

pub or_nonzero_left : (v w : ℕ) → v ≢ 0 → bit_or v w ≢ 0
or_nonzero_left v w n e = let h : v ≤ bit_or v w = le_or_l v w in n (omega arith)

pub or_nonzero_right : (v w : ℕ) → w ≢ 0 → bit_or v w ≢ 0
or_nonzero_right v w n e = let h : w ≤ bit_or v w = le_or_r v w in n (omega arith)

-- a mask of four bits sees four bits
pub and_low : (v o m : ℕ) → m ≤ 15 → v % 16 ≡ o % 16 → bit_and v m ≡ bit_and o m
and_low v o m small e =
    let first : bit_and v m ≤ m = and_le_r v m in
    let second : bit_and o m ≤ m = and_le_r o m in
    let same : bit_and v m % 16 ≡ bit_and o m % 16 =
    and_mod v m 4 ∙ ap (λ x. bit_and x (m % 16)) e ∙ sym (and_mod o m 4) in
    omega arith

-- a mask of all bits but some of the low four keeps what stands above them
pub and_high : (v m : ℕ) → v < 2 ^ 32 → 2 ^ 32 - 16 ≤ m → m < 2 ^ 32
    → bit_and v m ≡ v / 16 * 16 + bit_and (v % 16) (m % 16)
and_high v m sv large sm =
    let top : bit_and (v / 16) (2 ^ 28 - 1) ≡ v / 16 % 2 ^ 28 = and_mask (v / 16) 28 in
    let whole : bit_and (v / 16 * 2 ^ 4 + v % 16) ((2 ^ 28 - 1) * 2 ^ 4 + m % 16)
    ≡ bit_and (v / 16) (2 ^ 28 - 1) * 2 ^ 4 + bit_and (v % 16) (m % 16) =
    and_block 4 (v / 16) (2 ^ 28 - 1) (v % 16) (m % 16) (omega arith) (omega arith) in
    let first : v / 16 * 2 ^ 4 + v % 16 ≡ v = omega arith in
    let second : (2 ^ 28 - 1) * 2 ^ 4 + m % 16 ≡ m = omega arith in
    ap₂ bit_and (sym first) (sym second) ∙ whole
    ∙ ap (λ x. x * 16 + bit_and (v % 16) (m % 16)) (top ∙ (let k : v / 16 % 2 ^ 28 ≡ v / 16 = omega arith in k))

-- rounding an offset rounds its address
pub and_moves : (a o m : ℕ) → a % 16 ≡ 0 → o < 2 ^ 32 → 2 ^ 32 - 16 ≤ m → m < 2 ^ 32
    → (a + bit_and o m) % 2 ^ 32 ≡ bit_and ((a + o) % 2 ^ 32) m
and_moves a o m e so large sm =
    let low : (a + o) % 2 ^ 32 % 16 ≡ o % 16 = low_bits_stay a o e in
    let first : bit_and o m ≡ o / 16 * 16 + bit_and (o % 16) (m % 16) = and_high o m so large sm in
    let second : bit_and ((a + o) % 2 ^ 32) m
    ≡ (a + o) % 2 ^ 32 / 16 * 16 + bit_and ((a + o) % 2 ^ 32 % 16) (m % 16) =
    and_high ((a + o) % 2 ^ 32) m (omega arith) large sm in
    let bits : bit_and ((a + o) % 2 ^ 32 % 16) (m % 16) ≡ bit_and (o % 16) (m % 16) =
    ap (λ x. bit_and x (m % 16)) low in
    let less : bit_and (o % 16) (m % 16) ≤ o % 16 = and_le_l (o % 16) (m % 16) in
    omega arith

pub and_small : (o m : ℕ) → o < 2 ^ 32 → bit_and o m < 2 ^ 32
and_small o m so = let h : bit_and o m ≤ o = and_le_l o m in omega arith
