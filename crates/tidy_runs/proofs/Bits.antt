-- A bit that is set or cleared, and the others, which stay.
use Rattle.std.proofs.Common.{◌≡◌, ◌≢◌, ◌∙◌, ℕ, ◌-◌, ◌*◌, ◌^◌, ◌<◌, bit_and, bit_or, sym, ap, arith, w32, IsBitSet}
use Rattle.std.specs.Int.{bit_at}
use Rattle.std.proofs.lemmas.Nat.{pow_pos, pow_below}
use Rattle.std.proofs.lemmas.Nat.Bits.{bit_at_and, bit_at_or, bit_at-pow_same, bit_at-pow_other, bit_at-lt, and_pow}
use Rattle.std.proofs.lemmas.Nat.Bits.{bit_at_not}

pub set_at : (n k : ℕ) → IsBitSet n k → bit_at n k ≡ 1
set_at n k set =
    let small = bit_at-lt n k in
    let by = and_pow n k in
    let some : bit_at n k ≢ 0 = λ none.
    (let product : bit_at n k * 2 ^ k ≡ 0 * 2 ^ k = ap (λ b. b * 2 ^ k) none in set (omega (arith, by, product))) in
    omega (arith, small, some)

pub of_set : (n k : ℕ) → bit_at n k ≡ 1 → IsBitSet n k
of_set n k one none =
    let by = and_pow n k in
    let some = pow_pos k in
    let power : 1 * 2 ^ k ≡ 0 = sym (ap (λ b. b * 2 ^ k) one) ∙ (sym by ∙ none) in
    omega (arith, power, some)

-- a bit that is set
pub set_same : (bits k : ℕ) → IsBitSet (bit_or bits (2 ^ k)) k
set_same bits k =
    let small = bit_at-lt bits k in
    of_set (bit_or bits (2 ^ k)) k (omega (arith, bit_at_or bits (2 ^ k) k, bit_at-pow_same k, small))

pub set_kept : (bits k n : ℕ) → IsBitSet bits n → IsBitSet (bit_or bits (2 ^ k)) n
set_kept bits k n set =
    let one = set_at bits n set in
    let small = bit_at-lt (2 ^ k) n in
    of_set (bit_or bits (2 ^ k)) n (omega (arith, bit_at_or bits (2 ^ k) n, one, small))

pub set_other : (bits k n : ℕ) → n ≢ k → IsBitSet (bit_or bits (2 ^ k)) n → IsBitSet bits n
set_other bits k n apart set =
    let one = set_at (bit_or bits (2 ^ k)) n set in
    of_set bits n (omega (arith, bit_at_or bits (2 ^ k) n, one, bit_at-pow_other k n apart))

-- a bit that is cleared
pub cleared_same : (bits k : ℕ) → k < 32 → IsBitSet (bit_and bits (2 ^ 32 - 1 - 2 ^ k)) k → ⊥
cleared_same bits k few set =
    let one = set_at (bit_and bits (2 ^ 32 - 1 - 2 ^ k)) k set in
    let mask : bit_at (2 ^ 32 - 1 - 2 ^ k) k ≡ 1 - bit_at (2 ^ k) k =
    bit_at_not w32 (2 ^ k) k (pow_below k 32 few) few in
    omega (arith, bit_at_and bits (2 ^ 32 - 1 - 2 ^ k) k, one, mask, bit_at-pow_same k)

pub cleared_old : (bits m n : ℕ) → IsBitSet (bit_and bits m) n → IsBitSet bits n
cleared_old bits m n set =
    let one = set_at (bit_and bits m) n set in
    let small = bit_at-lt bits n in
    of_set bits n (omega (arith, bit_at_and bits m n, one, small))

pub cleared_kept : (bits k n : ℕ) → k < 32 → n < 32 → n ≢ k → IsBitSet bits n
    → IsBitSet (bit_and bits (2 ^ 32 - 1 - 2 ^ k)) n
cleared_kept bits k n few low apart set =
    let one = set_at bits n set in
    let mask : bit_at (2 ^ 32 - 1 - 2 ^ k) n ≡ 1 - bit_at (2 ^ k) n =
    bit_at_not w32 (2 ^ k) n (pow_below k 32 few) low in
    of_set (bit_and bits (2 ^ 32 - 1 - 2 ^ k)) n
    (omega (arith, bit_at_and bits (2 ^ 32 - 1 - 2 ^ k) n, one, mask, bit_at-pow_other k n apart))
