-- Sign extension and the low bits of a word undo each other, at each width of an immediate.
use Rattle.std.proofs.Common.{◌≡◌, ℕ, ◌+◌, ◌-◌, ◌*◌, ◌/◌, ◌%◌, ◌^◌, ◌<◌, arith}
use Rattle.std.proofs.lemmas.Bool.Decides.{nat_tests}
use Rattle.rv_isa.specs.Words.{extended}
use Rattle.rv_isa.specs.Encoded.{IsExtended}

-- the choice by the top bit as a product
pub extended_12 : (x : ℕ) → x < 2 ^ 12 → extended 12 x ≡ x + x / 2 ^ 11 * (2 ^ 32 - 2 ^ 12)
extended_12 x m = grind (arith, nat_tests)

pub extended_13 : (x : ℕ) → x < 2 ^ 13 → extended 13 x ≡ x + x / 2 ^ 12 * (2 ^ 32 - 2 ^ 13)
extended_13 x m = grind (arith, nat_tests)

pub extended_21 : (x : ℕ) → x < 2 ^ 21 → extended 21 x ≡ x + x / 2 ^ 20 * (2 ^ 32 - 2 ^ 21)
extended_21 x m = grind (arith, nat_tests)

-- what is extended is a sign extension
pub is_extended_12 : (x : ℕ) → x < 2 ^ 12 → IsExtended 12 (extended 12 x)
is_extended_12 x m = let k = extended_12 x m in omega (arith, k)

pub is_extended_13 : (x : ℕ) → x < 2 ^ 13 → IsExtended 13 (extended 13 x)
is_extended_13 x m = let k = extended_13 x m in omega (arith, k)

pub is_extended_21 : (x : ℕ) → x < 2 ^ 21 → IsExtended 21 (extended 21 x)
is_extended_21 x m = let k = extended_21 x m in omega (arith, k)

-- a sign extension is that of its low bits
pub extended_back_12 : (x : ℕ) → IsExtended 12 x → extended 12 (x % 2 ^ 12) ≡ x
extended_back_12 x h =
    let m : x % 2 ^ 12 < 2 ^ 12 = omega arith in
    let k = extended_12 (x % 2 ^ 12) m in omega (arith, k)

pub extended_back_13 : (x : ℕ) → IsExtended 13 x → extended 13 (x % 2 ^ 13) ≡ x
extended_back_13 x h =
    let m : x % 2 ^ 13 < 2 ^ 13 = omega arith in
    let k = extended_13 (x % 2 ^ 13) m in omega (arith, k)

pub extended_back_21 : (x : ℕ) → IsExtended 21 x → extended 21 (x % 2 ^ 21) ≡ x
extended_back_21 x h =
    let m : x % 2 ^ 21 < 2 ^ 21 = omega arith in
    let k = extended_21 (x % 2 ^ 21) m in omega (arith, k)
