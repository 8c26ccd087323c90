-- Tests of numbers and what they say.
use Rattle.std.proofs.Common.{◌≡◌, ◌==◌, ◌&&◌, ◌<◌, ◌≤◌, ℕ, Bool, true, false, nat_le, Result, Ok, Err, IsOk, OnOk}
use Rattle.std.proofs.Common.{refl, arith}
use Rattle.std.proofs.lemmas.Bool.Decides.{nat_tests}

pub is_far : (a b : ℕ) → b < a → nat_le a b ≡ false
is_far a b h = grind (arith, nat_tests)

pub is_near : (a b : ℕ) → a ≤ b → nat_le a b ≡ true
is_near a b h = grind (arith, nat_tests)

pub far_from : (a b : ℕ) → nat_le a b ≡ false → b < a
far_from a b h = grind (arith, nat_tests)

pub near_from : (a b : ℕ) → nat_le a b ≡ true → a ≤ b
near_from a b h = grind (arith, nat_tests)

pub is_same : (a b : ℕ) → a ≡ b → (a == b) ≡ true
is_same a b h = grind (arith, nat_tests)

pub is_other : (a b : ℕ) → (a ≡ b → ⊥) → (a == b) ≡ false
is_other a b h = grind (arith, nat_tests)

pub same_from : (a b : ℕ) → (a == b) ≡ true → a ≡ b
same_from a b h = grind (arith, nat_tests)

pub other_from : (a b : ℕ) → (a == b) ≡ false → a ≡ b → ⊥
other_from a b h e = grind (arith, nat_tests)

pub turned : (a b : ℕ) → (a == b) ≡ (b == a)
turned a b = grind (arith, nat_tests)

-- the parts of a test of two
pub both : (a b : Bool) → (a && b) ≡ true → (a ≡ true) × (b ≡ true)
both true b e = (refl, e)
both false b e = absurd cc

-- a test that answers true exactly where another does is the other
pub same_test : (a b : Bool) → (a ≡ true → b ≡ true) → (b ≡ true → a ≡ true) → a ≡ b
same_test true b there back = let e : b ≡ true = there refl in cc
same_test false true there back = back refl
same_test false false there back = refl

-- what holds on success holds of a success
pub after : {T E : Type 0} (r : Result T E) (P : Type 0) → IsOk r → OnOk r P → P
after (Ok x) P is p = p
after (Err e) P is p = absurd cc
