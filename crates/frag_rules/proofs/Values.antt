-- What operations and tests give, by sums of whole numbers. `Ends` rules take these values.
use Rattle.std.proofs.Common.{◌≡◌, ◌≢◌, ℕ, ◌+◌, ◌-◌, ◌*◌, ◌/◌, ◌%◌, ◌^◌, ◌<◌, ◌≤◌, Bool, true, false, ◌∙◌, refl, ap}
use Rattle.std.proofs.Common.{arith}
use Rattle.std.specs.Prelude.{◌==◌, nat_lt, not}
use Rattle.std.proofs.lemmas.Bool.Decides.{nat_tests}
use Rattle.rv_isa.specs.declared.Op.TheVariants.{Add, Sub, Sll, Sltu, Srl}
use Rattle.rv_isa.specs.declared.Cond.TheVariants.{Eq, Ne, Ltu, Geu}
use Rattle.rv_isa.specs.Compute.{computed, is_held}
use Rattle.rv_isa.specs.Addresses.{plus}

-- sums and differences; less n is a sum with the word of -n
pub sum_is : (a b v : ℕ) → (a + b) % 2 ^ 32 ≡ v → computed Add a b ≡ v
unfolding computed
sum_is a b v e = e

pub add_is : (a b v : ℕ) → a + b ≡ v → v < 2 ^ 32 → computed Add a b ≡ v
add_is a b v e l = sum_is a b v (omega (arith, e, l))

pub less_is : (a n v : ℕ) → v + n ≡ a → a < 2 ^ 32 → 0 < n → computed Add a (2 ^ 32 - n) ≡ v
less_is a n v e l p = sum_is a (2 ^ 32 - n) v (omega (arith, e, l, p))

pub moved_is : (a v : ℕ) → a ≡ v → v < 2 ^ 32 → computed Add a 0 ≡ v
moved_is a v e l = sum_is a 0 v (omega (arith, e, l))

pub sub_is : (a b v : ℕ) → b + v ≡ a → a < 2 ^ 32 → computed Sub a b ≡ v
unfolding computed
sub_is a b v e l = omega (arith, e, l)

-- a sum is 0 exactly where the numbers are the same
pub sub_zero : (a b : ℕ) → a ≡ b → a < 2 ^ 32 → computed Sub a b ≡ 0
sub_zero a b e l = sub_is a b 0 (omega (arith, e)) l

-- shifts
pub shift_is : (a b n v : ℕ) → b ≡ n → n < 32 → a * 2 ^ n ≡ v → v < 2 ^ 32 → computed Sll a b ≡ v
unfolding computed
shift_is a b n v e small f l =
    let same : b % 32 ≡ n = omega (arith, e, small) in
    ap (λ k. a * 2 ^ k % 2 ^ 32) same
    ∙ (ap (λ x. x % 2 ^ 32) f ∙ (let word : v % 2 ^ 32 ≡ v = omega (arith, l) in word))

pub times_8 : (a v : ℕ) → 8 * a ≡ v → v < 2 ^ 32 → computed Sll a 3 ≡ v
unfolding computed
times_8 a v e l = omega (arith, e, l)

pub times_16 : (a v : ℕ) → 16 * a ≡ v → v < 2 ^ 32 → computed Sll a 4 ≡ v
unfolding computed
times_16 a v e l = omega (arith, e, l)

pub times_4 : (a v : ℕ) → 4 * a ≡ v → v < 2 ^ 32 → computed Sll a 2 ≡ v
unfolding computed
times_4 a v e l = omega (arith, e, l)

pub right_is : (a b n v : ℕ) → b ≡ n → n < 32 → a / 2 ^ n ≡ v → computed Srl a b ≡ v
unfolding computed
right_is a b n v e small f =
    let same : b % 32 ≡ n = omega (arith, e, small) in ap (λ k. a / 2 ^ k) same ∙ f

pub half_is : (a v : ℕ) → a / 2 ≡ v → computed Srl a 1 ≡ v
unfolding computed
half_is a v e = e

pub over_8 : (a v : ℕ) → a / 8 ≡ v → computed Srl a 3 ≡ v
unfolding computed
over_8 a v e = e

pub over_16 : (a v : ℕ) → a / 16 ≡ v → computed Srl a 4 ≡ v
unfolding computed
over_16 a v e = e

-- whether one number is below another, as a word
pub below_is : (a b : ℕ) → a < b → computed Sltu a b ≡ 1
unfolding computed
below_is a b l = let t : nat_lt a b ≡ true = grind (arith, nat_tests) in rw t refl

pub not_below_is : (a b : ℕ) → b ≤ a → computed Sltu a b ≡ 0
unfolding computed
not_below_is a b l = let t : nat_lt a b ≡ false = grind (arith, nat_tests) in rw t refl

-- tests of conditions, both ways
pub eq_yes : (a b : ℕ) → a ≡ b → is_held Eq a b ≡ true
unfolding is_held
eq_yes a b e = grind (arith, nat_tests)

pub eq_no : (a b : ℕ) → a ≢ b → is_held Eq a b ≡ false
unfolding is_held
eq_no a b n = grind (arith, nat_tests)

pub eq_true : (a b : ℕ) → is_held Eq a b ≡ true → a ≡ b
unfolding is_held
eq_true a b h = grind (arith, nat_tests)

pub eq_false : (a b : ℕ) → is_held Eq a b ≡ false → a ≢ b
unfolding is_held
eq_false a b h = grind (arith, nat_tests)

pub ne_yes : (a b : ℕ) → a ≢ b → is_held Ne a b ≡ true
unfolding is_held
ne_yes a b n = let t : (a == b) ≡ false = grind (arith, nat_tests) in rw t refl

pub ne_no : (a b : ℕ) → a ≡ b → is_held Ne a b ≡ false
unfolding is_held
ne_no a b e = let t : (a == b) ≡ true = grind (arith, nat_tests) in rw t refl

pub ne_true : (a b : ℕ) → is_held Ne a b ≡ true → a ≢ b
unfolding is_held
ne_true a b h e = let t : (a == b) ≡ true = grind (arith, nat_tests) in let u : true ≡ false = cc (h, t) in cc

pub ne_false : (a b : ℕ) → is_held Ne a b ≡ false → a ≡ b
unfolding is_held
ne_false a b h = by (a == b) refl h
  where
    by : (t : Bool) → (a == b) ≡ t → not t ≡ false → a ≡ b
    by true e h = grind (arith, nat_tests)
    by false e h = absurd (cc)

pub ltu_yes : (a b : ℕ) → a < b → is_held Ltu a b ≡ true
unfolding is_held
ltu_yes a b l = grind (arith, nat_tests)

pub ltu_no : (a b : ℕ) → b ≤ a → is_held Ltu a b ≡ false
unfolding is_held
ltu_no a b l = grind (arith, nat_tests)

pub ltu_true : (a b : ℕ) → is_held Ltu a b ≡ true → a < b
unfolding is_held
ltu_true a b h = grind (arith, nat_tests)

pub ltu_false : (a b : ℕ) → is_held Ltu a b ≡ false → b ≤ a
unfolding is_held
ltu_false a b h = grind (arith, nat_tests)

pub geu_yes : (a b : ℕ) → b ≤ a → is_held Geu a b ≡ true
unfolding is_held
geu_yes a b l = let t : nat_lt a b ≡ false = grind (arith, nat_tests) in rw t refl

pub geu_no : (a b : ℕ) → a < b → is_held Geu a b ≡ false
unfolding is_held
geu_no a b l = let t : nat_lt a b ≡ true = grind (arith, nat_tests) in rw t refl

-- an address with an offset
pub plus_is : (a offset v : ℕ) → a + offset ≡ v → v < 2 ^ 32 → plus a offset ≡ v
plus_is a offset v e l = omega (arith, e, l)
