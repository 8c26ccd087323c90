-- Eight hexadecimal digits: what is read is what is written.
use Rattle.std.proofs.Common.{◌≡◌, ◌<◌, ◌+◌, ◌*◌, ◌/◌, ◌%◌, ◌^◌, ℕ, List, [], ◌∷◌, ◌++◌, Some, refl, arith}
use Rattle.std.proofs.lemmas.Option.{some_pair_parts}
use Rattle.std.proofs.lemmas.Bool.Decides.{nat_tests}
use Rattle.text_fields.specs.Reading.{hex_value, hex_at}
use Rattle.text_fields.specs.Writing.{hex_digit, hex8}
use Rattle.text_fields.proofs.Steps.{bound}

digit_takes : (b d : ℕ) → hex_value b ≡ Some d → (d < 16) × (b ≡ hex_digit d)
digit_takes b d e = grind (arith, nat_tests)

digit_again : (d : ℕ) → d < 16 → hex_value (hex_digit d) ≡ Some d
digit_again d h = grind (arith, nat_tests)

-- a number that is found has 32 bits, and is written there
pub hex_takes : (bytes : List ℕ) (v : ℕ) (rest : List ℕ) → hex_at bytes ≡ Some (v, rest)
    → (v < 2 ^ 32) × (bytes ≡ hex8 v ++ rest)
unfolding hex_at hex8
hex_takes [] v rest e = absurd cc
hex_takes (a ∷ []) v rest e = absurd cc
hex_takes (a ∷ b ∷ []) v rest e = absurd cc
hex_takes (a ∷ b ∷ c ∷ []) v rest e = absurd cc
hex_takes (a ∷ b ∷ c ∷ d ∷ []) v rest e = absurd cc
hex_takes (a ∷ b ∷ c ∷ d ∷ f ∷ []) v rest e = absurd cc
hex_takes (a ∷ b ∷ c ∷ d ∷ f ∷ g ∷ []) v rest e = absurd cc
hex_takes (a ∷ b ∷ c ∷ d ∷ f ∷ g ∷ h ∷ []) v rest e = absurd cc
hex_takes (a ∷ b ∷ c ∷ d ∷ f ∷ g ∷ h ∷ i ∷ more) v rest e =
    bound (hex_value a) _ _ e (λ a7 r7 e7.
    bound (hex_value b) _ _ e7 (λ a6 r6 e6.
    bound (hex_value c) _ _ e6 (λ a5 r5 e5.
    bound (hex_value d) _ _ e5 (λ a4 r4 e4.
    bound (hex_value f) _ _ e4 (λ a3 r3 e3.
    bound (hex_value g) _ _ e3 (λ a2 r2 e2.
    bound (hex_value h) _ _ e2 (λ a1 r1 e1.
    bound (hex_value i) _ _ e1 (λ a0 r0 e0.
    let p7 = digit_takes a a7 r7 in
    let p6 = digit_takes b a6 r6 in
    let p5 = digit_takes c a5 r5 in
    let p4 = digit_takes d a4 r4 in
    let p3 = digit_takes f a3 r3 in
    let p2 = digit_takes g a2 r2 in
    let p1 = digit_takes h a1 r1 in
    let p0 = digit_takes i a0 r0 in
    let both = some_pair_parts _ _ _ _ e0 in
    let x7 : v / 16 ^ 7 % 16 ≡ a7 = omega (arith, both.0, p7.0, p6.0, p5.0, p4.0, p3.0, p2.0, p1.0, p0.0) in
    let x6 : v / 16 ^ 6 % 16 ≡ a6 = omega (arith, both.0, p7.0, p6.0, p5.0, p4.0, p3.0, p2.0, p1.0, p0.0) in
    let x5 : v / 16 ^ 5 % 16 ≡ a5 = omega (arith, both.0, p7.0, p6.0, p5.0, p4.0, p3.0, p2.0, p1.0, p0.0) in
    let x4 : v / 16 ^ 4 % 16 ≡ a4 = omega (arith, both.0, p7.0, p6.0, p5.0, p4.0, p3.0, p2.0, p1.0, p0.0) in
    let x3 : v / 16 ^ 3 % 16 ≡ a3 = omega (arith, both.0, p7.0, p6.0, p5.0, p4.0, p3.0, p2.0, p1.0, p0.0) in
    let x2 : v / 16 ^ 2 % 16 ≡ a2 = omega (arith, both.0, p7.0, p6.0, p5.0, p4.0, p3.0, p2.0, p1.0, p0.0) in
    let x1 : v / 16 % 16 ≡ a1 = omega (arith, both.0, p7.0, p6.0, p5.0, p4.0, p3.0, p2.0, p1.0, p0.0) in
    let x0 : v % 16 ≡ a0 = omega (arith, both.0, p7.0, p6.0, p5.0, p4.0, p3.0, p2.0, p1.0, p0.0) in (
      omega (arith, both.0, p7.0, p6.0, p5.0, p4.0, p3.0, p2.0, p1.0, p0.0),
      rw (x7, x6, x5, x4, x3, x2, x1, x0, p7.1, p6.1, p5.1, p4.1, p3.1, p2.1, p1.1, p0.1, both.1) refl,
    )))))))))

-- a number of 32 bits that is written is found
pub hex_again : (v : ℕ) (rest : List ℕ) → v < 2 ^ 32 → hex_at (hex8 v ++ rest) ≡ Some (v, rest)
unfolding hex_at hex8
hex_again v rest small =
    let d7 = digit_again (v / 16 ^ 7 % 16) (omega arith) in
    let d6 = digit_again (v / 16 ^ 6 % 16) (omega arith) in
    let d5 = digit_again (v / 16 ^ 5 % 16) (omega arith) in
    let d4 = digit_again (v / 16 ^ 4 % 16) (omega arith) in
    let d3 = digit_again (v / 16 ^ 3 % 16) (omega arith) in
    let d2 = digit_again (v / 16 ^ 2 % 16) (omega arith) in
    let d1 = digit_again (v / 16 % 16) (omega arith) in
    let d0 = digit_again (v % 16) (omega arith) in
    let sum : v / 16 ^ 7 % 16 * 16 ^ 7 + v / 16 ^ 6 % 16 * 16 ^ 6 + v / 16 ^ 5 % 16 * 16 ^ 5 + v / 16 ^ 4 % 16 * 16 ^ 4
    + v / 16 ^ 3 % 16 * 16 ^ 3 + v / 16 ^ 2 % 16 * 16 ^ 2 + v / 16 % 16 * 16 + v % 16 ≡ v = omega arith in
    rw (d7, d6, d5, d4, d3, d2, d1, d0, sum) refl
