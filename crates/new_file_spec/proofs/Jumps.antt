-- The jump to a stub is an instruction.
use Rattle.std.proofs.Common.{◌≡◌, ℕ, ◌+◌, ◌%◌, ◌^◌, ◌<◌, ◌≤◌, true, arith}
use Rattle.std.proofs.lemmas.Bool.Decides.{nat_tests}
use Rattle.rv_isa.specs.declared.Instr.TheVariants.{Jal}
use Rattle.rv_isa.specs.Addresses.{minus}
use Rattle.rv_isa.specs.Encoded.{IsFormed}
use Rattle.site_spec.specs.Places.{reaches}

-- a jump to a place within reach is formed
pub jump_formed : (to a : ℕ) → to < 2 ^ 31 → a % 4 ≡ 0 → to % 4 ≡ 0 → reaches a to ≡ true
    → IsFormed (Jal 0 (minus to a))
jump_formed to a room even aligned reach =
    let back : a ≤ to + 1048576 = grind (arith, nat_tests) in
    let ahead : to ≤ a + 1048574 = grind (arith, nat_tests) in (
      omega arith,
      record { word = omega arith; sign = omega (arith, room, back, ahead) },
      omega
          (arith, even, aligned, room, back),
    )
