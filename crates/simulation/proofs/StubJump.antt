-- The jump from a chosen site to its stub.
use Rattle.std.proofs.Common.{◌≡◌, ℕ, ◌%◌, ◌^◌, ◌<◌, List, refl, arith}
use Rattle.std.specs.Prelude.{Some, slice_set}
use Rattle.rv_isa.specs.declared.Instr.TheVariants.{Jal}
use Rattle.rv_isa.specs.Addresses.{plus, minus}
use Rattle.machine_spec.specs.Start.{behind}
use Rattle.flat_spec.specs.Machine.{Machine}
use Rattle.flat_spec.specs.Calls.{quiet}
use Rattle.flat_spec.specs.Turns.{executes, acts}

-- it goes there
pub jal_turn : (input : List ℕ) (m : Machine) (a at : ℕ) → m.pc ≡ a → a < 2 ^ 31 → at < 2 ^ 31 → at % 4 ≡ 0
    → executes input (Some (Jal 0 (minus at a))) m
    ≡ quiet input (record m { registers = slice_set m.registers 0 (behind m.pc); pc = at })
unfolding acts
jal_turn input m a at e low room aligned =
    let there : plus a (minus at a) ≡ at = omega arith in
    let target : plus m.pc (minus at a) ≡ at = rw e there in
    rw (target, aligned) refl
