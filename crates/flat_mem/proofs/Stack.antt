-- The stack's range.
use Rattle.std.proofs.Common.{◌≡◌, ℕ, ◌-◌, List, [], ◌++◌, true, false, length, replicate, ap, arith}
use Rattle.machine_spec.specs.Memory.{Range, stack, stack_start, stack_size}

-- zeros of the stack's size are the stack
pub stack_is : (n : ℕ) (part : List ℕ) → n ≡ stack_size → part ≡ []
    → record { start = stack_start; writable = true; executable = false; bytes = part ++ replicate (n - length part) 0 }
    ≡ stack
unfolding stack
stack_is n part e f =
    let zeros : ℕ → Range = λ k. record {
      start = stack_start;
      writable = true;
      executable = false;
      bytes =
          replicate k 0;
    } in
    let none : n - 0 ≡ n = omega arith in
    rw (f, none) (ap zeros e)
