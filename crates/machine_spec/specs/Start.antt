-- The registers at the start: sp (x2) is 0x7FFFFF00, all others are 0.
use Rattle.std.specs.Prelude.{ℕ, ◌+◌, ◌%◌, ◌^◌, List, [], ◌∷◌}

abbrev pub start_registers : List ℕ
start_registers =
    0 ∷ 0 ∷ 0x7FFFFF00 ∷ 0 ∷ 0 ∷ 0 ∷ 0 ∷ 0 ∷ 0 ∷ 0 ∷ 0 ∷ 0 ∷ 0 ∷ 0 ∷ 0 ∷ 0
    ∷ 0 ∷ 0 ∷ 0 ∷ 0 ∷ 0 ∷ 0 ∷ 0 ∷ 0 ∷ 0 ∷ 0 ∷ 0 ∷ 0 ∷ 0 ∷ 0 ∷ 0 ∷ 0 ∷ []

-- the address behind an instruction
abbrev pub behind : ℕ → ℕ
behind pc = (pc + 4) % 2 ^ 32
