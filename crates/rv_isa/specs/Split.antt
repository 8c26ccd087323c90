-- A distance as the immediates of `auipc` and `jalr` (RISC-V unprivileged manual, section "Integer
-- Register-Immediate Instructions": the pair reaches every address relative to the pc).
use Rattle.std.specs.Prelude.{ℕ, ◌+◌, ◌-◌, ◌*◌, ◌/◌, ◌%◌, ◌^◌}

-- the distance rounded to the nearest multiple of 4096, a half upwards
abbrev pub upper_part : ℕ → ℕ
upper_part d = (d + 2048) % 2 ^ 32 / 2 ^ 12 * 2 ^ 12

-- the upper part, and what is left: the distance minus it, modulo 2^32
abbrev pub split_of : ℕ → ℕ × ℕ
split_of d = (upper_part d, (d + 2 ^ 32 - upper_part d) % 2 ^ 32)
