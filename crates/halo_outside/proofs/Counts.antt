-- Counts that rise.
use Rattle.std.proofs.Common.{◌≡◌, ◌⊎◌, ℕ, ◌-◌, ◌^◌, ◌<◌, inl, inr, arith}
use Rattle.halo_outside.specs.Seen.{Rose}

-- a count that rose is greater at the end than at the start, or stands at its last value at the end
pub rose_means : (before now : ℕ) → now < 2 ^ 64 → Rose before now
    → (before < now) ⊎ (now ≡ 2 ^ 64 - 1)
rose_means before now fits rose = grind arith

-- and the other way round
pub rose_if : (before now : ℕ) → (before < now) ⊎ (now ≡ 2 ^ 64 - 1) → Rose before now
rose_if before now (inl above) = omega arith
rose_if before now (inr last) = omega arith
