-- How the registers stand in 33 slots.
use Rattle.std.specs.Prelude.{ℕ, List, take, slice_index, slice_set}

-- the first 32 slots are the registers, but that what was written to x0 stands in the last one
abbrev pub registers_in : List ℕ → List ℕ
registers_in slots = slice_set (take 32 slots) 0 (slice_index slots 32)
