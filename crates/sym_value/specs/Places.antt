-- Where pointers and numbers may lie, as far as values know it: of a block its capacity and whether it
-- lives, of the image its end, and never the address of a block. Offsets are words.
use Rattle.std.specs.Prelude.{ℕ, ◌+◌, ◌-◌, ◌%◌, ◌^◌, List, [], ◌∷◌, ◌++◌, Bool, true, false, ◌&&◌, ◌||◌, Option, Some}
use Rattle.std.specs.Prelude.{None, nat_le, nat_lt, max, slice_get, slice_set}
use Rattle.sym_value.specs.declared.live.Life.{Life}

-- the blocks so far by their names, which count from 0, and the end of the image
pub record Lives : Type 0 where
  pub blocks : List Life
  pub end : ℕ

-- no blocks so far, one more block, which lives, and the blocks when one has died
abbrev pub no_blocks : ℕ → Lives
no_blocks end = record { blocks = []; end = end }

abbrev pub with_block : ℕ → Lives → Lives
with_block capacity live = record live { blocks = live.blocks ++ record { capacity = capacity; lives = true } ∷ [] }

abbrev pub capacity_in : Option Life → ℕ
capacity_in (Some k) = k.capacity
capacity_in None = 0

abbrev pub capacity_of : Lives → ℕ → ℕ
capacity_of live b = capacity_in (slice_get live.blocks b)

abbrev pub without_block : ℕ → Lives → Lives
without_block b live =
    record live { blocks = slice_set live.blocks b (record { capacity = capacity_of live b; lives = false }) }

abbrev pub lives_in : Option Life → Bool
lives_in (Some k) = k.lives
lives_in None = false

abbrev pub is_living : Lives → ℕ → Bool
is_living live b = lives_in (slice_get live.blocks b)

-- inner: the block lives and the offset is below its capacity
abbrev pub is_inner_of : Option Life → ℕ → Bool
is_inner_of (Some k) o = k.lives && nat_lt o k.capacity
is_inner_of None o = false

abbrev pub is_inner : Lives → ℕ → ℕ → Bool
is_inner live b o = is_inner_of (slice_get live.blocks b) o

-- on: the offset is at most the capacity; the block may be dead
abbrev pub is_on_of : Option Life → ℕ → Bool
is_on_of (Some k) o = nat_le o k.capacity
is_on_of None o = false

abbrev pub is_on : Lives → ℕ → ℕ → Bool
is_on live b o = is_on_of (slice_get live.blocks b) o

-- near: the offset is at most 65536 above the capacity, or at most 65536 below 2^32
abbrev pub is_near_of : Option Life → ℕ → Bool
is_near_of (Some k) o = nat_le o (k.capacity + 65536) || nat_le (2 ^ 32 - 65536) o
is_near_of None o = false

abbrev pub is_near : Lives → ℕ → ℕ → Bool
is_near live b o = is_near_of (slice_get live.blocks b) o

-- the signed offset of a near pointer, which is o or o - 2^32, plus 65536: so it is a whole number,
-- and of two near offsets it is smaller exactly where the signed one is
abbrev pub shifted : ℕ → ℕ
shifted o = (o + 65536) % 2 ^ 32

-- numbers below each block, above each block, and both
abbrev pub is_low : Lives → ℕ → Bool
is_low live w = nat_lt w (max 65536 live.end)

abbrev pub is_high : ℕ → Bool
is_high w = nat_le 0x7FF00000 w

abbrev pub is_outer : Lives → ℕ → Bool
is_outer live w = is_low live w || is_high w
