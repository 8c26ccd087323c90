-- How blocks are kept: the lives of all, and beside each a buffer with its cells, empty once it is dead.
use Rattle.std.specs.Prelude.{◌≡◌, ℕ, ◌*◌, ◌/◌, ◌%◌, List, [], ◌∷◌, Bool, true, false, Option, Some, None}
use Rattle.std.specs.Prelude.{if◌then◌else◌, length, replicate, slice_get}
use Rattle.sym_value.specs.declared.live.Life.{Life}
use Rattle.sym_cells.specs.Cells.{Cell, blank_cell}
use Rattle.sym_cells.specs.Buffers.{is_inside_one}
use Rattle.sym_cells.specs.Memory.{Block}

-- what contracts see of blocks: all of them, beside the end of the image
pub record HeldBlocks : Type 0 where
  pub blocks : List Block
  pub end : ℕ

-- a block out of its life and its buffer: the bytes of a dead one are unset
abbrev pub block_with : Bool → ℕ → List Cell → Block
block_with true capacity cells = record { cells = cells; lives = true }
block_with false capacity cells = record { cells = replicate (capacity / 4) blank_cell; lives = false }

abbrev pub block_of : Life → List Cell → Block
block_of k cells = block_with k.lives k.capacity cells

unfoldable pub blocks_of : List Life → List (List Cell) → List Block
blocks_of [] buffers = []
blocks_of (k ∷ lives) [] = []
blocks_of (k ∷ lives) (cells ∷ buffers) = block_of k cells ∷ blocks_of lives buffers

-- the capacity is a number of whole cells, and that of the buffer while the block lives
pub record IsKept (k : Life) (cells : List Cell) : Type 0 where
  pub whole : k.capacity % 4 ≡ 0
  pub size : k.lives ≡ true → k.capacity ≡ 4 * length cells

-- there is a buffer for each block
abbrev pub AreKept : List Life → List (List Cell) → Type 0
AreKept [] [] = Unit {0}
AreKept (k ∷ lives) (cells ∷ buffers) = IsKept k cells × AreKept lives buffers
AreKept [] (cells ∷ buffers) = ⊥
AreKept (k ∷ lives) [] = ⊥

-- the n bytes from an offset on can be reached
abbrev pub holds_access : ℕ → ℕ → Option Block → Bool
holds_access = is_inside_one

-- a block that lives
abbrev pub is_alive : Option Block → Bool
is_alive (Some k) = k.lives
is_alive None = false
