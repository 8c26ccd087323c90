-- When bytes of the flat machine stand for cells: a region is a range of its addresses from a base on,
-- of which some offsets can be reached, and the cells that they stand for. Plain memory is the region
-- from 0 on whose offsets are the plain addresses; a living block is the region from its address on.
use Rattle.std.specs.Prelude.{◌≡◌, ◌⊎◌, ℕ, ◌+◌, ◌*◌, ◌/◌, ◌^◌, ◌<◌, ◌≤◌, List, Bool, true, Some, is_some, nat_lt}
use Rattle.std.specs.Prelude.{length, map, slice_get, slice_index}
use Rattle.rv_isa.specs.declared.Width.{Width}
use Rattle.machine_spec.specs.Memory.{Range, range_at, byte_of, all_from}
use Rattle.machine_spec.specs.Widths.{number_of, low_bytes, size_of}
use Rattle.flat_spec.specs.Stores as flat
use Rattle.flat_spec.specs.Stores.{allows_store, bytes_from, can_store, put_bytes}
use Rattle.sym_value.specs.declared.Value.{Value}
use Rattle.sym_value.specs.declared.Value.TheVariants.{Mix}
use Rattle.sym_value.specs.declared.live.Life.{Life}
use Rattle.sym_value.specs.Standing.{standing, byte_of_word, IsReturn, IsWhole, Holds, Placed}
use Rattle.sym_cells.specs.declared.Mark.{Mark}
use Rattle.sym_cells.specs.declared.Mark.TheVariants.{Known, Blank, Piece}
use Rattle.sym_cells.specs.Cells.{Mixed, Cells, cell_in, mark_at}
use Rattle.sym_cells.specs.Memory.{Block, Memory, has_cell, cell_at, capacity_of, life_of, live_of}

-- the mark stands for the byte
abbrev pub MarkStands : (ℕ → ℕ) → List ℕ → Mark → ℕ → Type 0
MarkStands back at (Known v) b = b ≡ v
MarkStands back at Blank b = Unit {0}
MarkStands back at (Piece s i) b = (b ≡ byte_of_word i (standing back at s)) × IsWhole at s × (i < 4)

-- the bytes of a region stand for its cells
pub record Region (back : ℕ → ℕ) (at : List ℕ) (memory : List Range) (base : ℕ) (covers : ℕ
    → Bool) (cells : Cells) : Type 0 where
  pub marks : (o b : ℕ) → covers o ≡ true → byte_of memory (base + o) ≡ Some b → MarkStands back at (mark_at cells o) b
  pub mixes : (k low : ℕ) (bs : List ℕ) → all_from covers (4 * k) 4 ≡ true → cells k ≡ Mixed low
      → bytes_from memory (base + 4 * k) 4 ≡ Some bs → Holds back at (Mix low) (number_of bs)

-- return addresses are mapped to words
abbrev pub AreWords : (ℕ → ℕ) → Type 0
AreWords back = (a : ℕ) → IsReturn a → back a < 2 ^ 32

-- the offsets of a block
abbrev pub is_offset : Block → ℕ → Bool
is_offset k o = nat_lt o (capacity_of k)

-- the flat machine's bytes stand for plain memory and for each living block at its address
pub record MemoryStands (back : ℕ → ℕ) (at : List ℕ) (plain : ℕ
    → Bool) (memory : List Range) (m : Memory) : Type 0 where
  pub plain_stands : Region back at memory 0 plain (cell_at m.plain)
  pub blocks_stand : (b : ℕ) (k : Block) → slice_get m.blocks b ≡ Some k → k.lives ≡ true
      → Region back at memory (slice_index at b) (is_offset k) (cell_in k.cells)

-- memory is there at the n addresses from a on
abbrev pub IsThere : List Range → ℕ → ℕ → Type 0
IsThere memory a n = (x : ℕ) → a ≤ x → x < a + n → is_some (range_at memory x) ≡ true

-- an address inside a living block
pub record InBlock (at : List ℕ) (m : Memory) (a : ℕ) : Type 0 where
  pub block : ℕ
  pub life : Life
  pub is : slice_get (map life_of m.blocks) block ≡ Some life
  pub lives : life.lives ≡ true
  pub low : slice_index at block ≤ a
  pub high : a < slice_index at block + life.capacity

-- where plain memory and blocks lie in the flat machine's: plain bytes are there and in the spans, what
-- can be stored to is so on both machines, and blocks lie in the area, apart from each other and from
-- plain bytes
pub record Laid (at : List ℕ) (end : ℕ) (plain storable : ℕ → Bool) (memory : List Range) (m : Memory) : Type 0 where
  pub placed : Placed (live_of end m) at
  pub covered : (a : ℕ) → plain a ≡ true → has_cell (a / 4) m.plain ≡ true
  pub stores : (a : ℕ) → storable a ≡ true → plain a ≡ true
  pub there : (a : ℕ) → plain a ≡ true → is_some (range_at memory a) ≡ true
  pub writable : (a : ℕ) → storable a ≡ true → allows_store (range_at memory a) ≡ true
  pub block_writable : (b o : ℕ) (k : Life) → slice_get (map life_of m.blocks) b ≡ Some k → k.lives ≡ true
      → o < k.capacity
      → allows_store (range_at memory (slice_index at b + o)) ≡ true
  pub plain_apart : (a b : ℕ) (k : Life) → plain a ≡ true → slice_get (map life_of m.blocks) b ≡ Some k → k.lives ≡ true
      → (a < slice_index at b) ⊎ (slice_index at b + k.capacity ≤ a)

-- a load on the flat machine, of a word for which the value stands
pub record LoadsAlike (back : ℕ → ℕ) (at : List ℕ) (memory : List Range) (width : Width) (a : ℕ)
    (x : Value) : Type 0 where
  pub word : ℕ
  pub there : flat.loaded memory width a ≡ Some word
  pub holds : Holds back at x word

-- a store on the flat machine after which the memories still stand and lie as before; it went to bytes
-- that can be stored to or to a living block
pub record StoresAlike (back : ℕ → ℕ) (at : List ℕ) (end : ℕ) (plain storable : ℕ
    → Bool) (memory : List Range) (m n : Memory) (width : Width) (a w : ℕ) : Type 0 where
  pub there : flat.stored memory width a w ≡ Some (put_bytes memory a (low_bytes (size_of width) w))
  pub stands : MemoryStands back at plain (put_bytes memory a (low_bytes (size_of width) w)) n
  pub laid : Laid at end plain storable (put_bytes memory a (low_bytes (size_of width) w)) n
  pub lives : map life_of n.blocks ≡ map life_of m.blocks
  pub went : (x : ℕ) → a ≤ x → x < a + size_of width → (storable x ≡ true) ⊎ InBlock at m x

-- a read into a buffer of so many bytes on the flat machine, which stores these, after which the memories
-- still stand and lie as before
pub record FillsAlike (back : ℕ → ℕ) (at : List ℕ) (end : ℕ) (plain storable : ℕ
    → Bool) (memory : List Range) (m n : Memory) (size a : ℕ) (bs : List ℕ) : Type 0 where
  pub there : can_store memory a size ≡ true
  pub stands : MemoryStands back at plain (put_bytes memory a bs) n
  pub laid : Laid at end plain storable (put_bytes memory a bs) n
  pub lives : map life_of n.blocks ≡ map life_of m.blocks
  pub went : (x : ℕ) → a ≤ x → x < a + length bs → (storable x ≡ true) ⊎ InBlock at m x
