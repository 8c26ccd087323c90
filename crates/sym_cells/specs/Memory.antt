-- The symbol machine's memory: plain memory in spans of cells, and blocks by their names. A number
-- reaches plain bytes alone, a pointer the bytes of its block alone, while it lives.
use Rattle.std.specs.Prelude.{ℕ, ◌+◌, ◌-◌, ◌*◌, ◌/◌, ◌%◌, ◌^◌, ◌==◌, List, [], ◌∷◌, ◌++◌, Bool, true, false, ◌&&◌}
use Rattle.std.specs.Prelude.{Option, Some, None, option_map, if◌then◌else◌, nat_le, nat_lt, length, map, take, drop}
use Rattle.std.specs.Prelude.{replicate, slice_get, slice_set}
use Rattle.std.specs.List.{list_any}
use Rattle.rv_isa.specs.declared.Width.{Width}
use Rattle.machine_spec.specs.Widths.{size_of}
use Rattle.machine_spec.specs.Memory.{all_from}
use Rattle.sym_value.specs.declared.Value.{Value}
use Rattle.sym_value.specs.declared.Value.TheVariants.{Num, Ptr}
use Rattle.sym_value.specs.declared.live.Life.{Life}
use Rattle.sym_value.specs.Places.{Lives}
use Rattle.sym_cells.specs.declared.Mark.{Mark}
use Rattle.sym_cells.specs.declared.Mark.TheVariants.{Known}
use Rattle.sym_cells.specs.Cells.{Cell, Cells, blank_cell, zero_cell, cell_in, mark_at}
use Rattle.sym_cells.specs.Moves.{load_at, store}

-- cells from a cell number on: two segments may meet inside one cell
pub record Span : Type 0 where
  pub first : ℕ
  pub cells : List Cell

pub record Block : Type 0 where
  pub cells : List Cell
  pub lives : Bool

pub record Memory : Type 0 where
  pub plain : List Span
  pub blocks : List Block

-- the cell with a number is that of the first span that has it
abbrev pub has : ℕ → Span → Bool
has k s = nat_le s.first k && nat_lt k (s.first + length s.cells)

abbrev pub has_cell : ℕ → List Span → Bool
has_cell k spans = list_any (has k) spans

abbrev pub cell_at : List Span → Cells
cell_at [] k = blank_cell
cell_at (s ∷ spans) k = if has k s then cell_in s.cells (k - s.first) else cell_at spans k

abbrev pub capacity_of : Block → ℕ
capacity_of k = 4 * length k.cells

-- the n bytes from an offset on are inside the block, and it lives
abbrev pub is_inside : Block → ℕ → ℕ → Bool
is_inside k o n = k.lives && nat_le (o + n) (capacity_of k)

abbrev pub is_aligned : Width → ℕ → Bool
is_aligned width o = o % size_of width == 0

-- a load: none where the address isn't aligned or not all its bytes can be reached
abbrev pub loaded_in : Width → ℕ → Option Block → Option Value
loaded_in width o (Some k) =
    if is_aligned width o && is_inside k o (size_of width) then Some (load_at width o (cell_in k.cells)) else None
loaded_in width o None = None

unfoldable pub loaded : (ℕ → Bool) → Memory → Width → Value → Option Value
loaded plain m width (Num a) =
    if is_aligned width a && all_from plain a (size_of width) then Some (load_at width a (cell_at m.plain)) else None
loaded plain m width (Ptr b o) = loaded_in width o (slice_get m.blocks b)
loaded plain m width p = None

-- plain memory and a block after a store
abbrev pub store_plain : Width → ℕ → Value → List Span → List Span
store_plain width a v [] = []
store_plain width a v (s ∷ spans) =
    if has (a / 4) s then record s { cells = store width (a - 4 * s.first) v s.cells } ∷ spans
    else s ∷ store_plain width a v spans

-- a store: none where the address isn't aligned or not all its bytes can be stored to
abbrev pub stored_in : Width → ℕ → Value → Option Block → Option Block
stored_in width o v (Some k) =
    if is_aligned width o && is_inside k o (size_of width) then Some (record k { cells = store width o v k.cells })
    else None
stored_in width o v None = None

unfoldable pub stored : (ℕ → Bool) → Memory → Width → Value → Value → Option Memory
stored storable m width (Num a) v =
    if is_aligned width a && all_from storable a (size_of width) then Some
    (record m { plain = store_plain width a v m.plain })
    else None
stored storable m width (Ptr b o) v =
    option_map (λ k. record m { blocks = slice_set m.blocks b k }) (stored_in width o v (slice_get m.blocks b))
stored storable m width p v = None

-- the byte that is i behind a value, where it can be reached and is known
abbrev pub number_in : Mark → Option ℕ
number_in (Known b) = Some b
number_in m = None

abbrev pub known_in : ℕ → Option Block → Option ℕ
known_in o (Some k) = if is_inside k o 1 then number_in (mark_at (cell_in k.cells) o) else None
known_in o None = None

unfoldable pub known : (ℕ → Bool) → Memory → Value → ℕ → Option ℕ
known plain m (Num a) i =
    if plain ((a + i) % 2 ^ 32) then number_in (mark_at (cell_at m.plain) ((a + i) % 2 ^ 32)) else None
known plain m (Ptr b o) i = known_in ((o + i) % 2 ^ 32) (slice_get m.blocks b)
known plain m p i = None

-- one more block of so many granules of 16 bytes, which is zero
unfoldable pub granted : ℕ → Memory → Memory
granted need m =
    record m { blocks = m.blocks ++ record { cells = replicate (4 * need) zero_cell; lives = true } ∷ [] }

-- a block that dies: its bytes are unset, and it keeps its capacity
abbrev pub died : Block → Block
died k = record { cells = replicate (length k.cells) blank_cell; lives = false }

abbrev pub set_block : ℕ → Option Block → List Block → List Block
set_block b (Some k) blocks = slice_set blocks b k
set_block b None blocks = blocks

unfoldable pub dropped : ℕ → Memory → Memory
dropped b m = record m { blocks = set_block b (option_map died (slice_get m.blocks b)) m.blocks }

-- the cells of one block up to the lesser capacity, in front of those of another
abbrev pub overlaid : List Cell → List Cell → List Cell
overlaid from onto = take (length onto) from ++ drop (length from) onto

abbrev pub overlaid_block : Option Block → Option Block → Option Block
overlaid_block (Some k) (Some l) = Some (record l { cells = overlaid k.cells l.cells })
overlaid_block k l = l

unfoldable pub copied : ℕ → ℕ → Memory → Memory
copied from onto m =
    record m { blocks = set_block onto (overlaid_block (slice_get m.blocks from) (slice_get m.blocks onto)) m.blocks }

-- the blocks as values see them, beside an image with this end
abbrev pub life_of : Block → Life
life_of k = record { capacity = capacity_of k; lives = k.lives }

abbrev pub live_of : ℕ → Memory → Lives
live_of end m = record { blocks = map life_of m.blocks; end = end }
