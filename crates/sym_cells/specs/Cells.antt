-- Memory as aligned cells of four bytes, by their numbers: cell k has the offsets from 4 * k on. A cell
-- is four bytes, each known, unset (blank) or a piece of a pointer or a return address; or it is mixed:
-- some nonzero word of which the low four bits are known.
use Rattle.std.specs.Prelude.{ℕ, ◌+◌, ◌/◌, ◌%◌, ◌==◌, List, [], ◌∷◌, if◌then◌else◌, slice_index_or, slice_set}
use Rattle.sym_cells.specs.declared.Mark.{Mark}
use Rattle.sym_cells.specs.declared.Mark.TheVariants.{Known, Blank}

pub data Cell : Type 0 where
  Bytes : (m0 m1 m2 m3 : Mark) → Cell
  Mixed : (low : ℕ) → Cell

abbrev pub blank_cell : Cell
blank_cell = Bytes Blank Blank Blank Blank

abbrev pub zero_cell : Cell
zero_cell = Bytes (Known 0) (Known 0) (Known 0) (Known 0)

abbrev pub Cells : Type 0
Cells = ℕ → Cell

-- a list's cells; behind its end all are blank
abbrev pub cell_in : List Cell → Cells
cell_in cells k = slice_index_or cells k blank_cell

-- a byte of a cell: of a mixed one nothing is known
abbrev pub mark_in : Cell → ℕ → Mark
mark_in (Bytes m0 m1 m2 m3) k = if k == 0 then m0 else (if k == 1 then m1 else (if k == 2 then m2 else m3))
mark_in (Mixed low) k = Blank

-- a cell with another byte: a mixed one leaves its other bytes unset
abbrev pub put_in : ℕ → Mark → Cell → Cell
put_in k m (Bytes m0 m1 m2 m3) =
    if k == 0 then Bytes m m1 m2 m3
    else (if k == 1 then Bytes m0 m m2 m3 else (if k == 2 then Bytes m0 m1 m m3 else Bytes m0 m1 m2 m))
put_in k m (Mixed low) =
    if k == 0 then Bytes m Blank Blank Blank
    else (if k == 1 then Bytes Blank m Blank Blank else (if k == 2 then Bytes Blank Blank m Blank else Bytes Blank
    Blank Blank m))

-- the byte at an offset
abbrev pub mark_at : Cells → ℕ → Mark
mark_at cells o = mark_in (cells (o / 4)) (o % 4)

-- cells with another cell, and with other bytes from an offset on
abbrev pub put_cell : ℕ → Cell → Cells → Cells
put_cell k cell cells j = if j == k then cell else cells j

abbrev pub put_mark : ℕ → Mark → Cells → Cells
put_mark o m cells = put_cell (o / 4) (put_in (o % 4) m (cells (o / 4))) cells

abbrev pub put_marks : ℕ → List Mark → Cells → Cells
put_marks o [] cells = cells
put_marks o (m ∷ ms) cells = put_marks (o + 1) ms (put_mark o m cells)

-- the same of a list of cells
abbrev pub put_listed : ℕ → Mark → List Cell → List Cell
put_listed o m cells = slice_set cells (o / 4) (put_in (o % 4) m (cell_in cells (o / 4)))

abbrev pub put_all : ℕ → List Mark → List Cell → List Cell
put_all o [] cells = cells
put_all o (m ∷ ms) cells = put_all (o + 1) ms (put_listed o m cells)
