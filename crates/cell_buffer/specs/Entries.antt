-- Which cells the entries of a buffer are, four to a cell.
use Rattle.std.specs.Prelude.{ℕ, ◌+◌, ◌%◌, ◌≡◌, ◌≤◌, List, [], ◌∷◌, Bool, true, false, slice_set, slice_index_or}
use Rattle.rv_isa.specs.declared.Width.{Width}
use Rattle.machine_spec.specs.Widths.{size_of}
use Rattle.sym_value.specs.declared.Whole.TheVariants.{Ptr as WholePtr, Ret as WholeRet}
use Rattle.sym_cells.specs.declared.Mark.{Mark}
use Rattle.sym_cells.specs.declared.Mark.TheVariants as mark
use Rattle.sym_cells.specs.Cells.{Cell, Bytes, blank_cell, cell_in}
use Rattle.sym_cells.specs.Cells as cells
use Rattle.cell_buffer.specs.declared.entry.Entry.{Entry}
use Rattle.cell_buffer.specs.declared.entry.Entry.TheVariants.{Blank, Known, Ptr, Ret, Mixed}

abbrev pub mark_of : Entry → Mark
mark_of Blank = mark.Blank
mark_of (Known b) = mark.Known b
mark_of (Ptr i b o) = mark.Piece (WholePtr b o) i
mark_of (Ret i a) = mark.Piece (WholeRet a) i
mark_of (Mixed low) = mark.Blank

abbrev pub is_mixed : Entry → Bool
is_mixed (Mixed low) = true
is_mixed e = false

-- a cell whose first entry is mixed is so
abbrev pub cell_of : Entry → Entry → Entry → Entry → Cell
cell_of (Mixed low) e1 e2 e3 = cells.Mixed low
cell_of e0 e1 e2 e3 = Bytes (mark_of e0) (mark_of e1) (mark_of e2) (mark_of e3)

unfoldable pub cells_of : List Entry → List Cell
cells_of (e0 ∷ e1 ∷ e2 ∷ e3 ∷ es) = cell_of e0 e1 e2 e3 ∷ cells_of es
cells_of es = []

-- the entry at a place, blank behind the end
abbrev pub first_of : ℕ → List Entry → Entry
first_of o es = slice_index_or es o Blank

-- a cell whose bytes are unset where it was mixed
abbrev pub opened : Cell → Cell
opened (Bytes m0 m1 m2 m3) = Bytes m0 m1 m2 m3
opened (cells.Mixed low) = blank_cell

abbrev pub opened_at : ℕ → List Cell → List Cell
opened_at k cs = slice_set cs k (opened (cell_in cs k))

-- an access at an aligned offset inside so many bytes
abbrev pub IsAccess : Width → ℕ → ℕ → Type 0
IsAccess width o n = (o % size_of width ≡ 0) × (o + size_of width ≤ n)
