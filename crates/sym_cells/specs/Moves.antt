-- What aligned loads and stores of all widths move between values and cells.
use Rattle.std.specs.Prelude.{ℕ, ◌+◌, ◌/◌, ◌==◌, List, [], ◌∷◌, Bool, false, ◌&&◌, if◌then◌else◌, map, replicate}
use Rattle.std.specs.Prelude.{slice_set}
use Rattle.rv_isa.specs.declared.Width.{Width}
use Rattle.rv_isa.specs.declared.Width.TheVariants.{Byte, Half, Word, ByteU, HalfU}
use Rattle.machine_spec.specs.Widths.{number_of, low_bytes, size_of, loaded_as}
use Rattle.sym_value.specs.declared.Value.{Value}
use Rattle.sym_value.specs.declared.Value.TheVariants.{Num, Ptr, Ret, Mix, Part, Unset}
use Rattle.sym_value.specs.declared.Whole.{Whole}
use Rattle.sym_value.specs.declared.Whole.TheVariants.{Ptr as WholePtr, Ret as WholeRet}
use Rattle.sym_cells.specs.declared.Mark.{Mark}
use Rattle.sym_cells.specs.declared.Mark.TheVariants.{Known, Blank, Piece}
use Rattle.sym_cells.specs.Cells.{Cell, Bytes, Mixed, Cells, mark_at, put_cell, put_marks, put_all}

abbrev pub same_whole : Whole → Whole → Bool
same_whole (WholePtr b o) (WholePtr c p) = (b == c) && (o == p)
same_whole (WholeRet a) (WholeRet b) = a == b
same_whole s t = false

abbrev pub value_of : Whole → Value
value_of (WholePtr b o) = Ptr b o
value_of (WholeRet a) = Ret a

-- the byte is piece i of s
abbrev pub is_piece : Whole → ℕ → Mark → Bool
is_piece s i (Piece t j) = same_whole s t && (i == j)
is_piece s i m = false

-- a word of four known bytes, or of the pieces 0 to 3 of one pointer or return address
abbrev pub word_of : Mark → Mark → Mark → Mark → Value
word_of (Known b0) (Known b1) (Known b2) (Known b3) = Num (loaded_as Word (number_of (b0 ∷ b1 ∷ b2 ∷ b3 ∷ [])))
word_of (Piece s i) m1 m2 m3 =
    if (i == 0) && (is_piece s 1 m1 && (is_piece s 2 m2 && is_piece s 3 m3)) then value_of s else Unset
word_of m0 m1 m2 m3 = Unset

abbrev pub word_in : Cell → Value
word_in (Bytes m0 m1 m2 m3) = word_of m0 m1 m2 m3
word_in (Mixed low) = Mix low

-- a half of two known bytes
abbrev pub half_of : Width → Mark → Mark → Value
half_of width (Known b0) (Known b1) = Num (loaded_as width (number_of (b0 ∷ b1 ∷ [])))
half_of width m0 m1 = Unset

-- a known byte or a piece
abbrev pub byte_of : Width → Mark → Value
byte_of width (Known b) = Num (loaded_as width (number_of (b ∷ [])))
byte_of width (Piece s i) = Part s i
byte_of width Blank = Unset

-- the value of a load at an aligned offset
abbrev pub load_at : Width → ℕ → Cells → Value
load_at Word o cells = word_in (cells (o / 4))
load_at Half o cells = half_of Half (mark_at cells o) (mark_at cells (o + 1))
load_at HalfU o cells = half_of HalfU (mark_at cells o) (mark_at cells (o + 1))
load_at Byte o cells = byte_of Byte (mark_at cells o)
load_at ByteU o cells = byte_of ByteU (mark_at cells o)

abbrev pub pieces_of : Whole → List Mark
pieces_of s = Piece s 0 ∷ Piece s 1 ∷ Piece s 2 ∷ Piece s 3 ∷ []

-- the bytes that a store of a value leaves
abbrev pub marks_left : Width → Value → List Mark
marks_left width (Num v) = map (λ b. Known b) (low_bytes (size_of width) v)
marks_left Word (Ptr b o) = pieces_of (WholePtr b o)
marks_left Word (Ret a) = pieces_of (WholeRet a)
marks_left Byte (Part s i) = Piece s i ∷ []
marks_left ByteU (Part s i) = Piece s i ∷ []
marks_left width v = replicate (size_of width) Blank

-- the cells after a store at an aligned offset: a word of a Mix makes the cell mixed
abbrev pub store_at : Width → ℕ → Value → Cells → Cells
store_at Word o (Mix low) cells = put_cell (o / 4) (Mixed low) cells
store_at width o v cells = put_marks o (marks_left width v) cells

abbrev pub store : Width → ℕ → Value → List Cell → List Cell
store Word o (Mix low) cells = slice_set cells (o / 4) (Mixed low)
store width o v cells = put_all o (marks_left width v) cells

-- one byte copied by a load and a store, from some cells to some cells
abbrev pub copy_byte : Width → Cells → ℕ → ℕ → Cells → Cells
copy_byte width from p q onto = store_at Byte q (load_at width p from) onto

-- a word copied byte by byte inside some cells, and from some cells to others
abbrev pub copy_inside : Width → ℕ → ℕ → Cells → Cells
copy_inside width p q cells =
    let first = copy_byte width cells p q cells in
    let second = copy_byte width first (p + 1) (q + 1) first in
    let third = copy_byte width second (p + 2) (q + 2) second in
    copy_byte width third (p + 3) (q + 3) third

abbrev pub copy_across : Width → Cells → ℕ → ℕ → Cells → Cells
copy_across width from p q onto =
    copy_byte width from (p + 3) (q + 3) (copy_byte width from (p + 2) (q + 2)
    (copy_byte width from (p + 1) (q + 1) (copy_byte width from p q onto)))
