-- Stores into lists of cells, and into spans of plain memory, are stores into the cells by their numbers.
use Rattle.std.proofs.Common.{◌≡◌, ◌≢◌, ℕ, ◌+◌, ◌-◌, ◌*◌, ◌/◌, ◌%◌, ◌<◌, ◌≤◌, Bool, true, false, ◌&&◌, ◌||◌, cond}
use Rattle.std.proofs.Common.{nat_eq, nat_le, nat_lt, List, [], ◌∷◌, length, slice_set, refl, ap, ap₂, sym, ◌∙◌, arith}
use Rattle.std.proofs.Common.{length-set, get_or-set_same, get_or-set_other}
use Rattle.std.proofs.Math.Path.{fun_ext}
use Rattle.std.proofs.lemmas.Bool.{both_ways, and_parts, eqb-true, eqb-false, eq-eqb, ne_eqb, leb-true, ltb-true}
use Rattle.rv_isa.specs.declared.Width.{Width}
use Rattle.rv_isa.specs.declared.Width.TheVariants.{Byte, Half, Word, ByteU, HalfU}
use Rattle.machine_spec.specs.Widths.{size_of}
use Rattle.sym_value.specs.declared.Value.{Value}
use Rattle.sym_value.specs.declared.Value.TheVariants.{Num, Ptr, Ret, Mix, Part}
use Rattle.sym_cells.specs.declared.Mark.{Mark}
use Rattle.sym_cells.specs.Cells.{Cell, Mixed, Cells, blank_cell, cell_in, put_in, put_cell, put_mark, put_marks}
use Rattle.sym_cells.specs.Cells.{put_listed, put_all}
use Rattle.sym_cells.specs.Moves.{marks_left, store_at, store}
use Rattle.sym_cells.specs.Memory.{Span, has, has_cell, cell_at, store_plain}

-- one cell
pub cell_set : (cells : List Cell) (k : ℕ) (cell : Cell) → k < length cells
    → cell_in (slice_set cells k cell) ≡ put_cell k cell (cell_in cells)
cell_set cells k cell inside = fun_ext (λ j. at j (nat_eq j k) refl)
  where
    at : (j : ℕ) (v : Bool) → nat_eq j k ≡ v → cell_in (slice_set cells k cell) j ≡ cond v cell (cell_in cells j)
    at j true e =
        let same : j ≡ k = eqb-true j k e in
        ap (cell_in (slice_set cells k cell)) same ∙ get_or-set_same cells k cell blank_cell inside
    at j false e = get_or-set_other cells k j cell blank_cell (eqb-false j k e)

put_all_listed : (cells : List Cell) (o : ℕ) (ms : List Mark) (k : ℕ) → o + length ms ≤ 4 * (k + 1) → 4 * k ≤ o
    → k < length cells
    → cell_in (put_all o ms cells) ≡ put_marks o ms (cell_in cells)
put_all_listed cells o [] k high low inside = refl
put_all_listed cells o (m ∷ ms) k high low inside =
    let place : o / 4 ≡ k = omega arith in
    let cell : o / 4 < length cells = omega arith in
    put_all_listed (put_listed o m cells) (o + 1) ms k (omega arith) (omega arith)
    (let same = length-set cells (o / 4) (put_in (o % 4) m (cell_in cells (o / 4))) in omega (arith, same))
    ∙ ap (put_marks (o + 1) ms) (cell_set cells (o / 4) (put_in (o % 4) m (cell_in cells (o / 4))) cell)

length-marks_left : (width : Width) (v : Value) → length (marks_left width v) ≡ size_of width
length-marks_left Byte (Num n) = refl
length-marks_left Byte (Part s i) = refl
length-marks_left Byte v = refl
length-marks_left ByteU (Num n) = refl
length-marks_left ByteU (Part s i) = refl
length-marks_left ByteU v = refl
length-marks_left Half (Num n) = refl
length-marks_left Half v = refl
length-marks_left HalfU (Num n) = refl
length-marks_left HalfU v = refl
length-marks_left Word (Num n) = refl
length-marks_left Word (Ptr b o) = refl
length-marks_left Word (Ret a) = refl
length-marks_left Word v = refl

size_fits : (width : Width) (o : ℕ) → o % size_of width ≡ 0 → o + size_of width ≤ 4 * (o / 4 + 1)
size_fits Byte o e = omega arith
size_fits ByteU o e = omega arith
size_fits Half o e = omega arith
size_fits HalfU o e = omega arith
size_fits Word o e = omega arith

-- a store at an aligned offset of a list of cells
pub store_listed : (cells : List Cell) (width : Width) (o : ℕ) (v : Value) → o % size_of width ≡ 0
    → o / 4 < length cells
    → cell_in (store width o v cells) ≡ store_at width o v (cell_in cells)
store_listed cells width o v aligned inside = by_kind width v aligned
  where
    several : (width : Width) (v : Value) → o % size_of width ≡ 0
        → cell_in (put_all o (marks_left width v) cells) ≡ put_marks o (marks_left width v) (cell_in cells)
    several width v aligned =
        let n = length-marks_left width v in
        let fits = size_fits width o aligned in
        put_all_listed cells o (marks_left width v) (o / 4) (omega (arith, n, fits)) (omega arith) inside

    by_kind : (width : Width) (v : Value) → o % size_of width ≡ 0
        → cell_in (store width o v cells) ≡ store_at width o v (cell_in cells)
    by_kind Word (Mix low) aligned = cell_set cells (o / 4) (Mixed low) inside
    by_kind width v aligned = several width v aligned

some_bytes : (width : Width) (o n : ℕ) → o + size_of width ≤ 4 * n → o / 4 < n
some_bytes Byte o n e = omega arith
some_bytes ByteU o n e = omega arith
some_bytes Half o n e = omega arith
some_bytes HalfU o n e = omega arith
some_bytes Word o n e = omega arith

pub store_in_bounds : (cells : List Cell) (width : Width) (o : ℕ) (v : Value) → o % size_of width ≡ 0
    → o + size_of width ≤ 4 * length cells → cell_in (store width o v cells) ≡ store_at width o v (cell_in cells)
store_in_bounds cells width o v aligned high = store_listed cells width o v aligned (some_bytes width o
    (length cells) high)

length-put_all : (cells : List Cell) (o : ℕ) (ms : List Mark) → length (put_all o ms cells) ≡ length cells
length-put_all cells o [] = refl
length-put_all cells o (m ∷ ms) =
    length-put_all (put_listed o m cells) (o + 1) ms ∙ length-set cells (o / 4) (put_in (o % 4) m (cell_in cells
    (o / 4)))

-- a store keeps how many cells there are
pub length-store : (width : Width) (o : ℕ) (v : Value) (cells : List Cell)
    → length (store width o v cells) ≡ length cells
length-store Word o (Mix low) cells = length-set cells (o / 4) (Mixed low)
length-store width o v cells = length-put_all cells o (marks_left width v)

-- bytes put into one cell
abbrev pub put_each : ℕ → List Mark → Cell → Cell
put_each i [] cell = cell
put_each i (m ∷ ms) cell = put_each (i + 1) ms (put_in i m cell)

abbrev pub cell_after : Width → ℕ → Value → Cell → Cell
cell_after Word i (Mix low) cell = Mixed low
cell_after width i v cell = put_each i (marks_left width v) cell

-- bytes inside one cell change that cell alone
local_marks : (o c i : ℕ) (ms : List Mark) (cells : Cells) (k : ℕ) → o ≡ 4 * c + i → i + length ms ≤ 4
    → put_marks o ms cells k ≡ cond (nat_eq k c) (put_each i ms (cells k)) (cells k)
local_marks o c i [] cells k place small = by_test (nat_eq k c)
  where
    by_test : (t : Bool) → cells k ≡ cond t (cells k) (cells k)
    by_test true = refl
    by_test false = refl
local_marks o c i (m ∷ ms) cells k place small =
    let cell : o / 4 ≡ c = omega arith in
    let offset : o % 4 ≡ i = omega arith in
    local_marks (o + 1) c (i + 1) ms (put_mark o m cells) k (omega arith) (omega arith)
    ∙ rw (cell, offset) (by_test (nat_eq k c) refl)
  where
    by_test : (t : Bool) → nat_eq k c ≡ t
        → cond t (put_each (i + 1) ms (cond t (put_in i m (cells c)) (cells k))) (cond t (put_in i m (cells c))
        (cells k))
        ≡ cond t (put_each (i + 1) ms (put_in i m (cells k))) (cells k)
    by_test true e = ap (λ x. put_each (i + 1) ms (put_in i m (cells x))) (sym (eqb-true k c e))
    by_test false e = refl

-- so does a store at an aligned offset
pub local_store : (width : Width) (o : ℕ) (v : Value) (cells : Cells) (k : ℕ) → o % size_of width ≡ 0
    → store_at width o v cells k ≡ cond (nat_eq k (o / 4)) (cell_after width (o % 4) v (cells k)) (cells k)
local_store width o v cells k aligned = by_kind width v aligned
  where
    several : (width : Width) (v : Value) → o % size_of width ≡ 0
        → put_marks o (marks_left width v) cells k ≡ cond (nat_eq k (o / 4)) (put_each (o % 4) (marks_left width v)
        (cells k)) (cells k)
    several width v aligned =
        let n = length-marks_left width v in
        let fits = size_fits width o aligned in
        local_marks o (o / 4) (o % 4) (marks_left width v) cells k (omega arith) (omega (arith, n, fits))

    by_kind : (width : Width) (v : Value) → o % size_of width ≡ 0
        → store_at width o v cells k ≡ cond (nat_eq k (o / 4)) (cell_after width (o % 4) v (cells k)) (cells k)
    by_kind Word (Mix low) aligned = refl
    by_kind width v aligned = several width v aligned

-- a store into the span that has the cell
moved_back : (width : Width) (a f : ℕ) → a % size_of width ≡ 0 → (a - 4 * f) % size_of width ≡ 0
moved_back Byte a f e = omega arith
moved_back ByteU a f e = omega arith
moved_back Half a f e = omega arith
moved_back HalfU a f e = omega arith
moved_back Word a f e = omega arith

moved_test : (a f k : ℕ) → f ≤ a / 4 → f ≤ k → nat_eq (k - f) ((a - 4 * f) / 4) ≡ nat_eq k (a / 4)
moved_test a f k low far = by_test (nat_eq k (a / 4)) refl
  where
    by_test : (t : Bool) → nat_eq k (a / 4) ≡ t → nat_eq (k - f) ((a - 4 * f) / 4) ≡ t
    by_test true e = let is : k ≡ a / 4 = eqb-true k _ e in eq-eqb (k - f) _ (omega arith)
    by_test false e = let other : k ≢ a / 4 = eqb-false k _ e in ne_eqb (k - f) _ (λ g. other (omega arith))

in_span : (s : Span) (width : Width) (a : ℕ) (v : Value) (k : ℕ) → a % size_of width ≡ 0 → has (a / 4) s ≡ true
    → has k s ≡ true
    → cell_in (store width (a - 4 * s.first) v s.cells) (k - s.first)
    ≡ cond (nat_eq k (a / 4)) (cell_after width (a % 4) v (cell_in s.cells (k - s.first))) (cell_in s.cells
    (k - s.first))
in_span s width a v k aligned here there =
    let first = and_parts _ _ here in
    let low : s.first ≤ a / 4 = leb-true s.first _ first.0 in
    let high : a / 4 < s.first + length s.cells = ltb-true (a / 4) _ first.1 in
    let second = and_parts _ _ there in
    let far : s.first ≤ k = leb-true s.first k second.0 in
    let inside : (a - 4 * s.first) / 4 < length s.cells = omega arith in
    let offset : (a - 4 * s.first) % 4 ≡ a % 4 = omega arith in
    ap (λ y. y (k - s.first)) (store_listed s.cells width (a - 4 * s.first) v
    (moved_back width a s.first aligned) inside)
    ∙ local_store width (a - 4 * s.first) v (cell_in s.cells) (k - s.first) (moved_back width a s.first aligned)
    ∙ ap₂ (λ x y. cond x (cell_after width y v (cell_in s.cells (k - s.first))) (cell_in s.cells (k - s.first)))
    (moved_test a s.first k low far) offset

-- where the number of cells is the same, so is what a span has
has_after : (s : Span) (width : Width) (a : ℕ) (v : Value) (k : ℕ)
    → has k (record s { cells = store width (a - 4 * s.first) v s.cells }) ≡ has k s
has_after s width a v k =
    ap (λ n. nat_le s.first k && nat_lt k (s.first + n)) (length-store width (a - 4 * s.first) v s.cells)

pub spans_after : (spans : List Span) (width : Width) (a : ℕ) (v : Value) (k : ℕ)
    → has_cell k (store_plain width a v spans) ≡ has_cell k spans
spans_after [] width a v k = refl
spans_after (s ∷ spans) width a v k = by_test (spans_after spans width a v k) (has (a / 4) s)
  where
    by_test : has_cell k (store_plain width a v spans) ≡ has_cell k spans → (t : Bool)
        → has_cell k (cond t (record s { cells = store width (a - 4 * s.first) v s.cells } ∷ spans)
        (s ∷ store_plain width a v spans))
        ≡ has_cell k (s ∷ spans)
    by_test ih true = ap (λ x. x || has_cell k spans) (has_after s width a v k)
    by_test ih false = ap (λ x. has k s || x) ih

-- a store at an aligned address of plain memory
pub plain_stored : (spans : List Span) (width : Width) (a : ℕ) (v : Value) (k : ℕ) → a % size_of width ≡ 0
    → has_cell (a / 4) spans ≡ true
    → cell_at (store_plain width a v spans) k ≡ cond (nat_eq k (a / 4)) (cell_after width (a % 4) v (cell_at spans k))
    (cell_at spans k)
plain_stored [] width a v k aligned there = absurd (cc)
plain_stored (s ∷ spans) width a v k aligned there =
    by_test (λ h. plain_stored spans width a v k aligned h) (has (a / 4) s) refl there
  where
    beside : has (a / 4) s ≡ true → has k s ≡ false → nat_eq k (a / 4) ≡ false
    beside here away = ne_eqb k (a / 4) (λ e. both_ways (has k s) away (ap (λ x. has x s) e ∙ here))

    after : (u : Bool) → has k s ≡ u → has (a / 4) s ≡ true
        → cond (has k (record s { cells = store width (a - 4 * s.first) v s.cells })) (cell_in (store width
        (a - 4 * s.first) v s.cells) (k - s.first)) (cell_at spans k)
        ≡ cond (nat_eq k (a / 4)) (cell_after width (a % 4) v (cond u (cell_in s.cells (k - s.first))
        (cell_at spans k))) (cond u (cell_in s.cells (k - s.first)) (cell_at spans k))
    after true e here = rw (has_after s width a v k, e) (in_span s width a v k aligned here e)
    after false e here =
        let other : nat_eq k (a / 4) ≡ false = beside here e in
        rw (has_after s width a v k, e, other) refl

    past : (u : Bool) → has k s ≡ u → has (a / 4) s ≡ false
        → cell_at (store_plain width a v spans) k ≡ cond (nat_eq k (a / 4)) (cell_after width (a % 4) v
        (cell_at spans k)) (cell_at spans k)
        → cond u (cell_in s.cells (k - s.first)) (cell_at (store_plain width a v spans) k)
        ≡ cond (nat_eq k (a / 4)) (cell_after width (a % 4) v (cond u (cell_in s.cells (k - s.first))
        (cell_at spans k))) (cond u (cell_in s.cells (k - s.first)) (cell_at spans k))
    past true e away ih =
        let other : nat_eq k (a / 4) ≡ false =
        ne_eqb k (a / 4) (λ f. both_ways (has (a / 4) s) away (ap (λ x. has x s) (sym f) ∙ e)) in
        rw other refl
    past false e away ih = ih

    by_test : (has_cell (a / 4) spans ≡ true → cell_at (store_plain width a v spans) k
        ≡ cond (nat_eq k (a / 4)) (cell_after width (a % 4) v (cell_at spans k)) (cell_at spans k))
        → (t : Bool) → has (a / 4) s ≡ t → (t || has_cell (a / 4) spans) ≡ true
        → cell_at (cond t (record s { cells = store width (a - 4 * s.first) v s.cells } ∷ spans)
        (s ∷ store_plain width a v spans)) k
        ≡ cond (nat_eq k (a / 4)) (cell_after width (a % 4) v (cell_at (s ∷ spans) k)) (cell_at (s ∷ spans) k)
    by_test ih true e there = after (has k s) refl e
    by_test ih false e there = past (has k s) refl e (ih there)

-- so it is a store into the cells by their numbers
pub store_spans : (spans : List Span) (width : Width) (a : ℕ) (v : Value) → a % size_of width ≡ 0
    → has_cell (a / 4) spans ≡ true
    → cell_at (store_plain width a v spans) ≡ store_at width a v (cell_at spans)
store_spans spans width a v aligned there =
    fun_ext (λ k. plain_stored spans width a v k aligned there ∙ sym (local_store width a v (cell_at spans) k aligned))
