-- Laws of entries: which cells there are, and what a write of an entry makes of them.
use Rattle.std.proofs.Common.{◌≡◌, ℕ, zero, suc, ◌+◌, ◌-◌, ◌*◌, ◌/◌, ◌%◌, ◌<◌, ◌≤◌, true, false, List, [], ◌∷◌, length}
use Rattle.std.proofs.Common.{take, drop, replicate, ◌++◌, slice_set, slice_index_or, le_refl, take_all, length-take-le}
use Rattle.std.proofs.Common.{drop_of_length-le, length-append, length-drop, refl, ap, ap₂, sym, ◌∙◌, subst, arith}
use Rattle.std.proofs.Common.{get_or-set_same, get_or-set_other, set-set}
use Rattle.std.proofs.Math.Seq.{take-nil}
use Rattle.std.proofs.lemmas.List.{set-get_or}
use Rattle.sym_cells.specs.declared.Mark.{Mark}
use Rattle.sym_cells.specs.declared.Mark.TheVariants as mark
use Rattle.sym_cells.specs.Cells.{Cell, Bytes, blank_cell, zero_cell, cell_in, mark_in, mark_at, put_in, put_listed}
use Rattle.sym_cells.specs.Cells.{put_all}
use Rattle.sym_cells.specs.Cells as cells
use Rattle.sym_cells.specs.Memory.{overlaid}
use Rattle.cell_buffer.specs.declared.entry.Entry.{Entry}
use Rattle.cell_buffer.specs.declared.entry.Entry.TheVariants.{Blank, Known, Ptr, Ret, Mixed}
use Rattle.cell_buffer.specs.Entries.{mark_of, is_mixed, cell_of, cells_of, opened, opened_at}

abbrev pub entry_at : List Entry → ℕ → Entry
entry_at es i = slice_index_or es i Blank

-- as many cells as a quarter of the entries
pub length-cells : (es : List Entry) → length (cells_of es) ≡ length es / 4
unfolding cells_of
length-cells [] = refl
length-cells (e0 ∷ []) = refl
length-cells (e0 ∷ e1 ∷ []) = refl
length-cells (e0 ∷ e1 ∷ e2 ∷ []) = refl
length-cells (e0 ∷ e1 ∷ e2 ∷ e3 ∷ es) = let h = length-cells es in omega (arith, h)

-- the cell with a number, out of its entries
pub cell_is : (es : List Entry) (k o : ℕ) → o ≡ 4 * k → o + 4 ≤ length es
    → cell_in (cells_of es) k ≡ cell_of (entry_at es o) (entry_at es (o + 1)) (entry_at es (o + 2)) (entry_at es
    (o + 3))
unfolding cells_of
cell_is [] k o place inside = absurd (omega arith)
cell_is (e0 ∷ []) k o place inside = absurd (omega arith)
cell_is (e0 ∷ e1 ∷ []) k o place inside = absurd (omega arith)
cell_is (e0 ∷ e1 ∷ e2 ∷ []) k o place inside = absurd (omega arith)
cell_is (e0 ∷ e1 ∷ e2 ∷ e3 ∷ es) zero o place inside =
    let first : o ≡ 0 = omega arith in rw first refl
cell_is (e0 ∷ e1 ∷ e2 ∷ e3 ∷ es) (suc k) o place inside =
    behind (λ p place2 inside2. cell_is es k p place2 inside2) (o - 4) (omega arith)
  where
    behind : ((p : ℕ) → p ≡ 4 * k → p + 4 ≤ length es
        → cell_in (cells_of es) k ≡ cell_of (entry_at es p) (entry_at es (p + 1)) (entry_at es (p + 2)) (entry_at es
        (p + 3)))
        → (p : ℕ) → o ≡ suc (suc (suc (suc p)))
        → cell_in (cells_of es) k ≡ cell_of (entry_at (e0 ∷ e1 ∷ e2 ∷ e3 ∷ es) o) (entry_at (e0 ∷ e1 ∷ e2 ∷ e3 ∷ es)
        (o + 1))
        (entry_at (e0 ∷ e1 ∷ e2 ∷ e3 ∷ es) (o + 2)) (entry_at (e0 ∷ e1 ∷ e2 ∷ e3 ∷ es) (o + 3))
    behind ih p i0 =
        let i1 : o + 1 ≡ suc (suc (suc (suc (p + 1)))) = omega arith in
        let i2 : o + 2 ≡ suc (suc (suc (suc (p + 2)))) = omega arith in
        let i3 : o + 3 ≡ suc (suc (suc (suc (p + 3)))) = omega arith in
        rw (i1, i2, i3, i0) (ih p (omega arith) (omega arith))

pub cell_bytes : (e0 e1 e2 e3 : Entry) → is_mixed e0 ≡ false
    → cell_of e0 e1 e2 e3 ≡ Bytes (mark_of e0) (mark_of e1) (mark_of e2) (mark_of e3)
cell_bytes Blank e1 e2 e3 h = refl
cell_bytes (Known b) e1 e2 e3 h = refl
cell_bytes (Ptr i b o) e1 e2 e3 h = refl
cell_bytes (Ret i a) e1 e2 e3 h = refl
cell_bytes (Mixed low) e1 e2 e3 h = absurd (cc)

-- an entry that is written beside a first one that isn't mixed
pub put_beside : (es : List Entry) (p : ℕ) (e : Entry) → p < length es → length es % 4 ≡ 0 → is_mixed e ≡ false
    → is_mixed (entry_at es (p / 4 * 4)) ≡ false → cells_of (slice_set es p e) ≡ put_listed p (mark_of e) (cells_of es)
unfolding cells_of
put_beside [] p e inside whole byte first = absurd (omega arith)
put_beside (e0 ∷ []) p e inside whole byte first = absurd (omega arith)
put_beside (e0 ∷ e1 ∷ []) p e inside whole byte first = absurd (omega arith)
put_beside (e0 ∷ e1 ∷ e2 ∷ []) p e inside whole byte first = absurd (omega arith)
put_beside (e0 ∷ e1 ∷ e2 ∷ e3 ∷ es) zero e inside whole byte first =
    rw (cell_bytes e e1 e2 e3 byte, cell_bytes e0 e1 e2 e3 first) refl
put_beside (e0 ∷ e1 ∷ e2 ∷ e3 ∷ es) (suc zero) e inside whole byte first =
    rw (cell_bytes e0 e e2 e3 first, cell_bytes e0 e1 e2 e3 first) refl
put_beside (e0 ∷ e1 ∷ e2 ∷ e3 ∷ es) (suc (suc zero)) e inside whole byte first =
    rw (cell_bytes e0 e1 e e3 first, cell_bytes e0 e1 e2 e3 first) refl
put_beside (e0 ∷ e1 ∷ e2 ∷ e3 ∷ es) (suc (suc (suc zero))) e inside whole byte first =
    rw (cell_bytes e0 e1 e2 e first, cell_bytes e0 e1 e2 e3 first) refl
put_beside (e0 ∷ e1 ∷ e2 ∷ e3 ∷ es) (suc (suc (suc (suc p)))) e inside whole byte first =
    let cell : suc (suc (suc (suc p))) / 4 ≡ suc (p / 4) = omega arith in
    let place : suc (suc (suc (suc p))) % 4 ≡ p % 4 = omega arith in
    let start : suc (suc (suc (suc p))) / 4 * 4 ≡ suc (suc (suc (suc (p / 4 * 4)))) = omega arith in
    let other : is_mixed (entry_at es (p / 4 * 4)) ≡ false =
    subst (λ x. is_mixed (entry_at (e0 ∷ e1 ∷ e2 ∷ e3 ∷ es) x) ≡ false) start first in
    rw (cell, place) (ap (λ x. cell_of e0 e1 e2 e3 ∷ x) (put_beside es p e (omega arith) (omega arith) byte other))

-- four entries that are written make a cell
pub put_four : (es : List Entry) (p k : ℕ) (a b c d : Entry) → p ≡ 4 * k → p + 4 ≤ length es
    → cells_of (slice_set (slice_set (slice_set (slice_set es p a) (p + 1) b) (p + 1 + 1) c) (p + 1 + 1 + 1) d)
    ≡ slice_set (cells_of es) k (cell_of a b c d)
unfolding cells_of
put_four [] p k a b c d place inside = absurd (omega arith)
put_four (e0 ∷ []) p k a b c d place inside = absurd (omega arith)
put_four (e0 ∷ e1 ∷ []) p k a b c d place inside = absurd (omega arith)
put_four (e0 ∷ e1 ∷ e2 ∷ []) p k a b c d place inside = absurd (omega arith)
put_four (e0 ∷ e1 ∷ e2 ∷ e3 ∷ es) p zero a b c d place inside =
    let first : p ≡ 0 = omega arith in rw first refl
put_four (e0 ∷ e1 ∷ e2 ∷ e3 ∷ es) p (suc k) a b c d place inside =
    behind (λ q place2 inside2. put_four es q k a b c d place2 inside2) (p - 4) (omega arith)
  where
    behind : ((q : ℕ) → q ≡ 4 * k → q + 4 ≤ length es
        → cells_of (slice_set (slice_set (slice_set (slice_set es q a) (q + 1) b) (q + 1 + 1) c) (q + 1 + 1 + 1) d)
        ≡ slice_set (cells_of es) k (cell_of a b c d))
        → (q : ℕ) → p ≡ suc (suc (suc (suc q)))
        → cells_of (slice_set (slice_set (slice_set (slice_set (e0 ∷ e1 ∷ e2 ∷ e3 ∷ es) p a) (p + 1) b) (p + 1 + 1) c)
        (p + 1 + 1 + 1) d)
        ≡ cell_of e0 e1 e2 e3 ∷ slice_set (cells_of es) k (cell_of a b c d)
    behind ih q i0 =
        let i3 : p + 1 + 1 + 1 ≡ suc (suc (suc (suc (q + 1 + 1 + 1)))) = omega arith in
        let i2 : p + 1 + 1 ≡ suc (suc (suc (suc (q + 1 + 1)))) = omega arith in
        let i1 : p + 1 ≡ suc (suc (suc (suc (q + 1)))) = omega arith in
        rw (i3, i2, i1, i0) (ap (λ x. cell_of e0 e1 e2 e3 ∷ x) (ih q (omega arith) (omega arith)))

put_into_opened : (i : ℕ) (m : Mark) (cell : Cell) → put_in i m (opened cell) ≡ put_in i m cell
put_into_opened i m (Bytes m0 m1 m2 m3) = refl
put_into_opened i m (cells.Mixed low) = refl

-- a byte put into an opened cell is that put into the cell
pub put_opened : (cs : List Cell) (o : ℕ) (m : Mark) → o / 4 < length cs
    → put_listed o m (slice_set cs (o / 4) (opened (cell_in cs (o / 4)))) ≡ put_listed o m cs
put_opened cs o m inside =
    ap (λ x. slice_set (slice_set cs (o / 4) (opened (cell_in cs (o / 4)))) (o / 4) (put_in (o % 4) m x))
    (get_or-set_same cs (o / 4) (opened (cell_in cs (o / 4))) blank_cell inside)
    ∙ set-set cs (o / 4) (opened (cell_in cs (o / 4))) (put_in (o % 4) m (opened (cell_in cs (o / 4))))
    ∙ ap (slice_set cs (o / 4)) (put_into_opened (o % 4) m (cell_in cs (o / 4)))

-- four bytes put into a cell make it
put_over : (m0 m1 m2 m3 : Mark) (cell : Cell) → put_in 3 m3 (put_in 2 m2 (put_in 1 m1 (put_in 0 m0 cell)))
    ≡ Bytes m0 m1 m2 m3
put_over m0 m1 m2 m3 (Bytes n0 n1 n2 n3) = refl
put_over m0 m1 m2 m3 (cells.Mixed low) = refl

put_again : (cs : List Cell) (o k i : ℕ) (m : Mark) (cell : Cell) → o / 4 ≡ k → o % 4 ≡ i → k < length cs
    → put_listed o m (slice_set cs k cell) ≡ slice_set cs k (put_in i m cell)
put_again cs o k i m cell place index inside =
    ap₂ (λ x y. slice_set (slice_set cs k cell) x (put_in y m (cell_in (slice_set cs k cell) x))) place index
    ∙ ap (λ x. slice_set (slice_set cs k cell) k (put_in i m x)) (get_or-set_same cs k cell blank_cell inside)
    ∙ set-set cs k cell (put_in i m cell)

pub word_put : (cs : List Cell) (o : ℕ) (m0 m1 m2 m3 : Mark) → o % 4 ≡ 0 → o / 4 < length cs
    → put_all o (m0 ∷ m1 ∷ m2 ∷ m3 ∷ []) cs ≡ slice_set cs (o / 4) (Bytes m0 m1 m2 m3)
word_put cs o m0 m1 m2 m3 aligned inside =
    let k : ℕ = o / 4 in
    let c : Cell = cell_in cs k in
    let first : put_listed o m0 cs ≡ slice_set cs k (put_in 0 m0 c) =
    ap (λ x. slice_set cs k (put_in x m0 c)) aligned in
    ap (λ x. put_listed (o + 1 + 1 + 1) m3 (put_listed (o + 1 + 1) m2 (put_listed (o + 1) m1 x))) first
    ∙ ap (λ x. put_listed (o + 1 + 1 + 1) m3 (put_listed (o + 1 + 1) m2 x))
    (put_again cs (o + 1) k 1 m1 (put_in 0 m0 c) (omega arith) (omega arith) inside)
    ∙ ap (put_listed (o + 1 + 1 + 1) m3)
    (put_again cs (o + 1 + 1) k 2 m2 (put_in 1 m1 (put_in 0 m0 c)) (omega arith) (omega arith) inside)
    ∙ put_again cs (o + 1 + 1 + 1) k 3 m3 (put_in 2 m2 (put_in 1 m1 (put_in 0 m0 c))) (omega arith) (omega arith) inside
    ∙ ap (slice_set cs k) (put_over m0 m1 m2 m3 c)

-- the word at an aligned offset
pub word_loaded : (es : List Entry) (o : ℕ) → o % 4 ≡ 0 → o + 4 ≤ length es
    → cell_in (cells_of es) (o / 4) ≡ cell_of (entry_at es o) (entry_at es (o + 1)) (entry_at es (o + 2)) (entry_at es
    (o + 3))
word_loaded es o aligned inside = cell_is es (o / 4) o (omega arith) inside

-- the bytes of a mixed cell, and of another
pub byte_of_mixed : (es : List Entry) (o : ℕ) → o < length es → length es % 4 ≡ 0
    → is_mixed (entry_at es (o / 4 * 4)) ≡ true
    → mark_at (cell_in (cells_of es)) o ≡ mark.Blank
byte_of_mixed es o inside whole first =
    ap (λ x. mark_in x (o % 4)) (cell_is es (o / 4) (o / 4 * 4) (omega arith) (omega arith))
    ∙ by_first (entry_at es (o / 4 * 4)) first
  where
    by_first : (e : Entry) → is_mixed e ≡ true
        → mark_in (cell_of e (entry_at es (o / 4 * 4 + 1)) (entry_at es (o / 4 * 4 + 2)) (entry_at es
        (o / 4 * 4 + 3))) (o % 4) ≡ mark.Blank
    by_first (Mixed low) h = refl
    by_first Blank h = absurd (cc)
    by_first (Known b) h = absurd (cc)
    by_first (Ptr i b p) h = absurd (cc)
    by_first (Ret i a) h = absurd (cc)

pub byte_of_bytes : (es : List Entry) (o : ℕ) → o < length es → length es % 4 ≡ 0
    → is_mixed (entry_at es (o / 4 * 4)) ≡ false
    → mark_at (cell_in (cells_of es)) o ≡ mark_of (entry_at es o)
byte_of_bytes es o inside whole first =
    let p : ℕ = o / 4 * 4 in
    let cell : cell_in (cells_of es) (o / 4) ≡ Bytes (mark_of (entry_at es p)) (mark_of (entry_at es (p + 1)))
    (mark_of (entry_at es (p + 2))) (mark_of (entry_at es (p + 3))) =
    cell_is es (o / 4) p (omega arith) (omega arith) ∙ cell_bytes _ _ _ _ first in
    ap (λ x. mark_in x (o % 4)) cell ∙ by_place (o % 4) (omega arith) (omega arith)
  where
    by_place : (i : ℕ) → o ≡ o / 4 * 4 + i → i < 4
        → mark_in (Bytes (mark_of (entry_at es (o / 4 * 4))) (mark_of (entry_at es (o / 4 * 4 + 1))) (mark_of
        (entry_at es (o / 4 * 4 + 2))) (mark_of (entry_at es (o / 4 * 4 + 3)))) i
        ≡ mark_of (entry_at es o)
    by_place zero e small = ap (λ x. mark_of (entry_at es x)) (let f : o / 4 * 4 ≡ o = omega arith in f)
    by_place (suc zero) e small = ap (λ x. mark_of (entry_at es x)) (sym e)
    by_place (suc (suc zero)) e small = ap (λ x. mark_of (entry_at es x)) (sym e)
    by_place (suc (suc (suc zero))) e small = ap (λ x. mark_of (entry_at es x)) (sym e)
    by_place (suc (suc (suc (suc j)))) e small = absurd (omega arith)

-- a cell is opened where its first entry is mixed, and is open else
pub opened_mixed : (es : List Entry) (o : ℕ) → o % 4 ≡ 0 → o + 4 ≤ length es → is_mixed (entry_at es o) ≡ true
    → slice_set (cells_of es) (o / 4) blank_cell ≡ opened_at (o / 4) (cells_of es)
opened_mixed es o aligned inside first =
    ap (slice_set (cells_of es) (o / 4)) (by_first (entry_at es o) first
    ∙ sym (ap opened (word_loaded es o aligned inside)))
  where
    by_first : (e : Entry) → is_mixed e ≡ true
        → blank_cell ≡ opened (cell_of e (entry_at es (o + 1)) (entry_at es (o + 2)) (entry_at es (o + 3)))
    by_first (Mixed low) h = refl
    by_first Blank h = absurd (cc)
    by_first (Known b) h = absurd (cc)
    by_first (Ptr i b p) h = absurd (cc)
    by_first (Ret i a) h = absurd (cc)

pub opened_bytes : (es : List Entry) (o : ℕ) → o % 4 ≡ 0 → o + 4 ≤ length es → is_mixed (entry_at es o) ≡ false
    → cells_of es ≡ opened_at (o / 4) (cells_of es)
opened_bytes es o aligned inside first =
    let cell = word_loaded es o aligned inside in
    let bytes = cell_bytes (entry_at es o) (entry_at es (o + 1)) (entry_at es (o + 2)) (entry_at es (o + 3)) first in
    let same : opened (cell_in (cells_of es) (o / 4)) ≡ cell_in (cells_of es) (o / 4) =
    ap opened (cell ∙ bytes) ∙ sym (cell ∙ bytes) in
    sym (ap (slice_set (cells_of es) (o / 4)) same ∙ set-get_or (cells_of es) (o / 4) blank_cell)

-- an entry that is written when its cell was opened
pub put_done : (old es : List Entry) (p : ℕ) (e : Entry) → cells_of es ≡ opened_at (p / 4 * 4 / 4) (cells_of old)
    → length es ≡ length old → p < length old → length old % 4 ≡ 0 → is_mixed e ≡ false
    → is_mixed (entry_at es (p / 4 * 4)) ≡ false → cells_of (slice_set es p e) ≡ put_listed p (mark_of e) (cells_of old)
put_done old es p e is long inside whole byte first =
    let cell : p / 4 * 4 / 4 ≡ p / 4 = omega arith in
    let n = length-cells old in
    put_beside es p e (omega arith) (omega arith) byte first
    ∙ ap (put_listed p (mark_of e)) (is ∙ ap (λ k. opened_at k (cells_of old)) cell)
    ∙ put_opened (cells_of old) p (mark_of e) (omega (arith, n))

-- a word that is written is that put byte by byte
pub word_done : (es : List Entry) (o : ℕ) (m0 m1 m2 m3 : Mark) → o % 4 ≡ 0 → o + 4 ≤ length es
    → slice_set (cells_of es) (o / 4) (Bytes m0 m1 m2 m3) ≡ put_all o (m0 ∷ m1 ∷ m2 ∷ m3 ∷ []) (cells_of es)
word_done es o m0 m1 m2 m3 aligned inside =
    let n = length-cells es in sym (word_put (cells_of es) o m0 m1 m2 m3 aligned (omega (arith, n)))

pub first_put : (es : List Entry) (p : ℕ) (a b c d : Entry) → p + 4 ≤ length es
    → entry_at (slice_set (slice_set (slice_set (slice_set es p a) (p + 1) b) (p + 1 + 1) c) (p + 1 + 1 + 1) d) p ≡ a
first_put es p a b c d inside =
    get_or-set_other _ (p + 1 + 1 + 1) p d Blank (omega arith) ∙ get_or-set_other _ (p + 1 + 1) p c Blank (omega arith)
    ∙ get_or-set_other _ (p + 1) p b Blank (omega arith) ∙ get_or-set_same es p a Blank (omega arith)

pub bytes_of_cells : (es : List Entry) → length es % 4 ≡ 0 → 4 * length (cells_of es) ≡ length es
bytes_of_cells es whole = let n = length-cells es in omega (arith, n)

-- zero entries are zero cells
pub zeros_made : (m k : ℕ) → m ≡ 4 * k → cells_of (replicate m (Known 0)) ≡ replicate k zero_cell
unfolding cells_of
zeros_made m zero e = let none : m ≡ 0 = omega arith in rw none refl
zeros_made m (suc k) e = behind (λ n f. zeros_made n k f) (m - 4) (omega arith)
  where
    behind : ((n : ℕ) → n ≡ 4 * k → cells_of (replicate n (Known 0)) ≡ replicate k zero_cell) → (n : ℕ)
        → m ≡ suc (suc (suc (suc n))) → cells_of (replicate m (Known 0)) ≡ zero_cell ∷ replicate k zero_cell
    behind ih n f = rw f (ap (λ x. zero_cell ∷ x) (ih n (omega arith)))

-- entries over others are cells over others
overlaid_cells : (f o : List Entry) → length f % 4 ≡ 0 → length o % 4 ≡ 0
    → cells_of (take (length o) f ++ drop (length f) o) ≡ overlaid (cells_of f) (cells_of o)
unfolding cells_of
overlaid_cells [] o wf wo =
    ap (λ x. cells_of (x ++ o)) (take-nil (length o))
    ∙ sym (ap (λ x. x ++ cells_of o) (take-nil {A = Cell} (length (cells_of o))))
overlaid_cells (f0 ∷ []) o wf wo = absurd (omega arith)
overlaid_cells (f0 ∷ f1 ∷ []) o wf wo = absurd (omega arith)
overlaid_cells (f0 ∷ f1 ∷ f2 ∷ []) o wf wo = absurd (omega arith)
overlaid_cells (f0 ∷ f1 ∷ f2 ∷ f3 ∷ f) [] wf wo = refl
overlaid_cells (f0 ∷ f1 ∷ f2 ∷ f3 ∷ f) (o0 ∷ []) wf wo = absurd (omega arith)
overlaid_cells (f0 ∷ f1 ∷ f2 ∷ f3 ∷ f) (o0 ∷ o1 ∷ []) wf wo = absurd (omega arith)
overlaid_cells (f0 ∷ f1 ∷ f2 ∷ f3 ∷ f) (o0 ∷ o1 ∷ o2 ∷ []) wf wo = absurd (omega arith)
overlaid_cells (f0 ∷ f1 ∷ f2 ∷ f3 ∷ f) (o0 ∷ o1 ∷ o2 ∷ o3 ∷ o) wf wo =
    ap (λ x. cell_of f0 f1 f2 f3 ∷ x) (overlaid_cells f o (omega arith) (omega arith))

pub overlaid_shorter : (f o : List Entry) → length f ≤ length o → length f % 4 ≡ 0 → length o % 4 ≡ 0
    → cells_of (f ++ drop (length f) o) ≡ overlaid (cells_of f) (cells_of o)
overlaid_shorter f o less wf wo =
    ap (λ x. cells_of (x ++ drop (length f) o)) (sym (take_all (length o) f less)) ∙ overlaid_cells f o wf wo

pub overlaid_longer : (f o : List Entry) → length o ≤ length f → length f % 4 ≡ 0 → length o % 4 ≡ 0
    → cells_of (take (length o) f ++ drop (length (take (length o) f)) o) ≡ overlaid (cells_of f) (cells_of o)
overlaid_longer f o less wf wo =
    let n : length (take (length o) f) ≡ length o = length-take-le (length o) f less in
    ap (λ x. cells_of (take (length o) f ++ x))
    (ap (λ x. drop x o) n ∙ drop_of_length-le o (le_refl (length o)) ∙ sym (drop_of_length-le o less))
    ∙ overlaid_cells f o wf wo

pub overlaid_long : (f o : List Entry) → length f ≤ length o → length (f ++ drop (length f) o) ≡ length o
overlaid_long f o less =
    let n = length-append f (drop (length f) o) in
    let d = length-drop (length f) o in
    omega (arith, n, d)

-- one more cell of bytes
pub cells_more : (es : List Entry) (e0 e1 e2 e3 : Entry) → length es % 4 ≡ 0 → is_mixed e0 ≡ false
    → cells_of (es ++ e0 ∷ e1 ∷ e2 ∷ e3 ∷ [])
    ≡ cells_of es ++ Bytes (mark_of e0) (mark_of e1) (mark_of e2) (mark_of e3) ∷ []
unfolding cells_of
cells_more [] e0 e1 e2 e3 whole byte = ap (λ x. x ∷ []) (cell_bytes e0 e1 e2 e3 byte)
cells_more (a ∷ []) e0 e1 e2 e3 whole byte = absurd (omega arith)
cells_more (a ∷ b ∷ []) e0 e1 e2 e3 whole byte = absurd (omega arith)
cells_more (a ∷ b ∷ c ∷ []) e0 e1 e2 e3 whole byte = absurd (omega arith)
cells_more (a ∷ b ∷ c ∷ d ∷ es) e0 e1 e2 e3 whole byte =
    ap (λ x. cell_of a b c d ∷ x) (cells_more es e0 e1 e2 e3 (omega arith) byte)
