-- A pointer or a return address that is copied byte by byte is itself where it was copied to.
use Rattle.std.proofs.Common.{◌≡◌, ◌≢◌, ℕ, zero, suc, ◌+◌, ◌/◌, ◌%◌, ◌<◌, Bool, true, false, ◌&&◌, if◌then◌else◌}
use Rattle.std.proofs.Common.{nat_eq, refl, ap, ap₂, sym, subst, ◌∙◌, arith}
use Rattle.std.proofs.lemmas.Bool.{and_parts, and_from, eqb-true, eqb-false, eq-eqb}
use Rattle.rv_isa.specs.declared.Width.{Width}
use Rattle.rv_isa.specs.declared.Width.TheVariants.{Byte, Half, Word, ByteU, HalfU}
use Rattle.machine_spec.specs.Widths.{size_of}
use Rattle.sym_value.specs.declared.Value.TheVariants.{Unset}
use Rattle.sym_value.specs.declared.Whole.{Whole}
use Rattle.sym_value.specs.declared.Whole.TheVariants.{Ptr as WholePtr, Ret as WholeRet}
use Rattle.sym_cells.specs.declared.Mark.{Mark}
use Rattle.sym_cells.specs.declared.Mark.TheVariants.{Known, Blank, Piece}
use Rattle.sym_cells.specs.Cells.{Cell, Bytes, Mixed, Cells, mark_in, mark_at, put_mark}
use Rattle.sym_cells.specs.Moves.{same_whole, value_of, is_piece, word_of, word_in, load_at, copy_byte, copy_inside}
use Rattle.sym_cells.specs.Moves.{copy_across}
use Rattle.sym_cells.proofs.CellLaws.{mark_here, mark_elsewhere, marks_of_cell}
use Rattle.sym_cells.proofs.LoadLaw.{same_whole_is}

same_value : (s t : Whole) → value_of s ≡ value_of t → s ≡ t
same_value (WholePtr b o) (WholePtr c p) e = let f : b ≡ c = cc in let g : o ≡ p = cc in ap₂ (λ x y. WholePtr x y) f g
same_value (WholeRet a) (WholeRet b) e = let f : a ≡ b = cc in ap (λ x. WholeRet x) f
same_value (WholePtr b o) (WholeRet a) e = absurd (cc)
same_value (WholeRet a) (WholePtr b o) e = absurd (cc)

same_self : (s : Whole) → same_whole s s ≡ true
same_self (WholePtr b o) = and_from _ _ (eq-eqb b b refl) (eq-eqb o o refl)
same_self (WholeRet a) = eq-eqb a a refl

piece_is : (s : Whole) (i : ℕ) (m : Mark) → is_piece s i m ≡ true → m ≡ Piece s i
piece_is s i (Piece t j) e =
    let parts = and_parts _ _ e in
    ap₂ (λ x y. Piece x y) (sym (same_whole_is s t parts.0)) (sym (eqb-true i j parts.1))
piece_is s i (Known v) e = absurd (cc)
piece_is s i Blank e = absurd (cc)

is_own_piece : (s : Whole) (i : ℕ) → is_piece s i (Piece s i) ≡ true
is_own_piece s i = and_from _ _ (same_self s) (eq-eqb i i refl)

-- the four bytes of a cell are the pieces of s
record AllPieces (s : Whole) (m0 m1 m2 m3 : Mark) : Type 0 where
  pub p0 : m0 ≡ Piece s 0
  pub p1 : m1 ≡ Piece s 1
  pub p2 : m2 ≡ Piece s 2
  pub p3 : m3 ≡ Piece s 3

value_is_whole : (s : Whole) (m0 m1 m2 m3 : Mark) → word_of m0 m1 m2 m3 ≡ value_of s → AllPieces s m0 m1 m2 m3
value_is_whole (WholePtr b o) (Known v0) (Known v1) (Known v2) (Known v3) e = absurd (cc)
value_is_whole (WholeRet a) (Known v0) (Known v1) (Known v2) (Known v3) e = absurd (cc)
value_is_whole s (Piece t i) m1 m2 m3 e =
    by_test (nat_eq i 0) refl (is_piece t 1 m1) refl (is_piece t 2 m2) refl (is_piece t 3 m3) refl e
  where
    unset : (s : Whole) → Unset ≡ value_of s → ⊥
    unset (WholePtr b o) e = cc
    unset (WholeRet a) e = cc

    by_test : (p : Bool) → nat_eq i 0 ≡ p → (q : Bool) → is_piece t 1 m1 ≡ q → (r : Bool) → is_piece t 2 m2 ≡ r
        → (u : Bool) → is_piece t 3 m3 ≡ u → (if p && (q && (r && u)) then value_of t else Unset) ≡ value_of s
        → AllPieces s (Piece t i) m1 m2 m3
    by_test true e0 true e1 true e2 true e3 e =
        let same : t ≡ s = same_value t s e in
        record {
          p0 = ap₂ (λ x y. Piece x y) same (eqb-true i 0 e0);
          p1 = piece_is t 1 m1 e1 ∙ ap (λ x. Piece x 1) same;
          p2 = piece_is t 2 m2 e2 ∙ ap (λ x. Piece x 2) same;
          p3 = piece_is t 3 m3 e3 ∙ ap (λ x. Piece x 3) same;
        }
    by_test true e0 true e1 true e2 false e3 e = absurd (unset s e)
    by_test true e0 true e1 false e2 u e3 e = absurd (unset s e)
    by_test true e0 false e1 r e2 u e3 e = absurd (unset s e)
    by_test false e0 q e1 r e2 u e3 e = absurd (unset s e)
value_is_whole (WholePtr b o) m0 m1 m2 m3 e = absurd (cc)
value_is_whole (WholeRet a) m0 m1 m2 m3 e = absurd (cc)

-- a word of s is its pieces, at an aligned offset
abbrev pub HasPieces : Whole → Cells → ℕ → Type 0
HasPieces s cells o = (i : ℕ) → i < 4 → mark_at cells (o + i) ≡ Piece s i

pieces_of_word : (s : Whole) (cells : Cells) (o : ℕ) → o % 4 ≡ 0 → load_at Word o cells ≡ value_of s
    → HasPieces s cells o
pieces_of_word s cells o aligned e i small = marks_of_cell o i cells aligned small ∙ by_cell (cells (o / 4)) e i small
  where
    mix : (s : Whole) (low : ℕ) → word_in (Mixed low) ≡ value_of s → ⊥
    mix (WholePtr b o) low e = cc
    mix (WholeRet a) low e = cc

    by_cell : (c : Cell) → word_in c ≡ value_of s → (i : ℕ) → i < 4 → mark_in c i ≡ Piece s i
    by_cell (Mixed low) e i small = absurd (mix s low e)
    by_cell (Bytes m0 m1 m2 m3) e zero small = (value_is_whole s m0 m1 m2 m3 e).p0
    by_cell (Bytes m0 m1 m2 m3) e (suc zero) small = (value_is_whole s m0 m1 m2 m3 e).p1
    by_cell (Bytes m0 m1 m2 m3) e (suc (suc zero)) small = (value_is_whole s m0 m1 m2 m3 e).p2
    by_cell (Bytes m0 m1 m2 m3) e (suc (suc (suc zero))) small = (value_is_whole s m0 m1 m2 m3 e).p3
    by_cell (Bytes m0 m1 m2 m3) e (suc (suc (suc (suc j)))) small = absurd (omega arith)

word_of_pieces : (s : Whole) (cells : Cells) (o : ℕ) → o % 4 ≡ 0 → HasPieces s cells o
    → load_at Word o cells ≡ value_of s
word_of_pieces s cells o aligned h = by_cell (cells (o / 4)) (λ i small. sym (marks_of_cell o i cells aligned small)
    ∙ h i small)
  where
    by_cell : (c : Cell) → ((i : ℕ) → i < 4 → mark_in c i ≡ Piece s i) → word_in c ≡ value_of s
    by_cell (Mixed low) h = let e : Blank ≡ Piece s 0 = h 0 (omega arith) in absurd (cc)
    by_cell (Bytes m0 m1 m2 m3) h =
        let e0 : m0 ≡ Piece s 0 = h 0 (omega arith) in
        let e1 : m1 ≡ Piece s 1 = h 1 (omega arith) in
        let e2 : m2 ≡ Piece s 2 = h 2 (omega arith) in
        let e3 : m3 ≡ Piece s 3 = h 3 (omega arith) in
        rw (e0, e1, e2, e3, is_own_piece s 1) refl

-- a byte that is a piece is copied as it is
byte_copied : (width : Width) (s : Whole) (i p q : ℕ) (from onto : Cells) → size_of width ≡ 1
    → mark_at from p ≡ Piece s i
    → copy_byte width from p q onto ≡ put_mark q (Piece s i) onto
byte_copied Byte s i p q from onto one e = rw e refl
byte_copied ByteU s i p q from onto one e = rw e refl
byte_copied Half s i p q from onto one e = absurd (omega arith)
byte_copied HalfU s i p q from onto one e = absurd (omega arith)
byte_copied Word s i p q from onto one e = absurd (omega arith)

-- a piece that is put leaves the pieces at other places, and those at its own
piece_put : (s : Whole) (cells : Cells) (o q i j : ℕ) → o % 4 ≡ 0 → q % 4 ≡ 0 → i < 4 → j < 4
    → mark_at cells (o + i) ≡ Piece s i
    → mark_at (put_mark (q + j) (Piece s j) cells) (o + i) ≡ Piece s i
piece_put s cells o q i j ao aq si sj e = by_place (nat_eq (o + i) (q + j)) refl
  where
    by_place : (t : Bool) → nat_eq (o + i) (q + j) ≡ t → mark_at (put_mark (q + j) (Piece s j) cells) (o + i)
        ≡ Piece s i
    by_place true t =
        let same : o + i ≡ q + j = eqb-true (o + i) (q + j) t in
        let index : j ≡ i = omega arith in
        ap (mark_at (put_mark (q + j) (Piece s j) cells)) same ∙ mark_here (q + j) (Piece s j) cells
        ∙ ap (Piece s) index
    by_place false t =
        let other : o + i ≢ q + j = eqb-false (o + i) (q + j) t in
        mark_elsewhere (q + j) (o + i) (Piece s j) cells other ∙ e

-- the pieces up to n are there
abbrev pub HasSome : ℕ → Whole → Cells → ℕ → Type 0
HasSome n s cells o = (i : ℕ) → i < n → mark_at cells (o + i) ≡ Piece s i

one_more : (s : Whole) (cells : Cells) (q j : ℕ) → q % 4 ≡ 0 → j < 4 → HasSome j s cells q
    → HasSome (j + 1) s (put_mark (q + j) (Piece s j) cells) q
one_more s cells q j aligned small h i less = by_place (nat_eq i j) refl
  where
    by_place : (t : Bool) → nat_eq i j ≡ t → mark_at (put_mark (q + j) (Piece s j) cells) (q + i) ≡ Piece s i
    by_place true t =
        let same : i ≡ j = eqb-true i j t in
        subst (λ x. mark_at (put_mark (q + j) (Piece s j) cells) (q + x)
        ≡ Piece s x) (sym same) (mark_here (q + j) (Piece s j) cells)
    by_place false t =
        let other : i ≢ j = eqb-false i j t in
        piece_put s cells q q i j aligned aligned (omega arith) small (h i (omega arith))

record Step (s : Whole) (p q n : ℕ) (cells : Cells) : Type 0 where
  pub source : HasPieces s cells p
  pub copied : HasSome n s cells q

step : (width : Width) (s : Whole) (p q j : ℕ) (cells : Cells) → size_of width ≡ 1 → p % 4 ≡ 0 → q % 4 ≡ 0 → j < 4
    → Step s p q j cells → Step s p q (j + 1) (copy_byte width cells (p + j) (q + j) cells)
step width s p q j cells one ap_ aq small h =
    subst (Step s p q (j + 1)) (sym (byte_copied width s j (p + j) (q + j) cells cells one (h.source j small)))
    (record {
      source = λ i less. piece_put s cells p q i j ap_ aq less small (h.source i less);
      copied = one_more s cells q j aq small h.copied;
    })

start : (s : Whole) (p q : ℕ) (cells : Cells) → HasPieces s cells p → Step s p q 0 cells
start s p q cells h = record { source = h; copied = λ i less. absurd (omega arith) }

no_shift : (s : Whole) (width : Width) (p q : ℕ) (cells : Cells)
    → Step s p q 1 (copy_byte width cells (p + 0) (q + 0) cells)
    → Step s p q 1 (copy_byte width cells p q cells)
no_shift s width p q cells h =
    let first : p + 0 ≡ p = omega arith in
    let second : q + 0 ≡ q = omega arith in
    subst (λ x. Step s p q 1 (copy_byte width cells p x cells)) second
    (subst (λ x. Step s p q 1 (copy_byte width cells x (q + 0) cells)) first h)

-- the law inside one memory, whether or not the places are one
pub copied_inside : (width : Width) (s : Whole) (p q : ℕ) (cells : Cells) → size_of width ≡ 1 → p % 4 ≡ 0 → q % 4 ≡ 0
    → load_at Word p cells ≡ value_of s → load_at Word q (copy_inside width p q cells) ≡ value_of s
copied_inside width s p q cells one first second e =
    let c1 : Cells = copy_byte width cells p q cells in
    let c2 : Cells = copy_byte width c1 (p + 1) (q + 1) c1 in
    let c3 : Cells = copy_byte width c2 (p + 2) (q + 2) c2 in
    let s1 : Step s p q 1 c1 =
    no_shift s width p q cells (step width s p q 0 cells one first second (omega arith) (start s p q cells
    (pieces_of_word s cells p first e))) in
    let s2 : Step s p q 2 c2 = step width s p q 1 c1 one first second (omega arith) s1 in
    let s3 : Step s p q 3 c3 = step width s p q 2 c2 one first second (omega arith) s2 in
    let s4 : Step s p q 4 (copy_byte width c3 (p + 3) (q + 3) c3) = step width s p q 3 c3 one first second
    (omega arith) s3 in
    word_of_pieces s (copy_byte width c3 (p + 3) (q + 3) c3) q second s4.copied

-- the law from one memory to another
across_step : (width : Width) (s : Whole) (p q j : ℕ) (from onto : Cells) → size_of width ≡ 1 → q % 4 ≡ 0 → j < 4
    → HasPieces s from p → HasSome j s onto q → HasSome (j + 1) s (copy_byte width from (p + j) (q + j) onto) q
across_step width s p q j from onto one aligned small source h =
    subst (λ c. HasSome (j + 1) s c q) (sym (byte_copied width s j (p + j) (q + j) from onto one (source j small)))
    (one_more s onto q j aligned small h)

pub copied_across : (width : Width) (s : Whole) (p q : ℕ) (from onto : Cells) → size_of width ≡ 1 → p % 4 ≡ 0
    → q % 4 ≡ 0
    → load_at Word p from ≡ value_of s → load_at Word q (copy_across width from p q onto) ≡ value_of s
copied_across width s p q from onto one first second e =
    let source : HasPieces s from p = pieces_of_word s from p first e in
    let p0 : p + 0 ≡ p = omega arith in
    let q0 : q + 0 ≡ q = omega arith in
    let c1 : Cells = copy_byte width from p q onto in
    let c2 : Cells = copy_byte width from (p + 1) (q + 1) c1 in
    let c3 : Cells = copy_byte width from (p + 2) (q + 2) c2 in
    let s1 : HasSome 1 s c1 q =
    subst (λ x. HasSome 1 s (copy_byte width from p x onto) q) q0
    (subst (λ x. HasSome 1 s (copy_byte width from x (q + 0) onto) q) p0
    (across_step width s p q 0 from onto one second (omega arith) source (λ i less. absurd (omega arith)))) in
    let s2 : HasSome 2 s c2 q = across_step width s p q 1 from c1 one second (omega arith) source s1 in
    let s3 : HasSome 3 s c3 q = across_step width s p q 2 from c2 one second (omega arith) source s2 in
    word_of_pieces s (copy_byte width from (p + 3) (q + 3) c3) q second
    (across_step width s p q 3 from c3 one second (omega arith) source s3)
