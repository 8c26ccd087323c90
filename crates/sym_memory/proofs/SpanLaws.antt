-- Laws of spans of plain memory: what the first span that has a cell gives, and what a store there leaves.
use Rattle.std.proofs.Common.{◌≡◌, ℕ, zero, suc, ◌+◌, ◌-◌, ◌*◌, ◌/◌, ◌%◌, ◌<◌, ◌≤◌, true, false, Bool, cond, List, []}
use Rattle.std.proofs.Common.{◌∷◌, Option, Some, None, length, map, nat_le, nat_lt, nat_eq, slice_set, slice_index_or}
use Rattle.std.proofs.Common.{refl, ap, ap₂, sym, ◌∙◌, arith}
use Rattle.std.specs.Prelude.{◌&&◌, ◌||◌, position, find}
use Rattle.std.specs.List.{list_any, position_or_len}
use Rattle.std.proofs.lemmas.Bool.{leb-true, ltb-true, ltb-false, le-leb}
use Rattle.std.proofs.lemmas.List.Quantifiers.{position-Some}
use Rattle.std.proofs.lemmas.List.Folds.{find_at}
use Rattle.std.proofs.lemmas.Option.{slice_get_past}
use Rattle.rv_isa.specs.declared.Width.{Width}
use Rattle.rv_isa.specs.declared.Width.TheVariants.{Byte, Half, Word, ByteU, HalfU}
use Rattle.machine_spec.specs.Widths.{size_of}
use Rattle.sym_value.specs.declared.Value.{Value}
use Rattle.sym_value.specs.declared.Value.TheVariants.{Unset}
use Rattle.sym_cells.specs.declared.Mark.TheVariants.{Blank}
use Rattle.sym_cells.specs.Cells.{Cell, Cells, blank_cell, cell_in, mark_in, mark_at}
use Rattle.sym_cells.specs.Moves.{half_of, byte_of, word_in, load_at, store}
use Rattle.sym_cells.specs.Memory.{Span, has, cell_at, store_plain}
use Rattle.cell_buffer.specs.Entries.{IsAccess}
use Rattle.sym_memory.specs.declared.spans.PlainSpan.{PlainSpan}
use Rattle.sym_memory.specs.Parts.{span_of, spans_of}

-- loads from cells of which one is the same, at offsets in it
pub same_mark : (f g : Cells) (o p : ℕ) → o % 4 ≡ p % 4 → f (o / 4) ≡ g (p / 4) → mark_at f o ≡ mark_at g p
same_mark f g o p place same = ap₂ mark_in same place

next_mark : (f g : Cells) (o p : ℕ) → o % 2 ≡ 0 → o % 4 ≡ p % 4 → f (o / 4) ≡ g (p / 4)
    → mark_at f (o + 1) ≡ mark_at g (p + 1)
next_mark f g o p aligned place same =
    let left : (o + 1) / 4 ≡ o / 4 = omega arith in
    let right : (p + 1) / 4 ≡ p / 4 = omega arith in
    same_mark f g (o + 1) (p + 1) (omega arith) (ap f left ∙ same ∙ ap g (sym right))

pub same_load : (width : Width) (f g : Cells) (o p : ℕ) → o % size_of width ≡ 0 → o % 4 ≡ p % 4
    → f (o / 4) ≡ g (p / 4) → load_at width o f ≡ load_at width p g
same_load Word f g o p aligned place same = ap word_in same
same_load Half f g o p aligned place same =
    ap₂ (half_of Half) (same_mark f g o p place same) (next_mark f g o p aligned place same)
same_load HalfU f g o p aligned place same =
    ap₂ (half_of HalfU) (same_mark f g o p place same) (next_mark f g o p aligned place same)
same_load Byte f g o p aligned place same = ap (byte_of Byte) (same_mark f g o p place same)
same_load ByteU f g o p aligned place same = ap (byte_of ByteU) (same_mark f g o p place same)

-- the first span that has a cell
first_cell : (spans : List PlainSpan) (k i : ℕ) (d : PlainSpan) → i < length spans
    → has k (span_of (slice_index_or spans i d)) ≡ true
    → ((j : ℕ) → j < i → has k (span_of (slice_index_or spans j d)) ≡ false)
    → cell_at (spans_of spans) k
    ≡ cell_in (slice_index_or spans i d).cells (k - (slice_index_or spans i d).first)
first_cell [] k i d less here before = absurd (omega arith)
first_cell (s ∷ spans) k zero d less here before = rw here refl
first_cell (s ∷ spans) k (suc i) d less here before =
    let past : has k (span_of s) ≡ false = before 0 (omega arith) in
    rw past (first_cell spans k i d (omega arith) here (λ j l. before (suc j) (omega arith)))

first_store : (spans : List PlainSpan) (width : Width) (a i : ℕ) (v : Value) (d : PlainSpan) → i < length spans
    → has (a / 4) (span_of (slice_index_or spans i d)) ≡ true
    → ((j : ℕ) → j < i → has (a / 4) (span_of (slice_index_or spans j d)) ≡ false)
    → spans_of (slice_set spans i (record (slice_index_or spans i d) {
      cells = store width
          (a - 4 * (slice_index_or spans i d).first) v (slice_index_or spans i d).cells;
    }))
    ≡ store_plain width a v (spans_of spans)
first_store [] width a i v d less here before = absurd (omega arith)
first_store (s ∷ spans) width a zero v d less here before = rw here refl
first_store (s ∷ spans) width a (suc i) v d less here before =
    let past : has (a / 4) (span_of s) ≡ false = before 0 (omega arith) in
    rw past (ap (λ xs. span_of s ∷ xs)
    (first_store spans width a i v d (omega arith) here (λ j l. before (suc j) (omega arith))))

-- what the span that was found gives
pub record Found (spans : List PlainSpan) (a i : ℕ) (d : PlainSpan) : Type 0 where
  pub low : 4 * (slice_index_or spans i d).first ≤ a
  pub high : a - 4 * (slice_index_or spans i d).first < 4 * length (slice_index_or spans i d).cells
  pub cell : cell_at (spans_of spans) (a / 4)
      ≡ cell_in (slice_index_or spans i d).cells ((a - 4 * (slice_index_or spans i d).first) / 4)
  pub stored : (width : Width) (v : Value)
      → spans_of (slice_set spans i (record (slice_index_or spans i d) {
        cells = store width
            (a - 4 * (slice_index_or spans i d).first) v (slice_index_or spans i d).cells;
      }))
      ≡ store_plain width a v (spans_of spans)

pub found : (spans : List PlainSpan) (a i : ℕ) (d : PlainSpan)
    → position (λ s. has (a / 4) (span_of s)) spans ≡ Some i → Found spans a i d
found spans a i d e =
    let first = position-Some (λ s. has (a / 4) (span_of s)) spans i d e in
    by_parts first.0 first.1 first.2 (nat_le (slice_index_or spans i d).first (a / 4)) refl
  where
    by_parts : i < length spans → has (a / 4) (span_of (slice_index_or spans i d)) ≡ true
        → ((j : ℕ) → j < i → has (a / 4) (span_of (slice_index_or spans j d)) ≡ false)
        → (t : Bool) → nat_le (slice_index_or spans i d).first (a / 4) ≡ t → Found spans a i d
    by_parts less here before false f = absurd (let both = sym here ∙ ap (λ x. x && nat_lt (a / 4)
        ((slice_index_or spans i d).first + length (slice_index_or spans i d).cells)) f in cc)
    by_parts less here before true f =
        let g : nat_lt (a / 4) ((slice_index_or spans i d).first + length (slice_index_or spans i d).cells) ≡ true =
        sym (ap (λ x. x && nat_lt (a / 4) ((slice_index_or spans i d).first
        + length (slice_index_or spans i d).cells)) f) ∙ here in
        let low = leb-true _ _ f in
        let high = ltb-true _ _ g in
        let place : a / 4 - (slice_index_or spans i d).first ≡ (a - 4 * (slice_index_or spans i d).first) / 4 =
        omega (arith, low) in
        record {
          low = omega (arith, low);
          high = omega (arith, low, high);
          cell = first_cell spans (a / 4) i d less here before ∙ ap (cell_in (slice_index_or spans i d).cells) place;
          stored = λ width v. first_store spans width a i v d less here before;
        }

pub access_found : (spans : List PlainSpan) (width : Width) (a i : ℕ) (d : PlainSpan) → a % size_of width ≡ 0
    → Found spans a i d
    → IsAccess width (a - 4 * (slice_index_or spans i d).first) (4 * length (slice_index_or spans i d).cells)
access_found spans Word a i d aligned f = let low = f.low in let high =
    f.high in (omega (arith, low), omega (arith, low, high))
access_found spans Half a i d aligned f = let low = f.low in let high =
    f.high in (omega (arith, low), omega (arith, low, high))
access_found spans HalfU a i d aligned f = let low = f.low in let high =
    f.high in (omega (arith, low), omega (arith, low, high))
access_found spans Byte a i d aligned f = let high = f.high in (omega arith, omega (arith, high))
access_found spans ByteU a i d aligned f = let high = f.high in (omega arith, omega (arith, high))

pub load_found : (spans : List PlainSpan) (width : Width) (a i : ℕ) (d : PlainSpan) → a % size_of width ≡ 0
    → Found spans a i d
    → load_at width (a - 4 * (slice_index_or spans i d).first) (cell_in (slice_index_or spans i d).cells)
    ≡ load_at width a (cell_at (spans_of spans))
load_found spans width a i d aligned f =
    let low = f.low in
    sym (same_load width (cell_at (spans_of spans)) (cell_in (slice_index_or spans i d).cells) a
    (a - 4 * (slice_index_or spans i d).first) aligned (omega (arith, low)) f.cell)

pub mark_found : (spans : List PlainSpan) (a i : ℕ) (d : PlainSpan) → Found spans a i d
    → mark_at (cell_in (slice_index_or spans i d).cells) (a - 4 * (slice_index_or spans i d).first)
    ≡ mark_at (cell_at (spans_of spans)) a
mark_found spans a i d f =
    let low = f.low in
    sym (same_mark (cell_at (spans_of spans)) (cell_in (slice_index_or spans i d).cells) a
    (a - 4 * (slice_index_or spans i d).first) (omega (arith, low)) f.cell)

-- no span has the cell
none_has : {X : Type 0} (p : X → Bool) (xs : List X) → find p xs ≡ None → list_any p xs ≡ false
none_has p [] e = refl
none_has p (x ∷ xs) e = by_test (λ r. none_has p xs r) (p x) refl e
  where
    by_test : (find p xs ≡ None → list_any p xs ≡ false) → (t : Bool) → p x ≡ t → cond t (Some x) (find p xs) ≡ None
        → (t || list_any p xs) ≡ false
    by_test ih true f g = absurd (cc)
    by_test ih false f g = ih g

not_found : (spans : List PlainSpan) (k : ℕ) → position (λ s. has k (span_of s)) spans ≡ None
    → list_any (λ s. has k (span_of s)) spans ≡ false
not_found spans k e =
    let past = ltb-false _ _ (by_test (nat_lt (position_or_len (λ s. has k (span_of s)) spans) (length spans)) e) in
    none_has (λ s. has k (span_of s)) spans
    (find_at (λ s. has k (span_of s)) spans ∙ slice_get_past spans _ past)
  where
    by_test : (t : Bool) → cond t (Some (position_or_len (λ s. has k (span_of s)) spans)) None ≡ None → t ≡ false
    by_test true f = absurd (cc)
    by_test false f = refl

no_cell : (spans : List PlainSpan) (k : ℕ) → list_any (λ s. has k (span_of s)) spans ≡ false
    → cell_at (spans_of spans) k ≡ blank_cell
no_cell [] k e = refl
no_cell (s ∷ spans) k e = by_test (λ r. no_cell spans k r) (has k (span_of s)) refl e
  where
    by_test : (list_any (λ s. has k (span_of s)) spans ≡ false → cell_at (spans_of spans) k ≡ blank_cell)
        → (t : Bool) → has k (span_of s) ≡ t → (t || list_any (λ s. has k (span_of s)) spans) ≡ false
        → cell_at (spans_of (s ∷ spans)) k ≡ blank_cell
    by_test ih true f g = absurd (cc)
    by_test ih false f g = rw f (ih g)

no_store : (spans : List PlainSpan) (width : Width) (a : ℕ) (v : Value)
    → list_any (λ s. has (a / 4) (span_of s)) spans ≡ false
    → spans_of spans ≡ store_plain width a v (spans_of spans)
no_store [] width a v e = refl
no_store (s ∷ spans) width a v e =
    by_test (λ r. no_store spans width a v r) (has (a / 4) (span_of s)) refl e
  where
    by_test : (list_any (λ s. has (a / 4) (span_of s)) spans ≡ false
        → spans_of spans ≡ store_plain width a v (spans_of spans))
        → (t : Bool) → has (a / 4) (span_of s) ≡ t → (t || list_any (λ s. has (a / 4) (span_of s)) spans) ≡ false
        → spans_of (s ∷ spans) ≡ store_plain width a v (spans_of (s ∷ spans))
    by_test ih true f g = absurd (cc)
    by_test ih false f g = rw f (ap (λ xs. span_of s ∷ xs) (ih g))

blank_mark : (i : ℕ) → mark_in blank_cell i ≡ Blank
blank_mark i = by_tests (nat_eq i 0) (nat_eq i 1) (nat_eq i 2)
  where
    by_tests : (s t u : Bool) → cond s Blank (cond t Blank (cond u Blank Blank)) ≡ Blank
    by_tests true t u = refl
    by_tests false true u = refl
    by_tests false false true = refl
    by_tests false false false = refl

pub mark_nowhere : (spans : List PlainSpan) (a : ℕ) → position (λ s. has (a / 4) (span_of s)) spans ≡ None
    → mark_at (cell_at (spans_of spans)) a ≡ Blank
mark_nowhere spans a e =
    ap (λ c. mark_in c (a % 4)) (no_cell spans (a / 4) (not_found spans (a / 4) e)) ∙ blank_mark (a % 4)

pub load_nowhere : (spans : List PlainSpan) (width : Width) (a : ℕ)
    → position (λ s. has (a / 4) (span_of s)) spans ≡ None
    → load_at width a (cell_at (spans_of spans)) ≡ Unset
load_nowhere spans Word a e = ap word_in (no_cell spans (a / 4) (not_found spans (a / 4) e))
load_nowhere spans Half a e = ap (λ m. half_of Half m (mark_at (cell_at (spans_of spans)) (a + 1)))
    (mark_nowhere spans a e)
load_nowhere spans HalfU a e =
    ap (λ m. half_of HalfU m (mark_at (cell_at (spans_of spans)) (a + 1))) (mark_nowhere spans a e)
load_nowhere spans Byte a e = ap (byte_of Byte) (mark_nowhere spans a e)
load_nowhere spans ByteU a e = ap (byte_of ByteU) (mark_nowhere spans a e)

pub store_nowhere : (spans : List PlainSpan) (width : Width) (a : ℕ) (v : Value)
    → position (λ s. has (a / 4) (span_of s)) spans ≡ None
    → spans_of spans ≡ store_plain width a v (spans_of spans)
store_nowhere spans width a v e = no_store spans width a v (not_found spans (a / 4) e)
