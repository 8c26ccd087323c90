-- The memory at the start: the spans have each plain byte, as the new file's memory has it.
use Rattle.std.proofs.Common.{◌≡◌, ℕ, zero, suc, ◌+◌, ◌-◌, ◌/◌, ◌%◌, ◌<◌, ◌≤◌, List, [], ◌∷◌, ◌++◌, Bool, true, false}
use Rattle.std.proofs.Common.{◌&&◌, ◌||◌, cond, length, filter, map, refl, ap, sym, ◌∙◌, subst, arith}
use Rattle.std.specs.Prelude.{Some, nat_le, nat_lt, slice_get}
use Rattle.std.specs.List.{list_any}
use Rattle.std.proofs.lemmas.Bool.{and_parts, leb-true, ltb-true, le-leb, lt-ltb}
use Rattle.elf_spec.specs.declared.Segment.{Segment}
use Rattle.elf_spec.specs.Memory.{is_loaded}
use Rattle.elf_spec.specs.Records.{segments_of}
use Rattle.machine_spec.specs.Memory.{stack_start, stack_size, memory_of, byte_of}
use Rattle.machine_spec.proofs.AllFrom.{and_first}
use Rattle.flat_spec.proofs.Memories.{byte_there}
use Rattle.sym_value.specs.declared.live.Life.{Life}
use Rattle.sym_cells.specs.declared.Mark.TheVariants.{Known, Blank}
use Rattle.sym_cells.specs.Cells.{Cell, Bytes, Mixed, cell_in, mark_in, mark_at}
use Rattle.sym_cells.specs.Memory.{Block, Span, has, has_cell, cell_at, life_of}
use Rattle.sym_cells.specs.Region.{MarkStands, Region}
use Rattle.sym_spec.specs.Plain.{is_in, is_plain, is_plain_store, is_stack}
use Rattle.sym_spec.specs.StartMemory.{mark_of, start_mark, start_cell, cells_from, span_over, segment_span}
use Rattle.sym_spec.specs.StartMemory.{start_memory}
use Rattle.match_spec.specs.Parts.{InMemory}
use Rattle.simulation.specs.Ground.{MemoryGround}

length-cells_from : (cell : ℕ → Cell) (k n : ℕ) → length (cells_from cell k n) ≡ n
length-cells_from cell k zero = refl
length-cells_from cell k (suc n) = ap suc (length-cells_from cell (k + 1) n)

cell_from : (cell : ℕ → Cell) (k n i : ℕ) → i < n → cell_in (cells_from cell k n) i ≡ cell (k + i)
cell_from cell k zero i small = absurd (omega arith)
cell_from cell k (suc n) zero small = ap cell (omega arith)
cell_from cell k (suc n) (suc i) small = cell_from cell (k + 1) n i (omega arith) ∙ ap cell (omega arith)

-- a span has the cells of its bytes, and they are those of their numbers
span_has : (cell : ℕ → Cell) (a n x : ℕ) → a ≤ x → x < a + n → has (x / 4) (span_over cell a n) ≡ true
span_has cell a n x low high =
    let long = length-cells_from cell (a / 4) ((a + n + 3) / 4 - a / 4) in
    rw (
      le-leb (a / 4) (x / 4) (omega arith),
      lt-ltb (x / 4) (a / 4 + length (cells_from cell (a / 4) ((a + n + 3) / 4 - a / 4))) (omega (arith, long)),
    ) refl

span_cell : (cell : ℕ → Cell) (a n k : ℕ) → has k (span_over cell a n) ≡ true
    → cell_in (span_over cell a n).cells (k - (span_over cell a n).first) ≡ cell k
span_cell cell a n k h =
    let long = length-cells_from cell (a / 4) ((a + n + 3) / 4 - a / 4) in
    let parts = and_parts _ _ h in
    let low : a / 4 ≤ k = leb-true _ _ parts.0 in
    let high : k < a / 4 + length (cells_from cell (a / 4) ((a + n + 3) / 4 - a / 4)) = ltb-true _ _ parts.1 in
    cell_from cell (a / 4) ((a + n + 3) / 4 - a / 4) (k - a / 4) (omega (arith, long, low, high))
    ∙ ap cell (omega (arith, low))

abbrev spans_over : (ℕ → Cell) → List Segment → List Span
spans_over cell segments =
    map (segment_span cell) (filter is_loaded segments) ++ span_over cell stack_start stack_size ∷ []

-- so are those of all spans
first_or_later : (cell : ℕ → Cell) (s : Span) (rest : List Span) (k : ℕ)
    → (has k s ≡ true → cell_in s.cells (k - s.first) ≡ cell k) → (has_cell k rest ≡ true → cell_at rest k ≡ cell k)
    → has_cell k (s ∷ rest) ≡ true → cell_at (s ∷ rest) k ≡ cell k
first_or_later cell s rest k here later h = by_test (has k s) refl h
  where
    by_test : (t : Bool) → has k s ≡ t → (t || has_cell k rest) ≡ true
        → cond t (cell_in s.cells (k - s.first)) (cell_at rest k) ≡ cell k
    by_test true e h = here e
    by_test false e h = later h

spans_cell : (cell : ℕ → Cell) (segments : List Segment) (k : ℕ) → has_cell k (spans_over cell segments) ≡ true
    → cell_at (spans_over cell segments) k ≡ cell k
spans_cell cell [] k h =
    first_or_later cell (span_over cell stack_start stack_size) [] k (span_cell cell stack_start stack_size k)
    (λ none. absurd (cc)) h
spans_cell cell (g ∷ gs) k h = by_kind (is_loaded g) (spans_cell cell gs k) h
  where
    by_kind : (t : Bool) → (has_cell k (spans_over cell gs) ≡ true → cell_at (spans_over cell gs) k ≡ cell k)
        → has_cell k (map (segment_span cell) (cond t (g ∷ filter is_loaded gs) (filter is_loaded gs)) ++ span_over cell
        stack_start stack_size ∷ []) ≡ true
        → cell_at (map (segment_span cell) (cond t (g ∷ filter is_loaded gs) (filter is_loaded gs)) ++ span_over cell
        stack_start stack_size ∷ []) k ≡ cell k
    by_kind true ih h =
        first_or_later cell (segment_span cell g) (spans_over cell gs) k (span_cell cell g.vaddr g.mem_size k) ih h
    by_kind false ih h = ih h

either : (p q : Bool) → (p || q) ≡ true → p ≡ false → q ≡ true
either true q e f = absurd (cc)
either false q e f = e

front : (p q : Bool) → p ≡ true → (p || q) ≡ true
front true q e = refl
front false q e = absurd (cc)

behind : (p q : Bool) → q ≡ true → (p || q) ≡ true
behind true q e = refl
behind false q e = e

spans_have : (cell : ℕ → Cell) (segments : List Segment) (a : ℕ) → (is_stack a || list_any (is_in a) segments) ≡ true
    → has_cell (a / 4) (spans_over cell segments) ≡ true
spans_have cell [] a h = on_stack (is_stack a) refl h
  where
    on_stack : (t : Bool) → is_stack a ≡ t → (t || false) ≡ true
        → has_cell (a / 4) (span_over cell stack_start stack_size ∷ []) ≡ true
    on_stack false e h = absurd (cc)
    on_stack true e h =
        let parts = and_parts _ _ e in
        front (has (a / 4) (span_over cell stack_start stack_size)) false
        (span_has cell stack_start stack_size a (leb-true _ _ parts.0) (ltb-true _ _ parts.1))
spans_have cell (g ∷ gs) a h = by_kind (is_loaded g) (spans_have cell gs a) h
  where
    later : (p q r : Bool) → (p || (q || r)) ≡ true → q ≡ false → (p || r) ≡ true
    later true q r e f = refl
    later false true r e f = absurd (cc)
    later false false r e f = e

    by_kind : (t : Bool) → ((is_stack a || list_any (is_in a) gs) ≡ true → has_cell (a / 4) (spans_over cell gs) ≡ true)
        → (is_stack a || ((t && (nat_le g.vaddr a && nat_lt a (g.vaddr + g.mem_size))) || list_any (is_in a) gs)) ≡ true
        → has_cell (a / 4) (map (segment_span cell)
        (cond t (g ∷ filter is_loaded gs) (filter is_loaded gs)) ++ span_over
        cell stack_start stack_size ∷ []) ≡ true
    by_kind false ih h = ih h
    by_kind true ih h = inside (nat_le g.vaddr a && nat_lt a (g.vaddr + g.mem_size)) refl
      where
        inside : (u : Bool) → (nat_le g.vaddr a && nat_lt a (g.vaddr + g.mem_size)) ≡ u
            → has_cell (a / 4) (segment_span cell g ∷ spans_over cell gs) ≡ true
        inside true e =
            let parts = and_parts _ _ e in
            front (has (a / 4) (segment_span cell g)) (has_cell (a / 4) (spans_over cell gs))
            (span_has cell g.vaddr g.mem_size a (leb-true _ _ parts.0) (ltb-true _ _ parts.1))
        inside false e =
            behind (has (a / 4) (segment_span cell g)) (has_cell (a / 4) (spans_over cell gs)) (ih (later (is_stack a)
            (nat_le g.vaddr a && nat_lt a (g.vaddr + g.mem_size)) (list_any (is_in a) gs) h e))

-- plain bytes are in the spans
covered : (file : List ℕ) (a : ℕ) → is_plain file a ≡ true → has_cell (a / 4) (start_memory file).plain ≡ true
unfolding is_plain start_memory
covered file a plain =
    spans_have (start_cell file) (segments_of file) a
    (outer (is_stack a) (list_any (is_in a) (segments_of file)) _ plain)
  where
    outer : (p q r : Bool) → (p || (q && r)) ≡ true → (p || q) ≡ true
    outer true q r e = refl
    outer false true r e = refl
    outer false false r e = absurd (cc)

-- and known there
start_cell_at : (file : List ℕ) (k : ℕ) → has_cell k (start_memory file).plain ≡ true
    → cell_at (start_memory file).plain k ≡ start_cell file k
unfolding start_memory
start_cell_at file k h = spans_cell (start_cell file) (segments_of file) k h

mark_of_cell : (file : List ℕ) (a : ℕ) → mark_in (start_cell file (a / 4)) (a % 4) ≡ start_mark file a
mark_of_cell file a = by_rest (a % 4) refl
  where
    by_rest : (r : ℕ) → a % 4 ≡ r → mark_in (start_cell file (a / 4)) r ≡ start_mark file a
    by_rest zero e = ap (start_mark file) (omega arith)
    by_rest (suc zero) e = ap (start_mark file) (omega arith)
    by_rest (suc (suc zero)) e = ap (start_mark file) (omega arith)
    by_rest (suc (suc (suc zero))) e = ap (start_mark file) (omega arith)
    by_rest (suc (suc (suc (suc r)))) e = absurd (omega arith)

start_known : (file : List ℕ) (a : ℕ) → is_plain file a ≡ true
    → mark_at (cell_at (start_memory file).plain) a ≡ mark_of (byte_of (memory_of file) a)
start_known file a plain =
    ap (λ c. mark_in c (a % 4)) (start_cell_at file (a / 4) (covered file a plain)) ∙ (mark_of_cell file a
    ∙ ap (λ t. cond t (mark_of (byte_of (memory_of file) a)) Blank) plain)

-- no cell is mixed
abbrev is_mixed : Cell → Bool
is_mixed (Bytes m0 m1 m2 m3) = false
is_mixed (Mixed low) = true

outside_spans : (spans : List Span) (k : ℕ) → has_cell k spans ≡ false → is_mixed (cell_at spans k) ≡ false
outside_spans [] k e = refl
outside_spans (s ∷ spans) k e = by_test (outside_spans spans k) (has k s) e
  where
    by_test : (has_cell k spans ≡ false → is_mixed (cell_at spans k) ≡ false) → (t : Bool)
        → (t || has_cell k spans) ≡ false
        → is_mixed (cond t (cell_in s.cells (k - s.first)) (cell_at spans k)) ≡ false
    by_test ih true e = absurd (cc)
    by_test ih false e = ih e

unmixed : (file : List ℕ) (k : ℕ) → is_mixed (cell_at (start_memory file).plain k) ≡ false
unmixed file k = by_test (has_cell k (start_memory file).plain) refl
  where
    by_test : (t : Bool) → has_cell k (start_memory file).plain ≡ t
        → is_mixed (cell_at (start_memory file).plain k) ≡ false
    by_test true e = ap is_mixed (start_cell_at file k e)
    by_test false e = outside_spans (start_memory file).plain k e

zero_first : (a : ℕ) → 0 + a ≡ a
zero_first a = omega arith

plain_start : (file new : List ℕ) (back : ℕ → ℕ) → MemoryGround file new
    → Region back [] (memory_of new) 0 (is_plain file) (cell_at (start_memory file).plain)
plain_start file new back g = record {
  marks = λ a b plain e.
      let known : mark_at (cell_at (start_memory file).plain) a ≡ Known b =
      start_known file a plain ∙ ap mark_of (sym (g.plain a plain)
      ∙ subst (λ x. byte_of (memory_of new) x ≡ Some b) (zero_first a) e) in
      subst (λ m. MarkStands back [] m b) (sym known) refl;
  mixes = λ k low bs plain e f. let clash : false ≡ true = sym (unmixed file k) ∙ ap is_mixed e in absurd (cc);
}

plain_of_store : (file : List ℕ) (a : ℕ) → is_plain_store file a ≡ true → is_plain file a ≡ true
unfolding is_plain_store
plain_of_store file a h = and_first (is_plain file a) _ h

pub no_life : (file : List ℕ) (b : ℕ) (k : Life) → slice_get (map life_of (start_memory file).blocks) b ≡ Some k → ⊥
unfolding start_memory
no_life file b k e = cc

blockless : (file : List ℕ) (b : ℕ) (k : Block) → slice_get (start_memory file).blocks b ≡ Some k → ⊥
unfolding start_memory
blockless file b k e = cc

pub memory_start : (file new : List ℕ) (back : ℕ → ℕ) → MemoryGround file new
    → InMemory file new (record { back = back; blocks = [] }) (start_memory file) (memory_of new)
memory_start file new back g = record {
  stands = record {
    plain_stands = plain_start file new back g;
    blocks_stand = λ b k e lives. absurd (blockless file b k e);
  };
  laid = record {
    placed = record {
      aligned = λ b. refl;
      each = λ b k e. absurd (no_life file b k e);
      apart = λ b c k l n e f s t. absurd (no_life file b k e);
    };
    covered = covered file;
    stores = plain_of_store file;
    there = λ a plain. sym (byte_there (memory_of new) a) ∙ g.plain_there a plain;
    writable = g.storable;
    block_writable = λ b o k e lives small. absurd (no_life file b k e);
    plain_apart = λ a b k plain e lives. absurd (no_life file b k e);
  };
  block_data = λ a block. absurd (no_life file block.block block.life block.is);
  block_apart = λ a block. absurd (no_life file block.block block.life block.is);
  small = g.bytes;
  shape = refl;
  code = λ a code. refl;
  text = λ a low high. refl;
}
