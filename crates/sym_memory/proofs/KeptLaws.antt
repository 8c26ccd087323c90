-- Laws of blocks that are kept as lives and buffers.
use Rattle.std.proofs.Common.{◌≡◌, ℕ, zero, suc, ◌+◌, ◌*◌, ◌/◌, ◌%◌, ◌<◌, ◌≤◌, List, [], ◌∷◌, ◌++◌, Bool, true, false}
use Rattle.std.proofs.Common.{Option, Some, None, is_some, nat_le, length, map, replicate, slice_get, slice_set}
use Rattle.std.proofs.Common.{slice_index_or, refl, ap, ap₂, sym, ◌∙◌, subst, arith}
use Rattle.std.proofs.lemmas.List.{length-replicate}
use Rattle.std.proofs.lemmas.Bool.{leb-true, le-leb}
use Rattle.std.proofs.lemmas.Option.{slice_get_past, slice_get_within}
use Rattle.rv_isa.specs.declared.Width.{Width}
use Rattle.machine_spec.specs.Widths.{size_of}
use Rattle.sym_value.specs.declared.Value.{Value}
use Rattle.sym_value.specs.Places.{lives_in, capacity_in}
use Rattle.sym_value.specs.declared.live.Life.{Life}
use Rattle.sym_cells.specs.Cells.{Cell, blank_cell, cell_in, mark_at}
use Rattle.sym_cells.specs.Moves.{load_at, store}
use Rattle.sym_cells.specs.Memory.{Block, capacity_of, life_of, is_aligned, loaded_in, stored_in, number_in, known_in}
use Rattle.sym_cells.specs.Memory.{set_block}
use Rattle.sym_memory.specs.Kept.{block_with, block_of, blocks_of, IsKept, AreKept, holds_access}

pub same_length : (ks : List Life) (bs : List (List Cell)) → AreKept ks bs → length bs ≡ length ks
same_length [] [] h = refl
same_length [] (c ∷ bs) h = absurd h
same_length (k ∷ ks) [] h = absurd h
same_length (k ∷ ks) (c ∷ bs) h = ap suc (same_length ks bs h.1)

pub length-blocks : (ks : List Life) (bs : List (List Cell)) → AreKept ks bs → length (blocks_of ks bs) ≡ length ks
unfolding blocks_of
length-blocks [] [] h = refl
length-blocks [] (c ∷ bs) h = absurd h
length-blocks (k ∷ ks) [] h = absurd h
length-blocks (k ∷ ks) (c ∷ bs) h = ap suc (length-blocks ks bs h.1)

-- a block that was named
pub block_is : (ks : List Life) (bs : List (List Cell)) (i : ℕ) (k : Life) → AreKept ks bs → slice_get ks i ≡ Some k
    → slice_get (blocks_of ks bs) i ≡ Some (block_of k (slice_index_or bs i []))
unfolding blocks_of
block_is [] bs i k h e = absurd (cc)
block_is (l ∷ ks) [] i k h e = absurd h
block_is (l ∷ ks) (c ∷ bs) zero k h e = let same : l ≡ k = cc in ap (λ x. Some (block_of x c)) same
block_is (l ∷ ks) (c ∷ bs) (suc i) k h e = block_is ks bs i k h.1 e

pub kept_at : (ks : List Life) (bs : List (List Cell)) (i : ℕ) (k : Life) → AreKept ks bs → slice_get ks i ≡ Some k
    → IsKept k (slice_index_or bs i [])
kept_at [] bs i k h e = absurd (cc)
kept_at (l ∷ ks) [] i k h e = absurd h
kept_at (l ∷ ks) (c ∷ bs) zero k h e = let same : l ≡ k = cc in subst (λ x. IsKept x c) same h.0
kept_at (l ∷ ks) (c ∷ bs) (suc i) k h e = kept_at ks bs i k h.1 e

-- the lives of the blocks are those that are kept
pub lives_of_blocks : (ks : List Life) (bs : List (List Cell)) → AreKept ks bs → map life_of (blocks_of ks bs) ≡ ks
unfolding blocks_of
lives_of_blocks [] [] h = refl
lives_of_blocks [] (c ∷ bs) h = absurd h
lives_of_blocks (k ∷ ks) [] h = absurd h
lives_of_blocks (k ∷ ks) (c ∷ bs) h = ap₂ (λ x xs. x ∷ xs) (one k.lives refl) (lives_of_blocks ks bs h.1)
  where
    one : (t : Bool) → k.lives ≡ t → life_of (block_with t k.capacity c) ≡ k
    one true e =
        ap₂ (λ x y. record { capacity = x; lives = y }) (sym (h.0.size e)) (sym e)
    one false e =
        let whole = h.0.whole in
        let n = length-replicate (k.capacity / 4) blank_cell in
        ap₂ (λ x y. record { capacity = x; lives = y }) (omega (arith, n, whole)) (sym e)

-- a buffer of a living block that is written
pub written : (ks : List Life) (bs : List (List Cell)) (i : ℕ) (k : Life) (cells : List Cell) → AreKept ks bs
    → slice_get ks i ≡ Some k → k.lives ≡ true
    → blocks_of ks (slice_set bs i cells) ≡ slice_set (blocks_of ks bs) i (record { cells = cells; lives = true })
unfolding blocks_of
written [] bs i k cells h e l = absurd (cc)
written (j ∷ ks) [] i k cells h e l = absurd h
written (j ∷ ks) (c ∷ bs) zero k cells h e l =
    let same : j ≡ k = cc in
    let lives : j.lives ≡ true = ap (λ x. x.lives) same ∙ l in
    ap (λ t. block_with t j.capacity cells ∷ blocks_of ks bs) lives
written (j ∷ ks) (c ∷ bs) (suc i) k cells h e l = ap (λ xs. block_of j c ∷ xs) (written ks bs i k cells h.1 e l)

pub written_kept : (ks : List Life) (bs : List (List Cell)) (i : ℕ) (cells : List Cell) → AreKept ks bs
    → length cells ≡ length (slice_index_or bs i []) → AreKept ks (slice_set bs i cells)
written_kept [] [] i cells h n = tt
written_kept [] (c ∷ bs) i cells h n = absurd h
written_kept (j ∷ ks) [] i cells h n = absurd h
written_kept (j ∷ ks) (c ∷ bs) zero cells h n =
    (record { whole = h.0.whole; size = λ l. h.0.size l ∙ ap (λ x. 4 * x) (sym n) }, h.1)
written_kept (j ∷ ks) (c ∷ bs) (suc i) cells h n = (h.0, written_kept ks bs i cells h.1 n)

-- the element of a list doesn't depend on what stands for none
pub same_element : {A : Type 0} (xs : List A) (i : ℕ) (x y : A) → i < length xs
    → slice_index_or xs i x ≡ slice_index_or xs i y
same_element [] i x y less = absurd (omega arith)
same_element (z ∷ xs) zero x y less = refl
same_element (z ∷ xs) (suc i) x y less = same_element xs i x y (omega arith)

no_block : (ks : List Life) (bs : List (List Cell)) (i : ℕ) → slice_get ks i ≡ None
    → slice_get (blocks_of ks bs) i ≡ None
unfolding blocks_of
no_block [] bs i e = refl
no_block (k ∷ ks) [] i e = refl
no_block (k ∷ ks) (c ∷ bs) zero e = absurd (cc)
no_block (k ∷ ks) (c ∷ bs) (suc i) e = no_block ks bs i e

-- which bytes can be reached, out of lives and capacities
pub reach_living : (ks : List Life) (bs : List (List Cell)) (i o n : ℕ) → AreKept ks bs
    → lives_in (slice_get ks i) ≡ true
    → holds_access o n (slice_get (blocks_of ks bs) i) ≡ nat_le (o + n) (capacity_in (slice_get ks i))
reach_living ks bs i o n h e = by_life (slice_get ks i) refl e
  where
    by_life : (k : Option Life) → slice_get ks i ≡ k → lives_in k ≡ true
        → holds_access o n (slice_get (blocks_of ks bs) i) ≡ nat_le (o + n) (capacity_in k)
    by_life None f l = absurd (cc)
    by_life (Some k) f l =
        ap (holds_access o n) (block_is ks bs i k h f)
        ∙ ap (λ t. holds_access o n (Some (block_with t k.capacity (slice_index_or bs i [])))) l
        ∙ ap (nat_le (o + n)) (sym ((kept_at ks bs i k h f).size l))

pub reach_dead : (ks : List Life) (bs : List (List Cell)) (i o n : ℕ) → AreKept ks bs
    → lives_in (slice_get ks i) ≡ false
    → false ≡ holds_access o n (slice_get (blocks_of ks bs) i)
reach_dead ks bs i o n h e = sym (by_life (slice_get ks i) refl e)
  where
    by_life : (k : Option Life) → slice_get ks i ≡ k → lives_in k ≡ false
        → holds_access o n (slice_get (blocks_of ks bs) i) ≡ false
    by_life None f l = ap (holds_access o n) (no_block ks bs i f)
    by_life (Some k) f l =
        ap (holds_access o n) (block_is ks bs i k h f)
        ∙ ap (λ t. holds_access o n (Some (block_with t k.capacity (slice_index_or bs i [])))) l

pub reach_past : (ks : List Life) (bs : List (List Cell)) (i o n : ℕ) → AreKept ks bs → length bs ≤ i
    → false ≡ holds_access o n (slice_get (blocks_of ks bs) i)
reach_past ks bs i o n h past =
    let m = same_length ks bs h in
    reach_dead ks bs i o n h (ap lives_in (slice_get_past ks i (omega (arith, m))))

-- a block of which so many bytes can be reached
pub record Reached (ks : List Life) (bs : List (List Cell)) (i o n : ℕ) : Type 0 where
  pub life : Life
  pub is : slice_get ks i ≡ Some life
  pub lives : life.lives ≡ true
  pub block : slice_get (blocks_of ks bs) i ≡ Some (record { cells = slice_index_or bs i []; lives = true })
  pub index : i < length bs
  pub high : o + n ≤ 4 * length (slice_index_or bs i [])

pub reached : (ks : List Life) (bs : List (List Cell)) (i o n : ℕ) → AreKept ks bs
    → holds_access o n (slice_get (blocks_of ks bs) i) ≡ true → Reached ks bs i o n
reached ks bs i o n h e = by_life (slice_get ks i) refl
  where
    by_life : (k : Option Life) → slice_get ks i ≡ k → Reached ks bs i o n
    by_life None f =
        let none : holds_access o n (slice_get (blocks_of ks bs) i) ≡ false =
        ap (holds_access o n) (no_block ks bs i f) in absurd (cc)
    by_life (Some k) f = by_lives k.lives refl
      where
        by_lives : (t : Bool) → k.lives ≡ t → Reached ks bs i o n
        by_lives false l =
            let none : holds_access o n (slice_get (blocks_of ks bs) i) ≡ false =
            ap (holds_access o n) (block_is ks bs i k h f)
            ∙ ap (λ t. holds_access o n (Some (block_with t k.capacity (slice_index_or bs i [])))) l in
            absurd (cc)
        by_lives true l =
            let block : slice_get (blocks_of ks bs) i ≡ Some (record { cells = slice_index_or bs i []; lives = true }) =
            block_is ks bs i k h f ∙ ap (λ t. Some (block_with t k.capacity (slice_index_or bs i []))) l in
            let test : nat_le (o + n) (4 * length (slice_index_or bs i [])) ≡ true =
            sym (ap (holds_access o n) block) ∙ e in
            let m = same_length ks bs h in
            let inside = slice_get_within ks i k f in
            record {
              life = k;
              is = f;
              lives = l;
              block = block;
              index = omega (arith, m, inside);
              high =
                  leb-true _ _ test;
            }

-- what is done to a block that is reached
pub load_done : (ks : List Life) (bs : List (List Cell)) (i o : ℕ) (width : Width) → Reached ks bs i o (size_of width)
    → is_aligned width o ≡ true
    → loaded_in width o (slice_get (blocks_of ks bs) i) ≡ Some (load_at width o (cell_in (slice_index_or bs i [])))
load_done ks bs i o width r aligned =
    let test : nat_le (o + size_of width) (4 * length (slice_index_or bs i [])) ≡ true = le-leb _ _ r.high in
    ap (loaded_in width o) r.block ∙ rw (aligned, test) refl

pub known_done : (ks : List Life) (bs : List (List Cell)) (i o : ℕ) → Reached ks bs i o 1
    → known_in o (slice_get (blocks_of ks bs) i) ≡ number_in (mark_at (cell_in (slice_index_or bs i [])) o)
known_done ks bs i o r =
    let test : nat_le (o + 1) (4 * length (slice_index_or bs i [])) ≡ true = le-leb _ _ r.high in
    ap (known_in o) r.block ∙ rw test refl

pub store_done : (ks : List Life) (bs : List (List Cell)) (i o : ℕ) (width : Width) (v : Value) → AreKept ks bs
    → Reached ks bs i o (size_of width) → is_aligned width o ≡ true
    → blocks_of ks (slice_set bs i (store width o v (slice_index_or bs i [])))
    ≡ set_block i (stored_in width o v (slice_get (blocks_of ks bs) i)) (blocks_of ks bs)
store_done ks bs i o width v h r aligned =
    let test : nat_le (o + size_of width) (4 * length (slice_index_or bs i [])) ≡ true = le-leb _ _ r.high in
    let after : stored_in width o v (slice_get (blocks_of ks bs) i)
    ≡ Some (record { cells = store width o v (slice_index_or bs i []); lives = true }) =
    ap (stored_in width o v) r.block ∙ rw (aligned, test) refl in
    written ks bs i r.life (store width o v (slice_index_or bs i [])) h r.is r.lives
    ∙ sym (ap (λ x. set_block i x (blocks_of ks bs)) after)

pub store_answers : (ks : List Life) (bs : List (List Cell)) (i o : ℕ) (width : Width) (v : Value)
    → Reached ks bs i o (size_of width) → is_aligned width o ≡ true
    → is_some (stored_in width o v (slice_get (blocks_of ks bs) i)) ≡ true
store_answers ks bs i o width v r aligned =
    let test : nat_le (o + size_of width) (4 * length (slice_index_or bs i [])) ≡ true = le-leb _ _ r.high in
    ap (λ x. is_some (stored_in width o v x)) r.block ∙ rw (aligned, test) refl

-- one more block
pub kept_more : (ks : List Life) (bs : List (List Cell)) (k : Life) (cells : List Cell) → AreKept ks bs → IsKept k cells
    → AreKept (ks ++ k ∷ []) (bs ++ cells ∷ [])
kept_more [] [] k cells h one = (one, tt)
kept_more [] (c ∷ bs) k cells h one = absurd h
kept_more (j ∷ ks) [] k cells h one = absurd h
kept_more (j ∷ ks) (c ∷ bs) k cells h one = (h.0, kept_more ks bs k cells h.1 one)

pub blocks_more : (ks : List Life) (bs : List (List Cell)) (k : Life) (cells : List Cell) → AreKept ks bs
    → blocks_of (ks ++ k ∷ []) (bs ++ cells ∷ []) ≡ blocks_of ks bs ++ block_of k cells ∷ []
unfolding blocks_of
blocks_more [] [] k cells h = refl
blocks_more [] (c ∷ bs) k cells h = absurd h
blocks_more (j ∷ ks) [] k cells h = absurd h
blocks_more (j ∷ ks) (c ∷ bs) k cells h = ap (λ xs. block_of j c ∷ xs) (blocks_more ks bs k cells h.1)

-- a block that dies, and gives its buffer back
pub kept_dead : (ks : List Life) (bs : List (List Cell)) (i : ℕ) (k : Life) → AreKept ks bs → slice_get ks i ≡ Some k
    → AreKept (slice_set ks i (record { capacity = k.capacity; lives = false })) (slice_set bs i [])
kept_dead [] bs i k h e = absurd (cc)
kept_dead (j ∷ ks) [] i k h e = absurd h
kept_dead (j ∷ ks) (c ∷ bs) zero k h e =
    let same : j ≡ k = cc in
    (record { whole = ap (λ x. x.capacity % 4) (sym same) ∙ h.0.whole; size = λ l. absurd (cc) }, h.1)
kept_dead (j ∷ ks) (c ∷ bs) (suc i) k h e = (h.0, kept_dead ks bs i k h.1 e)

pub blocks_dead : (ks : List Life) (bs : List (List Cell)) (i : ℕ) (k : Life) → AreKept ks bs → slice_get ks i ≡ Some k
    → blocks_of (slice_set ks i (record { capacity = k.capacity; lives = false })) (slice_set bs i [])
    ≡ slice_set (blocks_of ks bs) i (record { cells = replicate (k.capacity / 4) blank_cell; lives = false })
unfolding blocks_of
blocks_dead [] bs i k h e = absurd (cc)
blocks_dead (j ∷ ks) [] i k h e = absurd h
blocks_dead (j ∷ ks) (c ∷ bs) zero k h e = refl
blocks_dead (j ∷ ks) (c ∷ bs) (suc i) k h e = ap (λ xs. block_of j c ∷ xs) (blocks_dead ks bs i k h.1 e)
