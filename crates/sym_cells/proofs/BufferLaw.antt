-- The buffers of system calls on both machines: the bytes of a write are the flat machine's, and a read
-- keeps both memories alike.
use Rattle.std.proofs.Common.{◌≡◌, ◌⊎◌, ℕ, zero, suc, ◌+◌, ◌%◌, ◌<◌, ◌≤◌, Bool, true, false, ◌&&◌, nat_le, List, []}
use Rattle.std.proofs.Common.{◌∷◌, length, map, Option, Some, None, is_some, option_map, option_and_then, slice_get}
use Rattle.std.proofs.Common.{slice_index, if◌then◌else◌, refl, ap, sym, subst, ◌∙◌, inl, inr, ⊎_elim, arith}
use Rattle.std.specs.List.{All}
use Rattle.std.proofs.lemmas.Bool.{and_parts, leb-true, le-leb, lt-ltb, cases_lt}
use Rattle.std.proofs.lemmas.List.Elements.{All-head, All-tail}
use Rattle.std.proofs.lemmas.Option.{slice_get-map}
use Rattle.rv_isa.specs.declared.Width.TheVariants.{ByteU}
use Rattle.machine_spec.specs.Memory.{Range, range_at, byte_of, all_from}
use Rattle.machine_spec.proofs.AllFrom.{and_first, and_second, each_passes, all_pass}
use Rattle.flat_spec.specs.Stores.{allows_store, bytes_from, put_byte, put_bytes, can_store}
use Rattle.flat_spec.proofs.Memories.{byte_there}
use Rattle.flat_spec.proofs.Pieces.{writable_there}
use Rattle.sym_value.specs.declared.Value.{Value}
use Rattle.sym_value.specs.declared.Value.TheVariants.{Num, Ptr, Ret, Mix, Part, Unset}
use Rattle.sym_value.specs.declared.live.Life.{Life}
use Rattle.sym_value.specs.Standing.{Holds, IsPlaced, area_end}
use Rattle.sym_cells.specs.declared.Mark.{Mark}
use Rattle.sym_cells.specs.declared.Mark.TheVariants.{Known, Blank, Piece}
use Rattle.sym_cells.specs.Cells.{Cells, cell_in, mark_at}
use Rattle.sym_cells.specs.Memory.{Block, Memory, cell_at, capacity_of, number_in, stored, life_of, live_of}
use Rattle.sym_cells.specs.Buffers.{is_inside_one, is_within, numbers_from, numbers_in, taken, next_byte, stored_each}
use Rattle.sym_cells.specs.Buffers.{filled}
use Rattle.sym_cells.specs.Region.{Region, is_offset, MarkStands, MemoryStands, IsThere, InBlock, Laid, StoresAlike}
use Rattle.sym_cells.specs.Region.{FillsAlike}
use Rattle.sym_cells.proofs.MemoryLaws.{Reached, reached, block_stores, stores_alike}

-- known bytes of a region are the flat machine's
numbers_read : (back : ℕ → ℕ) (at : List ℕ) (memory : List Range) (base : ℕ) (covers : ℕ → Bool) (cells : Cells)
    (o a n : ℕ) (bs : List ℕ)
    → Region back at memory base covers cells → all_from covers o n ≡ true → base + o ≡ a → IsThere memory a n
    → numbers_from cells o n ≡ Some bs → bytes_from memory a n ≡ Some bs
numbers_read back at memory base covers cells o a zero bs h c place there e = e
numbers_read back at memory base covers cells o a (suc n) bs h c place there e =
    first (mark_at cells o) refl (byte_of memory a) refl (byte_there memory a ∙ there a (omega arith) (omega arith))
    (λ more q. numbers_read back at memory base covers cells (o + 1) (a + 1) n more h
    (and_second (covers o) (all_from covers (o + 1) n) c) (omega arith)
    (λ x low high. there x (omega arith) (omega arith)) q) e
  where
    rest : (b : ℕ) → ((more : List ℕ) → numbers_from cells (o + 1) n ≡ Some more
        → bytes_from memory (a + 1) n ≡ Some more)
        → (r : Option (List ℕ)) → numbers_from cells (o + 1) n ≡ r → option_map (λ bs. b ∷ bs) r ≡ Some bs
        → option_map (λ bs. b ∷ bs) (bytes_from memory (a + 1) n) ≡ Some bs
    rest b ih None q e = absurd (cc)
    rest b ih (Some more) q e = rw (ih more q) e

    first : (m : Mark) → mark_at cells o ≡ m → (r : Option ℕ) → byte_of memory a ≡ r → is_some r ≡ true
        → ((more : List ℕ) → numbers_from cells (o + 1) n ≡ Some more → bytes_from memory (a + 1) n ≡ Some more)
        → option_and_then (λ b. option_map (λ bs. b ∷ bs) (numbers_from cells (o + 1) n)) (number_in m) ≡ Some bs
        → option_and_then (λ b. option_map (λ bs. b ∷ bs) (bytes_from memory (a + 1) n)) r ≡ Some bs
    first m k None f some ih e = absurd (cc)
    first (Known v) k (Some b) f some ih e =
        let read : byte_of memory (base + o) ≡ Some b = ap (byte_of memory) place ∙ f in
        let stands : MarkStands back at (mark_at cells o) b =
        h.marks o b (and_first (covers o) (all_from covers (o + 1) n) c) read in
        let same : b ≡ v = subst (λ m. MarkStands back at m b) k stands in
        subst (λ x. option_map (λ bs. x ∷ bs) (bytes_from memory (a + 1) n) ≡ Some bs) (sym same)
        (rest v ih (numbers_from cells (o + 1) n) refl e)
    first Blank k (Some b) f some ih e = absurd (cc)
    first (Piece s i) k (Some b) f some ih e = absurd (cc)

-- the bytes of a write
pub writes_alike : (back : ℕ → ℕ) (at : List ℕ) (end : ℕ) (plain storable : ℕ → Bool) (memory : List Range)
    (m : Memory) (n : ℕ) (p : Value) (a : ℕ) (bs : List ℕ)
    → Laid at end plain storable memory m → MemoryStands back at plain memory m → Holds back at p a
    → is_within plain m n p ≡ true → taken m n p ≡ Some bs → bytes_from memory a n ≡ Some bs
unfolding is_within taken
writes_alike back at end plain storable memory m n (Num x) a bs laid stands h within e =
    subst (λ y. bytes_from memory y n ≡ Some bs) h.stands
    (numbers_read back at memory 0 plain (cell_at m.plain) x x n bs stands.plain_stands within (omega arith)
    (λ y low high. laid.there y (each_passes plain x n within y low high)) e)
writes_alike back at end plain storable memory m n (Ptr b o) a bs laid stands h within e = by_block
    (slice_get m.blocks b) refl within e
  where
    by_block : (r : Option Block) → slice_get m.blocks b ≡ r → is_inside_one o n r ≡ true → numbers_in o n r ≡ Some bs
        → bytes_from memory a n ≡ Some bs
    by_block None is within e = absurd (cc)
    by_block (Some k) is within e =
        let r : Reached at end m b o a n k =
        reached at end plain storable memory m b o a n k laid is within h.stands in
        let high : o + n ≤ capacity_of k = r.high in
        numbers_read back at memory (slice_index at b) (is_offset k) (cell_in k.cells) o a n bs
        (stands.blocks_stand b k is r.lives)
        (all_pass (is_offset k) o n (λ y low top. lt-ltb y (capacity_of k) (omega arith))) r.place
        (λ y low top. writable_there memory y
        (block_stores at end plain storable memory m b o a n k laid r y low top)) e
writes_alike back at end plain storable memory m n (Ret r) a bs laid stands h within e = absurd (cc)
writes_alike back at end plain storable memory m n (Mix l) a bs laid stands h within e = absurd (cc)
writes_alike back at end plain storable memory m n (Part s i) a bs laid stands h within e = absurd (cc)
writes_alike back at end plain storable memory m n Unset a bs laid stands h within e = absurd (cc)

-- whether bytes of a block can be reached depends on its life alone
abbrev inside_life : ℕ → ℕ → Option Life → Bool
inside_life o n (Some k) = k.lives && nat_le (o + n) k.capacity
inside_life o n None = false

by_lives : (m : Memory) (b o n : ℕ) → is_inside_one o n (slice_get m.blocks b)
    ≡ inside_life o n (slice_get (map life_of m.blocks) b)
by_lives m b o n = by_block (slice_get m.blocks b) ∙ ap (inside_life o n) (sym (slice_get-map life_of m.blocks b))
  where
    by_block : (r : Option Block) → is_inside_one o n r ≡ inside_life o n (option_map life_of r)
    by_block None = refl
    by_block (Some k) = refl

fewer : (o n p q : ℕ) (r : Option Life) → p + q ≤ o + n → inside_life o n r ≡ true → inside_life p q r ≡ true
fewer o n p q None le e = absurd (cc)
fewer o n p q (Some k) le e =
    let parts : (k.lives ≡ true) × (nat_le (o + n) k.capacity ≡ true) = and_parts _ _ e in
    let high : o + n ≤ k.capacity = leb-true _ _ parts.1 in
    let test : nat_le (p + q) k.capacity ≡ true = le-leb (p + q) k.capacity (omega arith) in
    rw (parts.0, test) refl

-- fewer bytes of the same buffer, and its bytes behind the first in a memory with the same lives
shorter : (passes : ℕ → Bool) (m : Memory) (n k : ℕ) (p : Value) → k ≤ n → is_within passes m n p ≡ true
    → is_within passes m k p ≡ true
unfolding is_within
shorter passes m n k (Num a) le e = all_pass passes a k (λ x low high. each_passes passes a n e x low (omega arith))
shorter passes m n k (Ptr b o) le e =
    by_lives m b o k ∙ fewer o n o k (slice_get (map life_of m.blocks) b) (omega arith) (sym (by_lives m b o n) ∙ e)
shorter passes m n k (Ret r) le e = absurd (cc)
shorter passes m n k (Mix l) le e = absurd (cc)
shorter passes m n k (Part s i) le e = absurd (cc)
shorter passes m n k Unset le e = absurd (cc)

behind_first : (passes : ℕ → Bool) (m after : Memory) (n : ℕ) (p : Value)
    → map life_of after.blocks ≡ map life_of m.blocks → is_within passes m (suc n) p ≡ true
    → is_within passes after n (next_byte p) ≡ true
unfolding is_within
behind_first passes m after n (Num a) lives e = and_second (passes a) (all_from passes (a + 1) n) e
behind_first passes m after n (Ptr b o) lives e =
    by_lives after b (o + 1) n ∙ (ap (λ ls. inside_life (o + 1) n (slice_get ls b)) lives
    ∙ fewer o (suc n) (o + 1) n (slice_get (map life_of m.blocks) b) (omega arith) (sym (by_lives m b o (suc n)) ∙ e))
behind_first passes m after n (Ret r) lives e = absurd (cc)
behind_first passes m after n (Mix l) lives e = absurd (cc)
behind_first passes m after n (Part s i) lives e = absurd (cc)
behind_first passes m after n Unset lives e = absurd (cc)

-- the word behind one that stands for the start of a buffer stands for the next byte
next_holds : (back : ℕ → ℕ) (at : List ℕ) (end : ℕ) (plain storable passes : ℕ → Bool) (memory : List Range)
    (m : Memory) (n : ℕ) (p : Value) (a : ℕ)
    → Laid at end plain storable memory m → Holds back at p a → is_within passes m (suc n) p ≡ true
    → Holds back at (next_byte p) (a + 1)
unfolding is_within
next_holds back at end plain storable passes memory m n (Num x) a laid h e =
    record { stands = ap (λ y. y + 1) h.stands; value = tt }
next_holds back at end plain storable passes memory m n (Ptr b o) a laid h e = by_block (slice_get m.blocks b) refl e
  where
    by_block : (r : Option Block) → slice_get m.blocks b ≡ r → is_inside_one o (suc n) r ≡ true
        → Holds back at (Ptr b (o + 1)) (a + 1)
    by_block None is e = absurd (cc)
    by_block (Some k) is e =
        let r : Reached at end m b o a (suc n) k =
        reached at end plain storable memory m b o a (suc n) k laid is e h.stands in
        let high : o + suc n ≤ capacity_of k = r.high in
        let place : slice_index at b + o ≡ a = r.place in
        let placed : IsPlaced (live_of end m) (slice_index at b) (life_of k) = laid.placed.each b (life_of k) r.life in
        let top : slice_index at b + capacity_of k < area_end = placed.high in
        record { stands = omega (arith, place, high, top); value = (h.value.0, omega (arith, high, top)) }
next_holds back at end plain storable passes memory m n (Ret r) a laid h e = absurd (cc)
next_holds back at end plain storable passes memory m n (Mix l) a laid h e = absurd (cc)
next_holds back at end plain storable passes memory m n (Part s i) a laid h e = absurd (cc)
next_holds back at end plain storable passes memory m n Unset a laid h e = absurd (cc)

-- an address in a living block of a memory with the same lives
same_block : (at : List ℕ) (m after : Memory) (x : ℕ) → map life_of after.blocks ≡ map life_of m.blocks
    → InBlock at after x → InBlock at m x
same_block at m after x lives h = record {
  block = h.block;
  life = h.life;
  is = ap (λ ls. slice_get ls h.block) (sym lives) ∙ h.is;
  lives = h.lives;
  low = h.low;
  high = h.high;
}

record Filled (back : ℕ → ℕ) (at : List ℕ) (end : ℕ) (plain storable : ℕ
    → Bool) (memory : List Range) (m n : Memory) (a : ℕ) (bs : List ℕ) : Type 0 where
  pub stands : MemoryStands back at plain (put_bytes memory a bs) n
  pub laid : Laid at end plain storable (put_bytes memory a bs) n
  pub lives : map life_of n.blocks ≡ map life_of m.blocks
  pub went : (x : ℕ) → a ≤ x → x < a + length bs → (storable x ≡ true) ⊎ InBlock at m x

-- bytes that are stored one after the other
fills : (back : ℕ → ℕ) (at : List ℕ) (end : ℕ) (plain storable : ℕ → Bool) (memory : List Range)
    (m n : Memory) (bs : List ℕ) (p : Value) (a : ℕ)
    → Laid at end plain storable memory m → MemoryStands back at plain memory m → Holds back at p a
    → All (λ b. b < 256) bs → is_within storable m (length bs) p ≡ true → stored_each storable bs p m ≡ Some n
    → Filled back at end plain storable memory m n a bs
fills back at end plain storable memory m n [] p a laid stands h small within e =
    let same : m ≡ n = cc in
    subst (λ x. Filled back at end plain storable memory m x a []) same
    (record { stands = stands; laid = laid; lives = refl; went = λ x low high. absurd (omega (arith, low, high)) })
fills back at end plain storable memory m n (b ∷ bs) p a laid stands h small within e =
    one (λ after k x next l t u v w. fills back at end plain storable after k n bs next x l t u
    (All-tail (λ b. b < 256) b bs small) v w) (stored storable m ByteU p (Num b)) refl e
  where
    byte : b < 256
    byte = All-head (λ b. b < 256) b bs small

    put : put_bytes memory a (b % 256 ∷ []) ≡ put_byte memory a b
    put = let same : b % 256 ≡ b = omega (arith, byte) in ap (put_byte memory a) same

    one : ((after : List Range) (k : Memory) (x : ℕ) (next : Value) → Laid at end plain storable after k
        → MemoryStands back at plain after k → Holds back at next x → is_within storable k (length bs) next ≡ true
        → stored_each storable bs next k ≡ Some n → Filled back at end plain storable after k n x bs)
        → (o : Option Memory) → stored storable m ByteU p (Num b) ≡ o
        → option_and_then (stored_each storable bs (next_byte p)) o ≡ Some n
        → Filled back at end plain storable memory m n a (b ∷ bs)
    one more None q e = absurd (cc)
    one more (Some k) q e =
        let s : StoresAlike back at end plain storable memory m k ByteU a b =
        stores_alike back at end plain storable memory m k ByteU p (Num b) a b laid stands h
        (record { stands = refl; value = tt }) (omega (arith, byte)) q in
        let ih : Filled back at end plain storable (put_byte memory a b) k n (a + 1) bs =
        more (put_byte memory a b) k (a + 1) (next_byte p)
        (subst (λ x. Laid at end plain storable x k) put s.laid)
        (subst (λ x. MemoryStands back at plain x k) put s.stands)
        (next_holds back at end plain storable storable memory m (length bs) p a laid h within)
        (behind_first storable m k (length bs) p s.lives within) e in
        record {
          stands = ih.stands;
          laid = ih.laid;
          lives = ih.lives ∙ s.lives;
          went = λ x low high. ⊎_elim (λ (l : x < a + 1). s.went x low l)
              (λ (t : a + 1 ≤ x). by_case x (ih.went x t (omega (arith, high)))) (cases_lt x (a + 1));
        }
      where
        by_case : (x : ℕ) → (storable x ≡ true) ⊎ InBlock at k x → (storable x ≡ true) ⊎ InBlock at m x
        by_case x (inl plain_byte) = inl plain_byte
        by_case x (inr block) =
            let s : StoresAlike back at end plain storable memory m k ByteU a b =
            stores_alike back at end plain storable memory m k ByteU p (Num b) a b laid stands h
            (record { stands = refl; value = tt }) (omega (arith, byte)) q in
            inr (same_block at m k x s.lives block)

-- a buffer that can be stored to is so on the flat machine
buffer_writable : (back : ℕ → ℕ) (at : List ℕ) (end : ℕ) (plain storable : ℕ → Bool) (memory : List Range)
    (m : Memory) (n : ℕ) (p : Value) (a : ℕ)
    → Laid at end plain storable memory m → Holds back at p a → is_within storable m n p ≡ true
    → can_store memory a n ≡ true
unfolding is_within
buffer_writable back at end plain storable memory m n (Num x) a laid h within =
    subst (λ y. can_store memory y n ≡ true) h.stands
    (all_pass (λ y. allows_store (range_at memory y)) x n
    (λ y low high. laid.writable y (each_passes storable x n within y low high)))
buffer_writable back at end plain storable memory m n (Ptr b o) a laid h within = by_block
    (slice_get m.blocks b) refl within
  where
    by_block : (r : Option Block) → slice_get m.blocks b ≡ r → is_inside_one o n r ≡ true
        → can_store memory a n ≡ true
    by_block None is within = absurd (cc)
    by_block (Some k) is within =
        let r : Reached at end m b o a n k =
        reached at end plain storable memory m b o a n k laid is within h.stands in
        all_pass (λ y. allows_store (range_at memory y)) a n
        (block_stores at end plain storable memory m b o a n k laid r)
buffer_writable back at end plain storable memory m n (Ret r) a laid h within = absurd (cc)
buffer_writable back at end plain storable memory m n (Mix l) a laid h within = absurd (cc)
buffer_writable back at end plain storable memory m n (Part s i) a laid h within = absurd (cc)
buffer_writable back at end plain storable memory m n Unset a laid h within = absurd (cc)

-- a read
pub reads_alike : (back : ℕ → ℕ) (at : List ℕ) (end : ℕ) (plain storable : ℕ → Bool) (memory : List Range)
    (m n : Memory) (size : ℕ) (bs : List ℕ) (p : Value) (a : ℕ)
    → Laid at end plain storable memory m → MemoryStands back at plain memory m → Holds back at p a
    → All (λ b. b < 256) bs → length bs ≤ size → filled storable m size bs p ≡ Some n
    → FillsAlike back at end plain storable memory m n size a bs
unfolding filled
reads_alike back at end plain storable memory m n size bs p a laid stands h small le e =
    by_test (is_within storable m size p) refl e
  where
    by_test : (t : Bool) → is_within storable m size p ≡ t → (if t then stored_each storable bs p m else None) ≡ Some n
        → FillsAlike back at end plain storable memory m n size a bs
    by_test false q e = absurd (cc)
    by_test true q e =
        let f : Filled back at end plain storable memory m n a bs =
        fills back at end plain storable memory m n bs p a laid stands h small
        (shorter storable m size (length bs) p le q) e in
        record {
          there = buffer_writable back at end plain storable memory m size p a laid h q;
          stands = f.stands;
          laid = f.laid;
          lives = f.lives;
          went = f.went;
        }
