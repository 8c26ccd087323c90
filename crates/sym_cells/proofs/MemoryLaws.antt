-- Loads and stores of values that stand for addresses: what the symbol machine does, the flat one does.
use Rattle.std.proofs.Common.{◌≡◌, ◌≢◌, ◌⊎◌, ℕ, zero, suc, ◌+◌, ◌-◌, ◌*◌, ◌/◌, ◌%◌, ◌^◌, ◌<◌, ◌≤◌, Bool, true, false}
use Rattle.std.proofs.Common.{◌&&◌, nat_eq, nat_lt, if◌then◌else◌, List, [], ◌∷◌, length, map, Option, Some, None}
use Rattle.std.proofs.Common.{is_some, option_map, option_and_then, slice_get, slice_set, slice_index, refl, ap, sym}
use Rattle.std.proofs.Common.{subst, ◌∙◌, inl, inr, ⊎_elim, arith}
use Rattle.std.specs.Prelude.{◌==◌}
use Rattle.std.proofs.lemmas.Bool.{and_parts, eqb-true, eqb-false, eq-eqb, leb-true, ltb-true, lt-ltb, cases_lt}
use Rattle.std.proofs.lemmas.Option.{slice_get-map, get_or_from_slice_get}
use Rattle.std.proofs.Math.Seq.{map-set_same}
use Rattle.rv_isa.specs.declared.Width.{Width}
use Rattle.rv_isa.specs.declared.Width.TheVariants.{Byte, Half, Word, ByteU, HalfU}
use Rattle.machine_spec.specs.Widths.{number_of, low_bytes, size_of, loaded_as}
use Rattle.machine_spec.specs.Memory.{Range, shape_of, range_at, byte_of, all_from}
use Rattle.machine_spec.proofs.AllFrom.{each_passes, all_pass}
use Rattle.flat_spec.specs.Stores as flat
use Rattle.flat_spec.specs.Stores.{allows_store, bytes_from, put_bytes, can_store}
use Rattle.flat_spec.proofs.Memories.{byte_there, same_there, same_writable}
use Rattle.flat_spec.proofs.Pieces.{put_bytes_shape, writable_there}
use Rattle.sym_value.specs.declared.Value.{Value}
use Rattle.sym_value.specs.declared.Value.TheVariants.{Num, Ptr, Ret, Mix, Part, Unset}
use Rattle.sym_value.specs.Standing.{Holds, Placed, IsPlaced, address, area_end}
use Rattle.sym_cells.specs.Cells.{Cells, cell_in}
use Rattle.sym_cells.specs.Moves.{load_at, store_at, store}
use Rattle.sym_cells.specs.Memory.{Block, Memory, has_cell, cell_at, capacity_of, is_inside, is_aligned, loaded_in}
use Rattle.sym_cells.specs.Memory.{loaded, store_plain, stored_in, stored, life_of, live_of}
use Rattle.sym_cells.specs.Region.{Region, AreWords, is_offset, MemoryStands, IsThere, Laid, LoadsAlike, StoresAlike}
use Rattle.sym_cells.proofs.LoadLaw.{load_holds}
use Rattle.sym_cells.proofs.StoreLaw.{length-low_bytes, store_holds, store_apart}
use Rattle.sym_cells.proofs.Lists.{store_listed, length-store, spans_after, store_spans}

pub chosen : {A : Type 0} (t : Bool) (x y : A) → (if t then Some x else None) ≡ Some y → (t ≡ true) × (x ≡ y)
chosen true x y e = (refl, cc)
chosen false x y e = absurd (cc)

-- the element of a list that was written
set_here : {A : Type 0} (xs : List A) (i : ℕ) (x y : A) → slice_get xs i ≡ Some y
    → slice_get (slice_set xs i x) i ≡ Some x
set_here [] i x y e = absurd (cc)
set_here (z ∷ xs) zero x y e = refl
set_here (z ∷ xs) (suc i) x y e = set_here xs i x y e

set_elsewhere : {A : Type 0} (xs : List A) (i j : ℕ) (x : A) → j ≢ i → slice_get (slice_set xs i x) j ≡ slice_get xs j
set_elsewhere [] i j x n = refl
set_elsewhere (z ∷ xs) zero zero x n = absurd (n refl)
set_elsewhere (z ∷ xs) zero (suc j) x n = refl
set_elsewhere (z ∷ xs) (suc i) zero x n = refl
set_elsewhere (z ∷ xs) (suc i) (suc j) x n = set_elsewhere xs i j x (λ e. n (ap suc e))

-- bytes that are there can be read
pub some_of : {A : Type 0} (o : Option A) → is_some o ≡ true → (x : A) × (o ≡ Some x)
some_of (Some x) e = (x, refl)
some_of None e = absurd (cc)

bytes_there : (memory : List Range) (a n : ℕ) → IsThere memory a n → is_some (bytes_from memory a n) ≡ true
bytes_there memory a zero h = refl
bytes_there memory a (suc n) h =
    both (byte_of memory a) (bytes_from memory (a + 1) n) (byte_there memory a ∙ h a (omega arith) (omega arith))
    (bytes_there memory (a + 1) n (λ x low high. h x (omega arith) (omega arith)))
  where
    both : (o : Option ℕ) (r : Option (List ℕ)) → is_some o ≡ true → is_some r ≡ true
        → is_some (option_and_then (λ b. option_map (λ bs. b ∷ bs) r) o) ≡ true
    both (Some b) (Some bs) p q = refl
    both (Some b) None p q = absurd (cc)
    both None r p q = absurd (cc)

flat_load : (memory : List Range) (width : Width) (a : ℕ) (bs : List ℕ) → a % size_of width ≡ 0
    → bytes_from memory a (size_of width) ≡ Some bs
    → flat.loaded memory width a ≡ Some (loaded_as width (number_of bs))
unfolding flat.loaded
flat_load memory width a bs aligned e =
    let test : (a % size_of width == 0) ≡ true = eq-eqb _ 0 aligned in rw (test, e) refl

flat_store : (memory : List Range) (width : Width) (a w : ℕ) → a % size_of width ≡ 0
    → can_store memory a (size_of width) ≡ true
    → flat.stored memory width a w ≡ Some (put_bytes memory a (low_bytes (size_of width) w))
unfolding flat.stored
flat_store memory width a w aligned e =
    let test : (a % size_of width == 0) ≡ true = eq-eqb _ 0 aligned in rw (test, e) refl

-- a load from a region
region_load : (back : ℕ → ℕ) (at : List ℕ) (memory : List Range) (base : ℕ) (covers : ℕ
    → Bool) (cells : Cells) (width : Width) (o a : ℕ)
    → AreWords back → Region back at memory base covers cells → o % size_of width ≡ 0
    → all_from covers o (size_of width) ≡ true
    → base + o ≡ a → a % size_of width ≡ 0 → IsThere memory a (size_of width)
    → LoadsAlike back at memory width a (load_at width o cells)
region_load back at memory base covers cells width o a words region aligned covered place flat_aligned there =
    let bs = some_of (bytes_from memory a (size_of width)) (bytes_there memory a (size_of width) there) in
    let read : bytes_from memory (base + o) (size_of width) ≡ Some bs.0 =
    ap (λ x. bytes_from memory x (size_of width)) place ∙ bs.1 in
    record {
      word = loaded_as width (number_of bs.0);
      there = flat_load memory width a bs.0 flat_aligned bs.1;
      holds = load_holds back at memory base covers cells width o bs.0 words region aligned covered read;
    }

-- a block that is reached: its address doesn't wrap
pub record Reached (at : List ℕ) (end : ℕ) (m : Memory) (b o a n : ℕ) (k : Block) : Type 0 where
  pub life : slice_get (map life_of m.blocks) b ≡ Some (life_of k)
  pub lives : k.lives ≡ true
  pub high : o + n ≤ capacity_of k
  pub place : slice_index at b + o ≡ a
  pub aligned : slice_index at b % 16 ≡ 0

block_life : (m : Memory) (b : ℕ) (k : Block) → slice_get m.blocks b ≡ Some k
    → slice_get (map life_of m.blocks) b ≡ Some (life_of k)
block_life m b k e = slice_get-map life_of m.blocks b ∙ ap (option_map life_of) e

pub reached : (at : List ℕ) (end : ℕ) (plain storable : ℕ → Bool) (memory : List Range) (m : Memory) (b o a n : ℕ)
    (k : Block)
    → Laid at end plain storable memory m → slice_get m.blocks b ≡ Some k → is_inside k o n ≡ true
    → address at b o ≡ a → Reached at end m b o a n k
reached at end plain storable memory m b o a n k laid is inside place =
    let life = block_life m b k is in
    let parts = and_parts _ _ inside in
    let high : o + n ≤ capacity_of k = leb-true _ _ parts.1 in
    let placed : IsPlaced (live_of end m) (slice_index at b) (life_of k) = laid.placed.each b (life_of k) life in
    let top : slice_index at b + capacity_of k < area_end = placed.high in
    record { life = life; lives = parts.0; high = high; place = omega arith; aligned = laid.placed.aligned b }

aligned_sum : (width : Width) (a o : ℕ) → a % 16 ≡ 0 → o % size_of width ≡ 0 → (a + o) % size_of width ≡ 0
aligned_sum Byte a o e f = omega arith
aligned_sum ByteU a o e f = omega arith
aligned_sum Half a o e f = omega arith
aligned_sum HalfU a o e f = omega arith
aligned_sum Word a o e f = omega arith

some_bytes : (width : Width) → zero < size_of width
some_bytes Byte = omega arith
some_bytes ByteU = omega arith
some_bytes Half = omega arith
some_bytes HalfU = omega arith
some_bytes Word = omega arith

-- the bytes of a reached block are there and can be stored to
pub block_stores : (at : List ℕ) (end : ℕ) (plain storable : ℕ → Bool) (memory : List Range) (m : Memory) (b o a n : ℕ)
    (k : Block)
    → Laid at end plain storable memory m → Reached at end m b o a n k → (x : ℕ) → a ≤ x → x < a + n
    → allows_store (range_at memory x) ≡ true
block_stores at end plain storable memory m b o a n k laid r x low high =
    let place : slice_index at b + o ≡ a = r.place in
    let top : o + n ≤ capacity_of k = r.high in
    let y : ℕ = x - slice_index at b in
    let is : slice_index at b + y ≡ x = omega arith in
    subst (λ z. allows_store (range_at memory z) ≡ true) is
    (laid.block_writable b y (life_of k) r.life r.lives (omega arith))

-- the law of loads, of values that stand for addresses
pub loads_alike : (back : ℕ → ℕ) (at : List ℕ) (end : ℕ) (plain storable : ℕ
    → Bool) (memory : List Range) (m : Memory) (width : Width) (p x : Value) (a : ℕ)
    → AreWords back → Laid at end plain storable memory m → MemoryStands back at plain memory m → Holds back at p a
    → loaded plain m width p ≡ Some x → LoadsAlike back at memory width a x
unfolding loaded
loads_alike back at end plain storable memory m width (Num n) x a words laid stands h e =
    let test = chosen _ _ _ e in
    let parts = and_parts _ _ test.0 in
    let is : n ≡ a = h.stands in
    let aligned : n % size_of width ≡ 0 = eqb-true _ 0 parts.0 in
    subst (LoadsAlike back at memory width a) test.1
    (subst (λ y. LoadsAlike back at memory width y (load_at width n (cell_at m.plain))) is
    (region_load back at memory 0 plain (cell_at m.plain) width n n words stands.plain_stands aligned parts.1
    (omega arith) aligned
    (λ y low high. laid.there y (each_passes plain n (size_of width) parts.1 y low high))))
loads_alike back at end plain storable memory m width (Ptr b o) x a words laid stands h e = by_block
    (slice_get m.blocks b) refl e
  where
    by_block : (r : Option Block) → slice_get m.blocks b ≡ r → loaded_in width o r ≡ Some x
        → LoadsAlike back at memory width a x
    by_block None is e = absurd (cc)
    by_block (Some k) is e =
        let test = chosen _ _ _ e in
        let parts = and_parts _ _ test.0 in
        let aligned : o % size_of width ≡ 0 = eqb-true _ 0 parts.0 in
        let r : Reached at end m b o a (size_of width) k =
        reached at end plain storable memory m b o a (size_of width) k laid is parts.1 h.stands in
        let high : o + size_of width ≤ capacity_of k = r.high in
        subst (LoadsAlike back at memory width a) test.1
        (region_load back at memory (slice_index at b) (is_offset k) (cell_in k.cells) width o a words
        (stands.blocks_stand b k is r.lives) aligned
        (all_pass (is_offset k) o (size_of width) (λ y low top. lt-ltb y (capacity_of k) (omega arith))) r.place
        (subst (λ y. y % size_of width ≡ 0) r.place (aligned_sum width (slice_index at b) o r.aligned aligned))
        (λ y low top. writable_there memory y (block_stores at end plain storable memory m b o a
        (size_of width) k laid r y low top)))
loads_alike back at end plain storable memory m width (Ret r) x a words laid stands h e = absurd (cc)
loads_alike back at end plain storable memory m width (Mix l) x a words laid stands h e = absurd (cc)
loads_alike back at end plain storable memory m width (Part s i) x a words laid stands h e = absurd (cc)
loads_alike back at end plain storable memory m width Unset x a words laid stands h e = absurd (cc)

-- memory of the same shape, with the same blocks and spans, lies as before
laid_kept : (at : List ℕ) (end : ℕ) (plain storable : ℕ → Bool) (memory after : List Range) (m n : Memory)
    → map shape_of after ≡ map shape_of memory → map life_of n.blocks ≡ map life_of m.blocks
    → ((k : ℕ) → has_cell k n.plain ≡ has_cell k m.plain) → Laid at end plain storable memory m
    → Laid at end plain storable after n
laid_kept at end plain storable memory after m n shape lives spans h = record {
  placed = subst (λ l. Placed (record { blocks = l; end = end }) at) (sym lives) h.placed;
  covered = λ a p. spans (a / 4) ∙ h.covered a p;
  stores = h.stores;
  there = λ a p. same_there after memory a shape ∙ h.there a p;
  writable = λ a p. same_writable after memory a shape ∙ h.writable a p;
  block_writable = λ b o k e l s. same_writable after memory (slice_index at b + o) shape
      ∙ h.block_writable b o k (ap (λ x. slice_get x b) (sym lives) ∙ e) l s;
  plain_apart = λ a b k p e l. h.plain_apart a b k p (ap (λ x. slice_get x b) (sym lives) ∙ e) l;
}

-- an address that isn't among n from a on
outside : (z a n : ℕ) → (a ≤ z → z < a + n → ⊥) → (z < a) ⊎ (a + n ≤ z)
outside z a n never = ⊎_elim (λ (l : z < a). inl l) (λ (r : a ≤ z). ⊎_elim (λ (s : z < a + n). absurd (never r s)) (λ
    (t : a + n ≤ z). inr t) (cases_lt z (a + n))) (cases_lt z a)

-- a store to plain memory
plain_store : (back : ℕ → ℕ) (at : List ℕ) (end : ℕ) (plain storable : ℕ
    → Bool) (memory : List Range) (m : Memory) (width : Width) (a w : ℕ) (v : Value)
    → Laid at end plain storable memory m → MemoryStands back at plain memory m → a % size_of width ≡ 0
    → all_from storable a (size_of width) ≡ true → w < 2 ^ 32 → Holds back at v w
    → StoresAlike back at end plain storable memory m (record m { plain = store_plain width a v m.plain }) width a w
plain_store back at end plain storable memory m width a w v laid stands aligned covered small h = record {
  there = flat_store memory width a w aligned
      (all_pass (λ y. allows_store (range_at memory y)) a (size_of width) (λ y low high. laid.writable y
      (stores y low high)));
  stands = record {
    plain_stands = subst (Region back at (put_bytes memory a (low_bytes (size_of width) w)) 0 plain)
        (sym (store_spans m.plain width a v aligned (laid.covered a (laid.stores a (stores a (omega arith)
        (let s = some_bytes width in omega (arith, s)))))))
        (subst (λ y. Region back at (put_bytes memory y (low_bytes (size_of width) w)) 0 plain (store_at width a v
        (cell_at m.plain))) base
        (store_holds back at memory 0 plain (cell_at m.plain) width a v w stands.plain_stands aligned
        (λ y low high. laid.there y (laid.stores y (stores y (omega arith) (omega arith)))) small h));
    blocks_stand = λ b k is lives. store_apart back at memory (slice_index at b) (is_offset k) (cell_in k.cells) a
        (low_bytes (size_of width) w)
        (stands.blocks_stand b k is lives) (λ o c. beside b k is lives o (ltb-true o (capacity_of k) c));
  };
  laid = laid_kept at end plain storable memory (put_bytes memory a (low_bytes (size_of width) w)) m
      (record m { plain = store_plain width a v m.plain })
      (put_bytes_shape memory a (low_bytes (size_of width) w)) refl (λ k. spans_after m.plain width a v k) laid;
  lives = refl;
  went = λ x low high. inl (stores x low high);
}
  where
    base : 0 + a ≡ a
    base = omega arith

    stores : (y : ℕ) → a ≤ y → y < a + size_of width → storable y ≡ true
    stores = each_passes storable a (size_of width) covered

    beside : (b : ℕ) (k : Block) → slice_get m.blocks b ≡ Some k → k.lives ≡ true → (o : ℕ) → o < capacity_of k
        → (slice_index at b + o < a) ⊎ (a + length (low_bytes (size_of width) w) ≤ slice_index at b + o)
    beside b k is lives o small =
        subst (λ n. (slice_index at b + o < a) ⊎ (a + n ≤ slice_index at b + o)) (sym (length-low_bytes
        (size_of width) w))
        (outside (slice_index at b + o) a (size_of width) (λ low high.
        ⊎_elim (λ (l : slice_index at b + o < slice_index at b). omega arith)
        (λ (r : slice_index at b + capacity_of k ≤ slice_index at b + o). omega arith)
        (laid.plain_apart (slice_index at b + o) b (life_of k) (laid.stores (slice_index at b + o) (stores
        (slice_index at b + o) low high))
        (block_life m b k is) lives)))

-- a store to a block
block_store : (back : ℕ → ℕ) (at : List ℕ) (end : ℕ) (plain storable : ℕ
    → Bool) (memory : List Range) (m : Memory) (width : Width) (b o a w : ℕ) (k : Block) (v : Value)
    → Laid at end plain storable memory m → MemoryStands back at plain memory m → slice_get m.blocks b ≡ Some k
    → Reached at end m b o a (size_of width) k → o % size_of width ≡ 0 → w < 2 ^ 32 → Holds back at v w
    → StoresAlike back at end plain storable memory m
    (record m { blocks = slice_set m.blocks b (record k { cells = store width o v k.cells }) }) width a w
block_store back at end plain storable memory m width b o a w k v laid stands is r aligned small h = record {
  there = flat_store memory width a w flat_aligned
      (all_pass (λ y. allows_store (range_at memory y)) a (size_of width) writable);
  stands = record {
    plain_stands = store_apart back at memory 0 plain (cell_at m.plain) a (low_bytes
        (size_of width) w) stands.plain_stands
        (λ x p. plain_beside x p);
    blocks_stand = λ c j e lives. by_name c j e lives (nat_eq c b) refl;
  };
  laid = laid_kept at end plain storable memory (put_bytes memory a (low_bytes (size_of width) w)) m
      (record m { blocks = slice_set m.blocks b (record k { cells = store width o v k.cells }) })
      (put_bytes_shape memory a (low_bytes (size_of width) w)) same_lives (λ c. refl) laid;
  lives = same_lives;
  went = λ x low high. inr (record {
    block = b;
    life = life_of k;
    is = r.life;
    lives = r.lives;
    low = inner_low x low;
    high = inner_high x high;
  });
}
  where
    place : slice_index at b + o ≡ a
    place = r.place

    high : o + size_of width ≤ capacity_of k
    high = r.high

    flat_aligned : a % size_of width ≡ 0
    flat_aligned = subst (λ y. y % size_of width ≡ 0) place (aligned_sum width (slice_index at b) o r.aligned aligned)

    writable : (y : ℕ) → a ≤ y → y < a + size_of width → allows_store (range_at memory y) ≡ true
    writable = block_stores at end plain storable memory m b o a (size_of width) k laid r

    inner_low : (x : ℕ) → a ≤ x → slice_index at b ≤ x
    inner_low x low = let e = place in omega (arith, e)

    inner_high : (x : ℕ) → x < a + size_of width → x < slice_index at b + capacity_of k
    inner_high x top = let e = place in let f = high in omega (arith, e, f)

    same_capacity : capacity_of (record k { cells = store width o v k.cells }) ≡ capacity_of k
    same_capacity = ap (λ n. 4 * n) (length-store width o v k.cells)

    same_life : life_of (record k { cells = store width o v k.cells }) ≡ life_of k
    same_life = ap (λ n. record { capacity = n; lives = k.lives }) same_capacity

    same_lives : map life_of (slice_set m.blocks b (record k { cells = store width o v k.cells }))
        ≡ map life_of m.blocks
    same_lives = map-set_same life_of m.blocks b (record k { cells = store width o v k.cells }) k
        (same_life ∙ ap life_of (sym (get_or_from_slice_get m.blocks b k k is)))

    length_is : length (low_bytes (size_of width) w) ≡ size_of width
    length_is = length-low_bytes (size_of width) w

    plain_beside : (x : ℕ) → plain x ≡ true → (0 + x < a) ⊎ (a + length (low_bytes (size_of width) w) ≤ 0 + x)
    plain_beside x p =
        let e = place in
        let f = high in
        let g = length_is in
        ⊎_elim (λ (l : x < slice_index at b). inl (omega (arith, e)))
        (λ (t : slice_index at b + capacity_of k ≤ x). inr (omega (arith, e, f, g)))
        (laid.plain_apart x b (life_of k) p r.life r.lives)

    by_name : (c : ℕ) (j : Block) → slice_get (slice_set m.blocks b (record k { cells = store width o v k.cells })) c
        ≡ Some j → j.lives ≡ true
        → (t : Bool) → nat_eq c b ≡ t
        → Region back at (put_bytes memory a (low_bytes (size_of width) w)) (slice_index at c) (is_offset j)
        (cell_in j.cells)
    by_name c j e lives true t =
        let same : c ≡ b = eqb-true c b t in
        let is_j : Some (record k { cells = store width o v k.cells }) ≡ Some j =
        sym (set_here m.blocks b (record k { cells = store width o v k.cells }) k is)
        ∙ (ap (slice_get (slice_set m.blocks b (record k { cells = store width o v k.cells }))) (sym same) ∙ e) in
        let block : record k { cells = store width o v k.cells } ≡ j = cc in
        let inside : o / 4 < length k.cells = (let f = high in let s = some_bytes width in omega (arith, f, s)) in
        let region : Region back at (put_bytes memory (slice_index at b + o) (low_bytes (size_of width) w))
        (slice_index at b) (is_offset k)
        (store_at width o v (cell_in k.cells)) =
        store_holds back at memory (slice_index at b) (is_offset k) (cell_in k.cells) width o v w
        (stands.blocks_stand b k is r.lives) aligned
        (λ y low top. writable_there memory y (writable y (let e = place in omega (arith, e)) (let e = place in omega
        (arith, e)))) small h in
        let listed : Region back at (put_bytes memory (slice_index at b + o) (low_bytes (size_of width) w))
        (slice_index at b) (is_offset k)
        (cell_in (store width o v k.cells)) =
        subst (Region back at (put_bytes memory (slice_index at b + o) (low_bytes (size_of width) w))
        (slice_index at b) (is_offset k))
        (sym (store_listed k.cells width o v aligned inside)) region in
        let sized : Region back at (put_bytes memory (slice_index at b + o) (low_bytes (size_of width) w))
        (slice_index at b)
        (is_offset (record k { cells = store width o v k.cells })) (cell_in (store width o v k.cells)) =
        subst (λ n. Region back at (put_bytes memory (slice_index at b + o) (low_bytes (size_of width) w))
        (slice_index at b)
        (λ x. nat_lt x n) (cell_in (store width o v k.cells))) (sym same_capacity) listed in
        subst (λ y. Region back at (put_bytes memory a (low_bytes (size_of width) w)) (slice_index at y) (is_offset j)
        (cell_in j.cells)) (sym same)
        (subst (λ y. Region back at (put_bytes memory a (low_bytes (size_of width) w)) (slice_index at b)
        (is_offset y) (cell_in y.cells)) block
        (subst (λ y. Region back at (put_bytes memory y (low_bytes (size_of width) w)) (slice_index at b)
        (is_offset (record k { cells = store width o v k.cells })) (cell_in (store width o v k.cells))) place sized))
    by_name c j e lives false t =
        let other : c ≢ b = eqb-false c b t in
        let before : slice_get m.blocks c ≡ Some j = sym (set_elsewhere m.blocks b c
        (record k { cells = store width o v k.cells }) other) ∙ e in
        store_apart back at memory (slice_index at c) (is_offset j) (cell_in j.cells) a (low_bytes (size_of width) w)
        (stands.blocks_stand c j before lives) (λ x q. beside c j other before lives x (ltb-true x (capacity_of j) q))
      where
        beside : (c : ℕ) (j : Block) → c ≢ b → slice_get m.blocks c ≡ Some j → j.lives ≡ true → (x : ℕ)
            → x < capacity_of j
            → (slice_index at c + x < a) ⊎ (a + length (low_bytes (size_of width) w) ≤ slice_index at c + x)
        beside c j other before lives x inner =
            let e = place in
            let f = high in
            let g = length_is in
            ⊎_elim (λ (l : slice_index at b + capacity_of k ≤ slice_index at c). inr (omega (arith, e, f, g)))
            (λ (t : slice_index at c + capacity_of j ≤ slice_index at b). inl (omega (arith, e)))
            (laid.placed.apart b c (life_of k) (life_of j) (λ s. other (sym s)) r.life
            (block_life m c j before) r.lives lives)

-- the law of stores, of values that stand for addresses
pub stores_alike : (back : ℕ → ℕ) (at : List ℕ) (end : ℕ) (plain storable : ℕ
    → Bool) (memory : List Range) (m n : Memory) (width : Width) (p v : Value) (a w : ℕ)
    → Laid at end plain storable memory m → MemoryStands back at plain memory m → Holds back at p a
    → Holds back at v w → w < 2 ^ 32
    → stored storable m width p v ≡ Some n → StoresAlike back at end plain storable memory m n width a w
unfolding stored
stores_alike back at end plain storable memory m n width (Num x) v a w laid stands h k small e =
    let test = chosen _ _ _ e in
    let parts = and_parts _ _ test.0 in
    let is : x ≡ a = h.stands in
    subst (λ y. StoresAlike back at end plain storable memory m y width a w) test.1
    (subst (λ y. StoresAlike back at end plain storable memory m (record m { plain = store_plain width x v m.plain })
    width y w) is
    (plain_store back at end plain storable memory m width x w v laid stands (eqb-true _ 0 parts.0) parts.1 small k))
stores_alike back at end plain storable memory m n width (Ptr b o) v a w laid stands h k small e = by_block
    (slice_get m.blocks b) refl e
  where
    by_block : (r : Option Block) → slice_get m.blocks b ≡ r
        → option_map (λ j. record m { blocks = slice_set m.blocks b j }) (stored_in width o v r) ≡ Some n
        → StoresAlike back at end plain storable memory m n width a w
    by_block None is e = absurd (cc)
    by_block (Some j) is e = by_test (is_aligned width o && is_inside j o (size_of width)) refl e
      where
        by_test : (t : Bool) → (is_aligned width o && is_inside j o (size_of width)) ≡ t
            → option_map (λ j. record m { blocks = slice_set m.blocks b j }) (if t then Some
            (record j { cells = store width o v j.cells }) else None) ≡ Some n
            → StoresAlike back at end plain storable memory m n width a w
        by_test false q e = absurd (cc)
        by_test true q e =
            let after : record m { blocks = slice_set m.blocks b (record j { cells = store width o v j.cells }) }
            ≡ n = cc in
            let parts = and_parts _ _ q in
            subst (λ y. StoresAlike back at end plain storable memory m y width a w) after
            (block_store back at end plain storable memory m width b o a w j v laid stands is
            (reached at end plain storable memory m b o a (size_of width) j laid is parts.1 h.stands)
            (eqb-true _ 0 parts.0) small k)
stores_alike back at end plain storable memory m n width (Ret r) v a w laid stands h k small e = absurd (cc)
stores_alike back at end plain storable memory m n width (Mix l) v a w laid stands h k small e = absurd (cc)
stores_alike back at end plain storable memory m n width (Part s i) v a w laid stands h k small e = absurd (cc)
stores_alike back at end plain storable memory m n width Unset v a w laid stands h k small e = absurd (cc)
