-- Bytes that are taken from buffers and put into them.
use Rattle.std.proofs.Common.{◌≡◌, ℕ, zero, suc, ◌+◌, ◌*◌, ◌%◌, ◌<◌, ◌≤◌, Bool, true, false, ◌&&◌, List, [], ◌∷◌}
use Rattle.std.proofs.Common.{length, map, take, drop, nat_le, refl, ap, sym, ◌∙◌, arith}
use Rattle.std.specs.Prelude.{Option, Some, None, is_some, unwrap_or, option_map, option_and_then, slice_get}
use Rattle.std.specs.Prelude.{slice_index, slice_set}
use Rattle.std.proofs.lemmas.Bool.{and_parts, leb-true, le-leb}
use Rattle.std.proofs.lemmas.Option.{slice_get-map}
use Rattle.rv_isa.specs.declared.Width.TheVariants.{ByteU}
use Rattle.machine_spec.proofs.AllFrom.{and_first, each_passes, all_pass}
use Rattle.sym_value.specs.declared.Value.{Value}
use Rattle.sym_value.specs.declared.Value.TheVariants.{Num, Ptr, Ret, Mix, Part, Unset}
use Rattle.sym_value.specs.declared.live.Life.{Life}
use Rattle.sym_cells.specs.Cells.{Cells, cell_in, mark_at}
use Rattle.sym_cells.specs.Moves.{store}
use Rattle.sym_cells.specs.Memory.{Block, Memory, capacity_of, cell_at, is_aligned, life_of, number_in, store_plain}
use Rattle.sym_cells.specs.Memory.{stored_in, stored}
use Rattle.sym_cells.specs.Buffers.{is_inside_one, is_within, numbers_from, numbers_in, taken, next_byte, stored_each}
use Rattle.sym_cells.proofs.Lists.{length-store}
use Rattle.sym_spec.specs.Plain.{is_plain, is_plain_store}
use Rattle.sym_memory.specs.Held.{memory_after}
use Rattle.sym_machine.specs.Reached.{behind_by, number_at, number_in_block, put_from}
use Rattle.sym_machine.proofs.Lives.{map_set}

-- what can be stored to is plain
pub storable_plain : (file : List ℕ) (a : ℕ) → is_plain_store file a ≡ true → is_plain file a ≡ true
unfolding is_plain_store
storable_plain file a h = and_first (is_plain file a) _ h

pub storable_reached : (file : List ℕ) (m : Memory) (n : ℕ) (at : Value) → is_within (is_plain_store file) m n at ≡ true
    → is_within (is_plain file) m n at ≡ true
unfolding is_within
storable_reached file m n (Num a) h =
    all_pass (is_plain file) a n
    (λ x low high. storable_plain file x (each_passes (is_plain_store file) a n h x low high))
storable_reached file m n (Ptr b o) h = h
storable_reached file m n (Ret r) h = absurd (cc)
storable_reached file m n (Mix l) h = absurd (cc)
storable_reached file m n (Part s j) h = absurd (cc)
storable_reached file m n Unset h = absurd (cc)

-- whether bytes can be reached depends on the lives of the blocks alone
inside_life : ℕ → ℕ → Option Life → Bool
inside_life o n (Some k) = k.lives && nat_le (o + n) k.capacity
inside_life o n None = false

by_lives : (m : Memory) (b o n : ℕ) → is_inside_one o n (slice_get m.blocks b)
    ≡ inside_life o n (slice_get (map life_of m.blocks) b)
unfolding inside_life
by_lives m b o n = by_block (slice_get m.blocks b) ∙ ap (inside_life o n) (sym (slice_get-map life_of m.blocks b))
  where
    by_block : (r : Option Block) → is_inside_one o n r ≡ inside_life o n (option_map life_of r)
    by_block None = refl
    by_block (Some k) = refl

pub within_after : (passes : ℕ → Bool) (m after : Memory) (n : ℕ) (at : Value)
    → map life_of after.blocks ≡ map life_of m.blocks → is_within passes after n at ≡ is_within passes m n at
unfolding is_within
within_after passes m after n (Num a) e = refl
within_after passes m after n (Ptr b o) e =
    by_lives after b o n ∙ ap (λ ls. inside_life o n (slice_get ls b)) e ∙ sym (by_lives m b o n)
within_after passes m after n (Ret r) e = refl
within_after passes m after n (Mix l) e = refl
within_after passes m after n (Part s j) e = refl
within_after passes m after n Unset e = refl

-- a byte that is stored inside a buffer: the lives stay
pub record IsStored (o : Option Memory) (m : Memory) : Type 0 where
  pub after : Memory
  pub is : o ≡ Some after
  pub lives : map life_of after.blocks ≡ map life_of m.blocks

aligned_byte : (x : ℕ) → is_aligned ByteU x ≡ true
aligned_byte x = let z : x % 1 ≡ 0 = omega arith in rw z refl

pub stored_one : (storable : ℕ → Bool) (m : Memory) (n k : ℕ) (at v : Value) → is_within storable m n at ≡ true → k < n
    → IsStored (stored storable m ByteU (behind_by k at) v) m
unfolding stored is_within
stored_one storable m n k (Num a) v h l =
    let byte : storable (a + k) ≡ true = each_passes storable a n h (a + k) (omega arith) (omega arith) in
    let aligned : is_aligned ByteU (a + k) ≡ true = aligned_byte (a + k) in
    record {
      after = record m { plain = store_plain ByteU (a + k) v m.plain };
      is = rw (aligned, byte) refl;
      lives = refl;
    }
stored_one storable m n k (Ptr b o) v h l = by_block (slice_get m.blocks b) refl h
  where
    by_block : (r : Option Block) → slice_get m.blocks b ≡ r → is_inside_one o n r ≡ true
        → IsStored (option_map (λ k. record m { blocks = slice_set m.blocks b k }) (stored_in ByteU (o + k) v r)) m
    by_block None e h = absurd (cc)
    by_block (Some x) e h =
        let parts : (x.lives ≡ true) × (nat_le (o + n) (capacity_of x) ≡ true) = and_parts _ _ h in
        let high : o + n ≤ capacity_of x = leb-true (o + n) (capacity_of x) parts.1 in
        let test : nat_le (o + k + 1) (capacity_of x) ≡ true =
        le-leb (o + k + 1) (capacity_of x) (omega (arith, high, l)) in
        let aligned : is_aligned ByteU (o + k) ≡ true = aligned_byte (o + k) in
        let kept : life_of (record x { cells = store ByteU (o + k) v x.cells }) ≡ life_of x =
        ap (λ n. record (life_of x) { capacity = 4 * n }) (length-store ByteU (o + k) v x.cells) in
        record {
          after = record m { blocks = slice_set m.blocks b (record x { cells = store ByteU (o + k) v x.cells }) };
          is = rw (aligned, parts.0, test) refl;
          lives = map_set life_of m.blocks b x _ e kept;
        }
stored_one storable m n k (Ret r) v h l = absurd (cc)
stored_one storable m n k (Mix x) v h l = absurd (cc)
stored_one storable m n k (Part s j) v h l = absurd (cc)
stored_one storable m n k Unset v h l = absurd (cc)

pub next_behind : (k : ℕ) (at : Value) → next_byte (behind_by k at) ≡ behind_by (k + 1) at
next_behind k (Num a) = ap Num (omega arith)
next_behind k (Ptr b o) = ap (Ptr b) (omega arith)
next_behind k (Ret r) = refl
next_behind k (Mix l) = refl
next_behind k (Part s j) = refl
next_behind k Unset = refl

drop_one : (xs : List ℕ) (i : ℕ) → i < length xs → drop i xs ≡ slice_index xs i ∷ drop (i + 1) xs
drop_one [] i l = absurd (omega arith)
drop_one (x ∷ xs) zero l = refl
drop_one (x ∷ xs) (suc i) l = let z : suc i + 1 ≡ suc (i + 1) = omega arith in rw z (drop_one xs i (omega arith))

-- the byte at a place inside a buffer is stored
pub fill_more : (storable : ℕ → Bool) (m : Memory) (n from i : ℕ) (at place : Value) (bytes : List ℕ)
    → is_within storable m n at ≡ true → from + i < n → i < length bytes → place ≡ behind_by (from + i) at
    → stored_each storable (drop (i + 1) bytes) (behind_by (from + (i + 1)) at)
    (memory_after (stored storable m ByteU place (Num (slice_index bytes i))) m)
    ≡ stored_each storable (drop i bytes) (behind_by (from + i) at) m
fill_more storable m n from i at place bytes h l k e =
    let s : IsStored (stored storable m ByteU (behind_by (from + i) at) (Num (slice_index bytes i))) m =
    stored_one storable m n (from + i) at (Num (slice_index bytes i)) h l in
    let next : behind_by (from + (i + 1)) at ≡ next_byte (behind_by (from + i) at) =
    ap (λ j. behind_by j at) (omega arith) ∙ sym (next_behind (from + i) at) in
    rw (drop_one bytes i k, e, next, s.is) refl

pub fill_within : (storable : ℕ → Bool) (m : Memory) (n k : ℕ) (at place v : Value)
    → is_within storable m n at ≡ true → k < n → place ≡ behind_by k at
    → is_within storable (memory_after (stored storable m ByteU place v) m) n at ≡ true
fill_within storable m n k at place v h l e =
    let s : IsStored (stored storable m ByteU (behind_by k at) v) m = stored_one storable m n k at v h l in
    rw (e, s.is) (within_after storable m s.after n at s.lives ∙ h)

pub fill_first : (storable : ℕ → Bool) (m : Memory) (from : ℕ) (at : Value) (bytes : List ℕ)
    → stored_each storable (drop 0 bytes) (behind_by (from + 0) at) m ≡ stored_each storable bytes (behind_by from at) m
fill_first storable m from at bytes = let z : from + 0 ≡ from = omega arith in rw z refl

pub fill_done : (storable : ℕ → Bool) (before m : Memory) (from i : ℕ) (at : Value) (bytes : List ℕ) → i ≡ length bytes
    → stored_each storable (drop i bytes) (behind_by (from + i) at) m
    ≡ stored_each storable bytes (behind_by from at) before
    → m ≡ put_from storable bytes (behind_by from at) before
fill_done storable before m from i at bytes e h =
    let none : drop i bytes ≡ [] = drop_whole bytes i e in
    let is : Some m ≡ stored_each storable bytes (behind_by from at) before = rw none at h in
    rw (← is) refl
  where
    drop_whole : (xs : List ℕ) (i : ℕ) → i ≡ length xs → drop i xs ≡ []
    drop_whole [] i e = let z : i ≡ 0 = e in rw z refl
    drop_whole (x ∷ xs) zero e = absurd (omega arith)
    drop_whole (x ∷ xs) (suc i) e = drop_whole xs i (omega arith)

-- a byte of those that a write takes
byte_number : (cells : Cells) (o n i : ℕ) (bytes : List ℕ) → numbers_from cells o n ≡ Some bytes → i < n
    → number_in (mark_at cells (o + i)) ≡ slice_get bytes i
byte_number cells o zero i bytes h l = absurd (omega arith)
byte_number cells o (suc n) i bytes h l =
    by_first (number_in (mark_at cells o)) refl (numbers_from cells (o + 1) n) refl
    (λ i more f k. byte_number cells (o + 1) n i more f k) i h l
  where
    by_first : (b : Option ℕ) → number_in (mark_at cells o) ≡ b → (r : Option (List ℕ))
        → numbers_from cells (o + 1) n ≡ r
        → ((i : ℕ) (more : List ℕ) → numbers_from cells (o + 1) n ≡ Some more → i < n
        → number_in (mark_at cells (o + 1 + i)) ≡ slice_get more i)
        → (i : ℕ) → option_and_then (λ b. option_map (λ bs. b ∷ bs) r) b ≡ Some bytes → i < suc n
        → number_in (mark_at cells (o + i)) ≡ slice_get bytes i
    by_first None e r f ih i h l = absurd (cc)
    by_first (Some b) e None f ih i h l = absurd (cc)
    by_first (Some b) e (Some more) f ih zero h l =
        let is : bytes ≡ b ∷ more = cc in
        let z : o + 0 ≡ o = omega arith in
        rw (is, z) e
    by_first (Some b) e (Some more) f ih (suc i) h l =
        let is : bytes ≡ b ∷ more = cc in
        let next : o + suc i ≡ o + 1 + i = omega arith in
        rw (is, next) (ih i more f (omega arith))

taken_byte : (m : Memory) (at : Value) (n i : ℕ) (bytes : List ℕ) → taken m n at ≡ Some bytes → i < n
    → number_at m at i ≡ slice_get bytes i
unfolding taken
taken_byte m (Num a) n i bytes h l = byte_number (cell_at m.plain) a n i bytes h l
taken_byte m (Ptr b o) n i bytes h l = by_block (slice_get m.blocks b) h
  where
    by_block : (r : Option Block) → numbers_in o n r ≡ Some bytes → number_in_block (o + i) r ≡ slice_get bytes i
    by_block None h = absurd (cc)
    by_block (Some k) h = byte_number (cell_in k.cells) o n i bytes h l
taken_byte m (Ret r) n i bytes h l = absurd (cc)
taken_byte m (Mix x) n i bytes h l = absurd (cc)
taken_byte m (Part s j) n i bytes h l = absurd (cc)
taken_byte m Unset n i bytes h l = absurd (cc)

numbers_long : (cells : Cells) (o n : ℕ) (bytes : List ℕ) → numbers_from cells o n ≡ Some bytes → length bytes ≡ n
numbers_long cells o zero bytes h = let z : bytes ≡ [] = cc in rw z refl
numbers_long cells o (suc n) bytes h =
    by_first (number_in (mark_at cells o)) (numbers_from cells (o + 1) n) refl
    (λ more f. numbers_long cells (o + 1) n more f) h
  where
    by_first : (b : Option ℕ) (r : Option (List ℕ)) → numbers_from cells (o + 1) n ≡ r
        → ((more : List ℕ) → numbers_from cells (o + 1) n ≡ Some more → length more ≡ n)
        → option_and_then (λ b. option_map (λ bs. b ∷ bs) r) b ≡ Some bytes → length bytes ≡ suc n
    by_first None r f ih h = absurd (cc)
    by_first (Some b) None f ih h = absurd (cc)
    by_first (Some b) (Some more) f ih h =
        let is : bytes ≡ b ∷ more = cc in
        let long : length more ≡ n = ih more f in
        rw is (ap suc long)

-- as many bytes are taken as were asked for
pub taken_long : (m : Memory) (at : Value) (n : ℕ) (bytes : List ℕ) → taken m n at ≡ Some bytes → length bytes ≡ n
unfolding taken
taken_long m (Num a) n bytes h = numbers_long (cell_at m.plain) a n bytes h
taken_long m (Ptr b o) n bytes h = by_block (slice_get m.blocks b) h
  where
    by_block : (r : Option Block) → numbers_in o n r ≡ Some bytes → length bytes ≡ n
    by_block None h = absurd (cc)
    by_block (Some k) h = numbers_long (cell_in k.cells) o n bytes h
taken_long m (Ret r) n bytes h = absurd (cc)
taken_long m (Mix x) n bytes h = absurd (cc)
taken_long m (Part s j) n bytes h = absurd (cc)
taken_long m Unset n bytes h = absurd (cc)

get_there : (xs : List ℕ) (i : ℕ) → i < length xs → slice_get xs i ≡ Some (slice_index xs i)
get_there [] i l = absurd (omega arith)
get_there (x ∷ xs) zero l = refl
get_there (x ∷ xs) (suc i) l = get_there xs i (omega arith)

get_drop : (xs : List ℕ) (f i : ℕ) → slice_get (drop f xs) i ≡ slice_get xs (f + i)
get_drop [] zero i = refl
get_drop [] (suc f) i = refl
get_drop (x ∷ xs) zero i = let z : 0 + i ≡ i = omega arith in rw z refl
get_drop (x ∷ xs) (suc f) i = let z : suc f + i ≡ suc (f + i) = omega arith in rw z (get_drop xs f i)

-- each byte of a buffer whose bytes are known is known
pub byte_there : (m : Memory) (at : Value) (n i : ℕ) → is_some (taken m n at) ≡ true → i < n
    → number_at m at i ≡ Some (slice_index (unwrap_or (taken m n at) []) i)
byte_there m at n i h l = by_taken (taken m n at) refl h
  where
    by_taken : (r : Option (List ℕ)) → taken m n at ≡ r → is_some r ≡ true
        → number_at m at i ≡ Some (slice_index (unwrap_or r []) i)
    by_taken None e h = absurd (cc)
    by_taken (Some bytes) e h =
        let long : length bytes ≡ n = taken_long m at n bytes e in
        taken_byte m at n i bytes e l ∙ get_there bytes i (omega (arith, long, l))

take_put : (into xs : List ℕ) (i b : ℕ) → take i into ≡ take i xs → i < length into → slice_get xs i ≡ Some b
    → take (i + 1) (slice_set into i b) ≡ take (i + 1) xs
take_put [] xs i b e l g = absurd (omega arith)
take_put (y ∷ into) [] i b e l g = absurd (cc)
take_put (y ∷ into) (x ∷ xs) zero b e l g = let is : b ≡ x = cc in rw is refl
take_put (y ∷ into) (x ∷ xs) (suc i) b e l g =
    let first : y ≡ x = cc in
    let rest : take i into ≡ take i xs = cc in
    let z : suc i + 1 ≡ suc (i + 1) = omega arith in
    rw (z, first) (ap (λ t. x ∷ t) (take_put into xs i b rest (omega arith) g))

-- one more byte is copied
pub copy_more : (m : Memory) (at : Value) (n from i b : ℕ) (into : List ℕ) → is_some (taken m n at) ≡ true
    → from + length into ≤ n → i < length into → number_at m at (from + i) ≡ Some b
    → take i into ≡ take i (drop from (unwrap_or (taken m n at) []))
    → take (i + 1) (slice_set into i b) ≡ take (i + 1) (drop from (unwrap_or (taken m n at) []))
copy_more m at n from i b into h le l is e =
    take_put into (drop from (unwrap_or (taken m n at) [])) i b e l
    (get_drop (unwrap_or (taken m n at) []) from i ∙ by_taken (taken m n at) refl h)
  where
    by_taken : (r : Option (List ℕ)) → taken m n at ≡ r → is_some r ≡ true
        → slice_get (unwrap_or r []) (from + i) ≡ Some b
    by_taken None e h = absurd (cc)
    by_taken (Some bytes) e h = sym (taken_byte m at n (from + i) bytes e (omega (arith, le, l))) ∙ is
