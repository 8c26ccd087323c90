-- The bytes of buffers, one by one.
use Rattle.std.proofs.Common.{◌≡◌, ℕ, zero, suc, ◌+◌, ◌-◌, ◌%◌, ◌^◌, ◌<◌, ◌≤◌, Bool, true, false, ◌&&◌, ◌||◌, List, []}
use Rattle.std.proofs.Common.{◌∷◌, length, map, max, nat_le, nat_lt, refl, ap, ◌∙◌, arith}
use Rattle.std.specs.Prelude.{Option, Some, None, is_some, option_map, slice_get}
use Rattle.std.specs.List.{list_any, filter, fold}
use Rattle.std.proofs.lemmas.Bool.{and_parts, leb-true, le-leb, ltb-true}
use Rattle.std.proofs.lemmas.Option.{slice_get-map}
use Rattle.elf_spec.specs.declared.Segment.{Segment}
use Rattle.elf_spec.specs.Memory.{image_end, is_loaded}
use Rattle.elf_spec.specs.Records.{segments_of}
use Rattle.machine_spec.specs.Memory.{stack_start, stack_size}
use Rattle.machine_spec.proofs.AllFrom.{and_second, each_passes, all_pass}
use Rattle.exec_image.specs.Accepted.{AcceptedFacts}
use Rattle.sym_value.specs.declared.Value.{Value}
use Rattle.sym_value.specs.declared.Value.TheVariants.{Num, Ptr, Ret, Mix, Part, Unset}
use Rattle.sym_value.specs.Places.{capacity_of}
use Rattle.sym_cells.specs.Cells.{Cells, cell_in, mark_at}
use Rattle.sym_cells.specs.Memory as cells
use Rattle.sym_cells.specs.Memory.{Block, Memory, cell_at, is_inside, known, known_in, number_in, life_of, live_of}
use Rattle.sym_cells.specs.Buffers.{is_inside_one, is_within, numbers_from, numbers_in, taken}
use Rattle.sym_spec.specs.Plain.{is_plain, is_stack, is_in}
use Rattle.sym_machine.specs.Reached.{behind_by, IsLow, number_at, number_in_block}

-- the greatest end is at least each
rises : (e : ℕ) (xs : List Segment) → e ≤ fold (λ end s. max end (s.vaddr + s.mem_size)) e xs
rises e [] = omega arith
rises e (x ∷ xs) = let h = rises (max e (x.vaddr + x.mem_size)) xs in omega (arith, h)

-- an address in a loaded segment is below the image's end
in_image : (a e : ℕ) (xs : List Segment) → list_any (is_in a) xs ≡ true
    → a < fold (λ end s. max end (s.vaddr + s.mem_size)) e (filter is_loaded xs)
in_image a e [] h = absurd (cc)
in_image a e (x ∷ xs) h = by_load (λ e f. in_image a e xs f)
    (is_loaded x) refl (nat_le x.vaddr a && nat_lt a (x.vaddr + x.mem_size)) refl (list_any (is_in a) xs) refl h
  where
    by_load : ((e : ℕ) → list_any (is_in a) xs ≡ true
        → a < fold (λ end s. max end (s.vaddr + s.mem_size)) e (filter is_loaded xs))
        → (l : Bool) → is_loaded x ≡ l → (b : Bool) → (nat_le x.vaddr a && nat_lt a (x.vaddr + x.mem_size)) ≡ b
        → (r : Bool) → list_any (is_in a) xs ≡ r → (is_in a x || list_any (is_in a) xs) ≡ true
        → a < fold (λ end s. max end (s.vaddr + s.mem_size)) e (filter is_loaded (x ∷ xs))
    by_load ih true l true b r f h =
        let second : nat_lt a (x.vaddr + x.mem_size) ≡ true = and_second (nat_le x.vaddr a) _ b in
        let high : a < x.vaddr + x.mem_size = ltb-true a (x.vaddr + x.mem_size) second in
        let top = rises (max e (x.vaddr + x.mem_size)) (filter is_loaded xs) in
        rw l (omega (arith, high, top))
    by_load ih true l false b true f h = rw l (ih (max e (x.vaddr + x.mem_size)) f)
    by_load ih true l false b false f h = absurd (let g : false ≡ true = rw (l, b, f) at h in cc)
    by_load ih false l b c true f h = rw l (ih e f)
    by_load ih false l b c false f h = absurd (let g : false ≡ true = rw (l, f) at h in cc)

-- a plain byte is below the end of the stack
pub plain_low : (file : List ℕ) (a : ℕ) → AcceptedFacts file → is_plain file a ≡ true → a < 2 ^ 32
unfolding is_plain
plain_low file a facts h = by_stack (is_stack a) refl h
  where
    by_image : (t : Bool) → list_any (is_in a) (segments_of file) ≡ t → (u : Bool) → (t && u) ≡ true → a < 2 ^ 32
    by_image true e u h =
        let low : a < image_end (segments_of file) = in_image a 0 (segments_of file) e in
        omega (arith, low, facts.end)
    by_image false e u h = absurd (cc)

    by_stack : (t : Bool) → is_stack a ≡ t → is_plain file a ≡ true → a < 2 ^ 32
    by_stack true e h =
        let second : nat_lt a (stack_start + stack_size) ≡ true = and_second (nat_le stack_start a) _ e in
        let high : a < stack_start + stack_size = ltb-true a (stack_start + stack_size) second in
        omega (arith, high)
    by_stack false e h = by_image (list_any (is_in a) (segments_of file)) refl _ (rw e at h)

-- the byte of a number
pub number_low : (file : List ℕ) (m : Memory) (a i : ℕ) → AcceptedFacts file
    → is_within (is_plain file) m (i + 1) (Num a) ≡ true → (a + i) % 2 ^ 32 ≡ a + i
unfolding is_within
number_low file m a i facts h =
    let plain : is_plain file (a + i) ≡ true =
    each_passes (is_plain file) a (i + 1) h (a + i) (omega arith) (omega arith) in
    let low : a + i < 2 ^ 32 = plain_low file (a + i) facts plain in
    omega (arith, low)

-- the byte of a pointer to a block
inside_low : (m : Memory) (end b o i : ℕ) (r : Option Block) → slice_get m.blocks b ≡ r
    → is_inside_one o (i + 1) r ≡ true
    → o + i < capacity_of (live_of end m) b
inside_low m end b o i None e h = absurd (cc)
inside_low m end b o i (Some k) e h =
    let parts : (k.lives ≡ true) × (nat_le (o + (i + 1)) (cells.capacity_of k) ≡ true) = and_parts _ _ h in
    let high : o + (i + 1) ≤ cells.capacity_of k = leb-true (o + (i + 1)) (cells.capacity_of k) parts.1 in
    let life = slice_get-map life_of m.blocks b in
    let is : capacity_of (live_of end m) b ≡ cells.capacity_of k = rw (life, e) refl in
    omega (arith, high, is)

pub pointer_low : (passes : ℕ → Bool) (m : Memory) (end b o i : ℕ)
    → is_within passes m (i + 1) (Ptr b o) ≡ true → capacity_of (live_of end m) b < 2 ^ 32 → (o + i) % 2 ^ 32 ≡ o + i
unfolding is_within
pointer_low passes m end b o i h small =
    let low : o + i < capacity_of (live_of end m) b = inside_low m end b o i (slice_get m.blocks b) refl h in
    omega (arith, low, small)

got : {A : Type 0} (xs : List A) (i : ℕ) (x : A) → slice_get xs i ≡ Some x → i < length xs
got [] i x h = absurd (cc)
got (y ∷ ys) zero x h = omega arith
got (y ∷ ys) (suc i) x h = let l = got ys i x h in omega (arith, l)

there_in : (m : Memory) (end b o n : ℕ) (r : Option Block) → slice_get m.blocks b ≡ r → is_inside_one o n r ≡ true
    → b < length (live_of end m).blocks
there_in m end b o n None e h = absurd (cc)
there_in m end b o n (Some k) e h =
    let is : slice_get (map life_of m.blocks) b ≡ Some (life_of k) =
    slice_get-map life_of m.blocks b ∙ ap (option_map life_of) e in
    got (map life_of m.blocks) b (life_of k) is

pub block_there : (passes : ℕ → Bool) (m : Memory) (end b o n : ℕ) → is_within passes m n (Ptr b o) ≡ true
    → b < length (live_of end m).blocks
unfolding is_within
block_there passes m end b o n h = there_in m end b o n (slice_get m.blocks b) refl h

-- the number of the byte at its own place
known_one : (m : Memory) (o : ℕ) (r : Option Block) → is_inside_one o 1 r ≡ true → known_in o r ≡ number_in_block o r
known_one m o None h = absurd (cc)
known_one m o (Some k) h = rw h refl

first_of : (o i : ℕ) (r : Option Block) → is_inside_one o (i + 1) r ≡ true → is_inside_one (o + i) 1 r ≡ true
first_of o i None h = h
first_of o i (Some k) h =
    let parts : (k.lives ≡ true) × (nat_le (o + (i + 1)) (cells.capacity_of k) ≡ true) = and_parts _ _ h in
    let high : o + (i + 1) ≤ cells.capacity_of k = leb-true (o + (i + 1)) (cells.capacity_of k) parts.1 in
    let test : nat_le (o + i + 1) (cells.capacity_of k) ≡ true =
    le-leb (o + i + 1) (cells.capacity_of k) (omega (arith, high)) in
    rw (parts.0, test) refl

pub byte_known : (file : List ℕ) (m : Memory) (at place : Value) (i : ℕ)
    → is_within (is_plain file) m (i + 1) at ≡ true → place ≡ behind_by i at
    → IsLow (behind_by i at) → known (is_plain file) m place 0 ≡ number_at m at i
unfolding known is_within
byte_known file m at place i h e low = rw e (by_kind at h low)
  where
    by_kind : (at : Value) → is_within (is_plain file) m (i + 1) at ≡ true → IsLow (behind_by i at)
        → known (is_plain file) m (behind_by i at) 0 ≡ number_at m at i
    by_kind (Num a) h low =
        let plain : is_plain file (a + i) ≡ true =
        each_passes (is_plain file) a (i + 1) h (a + i) (omega arith) (omega arith) in
        let same : (a + i + 0) % 2 ^ 32 ≡ a + i = omega (arith, low) in
        rw (same, plain) refl
    by_kind (Ptr b o) h low =
        let same : (o + i + 0) % 2 ^ 32 ≡ o + i = omega (arith, low) in
        rw same (known_one m (o + i) (slice_get m.blocks b) (first_of o i (slice_get m.blocks b) h))
    by_kind (Ret r) h low = absurd (cc)
    by_kind (Mix l) h low = absurd (cc)
    by_kind (Part s j) h low = absurd (cc)
    by_kind Unset h low = absurd (cc)

-- the start of a buffer
pub behind_zero : (at : Value) → behind_by 0 at ≡ at
behind_zero (Num a) = ap Num (omega arith)
behind_zero (Ptr b o) = ap (Ptr b) (omega arith)
behind_zero (Ret r) = refl
behind_zero (Mix l) = refl
behind_zero (Part s j) = refl
behind_zero Unset = refl

-- fewer bytes of a buffer
fewer : (o n k : ℕ) (r : Option Block) → k ≤ n → is_inside_one o n r ≡ true → is_inside_one o k r ≡ true
fewer o n k None le h = absurd (cc)
fewer o n k (Some b) le h =
    let parts : (b.lives ≡ true) × (nat_le (o + n) (cells.capacity_of b) ≡ true) = and_parts _ _ h in
    let high : o + n ≤ cells.capacity_of b = leb-true (o + n) (cells.capacity_of b) parts.1 in
    let test : nat_le (o + k) (cells.capacity_of b) ≡ true =
    le-leb (o + k) (cells.capacity_of b) (omega (arith, high, le)) in
    rw (parts.0, test) refl

pub shorter : (passes : ℕ → Bool) (m : Memory) (n k : ℕ) (at : Value) → is_within passes m n at ≡ true → k ≤ n
    → is_within passes m k at ≡ true
unfolding is_within
shorter passes m n k (Num a) h le = all_pass passes a k (λ x low high. each_passes passes a n h x low (omega arith))
shorter passes m n k (Ptr b o) h le = fewer o n k (slice_get m.blocks b) le h
shorter passes m n k (Ret r) h le = absurd (cc)
shorter passes m n k (Mix l) h le = absurd (cc)
shorter passes m n k (Part s j) h le = absurd (cc)
shorter passes m n k Unset h le = absurd (cc)

-- the bytes of a buffer, where the first is known or not
numbers_some : (cells : Cells) (o k l b : ℕ) → k ≡ suc l → number_in (mark_at cells o) ≡ Some b
    → is_some (numbers_from cells o k) ≡ is_some (numbers_from cells (o + 1) l)
numbers_some cells o zero l b e h = absurd (omega arith)
numbers_some cells o (suc k) l b e h =
    let same : k ≡ l = omega arith in
    rw (h, same) (by_rest (numbers_from cells (o + 1) l))
  where
    by_rest : (r : Option (List ℕ)) → is_some (option_map (λ bs. b ∷ bs) r) ≡ is_some r
    by_rest (Some bs) = refl
    by_rest None = refl

numbers_none : (cells : Cells) (o k l : ℕ) → k ≡ suc l → number_in (mark_at cells o) ≡ None
    → is_some (numbers_from cells o k) ≡ false
numbers_none cells o zero l e h = absurd (omega arith)
numbers_none cells o (suc k) l e h = rw h refl

pub known_step : (m : Memory) (at : Value) (n i b : ℕ) → i < n → number_at m at i ≡ Some b
    → is_some (taken m (n - i) (behind_by i at)) ≡ is_some (taken m (n - (i + 1)) (behind_by (i + 1) at))
unfolding taken
known_step m (Num a) n i b l h =
    let next : a + (i + 1) ≡ a + i + 1 = omega arith in
    rw next (numbers_some (cell_at m.plain) (a + i) (n - i) (n - (i + 1)) b (omega arith) h)
known_step m (Ptr c o) n i b l h = by_block (slice_get m.blocks c) h
  where
    by_block : (r : Option Block) → number_in_block (o + i) r ≡ Some b
        → is_some (numbers_in (o + i) (n - i) r) ≡ is_some (numbers_in (o + (i + 1)) (n - (i + 1)) r)
    by_block (Some k) h =
        let next : o + (i + 1) ≡ o + i + 1 = omega arith in
        rw next (numbers_some (cell_in k.cells) (o + i) (n - i) (n - (i + 1)) b (omega arith) h)
    by_block None h = refl
known_step m (Ret r) n i b l h = refl
known_step m (Mix x) n i b l h = refl
known_step m (Part s j) n i b l h = refl
known_step m Unset n i b l h = refl

pub unknown_step : (m : Memory) (at : Value) (n i : ℕ) → i < n → number_at m at i ≡ None
    → is_some (taken m (n - i) (behind_by i at)) ≡ false
unfolding taken
unknown_step m (Num a) n i l h = numbers_none (cell_at m.plain) (a + i) (n - i) (n - (i + 1)) (omega arith) h
unknown_step m (Ptr c o) n i l h = by_block (slice_get m.blocks c) h
  where
    by_block : (r : Option Block) → number_in_block (o + i) r ≡ None → is_some (numbers_in (o + i) (n - i) r) ≡ false
    by_block (Some k) h = numbers_none (cell_in k.cells) (o + i) (n - i) (n - (i + 1)) (omega arith) h
    by_block None h = refl
unknown_step m (Ret r) n i l h = refl
unknown_step m (Mix x) n i l h = refl
unknown_step m (Part s j) n i l h = refl
unknown_step m Unset n i l h = refl

pub known_all : (passes : ℕ → Bool) (m : Memory) (at : Value) (n i : ℕ) → is_within passes m n at ≡ true → i ≡ n
    → is_some (taken m (n - i) (behind_by i at)) ≡ true
unfolding taken is_within
known_all passes m (Num a) n i h e = let none : n - i ≡ 0 = omega arith in rw none refl
known_all passes m (Ptr c o) n i h e = by_block (slice_get m.blocks c) h
  where
    by_block : (r : Option Block) → is_inside_one o n r ≡ true → is_some (numbers_in (o + i) (n - i) r) ≡ true
    by_block (Some k) h = let none : n - i ≡ 0 = omega arith in rw none refl
    by_block None h = absurd (cc)
known_all passes m (Ret r) n i h e = absurd (cc)
known_all passes m (Mix x) n i h e = absurd (cc)
known_all passes m (Part s j) n i h e = absurd (cc)
known_all passes m Unset n i h e = absurd (cc)
