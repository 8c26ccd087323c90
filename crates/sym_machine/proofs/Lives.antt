-- Which blocks live, and where they stand, after stores, grants, copies and deaths.
use Rattle.std.proofs.Common.{◌≡◌, ◌≢◌, ◌⊎◌, inl, inr, ℕ, zero, suc, ◌+◌, ◌*◌, ◌<◌, ◌≤◌, Bool, true, false, ◌&&◌, List}
use Rattle.std.proofs.Common.{[], ◌∷◌, ◌++◌, length, map, refl, ap, sym, ◌∙◌, arith, length-append}
use Rattle.std.specs.Prelude.{Option, Some, None, option_map, slice_get, slice_index, slice_set, if◌then◌else◌, drop}
use Rattle.std.specs.Prelude.{take}
use Rattle.std.proofs.lemmas.List.{length-drop, length-map, length-set, length-take}
use Rattle.std.proofs.lemmas.Option.{slice_get-map, slice_get_past, slice_get_within}
use Rattle.rv_isa.specs.declared.Width.{Width}
use Rattle.machine_spec.specs.Memory.{all_from}
use Rattle.plan_core.specs.declared.types.Plan.{Plan}
use Rattle.place_model.specs.Heap.{Heap, LivesAt}
use Rattle.sym_value.specs.declared.Value.{Value}
use Rattle.sym_value.specs.declared.Value.TheVariants.{Num, Ptr, Ret, Mix, Part, Unset}
use Rattle.sym_value.specs.Places.{is_living, lives_in}
use Rattle.sym_cells.specs.Cells.{Cell}
use Rattle.sym_cells.specs.Moves.{store}
use Rattle.sym_cells.specs.Memory.{Block, Memory, is_aligned, is_inside, life_of, live_of, store_plain, stored_in}
use Rattle.sym_cells.specs.Memory.{stored, granted, died, dropped, set_block, overlaid, overlaid_block, copied}
use Rattle.rv_isa.specs.declared.Width.{Width}
use Rattle.machine_spec.specs.Widths.{size_of}
use Rattle.sym_cells.proofs.Lists.{length-store}
use Rattle.sym_memory.specs.Held.{memory_after}
use Rattle.sym_memory.specs.Kept.{is_alive}
use Rattle.plan_core.specs.Plan.{granules}
use Rattle.sym_spec.specs.HeapActions.{base}
use Rattle.sym_machine.specs.Placing.{block_lives, HasPlaces}

-- a list whose element is set, and one with one more element
pub map_set : {A B : Type 0} (f : A → B) (xs : List A) (i : ℕ) (x y : A) → slice_get xs i ≡ Some x → f y ≡ f x
    → map f (slice_set xs i y) ≡ map f xs
map_set f [] i x y e h = absurd (cc)
map_set f (z ∷ zs) zero x y e h = let same : z ≡ x = cc in rw (h, same) refl
map_set f (z ∷ zs) (suc i) x y e h = ap (λ t. f z ∷ t) (map_set f zs i x y e h)

get_set : {A : Type 0} (xs : List A) (i : ℕ) (x y : A) → slice_get xs i ≡ Some x
    → slice_get (slice_set xs i y) i ≡ Some y
get_set [] i x y e = absurd (cc)
get_set (z ∷ zs) zero x y e = refl
get_set (z ∷ zs) (suc i) x y e = get_set zs i x y e

get_other : {A : Type 0} (xs : List A) (i j : ℕ) (y : A) → j ≢ i → slice_get (slice_set xs i y) j ≡ slice_get xs j
get_other [] i j y n = refl
get_other (z ∷ zs) zero zero y n = absurd (n refl)
get_other (z ∷ zs) zero (suc j) y n = refl
get_other (z ∷ zs) (suc i) zero y n = refl
get_other (z ∷ zs) (suc i) (suc j) y n = get_other zs i j y (λ e. n (ap suc e))

get_front : {A : Type 0} (xs ys : List A) (b : ℕ) → b < length xs → slice_get (xs ++ ys) b ≡ slice_get xs b
get_front [] ys b l = absurd (omega arith)
get_front (x ∷ xs) ys zero l = refl
get_front (x ∷ xs) ys (suc b) l = get_front xs ys b (omega arith)

get_last : {A : Type 0} (xs : List A) (y : A) → slice_get (xs ++ y ∷ []) (length xs) ≡ Some y
get_last [] y = refl
get_last (x ∷ xs) y = get_last xs y

pub index_front : (xs ys : List ℕ) (b : ℕ) → b < length xs → slice_index (xs ++ ys) b ≡ slice_index xs b
index_front [] ys b l = absurd (omega arith)
index_front (x ∷ xs) ys zero l = refl
index_front (x ∷ xs) ys (suc b) l = index_front xs ys b (omega arith)

pub index_last : (xs : List ℕ) (y : ℕ) → slice_index (xs ++ y ∷ []) (length xs) ≡ y
index_last [] y = refl
index_last (x ∷ xs) y = index_last xs y

pub set_last : (xs : List ℕ) (x y n : ℕ) → n ≡ length xs → slice_set (xs ++ x ∷ []) n y ≡ xs ++ y ∷ []
set_last [] x y n e = rw e refl
set_last (z ∷ zs) x y zero e = absurd (omega arith)
set_last (z ∷ zs) x y (suc n) e = ap (λ t. z ∷ t) (set_last zs x y n (omega arith))

-- below a number, that number, or above
compared : (n b : ℕ) → (b < n) ⊎ (b ≡ n) ⊎ (n < b)
compared zero zero = inr (inl refl)
compared zero (suc b) = inr (inr (omega arith))
compared (suc n) zero = inl (omega arith)
compared (suc n) (suc b) = next (compared n b)
  where
    next : (b < n) ⊎ (b ≡ n) ⊎ (n < b) → (suc b < suc n) ⊎ (suc b ≡ suc n) ⊎ (suc n < suc b)
    next (inl l) = inl (omega (arith, l))
    next (inr (inl e)) = inr (inl (ap suc e))
    next (inr (inr l)) = inr (inr (omega (arith, l)))

-- a block that lives has a name
pub named : (m : Memory) (b : ℕ) → block_lives m b ≡ true → b < length m.blocks
named m b h = by_block (slice_get m.blocks b) refl h
  where
    by_block : (r : Option Block) → slice_get m.blocks b ≡ r → is_alive r ≡ true → b < length m.blocks
    by_block None e h = absurd (cc)
    by_block (Some k) e h = slice_get_within m.blocks b k e

-- a block lives as values see it
alive_life : (r : Option Block) → is_alive r ≡ lives_in (option_map life_of r)
alive_life None = refl
alive_life (Some k) = refl

pub by_life : (m : Memory) (b : ℕ) → block_lives m b ≡ lives_in (slice_get (map life_of m.blocks) b)
by_life m b = alive_life (slice_get m.blocks b) ∙ ap lives_in (sym (slice_get-map life_of m.blocks b))

pub living_is : (end : ℕ) (m : Memory) (b : ℕ) → is_living (live_of end m) b ≡ block_lives m b
living_is end m b = sym (by_life m b)

pub not_named : (end : ℕ) (m : Memory) (b : ℕ) → length m.blocks ≤ b → is_living (live_of end m) b ≡ false
not_named end m b l = rw (living_is end m b, slice_get_past m.blocks b l) refl

pub same_lives : (m after : Memory) (b : ℕ) → map life_of after.blocks ≡ map life_of m.blocks
    → block_lives after b ≡ block_lives m b
same_lives m after b e = by_life after b ∙ ap (λ ls. lives_in (slice_get ls b)) e ∙ sym (by_life m b)

pub same_names : (m after : Memory) → map life_of after.blocks ≡ map life_of m.blocks
    → length after.blocks ≡ length m.blocks
same_names m after e = sym (length-map after.blocks life_of) ∙ ap length e ∙ length-map m.blocks life_of

-- where the lives stay, so do the places
pub still : (file : List ℕ) (plan : Plan) (heap : Heap) (m after : Memory) (at : List ℕ)
    → map life_of after.blocks ≡ map life_of m.blocks → HasPlaces file plan heap m at
    → HasPlaces file plan heap after at
still file plan heap m after at e h = record {
  rows = h.rows;
  area = h.area;
  base_is = h.base_is;
  small = h.small;
  one_each = h.one_each ∙ sym (same_names m after e);
  stand = λ b l. h.stand b (sym (same_lives m after b e) ∙ l);
  apart = λ b c l k s. h.apart b c (sym (same_lives m after b e) ∙ l) (sym (same_lives m after c e) ∙ k) s;
}

-- a store keeps the lives
pub stored_lives : (storable : ℕ → Bool) (width : Width) (m : Memory) (p v : Value)
    → map life_of (memory_after (stored storable m width p v) m).blocks ≡ map life_of m.blocks
unfolding stored
stored_lives storable width m (Num a) v = by_test (is_aligned width a && all_from storable a (size_of width))
  where
    by_test : (t : Bool) → map life_of (memory_after (if t then Some
        (record m { plain = store_plain width a v m.plain }) else None) m).blocks
        ≡ map life_of m.blocks
    by_test true = refl
    by_test false = refl
stored_lives storable width m (Ptr b o) v = by_block (slice_get m.blocks b) refl
  where
    by_inside : (k : Block) (t : Bool) → slice_get m.blocks b ≡ Some k
        → map life_of (memory_after (option_map (λ k. record m { blocks = slice_set m.blocks b k })
        (if t then Some (record k { cells = store width o v k.cells }) else None)) m).blocks
        ≡ map life_of m.blocks
    by_inside k true e =
        map_set life_of m.blocks b k (record k { cells = store width o v k.cells }) e
        (ap (λ n. record (life_of k) { capacity = 4 * n }) (length-store width o v k.cells))
    by_inside k false e = refl

    by_block : (r : Option Block) → slice_get m.blocks b ≡ r
        → map life_of (memory_after (option_map (λ k. record m { blocks = slice_set m.blocks b k })
        (stored_in width o v r)) m).blocks
        ≡ map life_of m.blocks
    by_block None e = refl
    by_block (Some k) e = by_inside k (is_aligned width o && is_inside k o (size_of width)) e
stored_lives storable width m (Ret r) v = refl
stored_lives storable width m (Mix l) v = refl
stored_lives storable width m (Part s j) v = refl
stored_lives storable width m Unset v = refl

pub store_keeps : (file : List ℕ) (plan : Plan) (heap : Heap) (m : Memory) (at : List ℕ) (storable : ℕ → Bool)
    (width : Width) (p v : Value)
    → HasPlaces file plan heap m at → HasPlaces file plan heap (memory_after (stored storable m width p v) m) at
store_keeps file plan heap m at storable width p v h =
    still file plan heap m (memory_after (stored storable m width p v) m) at (stored_lives storable width m p v) h

length-overlaid : (from onto : List Cell) → length (overlaid from onto) ≡ length onto
length-overlaid from onto =
    length-append (take (length onto) from) (drop (length from) onto)
    ∙ omega (arith, length-take (length onto) from, length-drop (length from) onto)

-- so does a copy
pub copied_lives : (from onto : ℕ) (m : Memory) → map life_of (copied from onto m).blocks ≡ map life_of m.blocks
unfolding copied
copied_lives from onto m = by_blocks (slice_get m.blocks from) (slice_get m.blocks onto) refl
  where
    by_blocks : (k l : Option Block) → slice_get m.blocks onto ≡ l
        → map life_of (set_block onto (overlaid_block k l) m.blocks) ≡ map life_of m.blocks
    by_blocks None None e = refl
    by_blocks (Some k) None e = refl
    by_blocks None (Some l) e = map_set life_of m.blocks onto l l e refl
    by_blocks (Some k) (Some l) e =
        map_set life_of m.blocks onto l (record l { cells = overlaid k.cells l.cells }) e
        (ap (λ n. record (life_of l) { capacity = 4 * n }) (length-overlaid k.cells l.cells))

pub copy_keeps : (file : List ℕ) (plan : Plan) (heap : Heap) (m : Memory) (at : List ℕ) (from onto : ℕ)
    → HasPlaces file plan heap m at → HasPlaces file plan heap (copied from onto m) at
copy_keeps file plan heap m at from onto h =
    still file plan heap m (copied from onto m) at (copied_lives from onto m) h

-- after a grant the old blocks live on, and the new one lives
pub granted_old : (need : ℕ) (m : Memory) (b : ℕ) → b < length m.blocks
    → block_lives (granted need m) b ≡ block_lives m b
unfolding granted
granted_old need m b l = ap is_alive (get_front m.blocks _ b l)

pub granted_new : (need : ℕ) (m : Memory) → block_lives (granted need m) (length m.blocks) ≡ true
unfolding granted
granted_new need m = ap is_alive (get_last m.blocks _)

pub granted_names : (need : ℕ) (m : Memory) → length (granted need m).blocks ≡ length m.blocks + 1
unfolding granted
granted_names need m = length-append m.blocks _

-- a living one is old or the new one
granted_is : (need : ℕ) (m : Memory) (b : ℕ) → block_lives (granted need m) b ≡ true
    → ((b < length m.blocks) × (block_lives m b ≡ true)) ⊎ (b ≡ length m.blocks)
granted_is need m b h = by_place (compared (length m.blocks) b)
  where
    by_place : (b < length m.blocks) ⊎ (b ≡ length m.blocks) ⊎ (length m.blocks < b)
        → ((b < length m.blocks) × (block_lives m b ≡ true)) ⊎ (b ≡ length m.blocks)
    by_place (inl l) = inl (l, sym (granted_old need m b l) ∙ h)
    by_place (inr (inl e)) = inr e
    by_place (inr (inr l)) =
        let past : slice_get (granted need m).blocks b ≡ None =
        slice_get_past (granted need m).blocks b (omega (arith, granted_names need m, l)) in
        absurd (let none : false ≡ true = sym (ap is_alive past) ∙ h in cc)

-- an address at which no block stood
module _ (file : List ℕ) (plan : Plan) (heap after : Heap) (m : Memory) (at : List ℕ) (need addr : ℕ)
    (h : HasPlaces file plan heap m at) (free : LivesAt heap addr → ⊥) where
  abbrev more : List ℕ
  more = at ++ addr ∷ []

  old_at : (b : ℕ) → b < length m.blocks → slice_index more b ≡ slice_index at b
  old_at b l = index_front at (addr ∷ []) b (omega (arith, h.one_each, l))

  new_at : (b : ℕ) → b ≡ length m.blocks → slice_index more b ≡ addr
  new_at b e = ap (slice_index more) (e ∙ sym h.one_each) ∙ index_last at addr

  new_apart : (b c : ℕ) → (b < length m.blocks) × (block_lives m b ≡ true) → c ≡ length m.blocks
      → slice_index more b ≡ slice_index more c → ⊥
  new_apart b c (l, k) e s =
      let same : slice_index at b ≡ addr = sym (old_at b l) ∙ s ∙ new_at c e in
      free (rw same at (h.stand b k))

  all_apart : (b c : ℕ) → ((b < length m.blocks) × (block_lives m b ≡ true)) ⊎ (b ≡ length m.blocks)
      → ((c < length m.blocks) × (block_lives m c ≡ true)) ⊎ (c ≡ length m.blocks)
      → slice_index more b ≡ slice_index more c → b ≡ c
  all_apart b c (inl x) (inl y) s = h.apart b c x.1 y.1 (sym (old_at b x.0) ∙ s ∙ old_at c y.0)
  all_apart b c (inl x) (inr e) s = absurd (new_apart b c x e s)
  all_apart b c (inr e) (inl y) s = absurd (new_apart c b y e (sym s))
  all_apart b c (inr e) (inr f) s = e ∙ sym f

  all_stand : LivesAt after addr → ((a : ℕ) → LivesAt heap a → LivesAt after a) → (b : ℕ)
      → ((b < length m.blocks) × (block_lives m b ≡ true)) ⊎ (b ≡ length m.blocks) → LivesAt after (slice_index more b)
  all_stand new others b (inl x) = rw (old_at b x.0) (others (slice_index at b) (h.stand b x.1))
  all_stand new others b (inr e) = rw (new_at b e) new

  pub grant_keeps : after.rows ≡ heap.rows → after.area ≡ heap.area → after.base ≡ heap.base → LivesAt after addr
      → ((a : ℕ) → LivesAt heap a → LivesAt after a) → HasPlaces file plan after (granted need m) (at ++ addr ∷ [])
  grant_keeps rows area base new others = record {
    rows = rows ∙ h.rows;
    area = area ∙ h.area;
    base_is = base ∙ h.base_is;
    small = h.small;
    one_each = omega (arith, length-append at (addr ∷ []), granted_names need m, h.one_each);
    stand = λ b l. all_stand new others b (granted_is need m b l);
    apart = λ b c l k s. all_apart b c (granted_is need m b l) (granted_is need m c k) s;
  }

-- after a death the other blocks live on
dropped_is : (b : ℕ) (m : Memory) (c : ℕ) → block_lives m b ≡ true → block_lives (dropped b m) c ≡ true
    → (c ≢ b) × (block_lives m c ≡ true)
unfolding dropped
dropped_is b m c h l = by_block (slice_get m.blocks b) refl h l
  where
    by_block : (r : Option Block) → slice_get m.blocks b ≡ r → is_alive r ≡ true
        → is_alive (slice_get (set_block b (option_map died r) m.blocks) c) ≡ true → (c ≢ b) × (block_lives m c ≡ true)
    by_block None e h l = absurd (cc)
    by_block (Some k) e h l = (other, sym (ap is_alive (get_other m.blocks b c (died k) other)) ∙ l)
      where
        other : c ≢ b
        other same =
            let dead : is_alive (slice_get (slice_set m.blocks b (died k)) c) ≡ false =
            ap (λ c. is_alive (slice_get (slice_set m.blocks b (died k)) c)) same
            ∙ ap is_alive (get_set m.blocks b k (died k) e) in
            let clash : false ≡ true = sym dead ∙ l in cc

dropped_names : (b : ℕ) (m : Memory) → length (dropped b m).blocks ≡ length m.blocks
unfolding dropped
dropped_names b m = by_block (slice_get m.blocks b)
  where
    by_block : (r : Option Block) → length (set_block b (option_map died r) m.blocks) ≡ length m.blocks
    by_block None = refl
    by_block (Some k) = length-set m.blocks b (died k)

pub drop_keeps : (file : List ℕ) (plan : Plan) (heap after : Heap) (m : Memory) (at : List ℕ) (b : ℕ)
    → HasPlaces file plan heap m at → block_lives m b ≡ true → after.rows ≡ heap.rows → after.area ≡ heap.area
    → after.base ≡ heap.base
    → ((a : ℕ) → a ≢ slice_index at b → LivesAt heap a → LivesAt after a)
    → HasPlaces file plan after (dropped b m) at
drop_keeps file plan heap after m at b h lives rows area base others = record {
  rows = rows ∙ h.rows;
  area = area ∙ h.area;
  base_is = base ∙ h.base_is;
  small = h.small;
  one_each = h.one_each ∙ sym (dropped_names b m);
  stand = λ c l. (let d = dropped_is b m c lives l in
      others (slice_index at c) (λ s. d.0 (h.apart c b d.1 lives s)) (h.stand c d.1));
  apart = λ c d l k s. h.apart c d (dropped_is b m c lives l).1 (dropped_is b m d lives k).1 s;
}

-- where there are no blocks
dead : (m : Memory) (b : ℕ) → m.blocks ≡ [] → block_lives m b ≡ true → ⊥
dead m b none l = let k : is_alive (slice_get {X = Block} [] b) ≡ true = rw none at l in cc

pub none_placed : (file : List ℕ) (plan : Plan) (heap : Heap) (m : Memory) → m.blocks ≡ [] → heap.rows ≡ plan.rows
    → heap.area ≡ plan.area → heap.base ≡ base file plan → granules plan.area ≤ 1048576 → HasPlaces file plan heap m []
none_placed file plan heap m none rows area base_is small = record {
  rows = rows;
  area = area;
  base_is = base_is;
  small = small;
  one_each = ap length (sym none);
  stand = λ b l. absurd (dead m b none l);
  apart = λ b c l k s. absurd (dead m b none l);
}
