-- Which blocks live, after stores, grants, copies and deaths.
use Rattle.std.proofs.Common.{◌≡◌, ℕ, zero, suc, ◌+◌, ◌*◌, Bool, true, false, ◌&&◌, List, [], ◌∷◌, ◌++◌, length, map}
use Rattle.std.proofs.Common.{refl, ap, sym, ◌∙◌}
use Rattle.std.specs.Prelude.{Option, Some, None, option_map, option_and_then, slice_get, slice_set, if◌then◌else◌}
use Rattle.std.specs.Prelude.{nat_le}
use Rattle.std.proofs.lemmas.List.{map-append}
use Rattle.rv_isa.specs.declared.Width.{Width}
use Rattle.rv_isa.specs.declared.Width.TheVariants.{ByteU}
use Rattle.machine_spec.specs.Memory.{all_from}
use Rattle.machine_spec.specs.Widths.{size_of}
use Rattle.sym_value.specs.declared.Value.{Value}
use Rattle.sym_value.specs.declared.Value.TheVariants.{Num, Ptr, Ret, Mix, Part, Unset}
use Rattle.sym_value.specs.Places.{is_living, lives_in}
use Rattle.sym_cells.specs.Cells.{cell_in}
use Rattle.sym_cells.specs.Moves.{store, load_at}
use Rattle.sym_cells.specs.Memory.{Block, Memory, is_aligned, is_inside, life_of, live_of, loaded_in, loaded}
use Rattle.sym_cells.specs.Memory.{store_plain, stored_in, stored, granted, died, dropped, set_block, overlaid}
use Rattle.sym_cells.specs.Memory.{overlaid_block, copied}
use Rattle.sym_cells.specs.Buffers.{is_inside_one, is_within, next_byte, stored_each, filled}

-- which blocks live, by their names
abbrev pub lives : Memory → List Bool
lives m = map (λ k. k.lives) m.blocks

-- a block lives
abbrev pub IsAlive : List Bool → ℕ → Type 0
IsAlive ls b = slice_get ls b ≡ Some true

-- an equation of cases
pub got : {A : Type 0} (x y : A) → Some x ≡ Some y → x ≡ y
got x y e = cc

-- a block that takes the place of one that lives alike
set_alike : (ks : List Block) (b : ℕ) (k l : Block) → slice_get ks b ≡ Some k → l.lives ≡ k.lives
    → map (λ k. k.lives) (slice_set ks b l) ≡ map (λ k. k.lives) ks
set_alike [] b k l is same = absurd cc
set_alike (j ∷ ks) zero k l is same = let here : j ≡ k = cc in
    ap (λ t. t ∷ map (λ k. k.lives) ks) (same ∙ ap (λ (x : Block). x.lives) (sym here))
set_alike (j ∷ ks) (suc b) k l is same = ap (λ t. j.lives ∷ t) (set_alike ks b k l is same)

get_life : (ks : List Block) (b : ℕ) → slice_get (map (λ k. k.lives) ks) b ≡ option_map (λ k. k.lives) (slice_get ks b)
get_life [] b = refl
get_life (k ∷ ks) zero = refl
get_life (k ∷ ks) (suc b) = get_life ks b

-- a block with bytes inside lives
inside_alive : (m : Memory) (b o n : ℕ) → is_inside_one o n (slice_get m.blocks b) ≡ true → IsAlive (lives m) b
inside_alive m b o n h = get_life m.blocks b ∙ by_block (slice_get m.blocks b) h
  where
    by_lives : (t u : Bool) → (t && u) ≡ true → t ≡ true
    by_lives true u h = refl
    by_lives false u h = absurd cc

    by_block : (k : Option Block) → is_inside_one o n k ≡ true → option_map (λ k. k.lives) k ≡ Some true
    by_block None h = absurd cc
    by_block (Some k) h = ap (λ t. Some t) (by_lives k.lives (nat_le (o + n) (4 * length k.cells)) h)

-- so does one of a load, of a store, and of a buffer
pub loaded_alive : (plain : ℕ → Bool) (m : Memory) (width : Width) (b o : ℕ) (x : Value)
    → loaded plain m width (Ptr b o) ≡ Some x → IsAlive (lives m) b
unfolding loaded
loaded_alive plain m width b o x is = inside_alive m b o (size_of width) (by_block (slice_get m.blocks b) is)
  where
    by_test : (k : Block) (t u : Bool)
        → (if t && u then Some (load_at width o (cell_in k.cells)) else None) ≡ Some x → u ≡ true
    by_test k true true is = refl
    by_test k true false is = absurd cc
    by_test k false true is = refl
    by_test k false false is = absurd cc

    by_block : (k : Option Block) → loaded_in width o k ≡ Some x → is_inside_one o (size_of width) k ≡ true
    by_block None is = absurd cc
    by_block (Some k) is = by_test k (is_aligned width o) (is_inside k o (size_of width)) is

pub stored_alive : (storable : ℕ → Bool) (m n : Memory) (width : Width) (b o : ℕ) (v : Value)
    → stored storable m width (Ptr b o) v ≡ Some n → IsAlive (lives m) b
unfolding stored
stored_alive storable m n width b o v is = inside_alive m b o (size_of width) (by_block (slice_get m.blocks b) is)
  where
    by_test : (k : Block) (t u : Bool)
        → option_map (λ k. record m { blocks = slice_set m.blocks b k })
        (if t && u then Some (record k { cells = store width o v k.cells }) else None) ≡ Some n → u ≡ true
    by_test k true true is = refl
    by_test k true false is = absurd cc
    by_test k false true is = refl
    by_test k false false is = absurd cc

    by_block : (k : Option Block)
        → option_map (λ k. record m { blocks = slice_set m.blocks b k }) (stored_in width o v k) ≡ Some n
        → is_inside_one o (size_of width) k ≡ true
    by_block None is = absurd cc
    by_block (Some k) is = by_test k (is_aligned width o) (is_inside k o (size_of width)) is

pub within_alive : (passes : ℕ → Bool) (m : Memory) (n b o : ℕ) → is_within passes m n (Ptr b o) ≡ true
    → IsAlive (lives m) b
unfolding is_within
within_alive passes m n b o h = inside_alive m b o n h

-- a store leaves the same blocks alive
pub stored_lives : (storable : ℕ → Bool) (m n : Memory) (width : Width) (p v : Value)
    → stored storable m width p v ≡ Some n → lives n ≡ lives m
unfolding stored
stored_lives storable m n width (Num a) v is = by_test (is_aligned width a && all_from storable a (size_of width)) is
  where
    by_test : (t : Bool) → (if t then Some (record m { plain = store_plain width a v m.plain }) else None) ≡ Some n
        → lives n ≡ lives m
    by_test true is = ap lives (sym (got (record m { plain = store_plain width a v m.plain }) n is))
    by_test false is = absurd cc
stored_lives storable m n width (Ptr b o) v is = by_block (slice_get m.blocks b) refl is
  where
    by_test : (k : Block) (t : Bool) → slice_get m.blocks b ≡ Some k
        → option_map (λ k. record m { blocks = slice_set m.blocks b k })
        (if t then Some (record k { cells = store width o v k.cells }) else None) ≡ Some n → lives n ≡ lives m
    by_test k true at is =
        ap lives (sym (got (record m {
          blocks = slice_set m.blocks b
              (record k { cells = store width o v k.cells });
        }) n is))
        ∙ set_alike m.blocks b k (record k { cells = store width o v k.cells }) at refl
    by_test k false at is = absurd cc

    by_block : (k : Option Block) → slice_get m.blocks b ≡ k
        → option_map (λ k. record m { blocks = slice_set m.blocks b k }) (stored_in width o v k) ≡ Some n
        → lives n ≡ lives m
    by_block None at is = absurd cc
    by_block (Some k) at is = by_test k (is_aligned width o && is_inside k o (size_of width)) at is
stored_lives storable m n width (Ret r) v is = absurd cc
stored_lives storable m n width (Mix l) v is = absurd cc
stored_lives storable m n width (Part s j) v is = absurd cc
stored_lives storable m n width Unset v is = absurd cc

-- so do stores one after the other
each_lives : (storable : ℕ → Bool) (bs : List ℕ) (p : Value) (m n : Memory)
    → stored_each storable bs p m ≡ Some n → lives n ≡ lives m
each_lives storable [] p m n is = ap lives (sym (got m n is))
each_lives storable (b ∷ bs) p m n is =
    by_first (stored storable m ByteU p (Num b)) refl is (λ k. each_lives storable bs (next_byte p) k n)
  where
    by_first : (r : Option Memory) → stored storable m ByteU p (Num b) ≡ r
        → option_and_then (stored_each storable bs (next_byte p)) r ≡ Some n
        → ((k : Memory) → stored_each storable bs (next_byte p) k ≡ Some n → lives n ≡ lives k) → lives n ≡ lives m
    by_first None first is later = absurd cc
    by_first (Some k) first is later = later k is ∙ stored_lives storable m k ByteU p (Num b) first

-- and a read into a buffer, which is in one that lives
pub filled_lives : (storable : ℕ → Bool) (m n : Memory) (size : ℕ) (bs : List ℕ) (p : Value)
    → filled storable m size bs p ≡ Some n → (lives n ≡ lives m) × (is_within storable m size p ≡ true)
unfolding filled
filled_lives storable m n size bs p is = by_test (is_within storable m size p) is
  where
    by_test : (t : Bool) → (if t then stored_each storable bs p m else None) ≡ Some n → (lives n ≡ lives m) × (t ≡ true)
    by_test true is = (each_lives storable bs p m n is, refl)
    by_test false is = absurd cc

-- a copy leaves the same blocks alive
pub copied_lives : (from onto : ℕ) (m : Memory) → lives (copied from onto m) ≡ lives m
unfolding copied
copied_lives from onto m = by_blocks (slice_get m.blocks from) (slice_get m.blocks onto) refl
  where
    by_blocks : (k l : Option Block) → slice_get m.blocks onto ≡ l
        → map (λ k. k.lives) (set_block onto (overlaid_block k l) m.blocks) ≡ map (λ k. k.lives) m.blocks
    by_blocks None None e = refl
    by_blocks (Some k) None e = refl
    by_blocks None (Some l) e = set_alike m.blocks onto l l e refl
    by_blocks (Some k) (Some l) e = set_alike m.blocks onto l (record l { cells = overlaid k.cells l.cells }) e refl

-- a grant adds a living block
pub granted_lives : (need : ℕ) (m : Memory) → lives (granted need m) ≡ lives m ++ true ∷ []
unfolding granted
granted_lives need m = map-append (λ k. k.lives) m.blocks _

-- a death ends one
pub dropped_lives : (b : ℕ) (m : Memory) → lives (dropped b m) ≡ slice_set (lives m) b false
unfolding dropped
dropped_lives b m = by_blocks m.blocks b
  where
    later : (k : Block) (ks : List Block) (b : ℕ) (r : Option Block)
        → map (λ k. k.lives) (set_block (suc b) (option_map died r) (k ∷ ks))
        ≡ k.lives ∷ map (λ k. k.lives) (set_block b (option_map died r) ks)
    later k ks b None = refl
    later k ks b (Some l) = refl

    by_blocks : (ks : List Block) (b : ℕ) → map (λ k. k.lives) (set_block b (option_map died (slice_get ks b)) ks)
        ≡ slice_set (map (λ k. k.lives) ks) b false
    by_blocks [] b = refl
    by_blocks (k ∷ ks) zero = refl
    by_blocks (k ∷ ks) (suc b) = later k ks b (slice_get ks b) ∙ ap (λ t. k.lives ∷ t) (by_blocks ks b)

-- what values see of a life
pub living_alive : (end : ℕ) (m : Memory) (b : ℕ) → is_living (live_of end m) b ≡ true → IsAlive (lives m) b
living_alive end m b h = by_blocks m.blocks b h
  where
    by_blocks : (ks : List Block) (b : ℕ) → lives_in (slice_get (map life_of ks) b) ≡ true
        → slice_get (map (λ k. k.lives) ks) b ≡ Some true
    by_blocks [] b h = absurd cc
    by_blocks (k ∷ ks) zero h = ap (λ t. Some t) h
    by_blocks (k ∷ ks) (suc b) h = by_blocks ks b h
