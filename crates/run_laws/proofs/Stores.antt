-- Stores, grants, copies and deaths, as far as values see the blocks.
use Rattle.std.proofs.Common.{◌≡◌, ℕ, zero, suc, ◌*◌, List, [], ◌∷◌, ◌++◌, Bool, true, false, cond, length, map}
use Rattle.std.proofs.Common.{replicate, refl, ap, sym, ◌∙◌, arith}
use Rattle.std.specs.Prelude.{Option, Some, None, option_map, option_and_then, slice_get, slice_set, take, drop}
use Rattle.std.proofs.lemmas.List.{length-append, length-drop, length-replicate, length-take, map-append}
use Rattle.std.proofs.lemmas.Option.{get_or_from_slice_get}
use Rattle.std.proofs.Math.Seq.{map-set_same}
use Rattle.rv_isa.specs.declared.Width.{Width}
use Rattle.rv_isa.specs.declared.Width.TheVariants.{ByteU}
use Rattle.sym_value.specs.declared.Value.{Value}
use Rattle.sym_value.specs.declared.Value.TheVariants.{Num, Ptr, Ret, Mix, Part, Unset}
use Rattle.sym_value.specs.declared.live.Life.{Life}
use Rattle.sym_cells.specs.Cells.{Cell, blank_cell, zero_cell}
use Rattle.sym_cells.specs.Moves.{store}
use Rattle.sym_cells.specs.Memory.{Block, Memory, copied, died, dropped, granted, life_of, overlaid, overlaid_block}
use Rattle.sym_cells.specs.Memory.{set_block, store_plain, stored, stored_in}
use Rattle.sym_cells.specs.Buffers.{filled, is_within, next_byte, stored_each}
use Rattle.run_laws.specs.Turns.{new_life}

-- the blocks as values see them
abbrev pub lives : Memory → List Life
lives m = map life_of m.blocks

-- a store keeps how many cells there are
abbrev pub KeepsCells : Type 0
KeepsCells = (cells : List Cell) (width : Width) (o : ℕ) (v : Value) → length (store width o v cells) ≡ length cells

-- a store keeps the blocks
pub stored_lives : KeepsCells → (storable : ℕ → Bool) (m n : Memory) (width : Width) (p v : Value)
    → stored storable m width p v ≡ Some n → lives n ≡ lives m
unfolding stored
stored_lives as_many storable m n width (Num a) v e = at _ e
  where
    at : (t : Bool) → cond t (Some (record m { plain = store_plain width a v m.plain })) None ≡ Some n
        → lives n ≡ lives m
    at true e =
        let same : record m { plain = store_plain width a v m.plain } ≡ n = cc in
        ap lives (sym same)
    at false e = absurd (cc)
stored_lives as_many storable m n width (Ptr b o) v e = at (slice_get m.blocks b) refl e
  where
    in_block : (k : Block) → slice_get m.blocks b ≡ Some k → (t : Bool)
        → option_map (λ l. record m { blocks = slice_set m.blocks b l })
        (cond t (Some (record k { cells = store width o v k.cells })) None) ≡ Some n → lives n ≡ lives m
    in_block k q true e =
        let same : record m { blocks = slice_set m.blocks b (record k { cells = store width o v k.cells }) } ≡ n = cc in
        let life : life_of (record k { cells = store width o v k.cells }) ≡ life_of k =
        ap (λ c. record { capacity = 4 * c; lives = k.lives }) (as_many k.cells width o v) in
        ap lives (sym same)
        ∙ map-set_same life_of m.blocks b (record k { cells = store width o v k.cells }) k
        (life ∙ ap life_of (sym (get_or_from_slice_get m.blocks b k k q)))
    in_block k q false e = absurd (cc)

    at : (r : Option Block) → slice_get m.blocks b ≡ r
        → option_map (λ l. record m { blocks = slice_set m.blocks b l }) (stored_in width o v r) ≡ Some n
        → lives n ≡ lives m
    at (Some k) q e = in_block k q _ e
    at None q e = absurd (cc)
stored_lives as_many storable m n width (Ret a) v e = absurd (cc)
stored_lives as_many storable m n width (Mix l) v e = absurd (cc)
stored_lives as_many storable m n width (Part s i) v e = absurd (cc)
stored_lives as_many storable m n width Unset v e = absurd (cc)

-- and so does a read into a buffer
each_lives : KeepsCells → (storable : ℕ → Bool) (bs : List ℕ) (p : Value) (m n : Memory)
    → stored_each storable bs p m ≡ Some n → lives n ≡ lives m
each_lives as_many storable [] p m n e = let same : m ≡ n = cc in ap lives (sym same)
each_lives as_many storable (b ∷ bs) p m n e =
    at (λ k. each_lives as_many storable bs (next_byte p) k n) (stored storable m ByteU p (Num b)) refl e
  where
    at : ((k : Memory) → stored_each storable bs (next_byte p) k ≡ Some n → lives n ≡ lives k)
        → (o : Option Memory) → stored storable m ByteU p (Num b) ≡ o
        → option_and_then (stored_each storable bs (next_byte p)) o ≡ Some n → lives n ≡ lives m
    at ih (Some k) q e = ih k e ∙ stored_lives as_many storable m k ByteU p (Num b) q
    at ih None q e = absurd (cc)

pub filled_lives : KeepsCells → (storable : ℕ → Bool) (m n : Memory) (size : ℕ) (bs : List ℕ) (p : Value)
    → filled storable m size bs p ≡ Some n → lives n ≡ lives m
unfolding filled
filled_lives as_many storable m n size bs p e = at (is_within storable m size p) e
  where
    at : (t : Bool) → cond t (stored_each storable bs p m) None ≡ Some n → lives n ≡ lives m
    at true e = each_lives as_many storable bs p m n e
    at false e = absurd (cc)

-- a grant
pub granted_lives : (need : ℕ) (m : Memory) → lives (granted need m) ≡ lives m ++ new_life need ∷ []
unfolding granted
granted_lives need m =
    let long = length-replicate (4 * need) zero_cell in
    let size : 4 * length (replicate (4 * need) zero_cell) ≡ 16 * need = omega (arith, long) in
    map-append life_of m.blocks _ ∙ ap (λ c. lives m ++ record { capacity = c; lives = true } ∷ []) size

-- a copy
length-overlaid : (from onto : List Cell) → length (overlaid from onto) ≡ length onto
length-overlaid from onto =
    let both = length-append (take (length onto) from) (drop (length from) onto) in
    let front = length-take (length onto) from in
    let back = length-drop (length from) onto in
    omega (arith, both, front, back)

pub copied_lives : (from onto : ℕ) (m : Memory) → lives (copied from onto m) ≡ lives m
unfolding copied
copied_lives from onto m = by_blocks (slice_get m.blocks from) (slice_get m.blocks onto) refl
  where
    same : (l n : Block) → slice_get m.blocks onto ≡ Some l → life_of n ≡ life_of l
        → map life_of (slice_set m.blocks onto n) ≡ map life_of m.blocks
    same l n there life =
        map-set_same life_of m.blocks onto n l (life ∙ ap life_of (sym (get_or_from_slice_get m.blocks onto l l there)))

    by_blocks : (k l : Option Block) → slice_get m.blocks onto ≡ l
        → map life_of (set_block onto (overlaid_block k l) m.blocks) ≡ map life_of m.blocks
    by_blocks None None there = refl
    by_blocks (Some k) None there = refl
    by_blocks None (Some l) there = same l l there refl
    by_blocks (Some k) (Some l) there =
        same l (record l { cells = overlaid k.cells l.cells }) there
        (ap (λ n. record { capacity = 4 * n; lives = l.lives }) (length-overlaid k.cells l.cells))

-- a death
abbrev pub dead : Life → Life
dead k = record k { lives = false }

died_life : (k : Block) → life_of (died k) ≡ dead (life_of k)
died_life k = ap (λ n. record { capacity = 4 * n; lives = false }) (length-replicate (length k.cells) blank_cell)

pub dropped_lives : (b : ℕ) (k : Life) (m : Memory) → slice_get (lives m) b ≡ Some k
    → lives (dropped b m) ≡ slice_set (lives m) b (dead k)
unfolding dropped
dropped_lives b k m there = by_blocks m.blocks b there
  where
    later : (x : Block) (xs : List Block) (b : ℕ) (o : Option Block)
        → map life_of (set_block (suc b) (option_map died o) (x ∷ xs))
        ≡ life_of x ∷ map life_of (set_block b (option_map died o) xs)
    later x xs b None = refl
    later x xs b (Some l) = refl

    by_blocks : (xs : List Block) (b : ℕ) → slice_get (map life_of xs) b ≡ Some k
        → map life_of (set_block b (option_map died (slice_get xs b)) xs) ≡ slice_set (map life_of xs) b (dead k)
    by_blocks [] b there = absurd (cc)
    by_blocks (x ∷ xs) zero there =
        let same : life_of x ≡ k = cc in
        ap (λ l. l ∷ map life_of xs) (died_life x ∙ ap dead same)
    by_blocks (x ∷ xs) (suc b) there =
        later x xs b (slice_get xs b) ∙ ap (λ ls. life_of x ∷ ls) (by_blocks xs b there)
