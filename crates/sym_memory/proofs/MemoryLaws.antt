-- What the definitions of symbol memory say of each kind of address.
use Rattle.std.proofs.Common.{◌≡◌, ℕ, ◌+◌, ◌*◌, ◌%◌, ◌^◌, ◌∷◌, [], ◌++◌, Bool, true, false, cond, Option, Some, None}
use Rattle.std.proofs.Common.{is_some, option_map, replicate, slice_get, slice_set, refl, ap, sym, ◌∙◌}
use Rattle.std.specs.Prelude.{◌&&◌, if◌then◌else◌}
use Rattle.rv_isa.specs.declared.Width.{Width}
use Rattle.machine_spec.specs.Widths.{size_of}
use Rattle.machine_spec.specs.Memory.{all_from}
use Rattle.sym_value.specs.declared.Value.{Value}
use Rattle.sym_value.specs.declared.Value.TheVariants.{Num, Ptr, Ret, Mix, Part, Unset}
use Rattle.sym_cells.specs.Cells.{zero_cell, mark_at}
use Rattle.sym_cells.specs.Moves.{load_at}
use Rattle.sym_cells.specs.Memory.{Block, Memory, cell_at, is_aligned, loaded_in, loaded, store_plain, stored_in}
use Rattle.sym_cells.specs.Memory.{stored, number_in, known_in, known, granted, died, set_block, dropped}
use Rattle.sym_cells.specs.Memory.{overlaid_block, copied}
use Rattle.sym_memory.specs.Held.{memory_after}

-- neither a number nor a pointer
abbrev pub reaches_nothing : Value → Bool
reaches_nothing (Num a) = false
reaches_nothing (Ptr b o) = false
reaches_nothing v = true

pub number_loaded : (plain : ℕ → Bool) (m : Memory) (width : Width) (a : ℕ)
    → loaded plain m width (Num a) ≡ (if is_aligned width a && all_from plain a (size_of width)
    then Some (load_at width a (cell_at m.plain)) else None)
unfolding loaded
number_loaded plain m width a = refl

pub pointer_loaded : (plain : ℕ → Bool) (m : Memory) (width : Width) (b o : ℕ)
    → loaded plain m width (Ptr b o) ≡ loaded_in width o (slice_get m.blocks b)
unfolding loaded
pointer_loaded plain m width b o = refl

pub nothing_loaded : (plain : ℕ → Bool) (m : Memory) (width : Width) (v : Value) → reaches_nothing v ≡ true
    → loaded plain m width v ≡ None
unfolding loaded
nothing_loaded plain m width (Num a) e = absurd (cc)
nothing_loaded plain m width (Ptr b o) e = absurd (cc)
nothing_loaded plain m width v e = refl

pub number_known : (plain : ℕ → Bool) (m : Memory) (a i : ℕ)
    → known plain m (Num a) i ≡ (if plain ((a + i) % 2 ^ 32)
    then number_in (mark_at (cell_at m.plain) ((a + i) % 2 ^ 32)) else None)
unfolding known
number_known plain m a i = refl

pub pointer_known : (plain : ℕ → Bool) (m : Memory) (b o i : ℕ)
    → known plain m (Ptr b o) i ≡ known_in ((o + i) % 2 ^ 32) (slice_get m.blocks b)
unfolding known
pointer_known plain m b o i = refl

pub nothing_known : (plain : ℕ → Bool) (m : Memory) (v : Value) (i : ℕ) → reaches_nothing v ≡ true
    → known plain m v i ≡ None
unfolding known
nothing_known plain m (Num a) i e = absurd (cc)
nothing_known plain m (Ptr b o) i e = absurd (cc)
nothing_known plain m v i e = refl

-- whether a store is done, and what it leaves
pub number_stores : (storable : ℕ → Bool) (m : Memory) (width : Width) (a : ℕ) (v : Value)
    → is_some (stored storable m width (Num a) v) ≡ (is_aligned width a && all_from storable a (size_of width))
unfolding stored
number_stores storable m width a v = by_test (is_aligned width a && all_from storable a (size_of width))
  where
    by_test : (t : Bool) → is_some (cond t (Some (record m { plain = store_plain width a v m.plain })) None) ≡ t
    by_test true = refl
    by_test false = refl

pub number_stored : (storable : ℕ → Bool) (m : Memory) (width : Width) (a : ℕ) (v : Value) (t : Bool)
    → t ≡ (is_aligned width a && all_from storable a (size_of width))
    → memory_after (stored storable m width (Num a) v) m
    ≡ cond t (record m { plain = store_plain width a v m.plain }) m
unfolding stored
number_stored storable m width a v t e =
    ap (λ u. memory_after (cond u (Some (record m { plain = store_plain width a v m.plain })) None) m) (sym e)
    ∙ by_test t
  where
    by_test : (u : Bool) → memory_after (cond u (Some (record m { plain = store_plain width a v m.plain })) None) m
        ≡ cond u (record m { plain = store_plain width a v m.plain }) m
    by_test true = refl
    by_test false = refl

pub pointer_stores : (storable : ℕ → Bool) (m : Memory) (width : Width) (b o : ℕ) (v : Value)
    → is_some (stored storable m width (Ptr b o) v) ≡ is_some (stored_in width o v (slice_get m.blocks b))
unfolding stored
pointer_stores storable m width b o v = by_option (stored_in width o v (slice_get m.blocks b))
  where
    by_option : (k : Option Block) → is_some (option_map (λ k. record m { blocks = slice_set m.blocks b k }) k)
        ≡ is_some k
    by_option (Some k) = refl
    by_option None = refl

pub pointer_stored : (storable : ℕ → Bool) (m : Memory) (width : Width) (b o : ℕ) (v : Value)
    → memory_after (stored storable m width (Ptr b o) v) m
    ≡ record m { blocks = set_block b (stored_in width o v (slice_get m.blocks b)) m.blocks }
unfolding stored
pointer_stored storable m width b o v = by_option (stored_in width o v (slice_get m.blocks b))
  where
    by_option : (k : Option Block) → memory_after (option_map (λ k. record m { blocks = slice_set m.blocks b k }) k) m
        ≡ record m { blocks = set_block b k m.blocks }
    by_option (Some k) = refl
    by_option None = refl

pub nothing_stored : (storable : ℕ → Bool) (m : Memory) (width : Width) (p v : Value) → reaches_nothing p ≡ true
    → stored storable m width p v ≡ None
unfolding stored
nothing_stored storable m width (Num a) v e = absurd (cc)
nothing_stored storable m width (Ptr b o) v e = absurd (cc)
nothing_stored storable m width p v e = refl

pub block_granted : (need : ℕ) (m : Memory)
    → granted need m ≡ record m {
      blocks = m.blocks ++ record {
        cells = replicate (4 * need) zero_cell;
        lives =
            true;
      } ∷ [];
    }
unfolding granted
block_granted need m = refl

pub block_copied : (from onto : ℕ) (m : Memory)
    → copied from onto m ≡ record m {
      blocks = set_block onto
          (overlaid_block (slice_get m.blocks from) (slice_get m.blocks onto)) m.blocks;
    }
unfolding copied
block_copied from onto m = refl

pub block_dropped : (b : ℕ) (m : Memory)
    → dropped b m ≡ record m { blocks = set_block b (option_map died (slice_get m.blocks b)) m.blocks }
unfolding dropped
block_dropped b m = refl
