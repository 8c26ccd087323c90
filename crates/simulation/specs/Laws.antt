-- What the simulation rests on of values, of the symbol machine's memory, of the heap and of stubs: the laws of the
-- crates that define them.
use Rattle.std.specs.Prelude.{◌≡◌, ℕ, ◌+◌, ◌*◌, ◌%◌, ◌^◌, ◌<◌, ◌≤◌, List, [], ◌∷◌, ◌++◌, All, Bool, true, Some, nat_lt}
use Rattle.std.specs.Prelude.{length, replicate}
use Rattle.rv_isa.specs.Addresses.{minus, plus}
use Rattle.rv_isa.specs.Encoded.{IsExtended}
use Rattle.rv_isa.specs.Split.{split_of}
use Rattle.rv_isa.specs.declared.Op.{Op}
use Rattle.rv_isa.specs.declared.Cond.{Cond}
use Rattle.rv_isa.specs.declared.Width.{Width}
use Rattle.rv_isa.specs.Compute.{computed, is_held}
use Rattle.plan_core.specs.declared.types.Area.{Area}
use Rattle.plan_core.specs.declared.types.Row.{Row}
use Rattle.place_spec.specs.Layout.{Layout, first_layout}
use Rattle.place_spec.specs.Place.{Placed as PlacedBlock, placed}
use Rattle.place_spec.specs.Release.{block_at, released, moved}
use Rattle.place_spec.specs.Sound.{Sound}
use Rattle.heap_spec.specs.Places.{tables_end}
use Rattle.heap_spec.specs.Tables.{Spells}
use Rattle.machine_spec.specs.Memory.{Range, byte_of}
use Rattle.flat_spec.specs.Stores.{bytes_from}
use Rattle.sym_value.specs.declared.Value.{Value}
use Rattle.sym_value.specs.Places.{Lives}
use Rattle.sym_value.specs.Decisions.{decide}
use Rattle.sym_value.specs.Operations.{apply}
use Rattle.sym_value.specs.Standing.{Holds, Placed}
use Rattle.sym_cells.specs.Cells.{Cell, Cells, zero_cell, cell_in}
use Rattle.sym_cells.specs.Memory.{Memory, loaded, stored, overlaid}
use Rattle.block_laws.specs.Blocks.{StandsBeside, StandsWithout}
use Rattle.new_file_spec.specs.Stubs.{stub_words}
use Rattle.site_stubs.specs.StubRuns.{Calls, Returns}
use Rattle.sym_cells.specs.Buffers.{is_within, taken, filled}
use Rattle.sym_cells.specs.Region.{Region, AreWords, MemoryStands, Laid, LoadsAlike, StoresAlike, FillsAlike}

pub record Laws : Type 0 where
  -- words that stand for two values give a word that stands for the operation's, and conditions that are
  -- decided of the values hold of the words as decided
  pub operations : (back : ℕ → ℕ) (at : List ℕ) (live : Lives) (op : Op) (a b : Value) (v w : ℕ)
      → Placed live at → v < 2 ^ 32 → w < 2 ^ 32 → Holds back at a v → Holds back at b w
      → Holds back at (apply live op a b) (computed op v w)
  pub conditions : (back : ℕ → ℕ) (at : List ℕ) (live : Lives) (cond : Cond) (a b : Value) (so : Bool) (v w : ℕ)
      → Placed live at → Holds back at a v → Holds back at b w → decide live cond a b ≡ Some so
      → is_held cond v w ≡ so
  -- what the symbol machine loads and stores, the flat one does
  pub loads : (back : ℕ → ℕ) (at : List ℕ) (end : ℕ) (plain storable : ℕ → Bool) (memory : List Range)
      (m : Memory) (width : Width) (p x : Value) (a : ℕ)
      → AreWords back → Laid at end plain storable memory m → MemoryStands back at plain memory m
      → Holds back at p a → loaded plain m width p ≡ Some x → LoadsAlike back at memory width a x
  pub stores : (back : ℕ → ℕ) (at : List ℕ) (end : ℕ) (plain storable : ℕ → Bool) (memory : List Range)
      (m n : Memory) (width : Width) (p v : Value) (a w : ℕ)
      → Laid at end plain storable memory m → MemoryStands back at plain memory m
      → Holds back at p a → Holds back at v w → w < 2 ^ 32 → stored storable m width p v ≡ Some n
      → StoresAlike back at end plain storable memory m n width a w
  -- what it writes from a buffer and reads into one, too
  pub writes : (back : ℕ → ℕ) (at : List ℕ) (end : ℕ) (plain storable : ℕ → Bool) (memory : List Range)
      (m : Memory) (n : ℕ) (p : Value) (a : ℕ) (bs : List ℕ)
      → Laid at end plain storable memory m → MemoryStands back at plain memory m → Holds back at p a
      → is_within plain m n p ≡ true → taken m n p ≡ Some bs → bytes_from memory a n ≡ Some bs
  pub reads : (back : ℕ → ℕ) (at : List ℕ) (end : ℕ) (plain storable : ℕ → Bool) (memory : List Range)
      (m n : Memory) (size : ℕ) (bs : List ℕ) (p : Value) (a : ℕ)
      → Laid at end plain storable memory m → MemoryStands back at plain memory m → Holds back at p a
      → All (λ b. b < 256) bs → length bs ≤ size → filled storable m size bs p ≡ Some n
      → FillsAlike back at end plain storable memory m n size a bs
  -- requests keep layouts sound, and tables depend on their own words alone
  pub first_sound : (area : Area) → Sound area (first_layout area)
  pub placing : (rows : List Row) (area : Area) (layout : Layout) (need bits : ℕ) (p : PlacedBlock)
      → All (λ row. row.group < 16) rows → Sound area layout → 1 ≤ need
      → placed rows area layout need bits ≡ Some p → Sound area p.after
  pub releasing : (area : Area) (layout : Layout) (granule : ℕ) → Sound area layout
      → Sound area (released area layout granule)
  pub moving : (rows : List Row) (area : Area) (layout : Layout) (granule need bits : ℕ) (p : PlacedBlock)
      → All (λ row. row.group < 16) rows → Sound area layout → 1 ≤ need
      → moved rows area layout granule need bits ≡ Some p → Sound area p.after
  pub beside : (rows : List Row) (area : Area) (layout : Layout) (need bits : ℕ) (p : PlacedBlock)
      → All (λ row. row.group < 16) rows → Sound area layout → 1 ≤ need
      → placed rows area layout need bits ≡ Some p → StandsBeside need layout p
  pub without : (area : Area) (layout : Layout) (granule : ℕ) → Sound area layout
      → StandsWithout granule layout.blocks (released area layout granule).blocks
  pub found : (area : Area) (layout : Layout) → Sound area layout
      → All (λ b. block_at layout b.first ≡ Some b) layout.blocks
  pub tables : (area : Area) (layout : Layout) (data_at : ℕ) (memory after : ℕ → ℕ)
      → Sound area layout → data_at % 4 ≡ 0
      → ((k : ℕ) → k % 4 ≡ 0 → data_at ≤ k → k < tables_end area data_at → after k ≡ memory k)
      → Spells area data_at memory layout → Spells area data_at after layout
  -- words and bytes stand for the same values and cells where one more block has an address
  pub longer_value : (back : ℕ → ℕ) (at : List ℕ) (a : ℕ) (v : Value) (w : ℕ) → Holds back at v w
      → Holds back (at ++ a ∷ []) v w
  pub longer_region : (back : ℕ → ℕ) (at : List ℕ) (a : ℕ) (memory : List Range) (base : ℕ) (covers : ℕ → Bool)
      (cells : Cells) → Region back at memory base covers cells → Region back (at ++ a ∷ []) memory base covers cells
  -- and where the bytes of a region are the same
  pub same_region : (back : ℕ → ℕ) (at : List ℕ) (memory after : List Range) (base : ℕ) (covers : ℕ → Bool)
      (cells : Cells) → ((o : ℕ) → covers o ≡ true → byte_of after (base + o) ≡ byte_of memory (base + o))
      → Region back at memory base covers cells → Region back at after base covers cells
  -- zero bytes stand for the cells of a new block, and bytes that are copied with zeros behind them for
  -- those of a moved one
  pub new_region : (back : ℕ → ℕ) (at : List ℕ) (memory : List Range) (base need : ℕ)
      → ((o : ℕ) → o < 16 * need → byte_of memory (base + o) ≡ Some 0)
      → Region back at memory base (λ o. nat_lt o (16 * need)) (cell_in (replicate (4 * need) zero_cell))
  pub moved_region : (back : ℕ → ℕ) (at : List ℕ) (memory after : List Range) (from to need : ℕ) (cells : List Cell)
      → Region back at memory from (λ o. nat_lt o (4 * length cells)) (cell_in cells)
      → ((o : ℕ) → o < 4 * length cells → o < 16 * need → byte_of after (to + o) ≡ byte_of memory (from + o))
      → ((o : ℕ) → 4 * length cells ≤ o → o < 16 * need → byte_of after (to + o) ≡ Some 0)
      → Region back at after to (λ o. nat_lt o (16 * need))
      (cell_in (overlaid cells (replicate (4 * need) zero_cell)))
  -- a stub calls with its bit set and comes back with it cleared, and a jump of two words goes as far as it should
  pub stub_calls : (at bit target back : ℕ) → at < 2 ^ 32 → bit < 32 → target < 2 ^ 32 → target % 4 ≡ 0
      → Calls at bit target (stub_words at bit target back)
  pub stub_returns : (at bit target back : ℕ) → bit < 32 → back < 2 ^ 32 → back % 4 ≡ 0
      → Returns at bit back (stub_words at bit target back)
  pub upper : (d : ℕ) → d < 2 ^ 32 → ((split_of d).0 < 2 ^ 32) × ((split_of d).0 % 2 ^ 12 ≡ 0)
  pub lower : (d : ℕ) → d < 2 ^ 32 → IsExtended 12 (split_of d).1
  pub there : (from target : ℕ) → from < 2 ^ 32 → target < 2 ^ 32
      → plus (plus from (split_of (minus target from)).0) (split_of (minus target from)).1 ≡ target
