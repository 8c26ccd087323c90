-- A block at the front of the first hole that is long enough. x10 is the block's length, x11 where the
-- rows of the granules are, x12 where the tables are and x31 the word for none.
use Rattle.std.specs.Prelude.{◌≡◌, ℕ, ◌+◌, ◌*◌, ◌^◌, ◌≤◌, ◌<◌, [], ◌∷◌, Option, Some, None, option_map, length}
use Rattle.rv_isa.specs.declared.Op.TheVariants.{Add, Sub, Sll}
use Rattle.rv_isa.specs.declared.Cond.TheVariants.{Eq, Ltu}
use Rattle.plan_core.specs.declared.types.Area.{Area}
use Rattle.place_spec.specs.Layout.{Layout}
use Rattle.place_spec.specs.Place.{Placed, front_spot, placed_at}
use Rattle.place_spec.specs.Sound.{Sound}
use Rattle.frag_code.specs.Ends.{Ends}
use Rattle.frag_code.specs.Fragments.{Fragment, Skip, Compute, Imm, Load, Store, If, While, chained}
use Rattle.frag_code.specs.Meaning.{View, frag_run}
use Rattle.heap_spec.specs.Places.{rows_at}
use Rattle.heap_spec.specs.Tables.{none_word, Spells}
use Rattle.heap_holes.specs.Fits.{table_rights}

-- the hole at granule x15: x7 becomes its row and x28 its length, which is the word for none where there
-- is no hole
abbrev pub measure : Fragment
measure = If Eq 15 31 (Imm Add 28 0 0xFFFFFFFF) (chained (Imm Sll 7 15 3 ∷ Compute Add 7 7 11 ∷ Load 28 7 0 ∷ []))

-- from the hole at row x7 to the next one; x5 stays at the row behind
abbrev pub pass_hole : Fragment
pass_hole = chained (Imm Add 5 7 0 ∷ Load 15 7 4 ∷ measure ∷ [])

-- past the holes that are too short; the word that links the hole stands 4 bytes behind x5
abbrev pub find_hole : Fragment
find_hole =
    chained (Imm Add 5 12 0xFFFFFFFC ∷ Load 15 12 0 ∷ measure ∷ While Ltu 28 10 pass_hole ∷ [])

-- a hole that is all used
abbrev pub unlink : Fragment
unlink = chained (Load 29 7 4 ∷ Store 5 29 4 ∷ [])

-- a hole of which x28 granules are left behind the block's
abbrev pub split : Fragment
split =
    chained (
    Compute Add 29 15 10
    ∷ Store 5 29 4
    ∷ Imm Sll 29 29 3
    ∷ Compute Add 29 29 11
    ∷ Store 29 28 0
    ∷ Load 28 7 4
    ∷ Store 29 28 4
    ∷ Store 7 10 0
    ∷ []
    )

abbrev pub take_front : Fragment
take_front = chained (Compute Sub 28 28 10 ∷ If Eq 28 0 unlink split ∷ [])

-- x15 becomes the block's first granule, or the word for none
abbrev pub first_fit : Fragment
first_fit = chained (find_hole ∷ If Eq 15 31 Skip take_front ∷ [])

-- the registers with which a block is asked for
pub record AsksFor (area : Area) (data_at need : ℕ) (s : View) : Type 0 where
  pub asked : s.registers 10 ≡ need
  pub rows : s.registers 11 ≡ rows_at area data_at
  pub tables : s.registers 12 ≡ data_at
  pub none : s.registers 31 ≡ none_word

-- the answer: the block's first granule, and tables that spell the layout after it, or the word for none
-- and tables that spell the layout as before
abbrev pub Answers : Area → (data_at : ℕ) → Layout → Option Placed → View → Type 0
Answers area data_at layout (Some p) t = (t.registers 15 ≡ p.granule) × Spells area data_at t.memory p.after
Answers area data_at layout None t = (t.registers 15 ≡ none_word) × Spells area data_at t.memory layout

-- a block by the third rule alone
abbrev pub placed_in_hole : Area → Layout → (need : ℕ) → (group : Option ℕ) → Option Placed
placed_in_hole area layout need group = option_map (placed_at area layout need group) (front_spot layout need)

-- the fragment places a block by the third rule, whatever its group
abbrev pub FirstFitPlaces : Area → (data_at : ℕ) → Type 0
FirstFitPlaces area data_at =
    (w need : ℕ) (group : Option ℕ) (layout : Layout) (s : View) → Sound area layout → 1 ≤ need → need < 2 ^ 32
    → Spells area data_at s.memory layout → AsksFor area data_at need s → length layout.holes ≤ w
    → Ends (frag_run (table_rights area data_at) first_fit w s)
    (λ t. Answers area data_at layout (placed_in_hole area layout need group) t
    × (t.spent ≤ s.spent + 11 * area.fallback + 90))
