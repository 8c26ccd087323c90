-- Tables whose holes and blocks are others, and whose chunks are the same.
use Rattle.std.proofs.Common.{◌≡◌, ◌≢◌, ℕ, ◌+◌, ◌*◌, ◌<◌, ◌≤◌, ◌⊎◌, List, [], ◌∷◌, ◌∙◌, arith, inl, inr}
use Rattle.plan_core.specs.declared.types.Area.{Area}
use Rattle.place_spec.specs.declared.parts.Hole.{Hole}
use Rattle.place_spec.specs.Layout.{Block, Layout, chunk_of}
use Rattle.place_spec.specs.Sound.{Apart}
use Rattle.place_spec.proofs.Lists.{Each, all}
use Rattle.heap_spec.specs.Places.{current_row, chunk_row, rows_at, granule_row}
use Rattle.heap_spec.specs.Tables.{SpellsHoles, SpellsChunk, Spells}
use Rattle.heap_holes.proofs.Zipper.{rev_onto}

-- other holes are spelled; below the rows only the first hole's word changes, and lengths change only for
-- granules from lo on and below hi
pub record Relinked (rows head lo hi : ℕ) (m m' : ℕ → ℕ) (left : List Hole) : Type 0 where
  pub holes : SpellsHoles rows m' (m' head) left
  pub below : (k : ℕ) → k ≢ head → k < rows → m' k ≡ m k
  pub lengths : (i : ℕ) → (i < lo) ⊎ (hi ≤ i) → m' (rows + 8 * i) ≡ m (rows + 8 * i)

abbrev pub with_holes : List Hole → List Block → Layout → Layout
with_holes holes blocks layout =
    record { currents = layout.currents; chunks = layout.chunks; holes = holes; blocks = blocks }

pub spells_then : (area : Area) (data_at lo hi : ℕ) (layout : Layout) (m m' : ℕ → ℕ) (left : List Hole)
    (blocks : List Block)
    → Spells area data_at m layout → Relinked (rows_at area data_at) data_at lo hi m m' left
    → Each (λ b. m' (granule_row area data_at b.first) ≡ b.granules) blocks
    → Spells area data_at m' (with_holes left blocks layout)
spells_then area data_at lo hi layout m m' left blocks s r e = record {
  holes = r.holes;
  currents = λ group l. r.below (current_row data_at group) (λ q. omega (arith, q)) (omega (arith, l))
      ∙ s.currents group l;
  chunks = λ k l. chunk k l (s.chunks k l);
  lengths = all _ blocks e;
}
  where
    chunk : (k : ℕ) → k < area.chunks → SpellsChunk m (chunk_row data_at k) (chunk_of layout k)
        → SpellsChunk m' (chunk_row data_at k) (chunk_of layout k)
    chunk k l c = record {
      owner = r.below (chunk_row data_at k) (λ q. omega (arith, q)) (omega (arith, l)) ∙ c.owner;
      bump = r.below (chunk_row data_at k + 4) (λ q. omega (arith, q)) (omega (arith, l)) ∙ c.bump;
      live = r.below (chunk_row data_at k + 8) (λ q. omega (arith, q)) (omega (arith, l)) ∙ c.live;
      fourth = r.below (chunk_row data_at k + 12) (λ q. omega (arith, q)) (omega (arith, l)) ∙ c.fourth;
    }

-- what holds of each hole, holds of those that were passed and of the rest
pub each_rest : (P : Hole → Type 0) (seen rest : List Hole) → Each P (rev_onto seen rest) → Each P rest
each_rest P [] rest e = e
each_rest P (x ∷ seen) rest e = (each_rest P seen (x ∷ rest) e).1

pub each_seen : (P : Hole → Type 0) (seen rest : List Hole) → Each P (rev_onto seen rest) → Each P seen
each_seen P [] rest e = tt
each_seen P (x ∷ seen) rest e = ((each_rest P seen (x ∷ rest) e).0, each_seen P seen (x ∷ rest) e)

-- a stretch apart from another has its first granule outside
pub apart_outside : (a n b k : ℕ) → 0 < n → Apart a n b k → (a < b) ⊎ (b + k ≤ a)
apart_outside a n b k l (inl h) = inl (omega (arith, l, h))
apart_outside a n b k l (inr h) = inr h
