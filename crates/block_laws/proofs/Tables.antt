-- The tables of a sound layout depend on the words between their front and their end alone.
use Rattle.std.proofs.Common.{◌≡◌, ℕ, ◌+◌, ◌*◌, ◌%◌, ◌<◌, ◌≤◌, List, [], ◌∷◌, get_or, sym, ◌∙◌, subst, arith}
use Rattle.std.specs.Prelude.{All}
use Rattle.std.proofs.lemmas.List.Elements.{All-head, All-tail}
use Rattle.plan_core.specs.declared.types.Area.{Area}
use Rattle.plan_core.specs.Plan.{granules}
use Rattle.place_spec.specs.declared.parts.Hole.{Hole}
use Rattle.place_spec.specs.Layout.{Layout, chunk_of}
use Rattle.place_spec.specs.Sound.{Sound}
use Rattle.heap_spec.specs.Places.{current_row, chunk_row, rows_at, granule_row, tables_end}
use Rattle.heap_spec.specs.Tables.{SpellsHoles, SpellsChunk, Spells}

-- the words at the multiples of 4 from an address on and below another are the same
abbrev SameWords : (low high : ℕ) → (memory after : ℕ → ℕ) → Type 0
SameWords low high memory after = (k : ℕ) → k % 4 ≡ 0 → low ≤ k → k < high → after k ≡ memory k

-- holes that begin at one of the first n granules, by the rows of these
holes_same : (rows n : ℕ) (memory after : ℕ → ℕ) (word : ℕ) (hs : List Hole) → rows % 4 ≡ 0
    → SameWords rows (rows + 8 * n) memory after → All (λ h. h.start < n) hs → SpellsHoles rows memory word hs
    → SpellsHoles rows after word hs
holes_same rows n memory after word [] aligned same low spelt = spelt
holes_same rows n memory after word (h ∷ hs) aligned same low (first, long, rest) =
    let begins : h.start < n = All-head (λ (x : Hole). x.start < n) h hs low in
    let length_word : after (rows + 8 * h.start) ≡ memory (rows + 8 * h.start) =
    same (rows + 8 * h.start) (omega arith) (omega arith) (omega arith) in
    let next_word : after (rows + 8 * h.start + 4) ≡ memory (rows + 8 * h.start + 4) =
    same (rows + 8 * h.start + 4) (omega arith) (omega arith) (omega arith) in (
      first,
      length_word ∙ long,
      subst (λ w. SpellsHoles rows after w hs) (sym next_word)
          (holes_same rows n memory after (memory (rows + 8 * h.start + 4)) hs aligned same
          (All-tail (λ (x : Hole). x.start < n) h hs low) rest),
    )

chunk_same : (at : ℕ) (memory after : ℕ → ℕ) (layout : Layout) (k : ℕ) → at % 4 ≡ 0
    → SameWords at (at + 16) memory after → SpellsChunk memory at (chunk_of layout k)
    → SpellsChunk after at (chunk_of layout k)
chunk_same at memory after layout k aligned same spelt = record {
  owner = same at aligned (omega arith) (omega arith) ∙ spelt.owner;
  bump = same (at + 4) (omega arith) (omega arith) (omega arith) ∙ spelt.bump;
  live = same (at + 8) (omega arith) (omega arith) (omega arith) ∙ spelt.live;
  fourth = same (at + 12) (omega arith) (omega arith) (omega arith) ∙ spelt.fourth;
}

pub spells_same : (area : Area) (layout : Layout) (data_at : ℕ) (memory after : ℕ → ℕ)
    → Sound area layout → data_at % 4 ≡ 0
    → SameWords data_at (tables_end area data_at) memory after
    → Spells area data_at memory layout → Spells area data_at after layout
spells_same area layout data_at memory after s aligned same spelt = record {
  holes = subst (λ w. SpellsHoles (rows_at area data_at) after w layout.holes)
      (sym (same data_at aligned (omega arith) (omega arith)))
      (holes_same (rows_at area data_at) (granules area) memory after (memory data_at) layout.holes (omega arith)
      (λ k a l h. same k a (omega arith) h) holes_begin spelt.holes);
  currents = λ group low. same (current_row data_at group) (omega arith) (omega arith) (omega arith)
      ∙ spelt.currents group low;
  chunks = λ k low. chunk_same (chunk_row data_at k) memory after layout k (omega arith)
      (λ j a l h. same j a (omega arith) (omega arith)) (spelt.chunks k low);
  lengths = λ k d low.
      let begins : (get_or layout.blocks k d).first < granules area = blocks_begin k d low in
      same (granule_row area data_at (get_or layout.blocks k d).first) (omega arith) (omega arith) (omega arith)
      ∙ spelt.lengths k d low;
}
  where
    holes_begin : All (λ h. h.start < granules area) layout.holes
    holes_begin k d low =
        let inside = s.holes_inside k d low in
        let filled = s.holes_filled k d low in
        omega (arith, inside, filled)

    blocks_begin : All (λ b. b.first < granules area) layout.blocks
    blocks_begin k d low =
        let inside = s.blocks_inside k d low in
        let filled = s.blocks_filled k d low in
        omega (arith, inside, filled)
