-- What a change of a chunk's words makes of the tables: one chunk, a group's current chunk and the row of
-- one granule are written, all other words stay.
use Rattle.std.proofs.Common.{◌≡◌, ◌≢◌, ℕ, ◌+◌, ◌*◌, ◌%◌, ◌<◌, ◌≤◌, ◌⊎◌, List, inl, inr, ◌∙◌, sym, subst, arith}
use Rattle.std.specs.Prelude.{Option, slice_set}
use Rattle.std.proofs.lemmas.Bool.{cases_order}
use Rattle.plan_core.specs.declared.types.Area.{Area}
use Rattle.place_spec.specs.declared.parts.Chunk.{Chunk}
use Rattle.place_spec.specs.Layout.{Block, Layout, current_of, chunk_of, idle_chunk, chunk_front}
use Rattle.place_spec.specs.Place.{with_block}
use Rattle.place_spec.specs.Release.{without_block}
use Rattle.place_spec.proofs.Lists.{Each, each, all, each_both}
use Rattle.place_spec.proofs.HoleLists.{ascends_filled}
use Rattle.place_spec.proofs.Blocks.{each_with, each_kept}
use Rattle.place_spec.proofs.SoundParts.{Stands, Parts, at_item}
use Rattle.heap_spec.specs.Places.{current_row, chunk_row, rows_at, granule_row, tables_end}
use Rattle.heap_spec.specs.Tables.{SpellsHoles, SpellsChunk, Spells, word_or_none}
use Rattle.heap_spec.proofs.Frames.{SpellsCurrents, SpellsChunks, holes_same}

module _ (area : Area) (data_at : ℕ) (layout : Layout) (k : ℕ) (m m' : ℕ → ℕ) where
  -- nothing but chunk k, a group's current chunk and the row of a granule behind the fallback is written
  pub record Writes (group first : ℕ) : Type 0 where
    pub aligned : data_at % 4 ≡ 0
    pub parts : Parts area layout
    pub within : k < area.chunks
    pub behind : area.fallback ≤ first
    pub small : group < 16
    pub others : (a : ℕ) → a % 4 ≡ 0 → data_at ≤ a → a < tables_end area data_at → a ≢ current_row data_at group
        → (a < chunk_row data_at k) ⊎ (chunk_row data_at k + 16 ≤ a) → a ≢ granule_row area data_at first → m' a ≡ m a

  module _ (group first : ℕ) (w : Writes group first) (s : Spells area data_at m layout) where
    begin : Each (λ h. h.start < area.fallback) layout.holes
    begin =
        each_both (λ h. h.start + h.length ≤ area.fallback) (λ h. 0 < h.length)
        (λ h. h.start < area.fallback) layout.holes
        (λ h i f. omega arith) w.parts.inside (ascends_filled 0 layout.holes w.parts.ascends)

    pub holes_stay : SpellsHoles (rows_at area data_at) m' (m' data_at) layout.holes
    holes_stay =
        let al = w.aligned in
        let l = w.within in
        let b = w.behind in
        let head : m' data_at ≡ m data_at =
        w.others data_at al (omega arith) (omega (arith, l)) (λ e. omega (arith, e)) (inl (omega arith))
        (λ e. omega (arith, e)) in
        subst (λ x. SpellsHoles (rows_at area data_at) m' x layout.holes) (sym head)
        (holes_same (rows_at area data_at) area.fallback m m' (m data_at) layout.holes (omega (arith, al))
        (λ a q lo hi. w.others a q (omega (arith, lo)) (omega (arith, hi)) (λ e. omega (arith, e, lo))
        (inr (omega (arith, lo, l)))
        (λ e. omega (arith, e, hi, b))) begin s.holes)

    -- the currents of the other groups
    pub current_stays : (j : ℕ) → j < 16 → j ≢ group → m' (current_row data_at j) ≡ word_or_none (current_of layout j)
    current_stays j l n =
        let al = w.aligned in
        w.others (current_row data_at j) (omega (arith, al)) (omega arith) (omega (arith, l))
        (λ e. n (omega (arith, e)))
        (inl (omega (arith, l))) (λ e. omega (arith, e, l)) ∙ s.currents j l

    other_row : (j : ℕ) → j < area.chunks → j ≢ k → (i : ℕ) → i < 4
        → m' (chunk_row data_at j + 4 * i) ≡ m (chunk_row data_at j + 4 * i)
    other_row j l n i few =
        let al = w.aligned in
        let sm = w.small in
        w.others (chunk_row data_at j + 4 * i) (omega (arith, al)) (omega arith) (omega (arith, l, few))
        (λ e. omega (arith, e, sm)) (by (cases_order j k)) (λ e. omega (arith, e, l, few))
      where
        by : (j ≡ k) ⊎ ((j < k) ⊎ (k < j))
            → (chunk_row data_at j + 4 * i < chunk_row data_at k) ⊎
            (chunk_row data_at k + 16 ≤ chunk_row data_at j + 4 * i)
        by (inl e) = absurd (n e)
        by (inr (inl q)) = inl (omega (arith, q, few))
        by (inr (inr q)) = inr (omega (arith, q))

    pub chunks_set : (v : Chunk) → SpellsChunk m' (chunk_row data_at k) v
        → SpellsChunks area data_at m' (record layout { chunks = slice_set layout.chunks k v })
    chunks_set v here =
        at_item (λ j c. j < area.chunks → SpellsChunk m' (chunk_row data_at j) c) layout.chunks k v idle_chunk
        (let e = w.parts.chunks in let l = w.within in omega (arith, e, l)) (λ l. here)
        (λ j n l. let old = s.chunks j l in record {
          owner = subst (λ a. m' a ≡ m a)
              (let q : chunk_row data_at j + 4 * 0 ≡ chunk_row data_at j = omega arith in q)
              (other_row j l n 0 (omega arith)) ∙ old.owner;
          bump = other_row j l n 1 (omega arith) ∙ old.bump;
          live = other_row j l n 2 (omega arith) ∙ old.live;
          fourth = other_row j l n 3 (omega arith) ∙ old.fourth;
        })

    -- the rows of the blocks that begin elsewhere
    pub lengths_stay : Each (λ b. b.first ≢ first → m' (granule_row area data_at b.first) ≡ b.granules) layout.blocks
    lengths_stay =
        each_both (Stands area layout) (λ b. m (granule_row area data_at b.first) ≡ b.granules)
        (λ b. b.first ≢ first → m' (granule_row area data_at b.first) ≡ b.granules) layout.blocks
        (λ b t e n. let i = t.inside in let f = t.filled in
        let l = w.within in let al = w.aligned in let sm = w.small in
        w.others (granule_row area data_at b.first) (omega (arith, al)) (omega arith) (omega (arith, i, f))
        (λ q. omega (arith, q, sm))
        (inr (omega (arith, l))) (λ q. n (omega (arith, q))) ∙ e) w.parts.blocks (each _ layout.blocks s.lengths)

    -- with a block that stands in chunk k, at or behind the chunk's bump
    pub enters : (need : ℕ) (in_group : Option ℕ) (v : Chunk) (currents : List (Option ℕ))
        → SpellsChunk m' (chunk_row data_at k) v
        → SpellsCurrents data_at m' (record layout { currents = currents })
        → chunk_front area k + (chunk_of layout k).bump ≤ first → first < chunk_front area (k + 1)
        → m' (granule_row area data_at first) ≡ need
        → Spells area data_at m' (record {
          currents = currents;
          chunks = slice_set layout.chunks k v;
          holes = layout.holes;
          blocks = with_block (record { first = first; granules = need; group = in_group }) layout.blocks;
        })
    enters need in_group v currents here theirs low high long = record {
      holes = holes_stay;
      currents = theirs;
      chunks = chunks_set v here;
      lengths = all _ (with_block b layout.blocks)
          (each_with (λ x. m' (granule_row area data_at x.first) ≡ x.granules) b layout.blocks long
          (each_both (Stands area layout) (λ x. x.first ≢ first → m' (granule_row area data_at x.first) ≡ x.granules)
          (λ x. m' (granule_row area data_at x.first) ≡ x.granules) layout.blocks
          (λ x t e. e (λ q. let f = t.filled in
          let i = t.below k w.within (omega (arith, q, low), omega (arith, q, high)) in omega (arith, f, i, q, low)))
          w.parts.blocks lengths_stay));
    }
      where
        b : Block
        b = record { first = first; granules = need; group = in_group }

    -- without a block
    pub leaves : (v : Chunk) (granule : ℕ) → SpellsChunk m' (chunk_row data_at k) v
        → m' (current_row data_at group) ≡ m (current_row data_at group)
        → m' (granule_row area data_at first) ≡ m (granule_row area data_at first)
        → Spells area data_at m'
        (record layout { chunks = slice_set layout.chunks k v; blocks = without_block granule layout.blocks })
    leaves v granule here theirs long = record {
      holes = holes_stay;
      currents = λ j l. by_current j l (cases_order j group);
      chunks = chunks_set v here;
      lengths = all _ (without_block granule layout.blocks)
          (each_kept (λ x. m' (granule_row area data_at x.first) ≡ x.granules) granule layout.blocks
          (each_both (λ x. m (granule_row area data_at x.first) ≡ x.granules)
          (λ x. x.first ≢ first → m' (granule_row area data_at x.first) ≡ x.granules)
          (λ x. m' (granule_row area data_at x.first) ≡ x.granules) layout.blocks
          (λ x e f. by_first x e f (cases_order x.first first)) (each _ layout.blocks s.lengths) lengths_stay));
    }
      where
        by_current : (j : ℕ) → j < 16 → (j ≡ group) ⊎ ((j < group) ⊎ (group < j))
            → m' (current_row data_at j) ≡ word_or_none (current_of layout j)
        by_current j l (inl e) = subst (λ i. m' (current_row data_at i) ≡ word_or_none (current_of layout i)) (sym e)
            (theirs ∙ s.currents group w.small)
        by_current j l (inr (inl q)) = current_stays j l (λ e. omega (arith, e, q))
        by_current j l (inr (inr q)) = current_stays j l (λ e. omega (arith, e, q))

        by_first : (x : Block) → m (granule_row area data_at x.first) ≡ x.granules
            → (x.first ≢ first → m' (granule_row area data_at x.first) ≡ x.granules)
            → (x.first ≡ first) ⊎ ((x.first < first) ⊎ (first < x.first))
            → m' (granule_row area data_at x.first) ≡ x.granules
        by_first x e f (inl q) = subst (λ i. m' (granule_row area data_at i) ≡ m (granule_row area data_at i))
            (sym q) long ∙ e
        by_first x e f (inr (inl q)) = f (λ p. omega (arith, p, q))
        by_first x e f (inr (inr q)) = f (λ p. omega (arith, p, q))
