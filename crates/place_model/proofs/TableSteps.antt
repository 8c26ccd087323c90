-- The layout of tables after a block was placed or released.
use Rattle.std.proofs.Common.{◌≡◌, ◌≢◌, ℕ, ◌<◌, ◌≤◌, cond, Bool, List, length, get_or, sym, ◌∙◌, subst, ap, arith}
use Rattle.std.specs.Prelude.{Option, Some, Any, slice_set}
use Rattle.std.proofs.lemmas.Bool.{lt-ltb, le-ltb}
use Rattle.std.proofs.lemmas.List.{get_or_read}
use Rattle.plan_core.specs.declared.types.Area.{Area}
use Rattle.place_spec.specs.declared.parts.Hole.{Hole}
use Rattle.place_spec.specs.declared.parts.Chunk.{Chunk}
use Rattle.place_spec.specs.declared.parts.Spot.{Spot}
use Rattle.place_spec.specs.Layout.{Block, Layout, chunk_of}
use Rattle.place_spec.specs.Place.{granule_of, taken, layout_with, placed_at}
use Rattle.place_spec.specs.Release.{freed, chunk_at, block_at, layout_without, released_block, released, without_block}
use Rattle.place_spec.specs.Release.{with_hole, left_chunk}
use Rattle.place_spec.proofs.Lists.{Each, has}
use Rattle.place_model.specs.declared.tables.Start.{Start}
use Rattle.place_model.specs.declared.tables.Tables.{Tables}
use Rattle.place_model.specs.Tables.{blocks_from, layout_of}
use Rattle.place_model.proofs.TableReads.{nothing}
use Rattle.place_model.proofs.StartLists.{with_start, without_start, found_start, no_start, has_start}
use Rattle.place_model.proofs.Steps.{IsNew, same_blocks}

pub placed_layout : (area : Area) (mid : Tables) (old : Layout) (need : ℕ) (group : Option ℕ) (spot : Spot)
    (granule : ℕ)
    → granule ≡ granule_of area old spot → layout_of mid ≡ taken need spot old → granule < length mid.starts.items
    → IsNew area old need (granule_of area old spot) → 1 ≤ need
    → record (layout_of mid) {
      blocks = blocks_from 0 (slice_set mid.starts.items granule
          (record { granules = need; group = group }));
    }
    ≡ (placed_at area old need group spot).after
placed_layout area mid old need group spot granule g t l n p =
    let with : List Block → Layout = λ bs. record (layout_of mid) { blocks = bs } in
    let b : ℕ → Block = λ x. record { first = x; granules = need; group = group } in
    let same : (layout_of mid).blocks ≡ old.blocks = ap (λ x. x.blocks) t ∙ same_blocks need spot old in
    let others : Each (λ x. x.first ≢ granule) (layout_of mid).blocks =
    subst (λ xs. Each (λ x. x.first ≢ granule) xs) (sym same)
    (subst (λ i. Each (λ x. x.first ≢ i) old.blocks) (sym g) n.others) in
    ap with (with_start 0 granule granule mid.starts.items need group (omega arith) l
    (no_start granule mid.starts.items l others) p)
    ∙ (ap (λ x. layout_with (b x) (layout_of mid)) g ∙ ap (layout_with (b (granule_of area old spot))) t)

-- the block that a start says
abbrev pub block_of : ℕ → Start → Block
block_of granule s = record { first = granule; granules = s.granules; group = s.group }

pub starts_there : (tables : Tables) (granule : ℕ) → Any (λ b. b.first ≡ granule) (layout_of tables).blocks
    → (granule < length tables.starts.items) × (0 < (get_or tables.starts.items granule nothing).granules)
starts_there tables granule a =
    has_start 0 granule granule tables.starts.items (omega arith)
    (has (λ b. b.first ≡ granule) (layout_of tables).blocks a)

pub found_there : (tables : Tables) (granule : ℕ) (s : Start) → Any (λ b. b.first ≡ granule) (layout_of tables).blocks
    → s ≡ get_or tables.starts.items granule s → block_at (layout_of tables) granule ≡ Some (block_of granule s)
found_there tables granule s a e =
    let w = starts_there tables granule a in
    found_start 0 granule granule tables.starts.items (omega arith) w.0 w.1
    ∙ ap (λ x. Some (block_of granule x)) (sym (get_or_read tables.starts.items granule s w.0 e nothing))

pub released_low : (area : Area) (tables : Tables) (granule : ℕ) (s : Start) (hs : List Hole)
    → granule < length tables.starts.items
    → block_at (layout_of tables) granule ≡ Some (block_of granule s) → granule < area.fallback
    → hs ≡ with_hole (record { start = granule; length = s.granules }) tables.holes.items
    → record (layout_of tables) { holes = hs; blocks = blocks_from 0 (slice_set tables.starts.items granule nothing) }
    ≡ released area (layout_of tables) granule
unfolding freed
released_low area tables granule s hs w f l e =
    ap (λ bs. record (layout_of tables) { holes = hs; blocks = bs })
    (without_start 0 granule granule tables.starts.items (omega arith) w)
    ∙ (ap (λ xs. record (layout_of tables) { holes = xs; blocks = without_block granule (layout_of tables).blocks }) e
    ∙ sym (ap (released_block area (layout_of tables)) f ∙ ap by_side (lt-ltb granule area.fallback l)))
  where
    by_side : Bool → Layout
    by_side t = layout_without granule (cond t
        (record (layout_of tables) {
          holes = with_hole (record { start = granule; length = s.granules })
              tables.holes.items;
        })
        (record (layout_of tables) {
          chunks = slice_set tables.chunks.items (chunk_at area granule)
              (left_chunk (layout_of tables) (chunk_at area granule)
              (chunk_of (layout_of tables) (chunk_at area granule)));
        }))

pub released_high : (area : Area) (tables : Tables) (granule : ℕ) (s : Start) (cs : List Chunk)
    → granule < length tables.starts.items
    → block_at (layout_of tables) granule ≡ Some (block_of granule s) → area.fallback ≤ granule
    → cs ≡ slice_set tables.chunks.items (chunk_at area granule)
    (left_chunk (layout_of tables) (chunk_at area granule) (chunk_of (layout_of tables) (chunk_at area granule)))
    → record (layout_of tables) { chunks = cs; blocks = blocks_from 0 (slice_set tables.starts.items granule nothing) }
    ≡ released area (layout_of tables) granule
unfolding freed
released_high area tables granule s cs w f l e =
    ap (λ bs. record (layout_of tables) { chunks = cs; blocks = bs })
    (without_start 0 granule granule tables.starts.items (omega arith) w)
    ∙ (ap (λ xs. record (layout_of tables) { chunks = xs; blocks = without_block granule (layout_of tables).blocks }) e
    ∙ sym (ap (released_block area (layout_of tables)) f ∙ ap by_side (le-ltb granule area.fallback l)))
  where
    by_side : Bool → Layout
    by_side t = layout_without granule (cond t
        (record (layout_of tables) {
          holes = with_hole (record { start = granule; length = s.granules })
              tables.holes.items;
        })
        (record (layout_of tables) {
          chunks = slice_set tables.chunks.items (chunk_at area granule)
              (left_chunk (layout_of tables) (chunk_at area granule)
              (chunk_of (layout_of tables) (chunk_at area granule)));
        }))
