-- A release takes away the block at its granule alone, and each block is found by its first granule.
use Rattle.std.proofs.Common.{◌≡◌, ◌≢◌, ◌⊎◌, ℕ, ◌<◌, ◌==◌, cond, Bool, true, false, List, [], ◌∷◌, get_or, sym, ◌∙◌}
use Rattle.std.proofs.Common.{subst, inl, inr, refl, ap, arith}
use Rattle.std.specs.Prelude.{Option, Some, None, All, AllPairs, find, not, nat_lt, slice_set}
use Rattle.std.proofs.lemmas.Bool.{eqb-true, eqb-false, eq-eqb, ne_eqb, not-true}
use Rattle.std.proofs.lemmas.List.Elements.{All-nil, All-cons, All-filter, filter_passes}
use Rattle.plan_core.specs.declared.types.Area.{Area}
use Rattle.place_spec.specs.Layout.{Block, Layout, chunk_of}
use Rattle.place_spec.specs.Release.{with_hole, block_at, without_block, chunk_at, left_chunk, freed, released_block}
use Rattle.place_spec.specs.Release.{released}
use Rattle.place_spec.specs.Sound.{Apart, Sound}
use Rattle.block_laws.specs.Blocks.{IsOneOf, StandsWithout}
use Rattle.block_laws.proofs.Items.{any_none, any_first, any_rest, any_cases, itself, pairs_first, pairs_rest}

module _ (granule : ℕ) where
  abbrev begins : Block → Bool
  begins x = x.first == granule

  -- the other blocks stay
  others_stay : (xs : List Block) (z : Block) → z.first ≢ granule → IsOneOf xs z → IsOneOf (without_block granule xs) z
  others_stay [] z other one = absurd (any_none (λ y. y ≡ z) one)
  others_stay (x ∷ xs) z other one =
      by_test (λ h. others_stay xs z other h) (x.first == granule) refl (any_cases (λ y. y ≡ z) x xs one)
    where
      by_test : (IsOneOf xs z → IsOneOf (without_block granule xs) z) → (t : Bool) → (x.first == granule) ≡ t
          → (x ≡ z) ⊎ IsOneOf xs z
          → IsOneOf (cond (not t) (x ∷ without_block granule xs) (without_block granule xs)) z
      by_test rest true is (inl same) =
          absurd (other (ap (λ (y : Block). y.first) (sym same) ∙ eqb-true x.first granule is))
      by_test rest true is (inr h) = rest h
      by_test rest false is (inl same) = any_first (λ y. y ≡ z) x (without_block granule xs) same
      by_test rest false is (inr h) = any_rest (λ y. y ≡ z) x (without_block granule xs) (rest h)

  -- where no block begins there, all stay
  none_goes : (xs : List Block) → find begins xs ≡ None → without_block granule xs ≡ xs
  none_goes [] e = refl
  none_goes (x ∷ xs) e = by_test (λ h. none_goes xs h) (x.first == granule) e
    where
      by_test : (find begins xs ≡ None → without_block granule xs ≡ xs) → (t : Bool)
          → cond t (Some x) (find begins xs) ≡ None
          → cond (not t) (x ∷ without_block granule xs) (without_block granule xs) ≡ x ∷ xs
      by_test rest true e = absurd (cc)
      by_test rest false e = ap (λ ys. x ∷ ys) (rest e)

  -- what is found begins there
  found_begins : (b : Block) (xs : List Block) → find begins xs ≡ Some b → b.first ≡ granule
  found_begins b [] e = absurd (cc)
  found_begins b (x ∷ xs) e = by_test (λ h. found_begins b xs h) (x.first == granule) refl e
    where
      by_test : (find begins xs ≡ Some b → b.first ≡ granule) → (t : Bool) → (x.first == granule) ≡ t
          → cond t (Some x) (find begins xs) ≡ Some b → b.first ≡ granule
      by_test rest true is e =
          let same : x ≡ b = cc in subst (λ (y : Block). y.first ≡ granule) same (eqb-true x.first granule is)
      by_test rest false is e = rest e

-- the granules of a block that go back leave the blocks as they are
freed_blocks : (area : Area) (b : Block) (layout : Layout) → (freed area b layout).blocks ≡ layout.blocks
unfolding freed
freed_blocks area b layout = by_test (nat_lt b.first area.fallback)
  where
    low : Layout
    low = record layout { holes = with_hole (record { start = b.first; length = b.granules }) layout.holes }

    high : Layout
    high = record layout {
      chunks = slice_set layout.chunks (chunk_at area b.first)
          (left_chunk layout (chunk_at area b.first) (chunk_of layout (chunk_at area b.first)));
    }

    by_test : (t : Bool) → (cond t low high).blocks ≡ layout.blocks
    by_test true = refl
    by_test false = refl

released_blocks : (area : Area) (layout : Layout) (granule : ℕ)
    → (released area layout granule).blocks ≡ without_block granule layout.blocks
released_blocks area layout granule = by_found (block_at layout granule) refl
  where
    by_found : (o : Option Block) → block_at layout granule ≡ o
        → (released_block area layout o).blocks ≡ without_block granule layout.blocks
    by_found None e = sym (none_goes granule layout.blocks e)
    by_found (Some b) e =
        ap (without_block b.first) (freed_blocks area b layout)
        ∙ ap (λ g. without_block g layout.blocks) (found_begins granule b layout.blocks e)

pub stands_without : (area : Area) (layout : Layout) (granule : ℕ)
    → StandsWithout granule layout.blocks (released area layout granule).blocks
stands_without area layout granule =
    subst (StandsWithout granule layout.blocks) (sym (released_blocks area layout granule)) (record {
      old = λ k d low other. others_stay granule layout.blocks (get_or layout.blocks k d) other
          (itself layout.blocks k d low);
      each = λ k d low. (
        eqb-false (get_or (without_block granule layout.blocks) k d).first granule
            (not-true ((get_or (without_block granule layout.blocks) k d).first == granule)
            (filter_passes stays layout.blocks k d low)),
        All-filter stays (IsOneOf layout.blocks) layout.blocks (itself layout.blocks) k d low,
      );
    })
  where
    stays : Block → Bool
    stays x = not (x.first == granule)

-- blocks that begin at different granules are found each by its own
abbrev Differ : Block → Block → Type 0
Differ x y = x.first ≢ y.first

each_found : (xs : List Block) → AllPairs Differ xs → All (λ b. find (λ x. x.first == b.first) xs ≡ Some b) xs
each_found [] h = All-nil (λ (b : Block). find (λ (x : Block). x.first == b.first) [] ≡ Some b)
each_found (x ∷ xs) h =
    All-cons (λ (b : Block). find (λ y. y.first == b.first) (x ∷ xs) ≡ Some b) x xs
    (here (x.first == x.first) (eq-eqb x.first x.first refl))
    (λ k d low. past (get_or xs k d) (pairs_first Differ x xs h k d low)
    (each_found xs (pairs_rest Differ x xs h) k d low))
  where
    here : (t : Bool) → t ≡ true → cond t (Some x) (find (λ y. y.first == x.first) xs) ≡ Some x
    here true e = refl
    here false e = absurd (cc)

    past : (b : Block) → x.first ≢ b.first → find (λ y. y.first == b.first) xs ≡ Some b
        → find (λ y. y.first == b.first) (x ∷ xs) ≡ Some b
    past b other found = by_test (x.first == b.first) (ne_eqb x.first b.first other)
      where
        by_test : (t : Bool) → t ≡ false → cond t (Some x) (find (λ y. y.first == b.first) xs) ≡ Some b
        by_test true e = absurd (cc)
        by_test false e = found

apart_differ : (x y : Block) → 0 < x.granules → 0 < y.granules → Apart x.first x.granules y.first y.granules
    → x.first ≢ y.first
apart_differ x y p q (inl l) = omega arith
apart_differ x y p q (inr l) = omega arith

pub all_found : (area : Area) (layout : Layout) → Sound area layout
    → All (λ b. block_at layout b.first ≡ Some b) layout.blocks
all_found area layout s =
    each_found layout.blocks (λ i j d less low.
    apart_differ (get_or layout.blocks i d) (get_or layout.blocks j d) (s.blocks_filled i d (omega arith))
    (s.blocks_filled j d low) (s.blocks_apart i j d less low))
