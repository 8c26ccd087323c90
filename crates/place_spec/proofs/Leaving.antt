-- A block that is released: in a chunk or in the fallback.
use Rattle.std.proofs.Common.{◌≡◌, ◌≢◌, ℕ, zero, suc, ◌+◌, ◌-◌, ◌<◌, ◌≤◌, ◌⊎◌, ◌==◌, cond, Bool, true, false, List, []}
use Rattle.std.proofs.Common.{◌∷◌, length, ◌∙◌, inl, inr, refl, ap, arith, length-set}
use Rattle.std.specs.Prelude.{Option, Some, None, count_by, slice_set}
use Rattle.std.proofs.lemmas.Bool.{eqb-true, eq-eqb}
use Rattle.plan_core.specs.declared.types.Area.{Area}
use Rattle.place_spec.specs.declared.parts.Hole.{Hole}
use Rattle.place_spec.specs.declared.parts.Chunk.{Chunk}
use Rattle.place_spec.specs.Layout.{Block, Layout, current_of, chunk_of, idle_chunk, chunk_front}
use Rattle.place_spec.specs.Release.{block_at, without_block, with_hole, is_chunk, is_current, left_with, left_chunk}
use Rattle.place_spec.specs.Sound.{Covers, Frees, OnOneSide, InChunk, is_in_chunk}
use Rattle.place_spec.proofs.Lists.{Each, Pairs, Has, each_map, each_both}
use Rattle.place_spec.proofs.Blocks.{each_found, found_first, pairs_found, each_without, each_kept, pairs_without}
use Rattle.place_spec.proofs.Blocks.{has_without, Differ, count_without, count_none, found_has}
use Rattle.place_spec.proofs.Fronts.{front_from, in_one}
use Rattle.place_spec.proofs.HoleLists.{Added, added}
use Rattle.place_spec.proofs.SoundParts.{BlocksApart, apart_sym, Stands, Keeps, Parts, at_item, in_true, in_false}

-- blocks that are apart begin at different granules
pub differ : (xs : List Block) → Each (λ x. 0 < x.granules) xs → Pairs BlocksApart xs → Pairs Differ xs
differ [] f p = tt
differ (x ∷ xs) f p = (
  each_both (BlocksApart x) (λ y. 0 < y.granules) (Differ x) xs (λ y a g e. by_side y a g e) p.0 f.1,
  differ xs f.1
      p.1,
)
  where
    by_side : (y : Block) → BlocksApart x y → 0 < y.granules → x.first ≡ y.first → ⊥
    by_side y (inl l) g e = let h = f.0 in omega (arith, l, e, h)
    by_side y (inr l) g e = omega (arith, l, e, g)

abbrev pub gone : Layout → ℕ → List Block
gone layout g = without_block g layout.blocks

module _ (area : Area) (layout : Layout) (p : Parts area layout) (g : ℕ) (b : Block)
    (found : block_at layout g ≡ Some b) where
  pub stands : Stands area layout b
  stands = each_found (Stands area layout) (λ x. x.first == g) b layout.blocks found p.blocks

  pub first_is : b.first ≡ g
  first_is = found_first g b layout.blocks found

  pub differing : Pairs Differ layout.blocks
  differing = differ layout.blocks (each_map (Stands area layout) (λ x. 0 < x.granules) layout.blocks (λ x h. h.filled)
      p.blocks) p.apart

  -- one block less is counted where the released one was
  pub counted_less : (k : ℕ) → InChunk area k b → count_by (is_in_chunk area k) (gone layout g) + 1
      ≡ count_by (is_in_chunk area k) layout.blocks
  counted_less k i =
      let w = count_without (is_in_chunk area k) g b layout.blocks found differing in
      let c = ap (λ v. cond v 1 0 + count_by (is_in_chunk area k) (gone layout g)) (in_true area k b i) in
      omega (arith, w, c)

  pub counted_same : (k : ℕ) → (InChunk area k b → ⊥) → count_by (is_in_chunk area k) (gone layout g)
      ≡ count_by (is_in_chunk area k) layout.blocks
  counted_same k n =
      let w = count_without (is_in_chunk area k) g b layout.blocks found differing in
      let c = ap (λ v. cond v 1 0 + count_by (is_in_chunk area k) (gone layout g)) (in_false area k b n) in
      omega (arith, w, c)

  -- the others are apart from it
  others_apart : Each (λ x. x.first ≢ g → BlocksApart b x) layout.blocks
  others_apart = pairs_found BlocksApart g b layout.blocks apart_sym found p.apart

  -- a granule is still covered, or was one of the released block
  covers_less : (i : ℕ) → Has (λ x. Covers x i) layout.blocks → Covers b i ⊎ Has (λ x. Covers x i) (gone layout g)
  covers_less i h = at (has_without (λ x. Covers x i) g layout.blocks h)
    where
      at : Has (λ x. Covers x i × (x.first ≡ g)) layout.blocks ⊎ Has (λ x. Covers x i) (gone layout g) → Covers b i
          ⊎ Has (λ x. Covers x i) (gone layout g)
      at (inl q) = inl (found_has (λ x. Covers x i) g b layout.blocks found differing q)
      at (inr q) = inr q

-- a chunk is its owner's current one
current_true : (layout : Layout) (k : ℕ) (o : Option ℕ) → is_current layout k o ≡ true → (h : ℕ)
    × (current_of layout h ≡ Some k)
current_true layout k None e = absurd (cc)
current_true layout k (Some h) e = (h, at (current_of layout h) e)
  where
    at : (o : Option ℕ) → is_chunk k o ≡ true → o ≡ Some k
    at None e = absurd (cc)
    at (Some j) e = ap (λ i. Some i) (eqb-true j k e)

true_current : (layout : Layout) (k h : ℕ) (o : Option ℕ) → o ≡ Some h → current_of layout h ≡ Some k
    → is_current layout k o ≡ true
true_current layout k h o e c =
    ap (is_current layout k) e ∙ (ap (is_chunk k) c ∙ eq-eqb k k refl)

left_live : (n : ℕ) (cur : Bool) (c : Chunk) → (left_with n cur c).live ≡ n
left_live zero cur c = refl
left_live (suc n) cur c = refl

module _ (area : Area) (layout : Layout) (p : Parts area layout) (g : ℕ) (b : Block)
    (found : block_at layout g ≡ Some b)
    (k : ℕ) (within : k < area.chunks) (stood : InChunk area k b) where
  abbrev c : Chunk
  c = chunk_of layout k

  abbrev cur : Bool
  cur = is_current layout k c.owner

  abbrev v : Chunk
  v = left_chunk layout k c

  abbrev new : Layout
  new = record layout { chunks = slice_set layout.chunks k v; blocks = gone layout g }

  at_k : k < length layout.chunks
  at_k = let e = p.chunks in omega (arith, e, within)

  less : count_by (is_in_chunk area k) (gone layout g) + 1 ≡ c.live
  less = counted_less area layout p g b found k stood ∙ (p.keeps k within).counted

  -- where no block is left in the chunk
  alone : (n : ℕ) → c.live - 1 ≡ n → Each (λ x. n ≡ 0 → is_in_chunk area k x ≡ false) (gone layout g)
  alone zero e =
      each_map (λ x. is_in_chunk area k x ≡ false) (λ x. zero ≡ 0 → is_in_chunk area k x ≡ false) (gone layout g)
      (λ x q z. q)
      (count_none (is_in_chunk area k) (gone layout g) (omega (arith, e, less)))
  alone (suc n) e =
      each_map (Stands area layout) (λ x. suc n ≡ 0 → is_in_chunk area k x ≡ false) (gone layout g)
      (λ x q z. absurd (omega (arith, z)))
      (each_kept (Stands area layout) g layout.blocks p.blocks)

  below_left : (x : Block) → Stands area layout x → (n : ℕ) → (n ≡ 0 → is_in_chunk area k x ≡ false) → InChunk area k x
      → x.first + x.granules ≤ chunk_front area k + (left_with n cur c).bump
  below_left x h zero a i = absurd (let t = in_true area k x i in let f = a refl in cc)
  below_left x h (suc n) a i = h.below k within i

  owned_left : (x : Block) → Stands area layout x → (n : ℕ) → (n ≡ 0 → is_in_chunk area k x ≡ false) → InChunk area k x
      → x.group ≡ (left_with n cur c).owner
  owned_left x h zero a i = absurd (let t = in_true area k x i in let f = a refl in cc)
  owned_left x h (suc n) a i = h.owned k within i

  left_stands : (x : Block) → Stands area layout x → (c.live - 1 ≡ 0 → is_in_chunk area k x ≡ false) → Stands area new x
  left_stands x h a = record {
    filled = h.filled;
    inside = h.inside;
    crossing = h.crossing;
    below = at_item (λ j d. j < area.chunks → InChunk area j x → x.first + x.granules ≤ chunk_front area j + d.bump)
        layout.chunks k v idle_chunk at_k (λ l i. below_left x h (c.live - 1) a i) (λ j n l i. h.below j l i);
    owned = at_item (λ j d. j < area.chunks → InChunk area j x → x.group ≡ d.owner)
        layout.chunks k v idle_chunk at_k (λ l i. owned_left x h (c.live - 1) a i) (λ j n l i. h.owned j l i);
    group = h.group;
    holes = h.holes;
  }

  keeps_left : (n : ℕ) → c.live ≡ n + 1 → (t : Bool) → cur ≡ t → count_by (is_in_chunk area k) (gone layout g) ≡ n
      → Keeps area new k (left_with n t c)
  keeps_left zero e t u w = record {
    counted = w;
    bumps = omega arith;
    idle = (λ q. refl, λ q. refl);
    unowned = λ q. refl;
    in_use = λ o f. absurd (by_current t u o f);
  }
    where
      by_current : (t : Bool) → cur ≡ t → (cond t c.owner None) ≢ None → ((h : ℕ) → current_of layout h ≢ Some k) → ⊥
      by_current true u o f = let q = current_true layout k c.owner u in f q.0 q.1
      by_current false u o f = o refl
  keeps_left (suc n) e t u w = record {
    counted = w;
    bumps = (p.keeps k within).bumps;
    idle = (λ q. absurd (let z = (p.keeps k within).idle.0 q in omega (arith, z, e)), λ q. absurd (omega (arith, q)));
    unowned = λ q. absurd (let z = (p.keeps k within).unowned q in omega (arith, z, e));
    in_use = λ o f. omega arith;
  }

  keeps_here : k < area.chunks → Keeps area new k v
  keeps_here l = keeps_left (c.live - 1) (omega (arith, less)) cur refl (omega (arith, less))

  keeps_there : (j : ℕ) → j ≢ k → j < area.chunks → Keeps area new j (chunk_of layout j)
  keeps_there j n l = let old = p.keeps j l in record {
    counted = counted_same area layout p g b found j (λ i. n (in_one area j k b i stood)) ∙ old.counted;
    bumps = old.bumps;
    idle = old.idle;
    unowned = old.unowned;
    in_use = old.in_use;
  }

  -- the owner of a current chunk stays, and no other comes
  owner_left : (n : ℕ) (t : Bool) (h : ℕ) → t ≡ true → c.owner ≡ Some h → (left_with n t c).owner ≡ Some h
  owner_left zero true h u e = e
  owner_left zero false h u e = absurd (cc)
  owner_left (suc n) t h u e = e

  owner_was : (n : ℕ) (t : Bool) (h : ℕ) → (left_with n t c).owner ≡ Some h → c.owner ≡ Some h
  owner_was zero true h e = e
  owner_was zero false h e = absurd (cc)
  owner_was (suc n) t h e = e

  pub leave_parts : Parts area new
  leave_parts = record {
    groups = p.groups;
    chunks = length-set layout.chunks k v ∙ p.chunks;
    blocks = each_both (Stands area layout) (λ x. c.live - 1 ≡ 0 → is_in_chunk area k x ≡ false) (Stands area new)
        (gone layout g) left_stands
        (each_kept (Stands area layout) g layout.blocks p.blocks) (alone (c.live - 1) refl);
    apart = pairs_without BlocksApart g layout.blocks p.apart;
    covered = λ i l. still i l (p.covered i l);
    ascends = p.ascends;
    inside = p.inside;
    keeps = at_item (λ j d. j < area.chunks → Keeps area new j d) layout.chunks k v idle_chunk at_k keeps_here
        keeps_there;
    currents = λ h j e. let old = p.currents h j e in (
      old.0,
      at_item (λ i d. current_of layout h ≡ Some i → (chunk_of layout i).owner ≡ Some h → d.owner ≡ Some h)
          layout.chunks k v idle_chunk at_k
          (λ q o. owner_left (c.live - 1) cur h (true_current layout k h c.owner o q) o) (λ i n q o. o) j e old.1,
    );
    owners = λ j h. at_item (λ i d. d.owner ≡ Some h → h < 16) layout.chunks k v idle_chunk at_k
        (λ e. p.owners k h (owner_was (c.live - 1) cur h e)) (λ i n e. p.owners i h e) j;
  }
    where
      other : (i : ℕ) → i < area.fallback → Covers b i ⊎ Has (λ x. Covers x i) (gone layout g)
          → Has (λ x. Covers x i) (gone layout g)
      other i l (inl q) = absurd (let f = front_from area k in omega (arith, l, f, q.0, stood.0))
      other i l (inr q) = q

      still : (i : ℕ) → i < area.fallback → Has (λ x. Covers x i) layout.blocks ⊎ Has (λ h. Frees h i) layout.holes
          → Has (λ x. Covers x i) (gone layout g) ⊎ Has (λ h. Frees h i) layout.holes
      still i l (inl q) = inl (other i l (covers_less area layout p g b found i q))
      still i l (inr q) = inr q

module _ (area : Area) (layout : Layout) (p : Parts area layout) (g : ℕ) (b : Block)
    (found : block_at layout g ≡ Some b)
    (low : b.first < area.fallback) where
  abbrev hole : Hole
  hole = record { start = b.first; length = b.granules }

  abbrev open_layout : Layout
  open_layout = record layout { holes = with_hole hole layout.holes; blocks = gone layout g }

  own : Stands area layout b
  own = stands area layout p g b found

  low_end : b.first + b.granules ≤ area.fallback
  low_end = at (own.crossing 0 (omega arith))
    where
      at : OnOneSide (chunk_front area 0) b → b.first + b.granules ≤ area.fallback
      at (inl l) = omega (arith, l)
      at (inr l) = absurd (omega (arith, l, low))

  in_none : (k : ℕ) → InChunk area k b → ⊥
  in_none k q = let f = front_from area k in omega (arith, f, low, q.0)

  adds : Added 0 area.fallback hole layout.holes open_layout.holes
  adds = added 0 area.fallback hole layout.holes (omega arith) own.filled low_end p.ascends p.inside own.holes

  free_stands : (x : Block) → Stands area layout x → BlocksApart b x → Stands area open_layout x
  free_stands x h a = record {
    filled = h.filled;
    inside = h.inside;
    crossing = h.crossing;
    below = h.below;
    owned = h.owned;
    group = h.group;
    holes = adds.apart x.first x.granules h.filled (apart_sym b x a) h.holes;
  }

  pub free_parts : Parts area open_layout
  free_parts = record {
    groups = p.groups;
    chunks = p.chunks;
    blocks = each_both (Stands area layout) (BlocksApart b) (Stands area open_layout) (gone layout g) free_stands
        (each_kept (Stands area layout) g layout.blocks p.blocks)
        (each_without (BlocksApart b) g layout.blocks (others_apart area layout p g b found));
    apart = pairs_without BlocksApart g layout.blocks p.apart;
    covered = λ i l. still i (p.covered i l);
    ascends = adds.ascends;
    inside = adds.inside;
    keeps = λ k l. let old = p.keeps k l in record {
      counted = counted_same area layout p g b found k (in_none k) ∙ old.counted;
      bumps = old.bumps;
      idle = old.idle;
      unowned = old.unowned;
      in_use = old.in_use;
    };
    currents = p.currents;
    owners = p.owners;
  }
    where
      other : (i : ℕ) → Covers b i ⊎ Has (λ x. Covers x i) (gone layout g)
          → Has (λ x. Covers x i) (gone layout g) ⊎ Has (λ h. Frees h i) open_layout.holes
      other i (inl q) = inr (adds.covers i (inl q))
      other i (inr q) = inl q

      still : (i : ℕ) → Has (λ x. Covers x i) layout.blocks ⊎ Has (λ h. Frees h i) layout.holes
          → Has (λ x. Covers x i) (gone layout g) ⊎ Has (λ h. Frees h i) open_layout.holes
      still i (inl q) = other i (covers_less area layout p g b found i q)
      still i (inr q) = inr (adds.covers i (inr q))
