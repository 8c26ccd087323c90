-- A block that is placed at a chunk's bump, whether the chunk was its group's current one or had no owner.
use Rattle.std.proofs.Common.{◌≡◌, ◌≢◌, ℕ, ◌+◌, ◌<◌, ◌≤◌, ◌⊎◌, cond, length, sym, ◌∙◌, subst, inl, inr, refl, ap, arith}
use Rattle.std.proofs.Common.{length-set}
use Rattle.std.specs.Prelude.{Option, Some, None, count_by, slice_set}
use Rattle.std.proofs.lemmas.List.{get_or-set_other}
use Rattle.std.proofs.lemmas.Bool.{cases_eq, cases_lt}
use Rattle.plan_core.specs.declared.types.Area.{Area}
use Rattle.place_spec.specs.declared.parts.Chunk.{Chunk}
use Rattle.place_spec.specs.Layout.{Block, Layout, current_of, chunk_of, idle_chunk, chunk_size, chunk_front}
use Rattle.place_spec.specs.Place.{with_block}
use Rattle.place_spec.specs.Sound.{Apart, Covers, Frees, OnOneSide, InChunk, is_in_chunk}
use Rattle.place_spec.proofs.Lists.{Has, each_map}
use Rattle.place_spec.proofs.Blocks.{each_with, pairs_with, has_with, count_with}
use Rattle.place_spec.proofs.Fronts.{front_next, front_le, front_end, front_from, in_one}
use Rattle.place_spec.proofs.SoundParts.{BlocksApart, apart_sym, Stands, Keeps, Parts, at_item, in_true, in_false}

-- the block that is placed, the chunk with it, and the layout after it
abbrev pub entering : Area → Layout → (need g k : ℕ) → Block
entering area layout need g k = record {
  first = chunk_front area k + (chunk_of layout k).bump;
  granules = need;
  group =
      Some g;
}

abbrev pub entered : Layout → (need g k : ℕ) → Chunk
entered layout need g k = record {
  owner = Some g;
  bump = (chunk_of layout k).bump + need;
  live =
      (chunk_of layout k).live + 1;
}

abbrev pub enters : Area → Layout → (need g k : ℕ) → Layout
enters area layout need g k = record {
  currents = slice_set layout.currents g (Some k);
  chunks = slice_set layout.chunks k (entered layout need g k);
  holes = layout.holes;
  blocks = with_block (entering area layout need g k) layout.blocks;
}

pub record MayEnter (area : Area) (layout : Layout) (need g k : ℕ) : Type 0 where
  pub parts : Parts area layout
  pub some : 1 ≤ need
  pub small : g < 16
  pub within : k < area.chunks
  pub room : (chunk_of layout k).bump + need ≤ chunk_size area
  pub owner : ((chunk_of layout k).owner ≡ Some g) ⊎ ((chunk_of layout k).owner ≡ None)
  pub left : (j : ℕ) → current_of layout g ≡ Some j → j ≢ k → 0 < (chunk_of layout j).live

module _ (area : Area) (layout : Layout) (need g k : ℕ) (m : MayEnter area layout need g k) where
  abbrev b : Block
  b = entering area layout need g k

  abbrev new : Layout
  new = enters area layout need g k

  at_k : k < length layout.chunks
  at_k = let e = m.parts.chunks in let w = m.within in omega (arith, e, w)

  -- where the block stands
  from : chunk_front area k ≤ b.first
  from = omega arith

  to : b.first + b.granules ≤ chunk_front area (k + 1)
  to = let r = m.room in let n = front_next area k in omega (arith, r, n)

  in_k : InChunk area k b
  in_k = let s = m.some in (from, omega (arith, s, to))

  empty_before : (chunk_of layout k).owner ≡ None → (chunk_of layout k).bump ≡ 0
  empty_before e = let kept = m.parts.keeps k m.within in kept.idle.1 (kept.unowned e)

  -- an old block
  old_owned : (x : Block) → Stands area layout x → InChunk area k x
      → ((chunk_of layout k).owner ≡ Some g) ⊎ ((chunk_of layout k).owner ≡ None) → x.group ≡ Some g
  old_owned x h i (inl e) = h.owned k m.within i ∙ e
  old_owned x h i (inr e) =
      let w = h.below k m.within i in let z = empty_before e in let f = h.filled in absurd (omega (arith, w, z, f, i.0))

  old_stands : (x : Block) → Stands area layout x → Stands area new x
  old_stands x h = record {
    filled = h.filled;
    inside = h.inside;
    crossing = h.crossing;
    below = at_item (λ j c. j < area.chunks → InChunk area j x → x.first + x.granules ≤ chunk_front area j + c.bump)
        layout.chunks k (entered layout need g k) idle_chunk at_k
        (λ l i. let w = h.below k l i in omega (arith, w)) (λ j n l i. h.below j l i);
    owned = at_item (λ j c. j < area.chunks → InChunk area j x → x.group ≡ c.owner)
        layout.chunks k (entered layout need g k) idle_chunk at_k
        (λ l i. old_owned x h i m.owner) (λ j n l i. h.owned j l i);
    group = h.group;
    holes = h.holes;
  }

  old_apart : (x : Block) → Stands area layout x → BlocksApart b x
  old_apart x h = at (h.crossing k (omega (arith, m.within))) (h.crossing (k + 1) (omega (arith, m.within)))
    where
      at : OnOneSide (chunk_front area k) x → OnOneSide (chunk_front area (k + 1)) x → BlocksApart b x
      at (inl l) q = inr (omega (arith, l, from))
      at (inr l) (inr q) = inl (omega (arith, q, to))
      at (inr l) (inl q) =
          let f = h.filled in
          let w = h.below k m.within (l, omega (arith, q, f)) in inr (omega (arith, w))

  -- the new block
  new_crossing : (j : ℕ) → (j < k + 1) ⊎ (k + 1 ≤ j) → OnOneSide (chunk_front area j) b
  new_crossing j (inl l) = let o = front_le area j k (omega (arith, l)) in inr (omega (arith, o, from))
  new_crossing j (inr l) = let o = front_le area (k + 1) j l in inl (omega (arith, o, to))

  new_stands : Stands area new b
  new_stands = record {
    filled = m.some;
    inside = let e = front_end area k m.within in omega (arith, e, to);
    crossing = λ j l. new_crossing j (cases_lt j (k + 1));
    below = at_item (λ j c. j < area.chunks → InChunk area j b → b.first + b.granules ≤ chunk_front area j + c.bump)
        layout.chunks k (entered layout need g k) idle_chunk at_k
        (λ l i. omega arith) (λ j n l i. absurd (n (in_one area j k b i in_k)));
    owned = at_item (λ j c. j < area.chunks → InChunk area j b → b.group ≡ c.owner)
        layout.chunks k (entered layout need g k) idle_chunk at_k
        (λ l i. refl) (λ j n l i. absurd (n (in_one area j k b i in_k)));
    group = λ h e. let q : g ≡ h = cc in subst (λ x. x < 16) q m.small;
    holes = each_map (λ h. h.start + h.length ≤ area.fallback) (λ h. Apart b.first b.granules h.start h.length)
        layout.holes
        (λ h l. let f = front_from area k in inr (omega (arith, l, f, from))) m.parts.inside;
  }

  -- the chunks
  counted_here : count_by (is_in_chunk area k) new.blocks ≡ (chunk_of layout k).live + 1
  counted_here =
      let w = count_with (is_in_chunk area k) b layout.blocks in
      let i = ap (λ v. cond v 1 0 + count_by (is_in_chunk area k) layout.blocks) (in_true area k b in_k) in
      let c = (m.parts.keeps k m.within).counted in omega (arith, w, i, c)

  counted_there : (j : ℕ) → j ≢ k → j < area.chunks → count_by (is_in_chunk area j) new.blocks
      ≡ (chunk_of layout j).live
  counted_there j n l =
      let w = count_with (is_in_chunk area j) b layout.blocks in
      let i = ap (λ v. cond v 1 0 + count_by (is_in_chunk area j) layout.blocks)
      (in_false area j b (λ q. n (in_one area j k b q in_k))) in
      let c = (m.parts.keeps j l).counted in omega (arith, w, i, c)

  current_there : (h : ℕ) → h ≢ g → current_of new h ≡ current_of layout h
  current_there h n = get_or-set_other layout.currents g h (Some k) None n

  in_use_there : (j : ℕ) → j ≢ k → j < area.chunks → (chunk_of layout j).owner ≢ None
      → ((h : ℕ) → current_of new h ≢ Some j) → 0 < (chunk_of layout j).live
  in_use_there j n l o f = at (current_of layout g) refl
    where
      no_other : ((h : ℕ) → h ≡ g → current_of layout h ≢ Some j) → 0 < (chunk_of layout j).live
      no_other none = (m.parts.keeps j l).in_use o (λ h. by_group h (cases_eq h g))
        where
          by_group : (h : ℕ) → (h ≡ g) ⊎ (h ≡ g → ⊥) → current_of layout h ≢ Some j
          by_group h (inl e) = none h e
          by_group h (inr e) = λ q. f h (current_there h e ∙ q)

      at : (o : Option ℕ) → current_of layout g ≡ o → 0 < (chunk_of layout j).live
      at None e = no_other (λ h q r. absurd (let t : current_of layout h ≡ current_of layout g =
          ap (current_of layout) q in cc))
      at (Some i) e = by_number (cases_eq i j)
        where
          by_number : (i ≡ j) ⊎ (i ≡ j → ⊥) → 0 < (chunk_of layout j).live
          by_number (inl q) = m.left j (e ∙ ap (λ x. Some x) q) n
          by_number (inr q) = no_other (λ h p r. let t : current_of layout h ≡ current_of layout g =
              ap (current_of layout) p in
              let u : Some i ≡ Some j = cc in let v : i ≡ j = cc in q v)

  keeps_here : k < area.chunks → Keeps area new k (entered layout need g k)
  keeps_here l = record {
    counted = counted_here;
    bumps = m.room;
    idle = (λ e. absurd (let s = m.some in omega (arith, e, s)), λ e. absurd (omega (arith, e)));
    unowned = λ e. absurd (cc);
    in_use = λ o f. omega arith;
  }

  keeps_there : (j : ℕ) → j ≢ k → j < area.chunks → Keeps area new j (chunk_of layout j)
  keeps_there j n l = record {
    counted = counted_there j n l;
    bumps = (m.parts.keeps j l).bumps;
    idle = (m.parts.keeps j l).idle;
    unowned = (m.parts.keeps j l).unowned;
    in_use = in_use_there j n l;
  }

  -- the owner of a chunk stays
  stays : (h : ℕ) → h ≢ g → ((chunk_of layout k).owner ≡ Some g) ⊎ ((chunk_of layout k).owner ≡ None)
      → (chunk_of layout k).owner ≡ Some h → Some g ≡ Some h
  stays h n (inl e) q = sym e ∙ q
  stays h n (inr e) q = absurd (cc)

  new_current : (h j : ℕ) → h ≢ g → current_of layout h ≡ Some j → (j < area.chunks) × ((chunk_of new j).owner ≡ Some h)
  new_current h j n e =
      let old = m.parts.currents h j e in (
        old.0,
        at_item (λ i c. (chunk_of layout i).owner ≡ Some h → c.owner ≡ Some h)
            layout.chunks k (entered layout need g k) idle_chunk at_k (λ q. stays h n m.owner q) (λ i o q. q) j old.1,
      )

  this_current : (j : ℕ) → Some k ≡ Some j → (j < area.chunks) × ((chunk_of new j).owner ≡ Some g)
  this_current j e =
      let q : k ≡ j = cc in (
        subst (λ x. x < area.chunks) q m.within,
        at_item (λ i c. k ≡ i → c.owner ≡ Some g) layout.chunks k (entered layout need g k) idle_chunk at_k
            (λ p. refl) (λ i o p. absurd (o (sym p))) j q,
      )

  pub enter_parts : Parts area new
  enter_parts = record {
    groups = length-set layout.currents g (Some k) ∙ m.parts.groups;
    chunks = length-set layout.chunks k (entered layout need g k) ∙ m.parts.chunks;
    blocks = each_with (Stands area new) b layout.blocks new_stands
        (each_map (Stands area layout) (Stands area new) layout.blocks old_stands m.parts.blocks);
    apart = pairs_with BlocksApart b layout.blocks apart_sym
        (each_map (Stands area layout) (BlocksApart b) layout.blocks old_apart m.parts.blocks) m.parts.apart;
    covered = λ i l. still i (m.parts.covered i l);
    ascends = m.parts.ascends;
    inside = m.parts.inside;
    keeps = at_item (λ j c. j < area.chunks → Keeps area new j c) layout.chunks k (entered layout need g k) idle_chunk
        at_k keeps_here keeps_there;
    currents = λ h j. at_item (λ h o. o ≡ Some j → (j < area.chunks) × ((chunk_of new j).owner ≡ Some h))
        layout.currents g (Some k) None
        (let s = m.small in let e = m.parts.groups in omega (arith, s, e)) (this_current j) (λ h n. new_current h j n)
        h;
    owners = λ j h. at_item (λ i c. c.owner ≡ Some h → h < 16) layout.chunks k (entered layout need g k) idle_chunk at_k
        (λ e. let q : g ≡ h = cc in subst (λ x. x < 16) q m.small) (λ i n e. m.parts.owners i h e) j;
  }
    where
      still : (i : ℕ) → Has (λ x. Covers x i) layout.blocks ⊎ Has (λ h. Frees h i) layout.holes
          → Has (λ x. Covers x i) new.blocks ⊎ Has (λ h. Frees h i) layout.holes
      still i (inl q) = inl (has_with (λ x. Covers x i) b layout.blocks q)
      still i (inr q) = inr q
