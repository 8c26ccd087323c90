-- The parts of a sound layout, block by block and chunk by chunk.
use Rattle.std.proofs.Common.{◌≡◌, ◌≢◌, ℕ, ◌+◌, ◌<◌, ◌≤◌, ◌⊎◌, ◌↔◌, true, false, List, [], ◌∷◌, length, get_or, set}
use Rattle.std.proofs.Common.{sym, subst, inl, inr, arith}
use Rattle.std.specs.Prelude.{Some, None, count_by, Any}
use Rattle.std.proofs.lemmas.List.{get_or-set_same, get_or-set_other}
use Rattle.std.proofs.lemmas.Bool.{cases_eq, cases_Bool, and_from, and_parts, le-leb, lt-ltb, leb-true, ltb-true}
use Rattle.plan_core.specs.declared.types.Area.{Area}
use Rattle.plan_core.specs.Plan.{granules}
use Rattle.place_spec.specs.declared.parts.Hole.{Hole}
use Rattle.place_spec.specs.declared.parts.Chunk.{Chunk}
use Rattle.place_spec.specs.Layout.{Block, Layout, current_of, chunk_of, chunk_size, chunk_front}
use Rattle.place_spec.specs.Sound.{Apart, Covers, Frees, OnOneSide, InChunk, is_in_chunk, Sound}
use Rattle.place_spec.proofs.Lists.{Each, Pairs, Has, each, all, pairs, all_pairs, has, any}
use Rattle.place_spec.proofs.HoleLists.{Ascends, Before, ascends_from, ascends_pairs, ascends_filled}

abbrev pub BlocksApart : Block → Block → Type 0
BlocksApart b c = Apart b.first b.granules c.first c.granules

pub apart_sym : (b c : Block) → BlocksApart b c → BlocksApart c b
apart_sym b c (inl l) = inr l
apart_sym b c (inr l) = inl l

-- what holds of a live block
pub record Stands (area : Area) (layout : Layout) (b : Block) : Type 0 where
  pub filled : 0 < b.granules
  pub inside : b.first + b.granules ≤ granules area
  pub crossing : (k : ℕ) → k ≤ area.chunks → OnOneSide (chunk_front area k) b
  pub below : (k : ℕ) → k < area.chunks → InChunk area k b → b.first + b.granules ≤ chunk_front area k +
      (chunk_of layout k).bump
  pub owned : (k : ℕ) → k < area.chunks → InChunk area k b → b.group ≡ (chunk_of layout k).owner
  pub group : (g : ℕ) → b.group ≡ Some g → g < 16
  pub holes : Each (λ h. Apart b.first b.granules h.start h.length) layout.holes

-- what holds of chunk k, which is c
pub record Keeps (area : Area) (layout : Layout) (k : ℕ) (c : Chunk) : Type 0 where
  pub counted : count_by (is_in_chunk area k) layout.blocks ≡ c.live
  pub bumps : c.bump ≤ chunk_size area
  pub idle : (c.bump ≡ 0) ↔ (c.live ≡ 0)
  pub unowned : c.owner ≡ None → c.live ≡ 0
  pub in_use : c.owner ≢ None → ((g : ℕ) → current_of layout g ≢ Some k) → 0 < c.live

pub record Parts (area : Area) (layout : Layout) : Type 0 where
  pub groups : length layout.currents ≡ 16
  pub chunks : length layout.chunks ≡ area.chunks
  pub blocks : Each (Stands area layout) layout.blocks
  pub apart : Pairs BlocksApart layout.blocks
  pub covered : (i : ℕ) → i < area.fallback → Has (λ b. Covers b i) layout.blocks ⊎ Has (λ h. Frees h i) layout.holes
  pub ascends : Ascends 0 layout.holes
  pub inside : Each (λ h. h.start + h.length ≤ area.fallback) layout.holes
  pub keeps : (k : ℕ) → k < area.chunks → Keeps area layout k (chunk_of layout k)
  pub currents : (g k : ℕ) → current_of layout g ≡ Some k → (k < area.chunks) × ((chunk_of layout k).owner ≡ Some g)
  pub owners : (k g : ℕ) → (chunk_of layout k).owner ≡ Some g → g < 16

anywhere : (hs : List Hole) → Each (λ h. 0 ≤ h.start) hs
anywhere [] = tt
anywhere (h ∷ hs) = (omega arith, anywhere hs)

pub parts : (area : Area) (layout : Layout) → Sound area layout → Parts area layout
parts area layout s = record {
  groups = s.groups;
  chunks = s.chunks;
  blocks = each (Stands area layout) layout.blocks (λ i d l. record {
    filled = s.blocks_filled i d l;
    inside = s.blocks_inside i d l;
    crossing = s.no_crossing i d l;
    below = s.below_bump i d l;
    owned = s.owned i d l;
    group = s.block_groups i d l;
    holes = each _ layout.holes (s.holes_apart i d l);
  });
  apart = pairs BlocksApart layout.blocks s.blocks_apart;
  covered = λ i l. some i (s.covered i l);
  ascends = ascends_from 0 layout.holes (anywhere layout.holes) (pairs Before layout.holes s.holes_ascend)
      (each _ layout.holes s.holes_filled);
  inside = each _ layout.holes s.holes_inside;
  keeps = λ k l. record {
    counted = s.counted k l;
    bumps = s.bumps k l;
    idle = s.idle k l;
    unowned = s.unowned k l;
    in_use = s.in_use k l;
  };
  currents = s.currents;
  owners = s.owners;
}
  where
    some : (i : ℕ) → Any (λ b. Covers b i) layout.blocks ⊎ Any (λ h. Frees h i) layout.holes
        → Has (λ b. Covers b i) layout.blocks ⊎ Has (λ h. Frees h i) layout.holes
    some i (inl a) = inl (has (λ b. Covers b i) layout.blocks a)
    some i (inr a) = inr (has (λ h. Frees h i) layout.holes a)

pub sound : (area : Area) (layout : Layout) → Parts area layout → Sound area layout
sound area layout p = record {
  groups = p.groups;
  chunks = p.chunks;
  blocks_apart = all_pairs BlocksApart layout.blocks p.apart;
  holes_apart = λ i d l. all _ layout.holes (of_block i d l).holes;
  covered = λ i l. some i (p.covered i l);
  blocks_filled = λ i d l. (of_block i d l).filled;
  holes_filled = all _ layout.holes (ascends_filled 0 layout.holes p.ascends);
  blocks_inside = λ i d l. (of_block i d l).inside;
  holes_inside = all _ layout.holes p.inside;
  holes_ascend = all_pairs Before layout.holes (ascends_pairs 0 layout.holes p.ascends);
  no_crossing = λ i d l. (of_block i d l).crossing;
  below_bump = λ i d l. (of_block i d l).below;
  owned = λ i d l. (of_block i d l).owned;
  counted = λ k l. (p.keeps k l).counted;
  bumps = λ k l. (p.keeps k l).bumps;
  idle = λ k l. (p.keeps k l).idle;
  unowned = λ k l. (p.keeps k l).unowned;
  in_use = λ k l. (p.keeps k l).in_use;
  currents = p.currents;
  owners = p.owners;
  block_groups = λ i d l. (of_block i d l).group;
}
  where
    of_block : (i : ℕ) (d : Block) → i < length layout.blocks → Stands area layout (get_or layout.blocks i d)
    of_block = all (Stands area layout) layout.blocks p.blocks

    some : (i : ℕ) → Has (λ b. Covers b i) layout.blocks ⊎ Has (λ h. Frees h i) layout.holes
        → Any (λ b. Covers b i) layout.blocks ⊎ Any (λ h. Frees h i) layout.holes
    some i (inl a) = inl (any (λ b. Covers b i) layout.blocks a)
    some i (inr a) = inr (any (λ h. Frees h i) layout.holes a)

-- what holds of an item that is set, and of the others, holds of each
pub at_item : {X : Type 0} → (P : ℕ → X → Type 0) (xs : List X) (k : ℕ) (v d : X) → k < length xs
    → P k v → ((j : ℕ) → j ≢ k → P j (get_or xs j d)) → (j : ℕ) → P j (get_or (set xs k v) j d)
at_item P xs k v d l here there j = at (cases_eq j k)
  where
    at : (j ≡ k) ⊎ (j ≡ k → ⊥) → P j (get_or (set xs k v) j d)
    at (inl e) = subst (λ i. P i (get_or (set xs k v) i d)) (sym e)
        (subst (P k) (sym (get_or-set_same xs k v d l)) here)
    at (inr n) = subst (P j) (sym (get_or-set_other xs k j v d n)) (there j n)

pub in_true : (area : Area) (k : ℕ) (b : Block) → InChunk area k b → is_in_chunk area k b ≡ true
in_true area k b p = and_from _ _ (le-leb (chunk_front area k) b.first p.0)
    (lt-ltb b.first (chunk_front area (k + 1)) p.1)

pub from_true : (area : Area) (k : ℕ) (b : Block) → is_in_chunk area k b ≡ true → InChunk area k b
from_true area k b e =
    let q = and_parts _ _ e in
    (leb-true (chunk_front area k) b.first q.0, ltb-true b.first (chunk_front area (k + 1)) q.1)

pub in_false : (area : Area) (k : ℕ) (b : Block) → (InChunk area k b → ⊥) → is_in_chunk area k b ≡ false
in_false area k b n = at (cases_Bool (is_in_chunk area k b))
  where
    at : (is_in_chunk area k b ≡ true) ⊎ (is_in_chunk area k b ≡ false) → is_in_chunk area k b ≡ false
    at (inl e) = absurd (n (from_true area k b e))
    at (inr e) = e
