-- A block that is placed at the front of a hole.
use Rattle.std.proofs.Common.{◌≡◌, ℕ, ◌+◌, ◌<◌, ◌≤◌, ◌⊎◌, cond, length, ◌∙◌, sym, subst, inl, inr, ap, arith}
use Rattle.std.specs.Prelude.{Option, Some, count_by}
use Rattle.plan_core.specs.declared.types.Area.{Area}
use Rattle.place_spec.specs.Layout.{Block, Layout, hole_of}
use Rattle.place_spec.specs.Place.{with_block, cut_holes}
use Rattle.place_spec.specs.Sound.{Apart, Covers, Frees, InChunk, is_in_chunk}
use Rattle.place_spec.proofs.Lists.{Has, each_map, each_at}
use Rattle.place_spec.proofs.Blocks.{each_with, pairs_with, has_with, has_new, count_with}
use Rattle.place_spec.proofs.Fronts.{front_from}
use Rattle.place_spec.proofs.HoleLists.{IsCut, cut_is, cut_facts}
use Rattle.place_spec.proofs.SoundParts.{BlocksApart, apart_sym, Stands, Parts, in_false}

abbrev pub fronting : Layout → (need i : ℕ) → (group : Option ℕ) → Block
fronting layout need i group = record { first = (hole_of layout.holes i).start; granules = need; group = group }

abbrev pub fronted : Layout → (need i : ℕ) → (group : Option ℕ) → Layout
fronted layout need i group = record layout {
  holes = cut_holes need i layout.holes;
  blocks = with_block (fronting layout need i group) layout.blocks;
}

pub record MayFront (area : Area) (layout : Layout) (need i : ℕ) (group : Option ℕ) : Type 0 where
  pub parts : Parts area layout
  pub some : 1 ≤ need
  pub small : (g : ℕ) → group ≡ Some g → g < 16
  pub within : i < length layout.holes
  pub room : need ≤ (hole_of layout.holes i).length

module _ (area : Area) (layout : Layout) (need i : ℕ) (group : Option ℕ) (m : MayFront area layout need i group) where
  abbrev b : Block
  b = fronting layout need i group

  abbrev new : Layout
  new = fronted layout need i group

  cuts : IsCut 0 area.fallback need i layout.holes new.holes
  cuts = subst (IsCut 0 area.fallback need i layout.holes) (sym (cut_is need i layout.holes m.within))
      (cut_facts 0 area.fallback need i layout.holes m.parts.ascends m.parts.inside m.within m.room)

  -- the block stands in the fallback
  to : b.first + b.granules ≤ area.fallback
  to =
      let r = m.room in
      let h : (hole_of layout.holes i).start + (hole_of layout.holes i).length ≤ area.fallback =
      each_at (λ h. h.start + h.length ≤ area.fallback) layout.holes i _ m.within m.parts.inside in
      omega (arith, r, h)

  in_none : (k : ℕ) → InChunk area k b → ⊥
  in_none k q = let s = m.some in let f = front_from area k in omega (arith, s, f, to, q.0)

  old_stands : (x : Block) → Stands area layout x → Stands area new x
  old_stands x h = record {
    filled = h.filled;
    inside = h.inside;
    crossing = h.crossing;
    below = h.below;
    owned = h.owned;
    group = h.group;
    holes = cuts.apart x.first x.granules h.holes;
  }

  new_stands : Stands area new b
  new_stands = record {
    filled = m.some;
    inside = omega (arith, to);
    crossing = λ k l. let f = front_from area k in inl (omega (arith, f, to));
    below = λ k l q. absurd (in_none k q);
    owned = λ k l q. absurd (in_none k q);
    group = m.small;
    holes = cuts.front_apart;
  }

  old_apart : (x : Block) → Stands area layout x → BlocksApart b x
  old_apart x h = at (each_at (λ h. Apart x.first x.granules h.start h.length) layout.holes i _ m.within h.holes)
    where
      at : Apart x.first x.granules (hole_of layout.holes i).start (hole_of layout.holes i).length → BlocksApart b x
      at (inl l) = inr l
      at (inr l) = let r = m.room in inl (omega (arith, r, l))

  counted : (k : ℕ) → count_by (is_in_chunk area k) new.blocks ≡ count_by (is_in_chunk area k) layout.blocks
  counted k =
      let w = count_with (is_in_chunk area k) b layout.blocks in
      let i = ap (λ v. cond v 1 0 + count_by (is_in_chunk area k) layout.blocks) (in_false area k b (in_none k)) in
      omega (arith, w, i)

  pub front_parts : Parts area new
  front_parts = record {
    groups = m.parts.groups;
    chunks = m.parts.chunks;
    blocks = each_with (Stands area new) b layout.blocks new_stands
        (each_map (Stands area layout) (Stands area new) layout.blocks old_stands m.parts.blocks);
    apart = pairs_with BlocksApart b layout.blocks apart_sym
        (each_map (Stands area layout) (BlocksApart b) layout.blocks old_apart m.parts.blocks) m.parts.apart;
    covered = λ j l. still j (m.parts.covered j l);
    ascends = cuts.ascends;
    inside = cuts.inside;
    keeps = λ k l. let old = m.parts.keeps k l in record {
      counted = counted k ∙ old.counted;
      bumps = old.bumps;
      idle = old.idle;
      unowned = old.unowned;
      in_use = old.in_use;
    };
    currents = m.parts.currents;
    owners = m.parts.owners;
  }
    where
      split : (j : ℕ) → (((hole_of layout.holes i).start ≤ j) × (j < (hole_of layout.holes i).start + need))
          ⊎ Has (λ h. Frees h j) new.holes
          → Has (λ x. Covers x j) new.blocks ⊎ Has (λ h. Frees h j) new.holes
      split j (inl q) = inl (has_new (λ x. Covers x j) b layout.blocks q)
      split j (inr q) = inr q

      still : (j : ℕ) → Has (λ x. Covers x j) layout.blocks ⊎ Has (λ h. Frees h j) layout.holes
          → Has (λ x. Covers x j) new.blocks ⊎ Has (λ h. Frees h j) new.holes
      still j (inl q) = inl (has_with (λ x. Covers x j) b layout.blocks q)
      still j (inr q) = split j (cuts.covers j q)
