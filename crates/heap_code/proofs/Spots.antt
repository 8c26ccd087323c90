-- What the rules choose, by parts: the first two rules, then the third.
use Rattle.std.proofs.Common.{◌≡◌, ℕ, ◌+◌, ◌<◌, ◌≤◌, Bool, true, false, cond, List, [], ◌∷◌, length, refl, ap, ◌∙◌}
use Rattle.std.proofs.Common.{arith}
use Rattle.std.specs.Prelude.{Option, Some, None, nat_le, nat_lt, is_none, position, option_map, option_and_then}
use Rattle.std.specs.Option.{option_or}
use Rattle.plan_core.specs.declared.types.Area.{Area}
use Rattle.place_spec.specs.declared.parts.Hole.{Hole}
use Rattle.place_spec.specs.declared.parts.Chunk.{Chunk}
use Rattle.place_spec.specs.declared.parts.Spot.{Spot}
use Rattle.place_spec.specs.declared.parts.Spot.TheVariants.{Current, Fresh, Front}
use Rattle.place_spec.specs.Layout.{Block, Layout, current_of, chunk_of, chunk_size}
use Rattle.place_spec.specs.Place.{current_spot, fresh_spot, front_spot, spot_of, with_block}
use Rattle.place_spec.proofs.Lists.{Each}
use Rattle.place_spec.proofs.HoleLists.{ascends_filled, few}
use Rattle.place_spec.proofs.SoundParts.{Parts}
use Rattle.heap_chunks.specs.Results.{chunk_spot}

option_or_assoc : (a b c : Option Spot) → option_or a (option_or b c) ≡ option_or (option_or a b) c
option_or_assoc (Some s) b c = refl
option_or_assoc None b c = refl

pub by_parts : (area : Area) (layout : Layout) (need group : ℕ)
    → spot_of area layout need (Some group) ≡ option_or (chunk_spot area layout need group) (front_spot layout need)
unfolding spot_of
by_parts area layout need group = by (nat_le need (chunk_size area))
  where
    by : (t : Bool)
        → cond t (option_or (current_spot area layout need group)
        (option_or (fresh_spot layout group) (front_spot layout need))) (front_spot layout need)
        ≡ option_or (cond t (option_or (current_spot area layout need group) (fresh_spot layout group)) None)
        (front_spot layout need)
    by true = option_or_assoc (current_spot area layout need group) (fresh_spot layout group) (front_spot layout need)
    by false = refl

pub no_group : (area : Area) (layout : Layout) (need : ℕ) → spot_of area layout need None ≡ front_spot layout need
unfolding spot_of
no_group area layout need = refl

-- without chunks only the third rule places blocks
module _ (area : Area) (layout : Layout) (p : Parts area layout) where
  no_chunk : area.chunks ≡ 0 → (need group : ℕ) → chunk_spot area layout need group ≡ None
  no_chunk z need group = by (nat_le need (chunk_size area))
    where
      none : layout.chunks ≡ []
      none = by (layout.chunks) refl
        where
          by : (cs : List Chunk) → layout.chunks ≡ cs → cs ≡ []
          by [] e = refl
          by (c ∷ cs) e = absurd (let l = ap length e in let q = p.chunks in omega (arith, l, q, z))

      fresh : fresh_spot layout group ≡ None
      fresh = ap (λ cs. option_map (λ k. Fresh group k) (position (λ c. is_none c.owner) cs)) none

      current : current_spot area layout need group ≡ None
      current = by (current_of layout group) refl
        where
          by : (o : Option ℕ) → current_of layout group ≡ o → current_spot area layout need group ≡ None
          by None e = ap (option_and_then (λ k. cond (nat_le ((chunk_of layout k).bump + need) (chunk_size area))
              (Some (Current k)) None)) e
          by (Some k) e = absurd (let l = (p.currents group k e).0 in omega (arith, l, z))

      by : (t : Bool) → cond t (option_or (current_spot area layout need group) (fresh_spot layout group)) None ≡ None
      by true = ap (λ o. option_or o (fresh_spot layout group)) current ∙ fresh
      by false = refl

  pub front_alone : area.chunks ≡ 0 → (need : ℕ) (group : Option ℕ)
      → spot_of area layout need group ≡ front_spot layout need
  front_alone z need None = no_group area layout need
  front_alone z need (Some g) =
      by_parts area layout need g ∙ ap (λ o. option_or o (front_spot layout need)) (no_chunk z need g)

  -- without a fallback there is no hole
  pub no_front : area.fallback ≡ 0 → (need : ℕ) → front_spot layout need ≡ None
  no_front z need = ap (λ hs. option_map Front (position (λ h. nat_le need h.length) hs))
      (by layout.holes p.inside (ascends_filled 0 layout.holes p.ascends))
    where
      by : (hs : List Hole) → Each (λ h. h.start + h.length ≤ area.fallback) hs → Each (λ h. 0 < h.length) hs → hs ≡ []
      by [] i f = refl
      by (h ∷ hs) (i, is) (f, fs) = absurd (omega (arith, i, f, z))

  pub few_holes : length layout.holes ≤ area.fallback + 1
  few_holes = let f = few area.fallback 0 layout.holes p.inside p.ascends (omega arith) in omega (arith, f)

-- the new block is one of the blocks
pub new_stands : (P : Block → Type 0) (b : Block) (xs : List Block) → Each P (with_block b xs) → P b
new_stands P b [] e = e.0
new_stands P b (x ∷ xs) e = at (new_stands P b xs) (nat_lt x.first b.first) e
  where
    at : (Each P (with_block b xs) → P b) → (t : Bool) → Each P (cond t (x ∷ with_block b xs) (b ∷ x ∷ xs)) → P b
    at rest true e = rest e.1
    at rest false e = e.0

-- the old ones are, too
pub old_stand : (P : Block → Type 0) (b : Block) (xs : List Block) → Each P (with_block b xs) → Each P xs
old_stand P b [] e = tt
old_stand P b (x ∷ xs) e = at (old_stand P b xs) (nat_lt x.first b.first) e
  where
    at : (Each P (with_block b xs) → Each P xs) → (t : Bool) → Each P (cond t (x ∷ with_block b xs) (b ∷ x ∷ xs))
        → Each P (x ∷ xs)
    at rest true e = (e.0, rest e.1)
    at rest false e = e.1
