-- A block that is placed stands among the old ones, and shares no granule with them.
use Rattle.std.proofs.Common.{◌≡◌, ◌⊎◌, ℕ, cond, Bool, true, false, List, [], ◌∷◌, sym, subst, inl, inr, refl, ap}
use Rattle.std.specs.Prelude.{Option, Some, None, All, AllPairs, nat_lt, option_map}
use Rattle.std.proofs.lemmas.List.Elements.{All-nil, All-cons, All-head, All-tail, All-weaker}
use Rattle.plan_core.specs.declared.types.Area.{Area}
use Rattle.plan_core.specs.declared.types.Row.{Row}
use Rattle.plan_core.specs.Plan.{group_of_bits}
use Rattle.place_spec.specs.declared.parts.Spot.{Spot}
use Rattle.place_spec.specs.declared.parts.Spot.TheVariants.{Current, Fresh, Front}
use Rattle.place_spec.specs.Layout.{Block, Layout}
use Rattle.place_spec.specs.Place.{Placed, spot_of, granule_of, taken, with_block, placed_at, placed}
use Rattle.place_spec.specs.Sound.{Apart, Sound}
use Rattle.block_laws.specs.Blocks.{IsNew, IsOneOf, StandsBeside}
use Rattle.block_laws.proofs.Items.{any_none, any_first, any_rest, any_cases, any_of, all_of, itself, pairs_first}
use Rattle.block_laws.proofs.Items.{pairs_rest}

-- blocks with one more
module _ (b : Block) where
  all_with : (P : Block → Type 0) (xs : List Block) → P b → All P xs → All P (with_block b xs)
  all_with P [] p h = All-cons P b [] p h
  all_with P (x ∷ xs) p h = by_place (all_with P xs p (All-tail P x xs h)) (nat_lt x.first b.first)
    where
      by_place : All P (with_block b xs) → (t : Bool) → All P (cond t (x ∷ with_block b xs) (b ∷ x ∷ xs))
      by_place rest true = All-cons P x (with_block b xs) (All-head P x xs h) rest
      by_place rest false = All-cons P b (x ∷ xs) p h

  new_among : (xs : List Block) → IsOneOf (with_block b xs) b
  new_among [] = any_first (λ y. y ≡ b) b [] refl
  new_among (x ∷ xs) = by_place (new_among xs) (nat_lt x.first b.first)
    where
      by_place : IsOneOf (with_block b xs) b → (t : Bool) → IsOneOf (cond t (x ∷ with_block b xs) (b ∷ x ∷ xs)) b
      by_place rest true = any_rest (λ y. y ≡ b) x (with_block b xs) rest
      by_place rest false = any_first (λ y. y ≡ b) b (x ∷ xs) refl

  old_among : (xs : List Block) (z : Block) → IsOneOf xs z → IsOneOf (with_block b xs) z
  old_among [] z one = absurd (any_none (λ y. y ≡ z) one)
  old_among (x ∷ xs) z one = by_place (λ h. old_among xs z h) (nat_lt x.first b.first) (any_cases (λ y. y ≡ z) x xs one)
    where
      by_place : (IsOneOf xs z → IsOneOf (with_block b xs) z) → (t : Bool) → (x ≡ z) ⊎ IsOneOf xs z
          → IsOneOf (cond t (x ∷ with_block b xs) (b ∷ x ∷ xs)) z
      by_place rest true (inl same) = any_first (λ y. y ≡ z) x (with_block b xs) same
      by_place rest true (inr h) = any_rest (λ y. y ≡ z) x (with_block b xs) (rest h)
      by_place rest false h = any_rest (λ y. y ≡ z) b (x ∷ xs) one

  -- where each pair is related both ways, the new one is related to the old ones
  paired_with : (R : Block → Block → Type 0) → ((x y : Block) → R x y → R y x) → (xs : List Block)
      → AllPairs R (with_block b xs) → All (R b) xs
  paired_with R turned [] h = All-nil (R b)
  paired_with R turned (x ∷ xs) h = by_place (λ k. paired_with R turned xs k) (nat_lt x.first b.first) h
    where
      by_place : (AllPairs R (with_block b xs) → All (R b) xs) → (t : Bool)
          → AllPairs R (cond t (x ∷ with_block b xs) (b ∷ x ∷ xs)) → All (R b) (x ∷ xs)
      by_place rest true h =
          All-cons (R b) x xs
          (turned x b (all_of (R x) (with_block b xs) b (pairs_first R x (with_block b xs) h) (new_among xs)))
          (rest (pairs_rest R x (with_block b xs) h))
      by_place rest false h = pairs_first R b (x ∷ xs) h

-- the block that was placed
record Adds (need : ℕ) (layout : Layout) (p : Placed) : Type 0 where
  block : Block
  new : IsNew need p block
  blocks : p.after.blocks ≡ with_block block layout.blocks

taken_blocks : (need : ℕ) (spot : Spot) (layout : Layout) → (taken need spot layout).blocks ≡ layout.blocks
unfolding taken
taken_blocks need (Current k) layout = refl
taken_blocks need (Fresh group k) layout = refl
taken_blocks need (Front i) layout = refl

adds : (rows : List Row) (area : Area) (layout : Layout) (need bits : ℕ) (p : Placed)
    → placed rows area layout need bits ≡ Some p → Adds need layout p
adds rows area layout need bits p e = by_spot (spot_of area layout need group) e
  where
    group : Option ℕ
    group = group_of_bits rows bits

    placed_block : Spot → Block
    placed_block spot = record { first = granule_of area layout spot; granules = need; group = group }

    by_spot : (o : Option Spot) → option_map (placed_at area layout need group) o ≡ Some p → Adds need layout p
    by_spot None e = absurd (cc)
    by_spot (Some spot) e =
        let same : placed_at area layout need group spot ≡ p = cc in
        subst (Adds need layout) same (record {
          block = placed_block spot;
          new = (refl, refl);
          blocks = ap (with_block (placed_block spot)) (taken_blocks need spot layout);
        })

abbrev AreApart : Block → Block → Type 0
AreApart x y = Apart x.first x.granules y.first y.granules

apart_turned : (x y : Block) → AreApart x y → AreApart y x
apart_turned x y (inl l) = inr l
apart_turned x y (inr l) = inl l

-- the layout after is sound, so its blocks lie apart
pub stands_beside : (rows : List Row) (area : Area) (layout : Layout) (need bits : ℕ) (p : Placed) → Sound area p.after
    → placed rows area layout need bits ≡ Some p → StandsBeside need layout p
stands_beside rows area layout need bits p sound e =
    let a = adds rows area layout need bits p e in
    let b : Block = a.block in
    let xs : List Block = layout.blocks in
    record {
      new = any_of (IsNew need p) p.after.blocks b
          (subst (λ bs. IsOneOf bs b) (sym a.blocks) (new_among b xs)) a.new;
      old = subst (λ bs. All (IsOneOf bs) xs) (sym a.blocks)
          (All-weaker (IsOneOf xs) (IsOneOf (with_block b xs)) (old_among b xs) xs (itself xs));
      each = subst (All (λ x. IsNew need p x ⊎ IsOneOf xs x)) (sym a.blocks)
          (all_with b (λ x. IsNew need p x ⊎ IsOneOf xs x) xs (inl a.new)
          (All-weaker (IsOneOf xs) (λ x. IsNew need p x ⊎ IsOneOf xs x) (λ x one. inr one) xs (itself xs)));
      apart = subst (λ n. All (λ x. Apart p.granule n x.first x.granules) xs) a.new.1
          (subst (λ g. All (λ x. Apart g b.granules x.first x.granules) xs) a.new.0
          (paired_with b AreApart apart_turned xs (subst (AllPairs AreApart) a.blocks sound.blocks_apart)));
    }
