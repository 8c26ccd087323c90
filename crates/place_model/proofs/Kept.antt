-- What holds of tables at all times still holds after a block was placed or released.
use Rattle.std.proofs.Common.{◌≡◌, ℕ, ◌+◌, ◌-◌, ◌*◌, ◌/◌, ◌<◌, ◌≤◌, ◌≢◌, ◌⊎◌, cond, Bool, true, false, List, [], ◌∷◌}
use Rattle.std.proofs.Common.{inl, inr, sym, ◌∙◌, subst, refl, ap, arith}
use Rattle.std.specs.Prelude.{Option, Some, None, is_some, option_map, Any, nat_lt, slice_set}
use Rattle.std.specs.Option.{option_map_or}
use Rattle.plan_core.specs.declared.types.Area.{Area}
use Rattle.plan_core.specs.declared.types.Plan.{Plan}
use Rattle.plan_core.specs.Plan.{granules, group_of_bits}
use Rattle.place_spec.specs.declared.parts.Spot.{Spot}
use Rattle.place_spec.specs.Layout.{Block, Layout, first_layout, chunk_of, address_of}
use Rattle.place_spec.specs.Place.{Placed, spot_of, granule_of, taken, placed_at, placed_in}
use Rattle.place_spec.specs.Release.{freed, chunk_at, block_at, without_block, with_hole, left_chunk, released_block}
use Rattle.place_spec.specs.Release.{released}
use Rattle.place_spec.specs.Sound.{Sound}
use Rattle.place_spec.proofs.Lists.{Each, Has, each, has, any}
use Rattle.place_spec.proofs.Blocks.{has_new, has_with, has_without, found_first}
use Rattle.place_spec.proofs.Spots.{chosen}
use Rattle.place_spec.proofs.SoundParts.{parts, sound}
use Rattle.place_spec.proofs.Sounds.{first_parts, placed_in_parts, releasing, row_group}
use Rattle.place_model.specs.declared.tables.Tables.{Tables}
use Rattle.place_model.specs.Tables.{layout_of, FewLive, KeepsRoom, IsKept}
use Rattle.place_model.proofs.Steps.{IsNew, free_of, same_blocks, new_block, few_placed, few_released}

-- the group of bits is below 16
pub small : (plan : Plan) (base bits : ℕ) (tables : Tables) (group : Option ℕ) → IsKept plan base tables
    → group ≡ group_of_bits plan.rows bits
    → (g : ℕ) → group ≡ Some g → g < 16
small plan base bits tables group k e = λ g q. row_group plan.rows bits g (each _ plan.rows k.groups) (sym e ∙ q)

pub place_new : (plan : Plan) (base need : ℕ) (tables : Tables) (group : Option ℕ) (spot : Spot)
    → IsKept plan base tables → 1 ≤ need
    → ((g : ℕ) → group ≡ Some g → g < 16) → spot_of plan.area (layout_of tables) need group ≡ Some spot
    → IsNew plan.area (layout_of tables) need (granule_of plan.area (layout_of tables) spot)
place_new plan base need tables group spot k some s e =
    new_block plan.area (layout_of tables) need group spot (parts plan.area (layout_of tables) k.sound) some s e

-- a block that is placed is no larger than the area
pub spot_small : (plan : Plan) (base need : ℕ) (tables : Tables) (group : Option ℕ) (spot : Option Spot)
    → IsKept plan base tables → 1 ≤ need
    → ((g : ℕ) → group ≡ Some g → g < 16) → spot_of plan.area (layout_of tables) need group ≡ spot → is_some spot ≡ true
    → need ≤ granules plan.area
spot_small plan base need tables group None k some s e h = absurd (cc)
spot_small plan base need tables group (Some spot) k some s e h =
    let n = place_new plan base need tables group spot k some s e in
    let i = n.inside in omega (arith, i)

pub place_kept : (plan : Plan) (base need : ℕ) (old new : Tables) (group : Option ℕ) (spot : Spot)
    → IsKept plan base old → 1 ≤ need
    → ((g : ℕ) → group ≡ Some g → g < 16) → spot_of plan.area (layout_of old) need group ≡ Some spot
    → layout_of new ≡ (placed_at plan.area (layout_of old) need group spot).after → KeepsRoom old new
    → IsKept plan base new
place_kept plan base need old new group spot k some s e l r =
    let p = parts plan.area (layout_of old) k.sound in
    let after = placed_at plan.area (layout_of old) need group spot in
    let q = placed_in_parts plan.area (layout_of old) need group after p some s
    (ap (option_map (placed_at plan.area (layout_of old) need group)) e) in
    record {
      groups = k.groups;
      log_chunk = k.log_chunk;
      area = k.area;
      ends = k.ends;
      sound = subst (Sound plan.area) (sym l) (sound plan.area after.after q);
      few = subst FewLive (sym l) (few_placed plan.area (layout_of old) need group spot some
          (free_of plan.area (layout_of old) need group spot p s (chosen plan.area (layout_of old) need group spot e))
          k.few);
      starts = r.starts ∙ k.starts;
      room = let m = k.room in let n = r.room in omega (arith, m, n);
    }

pub release_kept : (plan : Plan) (base granule : ℕ) (old new : Tables) → IsKept plan base old
    → layout_of new ≡ released plan.area (layout_of old) granule → KeepsRoom old new → IsKept plan base new
release_kept plan base granule old new k l r =
    let p = parts plan.area (layout_of old) k.sound in
    record {
      groups = k.groups;
      log_chunk = k.log_chunk;
      area = k.area;
      ends = k.ends;
      sound = subst (Sound plan.area) (sym l) (sound plan.area (released plan.area (layout_of old) granule)
          (releasing plan.area (layout_of old) granule p));
      few = subst FewLive (sym l) (few_released plan.area (layout_of old) granule p k.few);
      starts = r.starts ∙ k.starts;
      room = let m = k.room in let n = r.room in omega (arith, m, n);
    }

pub first_sound : (area : Area) → Sound area (first_layout area)
first_sound area = sound area (first_layout area) (first_parts area)

-- a live block is still there after another was placed
pub still_there : (P : Block → Type 0) (area : Area) (layout : Layout) (need : ℕ) (group : Option ℕ)
    → Any P layout.blocks → Any P (option_map_or (λ q. q.after) (placed_in area layout need group) layout).blocks
still_there P area layout need group a = at (spot_of area layout need group)
  where
    at : (o : Option Spot) → Any P (option_map_or (λ (q : Placed). q.after)
        (option_map (placed_at area layout need group) o) layout).blocks
    at None = a
    at (Some spot) =
        any P _ (has_with P (record { first = granule_of area layout spot; granules = need; group = group })
        (taken need spot layout).blocks
        (subst (λ xs. Has P xs) (sym (same_blocks need spot layout)) (has P layout.blocks a)))

-- the placed block lives, no live block began there, and the others still live
pub new_lives : (base need : ℕ) (area : Area) (layout : Layout) (group : Option ℕ) (spot : Spot)
    → Any (λ b. base + 16 * granule_of area layout spot ≡ address_of base b.first)
    (placed_at area layout need group spot).after.blocks
new_lives base need area layout group spot =
    any (λ b. base + 16 * granule_of area layout spot ≡ address_of base b.first) _
    (has_new (λ b. base + 16 * granule_of area layout spot ≡ address_of base b.first)
    (record { first = granule_of area layout spot; granules = need; group = group }) (taken need spot layout).blocks
    refl)

pub new_apart : (base granule : ℕ) (xs : List Block) → Each (λ b. b.first ≢ granule) xs
    → Any (λ b. base + 16 * granule ≡ address_of base b.first) xs → ⊥
new_apart base granule xs e a = at xs e (has (λ b. base + 16 * granule ≡ address_of base b.first) xs a)
  where
    at : (ys : List Block) → Each (λ b. b.first ≢ granule) ys
        → Has (λ b. base + 16 * granule ≡ address_of base b.first) ys → ⊥
    at [] e h = h
    at (y ∷ ys) e (inl q) = e.0 (omega (arith, q))
    at (y ∷ ys) e (inr q) = at ys e.1 q

pub others_live : (P : Block → Type 0) (area : Area) (layout : Layout) (need : ℕ) (group : Option ℕ) (spot : Spot)
    → Any P layout.blocks → Any P (placed_at area layout need group spot).after.blocks
others_live P area layout need group spot a =
    any P _ (has_with P (record { first = granule_of area layout spot; granules = need; group = group })
    (taken need spot layout).blocks
    (subst (λ xs. Has P xs) (sym (same_blocks need spot layout)) (has P layout.blocks a)))

-- the others still live after a release
freed_blocks : (area : Area) (b : Block) (layout : Layout) → (freed area b layout).blocks ≡ layout.blocks
unfolding freed
freed_blocks area b layout = at (nat_lt b.first area.fallback)
  where
    at : (t : Bool) → (cond t
        (record layout { holes = with_hole (record { start = b.first; length = b.granules }) layout.holes })
        (record layout {
          chunks = slice_set layout.chunks (chunk_at area b.first)
              (left_chunk layout (chunk_at area b.first) (chunk_of layout (chunk_at area b.first)));
        })).blocks
        ≡ layout.blocks
    at true = refl
    at false = refl

pub not_released : (base granule other : ℕ) (area : Area) (layout : Layout) → (other ≡ base + 16 * granule → ⊥)
    → Any (λ b. other ≡ address_of base b.first) layout.blocks
    → Any (λ b. other ≡ address_of base b.first) (released area layout granule).blocks
not_released base granule other area layout n a = at (block_at layout granule) refl
  where
    here : Block → Type 0
    here b = other ≡ address_of base b.first

    none : (xs : List Block) → Has (λ b. here b × (b.first ≡ granule)) xs → ⊥
    none [] h = h
    none (x ∷ xs) (inl q) = n (let e = q.0 in let f = q.1 in omega (arith, e, f))
    none (x ∷ xs) (inr q) = none xs q

    kept : Has here layout.blocks → Has (λ b. here b × (b.first ≡ granule)) layout.blocks
        ⊎ Has here (without_block granule layout.blocks) → Has here (without_block granule layout.blocks)
    kept h (inl q) = absurd (none layout.blocks q)
    kept h (inr q) = q

    at : (o : Option Block) → block_at layout granule ≡ o → Any here (released_block area layout o).blocks
    at None u = a
    at (Some b) u =
        subst (λ xs. Any here (without_block b.first xs)) (sym (freed_blocks area b layout))
        (subst (λ g. Any here (without_block g layout.blocks)) (sym (found_first granule b layout.blocks u))
        (any here (without_block granule layout.blocks) (kept (has here layout.blocks a)
        (has_without here granule layout.blocks (has here layout.blocks a)))))

-- a live block's address is that of its granule
pub granule_back : (base addr : ℕ) (xs : List Block) → Any (λ b. addr ≡ address_of base b.first) xs
    → base + 16 * ((addr - base) / 16) ≡ addr
granule_back base addr xs a = let e = a.4 in omega (arith, e)
