-- What the rules choose.
use Rattle.std.proofs.Common.{◌≡◌, ℕ, ◌+◌, ◌<◌, ◌≤◌, cond, Bool, true, false, length, sym, ◌∙◌, subst, refl, ap}
use Rattle.std.specs.Prelude.{Option, Some, None, nat_le, is_none, position, option_map, option_and_then}
use Rattle.std.specs.Option.{option_or}
use Rattle.std.proofs.lemmas.Bool.{leb-true, leb-false}
use Rattle.std.proofs.lemmas.List.Quantifiers.{position-Some}
use Rattle.plan_core.specs.declared.types.Area.{Area}
use Rattle.place_spec.specs.declared.parts.Hole.{Hole}
use Rattle.place_spec.specs.declared.parts.Chunk.{Chunk}
use Rattle.place_spec.specs.declared.parts.Spot.{Spot}
use Rattle.place_spec.specs.declared.parts.Spot.TheVariants.{Current, Fresh, Front}
use Rattle.place_spec.specs.Layout.{Layout, current_of, chunk_of, hole_of, chunk_size}
use Rattle.place_spec.specs.Place.{current_spot, fresh_spot, front_spot, spot_of}

abbrev pub Chosen : Area → Layout → (need : ℕ) → (group : Option ℕ) → Spot → Type 0
Chosen area layout need group (Current k) =
    (g : ℕ) × (group ≡ Some g) × (current_of layout g ≡ Some k) × ((chunk_of layout k).bump + need ≤ chunk_size area)
Chosen area layout need group (Fresh g k) =
    (group ≡ Some g) × (k < length layout.chunks) × ((chunk_of layout k).owner ≡ None) × (need ≤ chunk_size area)
    × ((j : ℕ) → current_of layout g ≡ Some j → chunk_size area < (chunk_of layout j).bump + need)
Chosen area layout need group (Front i) = (i < length layout.holes) × (need ≤ (hole_of layout.holes i).length)

none_is : (o : Option ℕ) → is_none o ≡ true → o ≡ None
none_is None e = refl
none_is (Some x) e = absurd (cc)

front_chosen : (area : Area) (layout : Layout) (need : ℕ) (group : Option ℕ) (spot : Spot)
    → front_spot layout need ≡ Some spot → Chosen area layout need group spot
front_chosen area layout need group spot e = at (position (λ h. nat_le need h.length) layout.holes) refl e
  where
    at : (o : Option ℕ) → position (λ h. nat_le need h.length) layout.holes ≡ o → option_map Front o ≡ Some spot
        → Chosen area layout need group spot
    at None u e = absurd (cc)
    at (Some i) u e =
        let q : Front i ≡ spot = cc in
        let p = position-Some (λ (h : Hole). nat_le need h.length) layout.holes i (record { start = 0; length = 0 })
        u in
        subst (Chosen area layout need group) q (p.0, leb-true need (hole_of layout.holes i).length p.1)

fresh_chosen : (area : Area) (layout : Layout) (need g : ℕ) (spot : Spot) → need ≤ chunk_size area
    → ((j : ℕ) → current_of layout g ≡ Some j → chunk_size area < (chunk_of layout j).bump + need)
    → fresh_spot layout g ≡ Some spot → Chosen area layout need (Some g) spot
fresh_chosen area layout need g spot l full e = at (position (λ c. is_none c.owner) layout.chunks) refl e
  where
    at : (o : Option ℕ) → position (λ c. is_none c.owner) layout.chunks ≡ o → option_map (λ k. Fresh g k) o ≡ Some spot
        → Chosen area layout need (Some g) spot
    at None u e = absurd (cc)
    at (Some k) u e =
        let q : Fresh g k ≡ spot = cc in
        let p = position-Some (λ (c : Chunk). is_none c.owner) layout.chunks k
        (record { owner = None; bump = 0; live = 0 }) u in
        subst (Chosen area layout need (Some g)) q (refl, p.0, none_is (chunk_of layout k).owner p.1, l, full)

-- the chunk of a group is full
pub full_when : (area : Area) (layout : Layout) (need g : ℕ) → current_spot area layout need g ≡ None
    → (j : ℕ) → current_of layout g ≡ Some j → chunk_size area < (chunk_of layout j).bump + need
full_when area layout need g e j c = at (nat_le ((chunk_of layout j).bump + need) (chunk_size area)) refl
    (sym (ap (option_and_then room) c) ∙ e)
  where
    room : ℕ → Option Spot
    room k = cond (nat_le ((chunk_of layout k).bump + need) (chunk_size area)) (Some (Current k)) None

    at : (v : Bool) → nat_le ((chunk_of layout j).bump + need) (chunk_size area) ≡ v
        → cond v (Some (Current j)) None ≡ None
        → chunk_size area < (chunk_of layout j).bump + need
    at true u e = absurd (cc)
    at false u e = leb-false ((chunk_of layout j).bump + need) (chunk_size area) u

current_chosen : (area : Area) (layout : Layout) (need g : ℕ) (spot : Spot)
    → current_spot area layout need g ≡ Some spot
    → Chosen area layout need (Some g) spot
current_chosen area layout need g spot e = at (current_of layout g) refl e
  where
    room : ℕ → Option Spot
    room k = cond (nat_le ((chunk_of layout k).bump + need) (chunk_size area)) (Some (Current k)) None

    at : (o : Option ℕ) → current_of layout g ≡ o → option_and_then room o ≡ Some spot
        → Chosen area layout need (Some g) spot
    at None u e = absurd (cc)
    at (Some k) u e = fits (nat_le ((chunk_of layout k).bump + need) (chunk_size area)) refl e
      where
        fits : (v : Bool) → nat_le ((chunk_of layout k).bump + need) (chunk_size area) ≡ v
            → cond v (Some (Current k)) None ≡ Some spot
            → Chosen area layout need (Some g) spot
        fits true w e =
            let q : Current k ≡ spot = cc in
            subst (Chosen area layout need (Some g)) q (
              g,
              refl,
              u,
              leb-true ((chunk_of layout k).bump + need)
                  (chunk_size area) w,
            )
        fits false w e = absurd (cc)

pub chosen : (area : Area) (layout : Layout) (need : ℕ) (group : Option ℕ) (spot : Spot)
    → spot_of area layout need group ≡ Some spot → Chosen area layout need group spot
unfolding spot_of
chosen area layout need None spot e = front_chosen area layout need None spot e
chosen area layout need (Some g) spot e = at (nat_le need (chunk_size area)) refl e
  where
    others : need ≤ chunk_size area → current_spot area layout need g ≡ None → (o : Option Spot)
        → fresh_spot layout g ≡ o
        → option_or o (front_spot layout need) ≡ Some spot → Chosen area layout need (Some g) spot
    others l c None f e = front_chosen area layout need (Some g) spot e
    others l c (Some s) f e = fresh_chosen area layout need g spot l (full_when area layout need g c) (f ∙ e)

    first : need ≤ chunk_size area → (o : Option Spot) → current_spot area layout need g ≡ o
        → option_or o (option_or (fresh_spot layout g) (front_spot layout need)) ≡ Some spot
        → Chosen area layout need (Some g) spot
    first l None c e = others l c (fresh_spot layout g) refl e
    first l (Some s) c e = current_chosen area layout need g spot (c ∙ e)

    at : (v : Bool) → nat_le need (chunk_size area) ≡ v
        → cond v (option_or (current_spot area layout need g)
        (option_or (fresh_spot layout g) (front_spot layout need))) (front_spot layout need) ≡ Some spot
        → Chosen area layout need (Some g) spot
    at true u e = first (leb-true need (chunk_size area) u) (current_spot area layout need g) refl e
    at false u e = front_chosen area layout need (Some g) spot e
