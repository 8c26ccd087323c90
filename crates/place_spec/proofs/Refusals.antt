-- A block is refused exactly where the fourth rule says.
use Rattle.std.proofs.Common.{◌≡◌, ◌≢◌, ℕ, ◌+◌, ◌<◌, cond, Bool, true, false, List, length, get_or, ◌∙◌, refl, ap}
use Rattle.std.proofs.Common.{arith}
use Rattle.std.specs.Prelude.{Option, Some, None, nat_lt, nat_le, not, is_none, position, option_map, option_and_then}
use Rattle.std.specs.Prelude.{All}
use Rattle.std.specs.List.{position_or_len}
use Rattle.std.specs.Option.{option_or}
use Rattle.std.proofs.lemmas.Bool.{not-true, ltb-false, leb-true, leb-false, lt-leb}
use Rattle.std.proofs.lemmas.List.Quantifiers.{position-Some}
use Rattle.std.proofs.lemmas.List.Sums.{prefix_len_passes}
use Rattle.plan_core.specs.declared.types.Area.{Area}
use Rattle.place_spec.specs.declared.parts.Hole.{Hole}
use Rattle.place_spec.specs.declared.parts.Chunk.{Chunk}
use Rattle.place_spec.specs.declared.parts.Spot.{Spot}
use Rattle.place_spec.specs.declared.parts.Spot.TheVariants.{Current, Fresh, Front}
use Rattle.place_spec.specs.Layout.{Layout, current_of, chunk_of, chunk_size}
use Rattle.place_spec.specs.Place.{IsRefused, current_spot, fresh_spot, front_spot, spot_of, placed_at, placed_in}
use Rattle.place_spec.proofs.Spots.{full_when}

module _ {X : Type 0} (p : X → Bool) where
  -- no item passes
  none_passes : (xs : List X) → position p xs ≡ None → (k : ℕ) (d : X) → k < length xs → p (get_or xs k d) ≡ false
  none_passes xs e k d l = not-true (p (get_or xs k d)) (prefix_len_passes (λ x. not (p x)) xs k d
      (at (nat_lt (position_or_len p xs) (length xs)) refl e))
    where
      at : (t : Bool) → nat_lt (position_or_len p xs) (length xs) ≡ t → cond t (Some (position_or_len p xs)) None ≡ None
          → k < position_or_len p xs
      at true u e = absurd (cc)
      at false u e = let m = ltb-false (position_or_len p xs) (length xs) u in omega (arith, m, l)

  passes_none : (xs : List X) (d : X) → ((k : ℕ) → k < length xs → p (get_or xs k d) ≡ false) → position p xs ≡ None
  passes_none xs d h = at (position p xs) refl
    where
      at : (o : Option ℕ) → position p xs ≡ o → o ≡ None
      at None u = refl
      at (Some i) u = let q = position-Some p xs i d u in absurd (let f = h i q.0 in let t = q.1 in cc)

map_none : {A : Type 0} (f : ℕ → A) (o : Option ℕ) → option_map f o ≡ None → o ≡ None
map_none f None e = refl
map_none f (Some x) e = absurd (cc)

not_owned : (o : Option ℕ) → is_none o ≡ false → o ≢ None
not_owned None e = absurd (cc)
not_owned (Some x) e = λ q. absurd (cc)

owned_not : (o : Option ℕ) → o ≢ None → is_none o ≡ false
owned_not None e = absurd (e refl)
owned_not (Some x) e = refl

no_front : (layout : Layout) (need : ℕ) → front_spot layout need ≡ None → All (λ h. h.length < need) layout.holes
no_front layout need e = λ k d l.
    leb-false need (get_or layout.holes k d).length
    (none_passes (λ (h : Hole). nat_le need h.length) layout.holes
    (map_none Front (position (λ h. nat_le need h.length) layout.holes) e) k d l)

front_no : (layout : Layout) (need : ℕ) → All (λ h. h.length < need) layout.holes → front_spot layout need ≡ None
front_no layout need a =
    ap (option_map Front) (passes_none (λ (h : Hole). nat_le need h.length) layout.holes
    (record { start = 0; length = 0 })
    (λ k l. lt-leb need (get_or layout.holes k (record { start = 0; length = 0 })).length
    (a k (record { start = 0; length = 0 }) l)))

no_fresh : (layout : Layout) (g : ℕ) → fresh_spot layout g ≡ None → All (λ c. c.owner ≢ None) layout.chunks
no_fresh layout g e = λ k d l.
    not_owned (get_or layout.chunks k d).owner
    (none_passes (λ (c : Chunk). is_none c.owner) layout.chunks
    (map_none (λ k. Fresh g k) (position (λ c. is_none c.owner) layout.chunks) e) k d l)

fresh_no : (layout : Layout) (g : ℕ) → All (λ c. c.owner ≢ None) layout.chunks → fresh_spot layout g ≡ None
fresh_no layout g a =
    ap (option_map (λ k. Fresh g k)) (passes_none (λ (c : Chunk). is_none c.owner) layout.chunks
    (record { owner = None; bump = 0; live = 0 })
    (λ k l. owned_not (get_or layout.chunks k (record { owner = None; bump = 0; live = 0 })).owner
    (a k (record { owner = None; bump = 0; live = 0 }) l)))

current_no : (area : Area) (layout : Layout) (need g : ℕ) → ((k : ℕ) → current_of layout g ≡ Some k
    → chunk_size area < (chunk_of layout k).bump + need)
    → current_spot area layout need g ≡ None
current_no area layout need g f = at (current_of layout g) refl
  where
    room : ℕ → Option Spot
    room k = cond (nat_le ((chunk_of layout k).bump + need) (chunk_size area)) (Some (Current k)) None

    at : (o : Option ℕ) → current_of layout g ≡ o → option_and_then room o ≡ None
    at None u = refl
    at (Some k) u = ap (λ t. cond t (Some (Current k)) None)
        (lt-leb ((chunk_of layout k).bump + need) (chunk_size area) (f k u))

first_none : (a b : Option Spot) → option_or a b ≡ None → a ≡ None
first_none None b e = refl
first_none (Some x) b e = absurd (cc)

second_none : (a b : Option Spot) → option_or a b ≡ None → b ≡ None
second_none None b e = e
second_none (Some x) b e = absurd (cc)

-- where there is no spot
refused : (area : Area) (layout : Layout) (need : ℕ) (group : Option ℕ) → spot_of area layout need group ≡ None
    → IsRefused area layout need group
unfolding spot_of
refused area layout need None e = record {
  holes = no_front layout need e;
  current = λ g k q l c. absurd (cc);
  chunks = λ g q l. absurd (cc);
}
refused area layout need (Some h) e = at (nat_le need (chunk_size area)) refl e
  where
    rest : Option Spot
    rest = option_or (fresh_spot layout h) (front_spot layout need)

    at : (t : Bool) → nat_le need (chunk_size area) ≡ t
        → cond t (option_or (current_spot area layout need h)
        (option_or (fresh_spot layout h) (front_spot layout need))) (front_spot layout need) ≡ None
        → IsRefused area layout need (Some h)
    at true u e =
        let r = second_none (current_spot area layout need h) (option_or (fresh_spot layout h) (front_spot layout need))
        e in
        record {
          holes = no_front layout need (second_none (fresh_spot layout h) (front_spot layout need) r);
          current = λ g k q l c.
              let s : h ≡ g = cc in
              full_when area layout need h (first_none (current_spot area layout need h)
              (option_or (fresh_spot layout h) (front_spot layout need)) e) k
              (ap (current_of layout) s ∙ c);
          chunks = λ g q l. no_fresh layout h (first_none (fresh_spot layout h) (front_spot layout need) r);
        }
    at false u e = record {
      holes = no_front layout need e;
      current = λ g k q l c. absurd (let m = leb-false need (chunk_size area) u in omega (arith, l, m));
      chunks = λ g q l. absurd (let m = leb-false need (chunk_size area) u in omega (arith, l, m));
    }

no_spot : (area : Area) (layout : Layout) (need : ℕ) (group : Option ℕ) → IsRefused area layout need group
    → spot_of area layout need group ≡ None
unfolding spot_of
no_spot area layout need None r = front_no layout need r.holes
no_spot area layout need (Some h) r = at (nat_le need (chunk_size area)) refl
  where
    at : (t : Bool) → nat_le need (chunk_size area) ≡ t
        → cond t (option_or (current_spot area layout need h)
        (option_or (fresh_spot layout h) (front_spot layout need))) (front_spot layout need) ≡ None
    at true u =
        let l = leb-true need (chunk_size area) u in
        ap (λ o. option_or o (option_or (fresh_spot layout h) (front_spot layout need)))
        (current_no area layout need h (λ k c. r.current h k refl l c))
        ∙ (ap (λ o. option_or o (front_spot layout need)) (fresh_no layout h (r.chunks h refl l))
        ∙ front_no layout need r.holes)
    at false u = front_no layout need r.holes

pub refused_where : (area : Area) (layout : Layout) (need : ℕ) (group : Option ℕ)
    → placed_in area layout need group ≡ None → IsRefused area layout need group
refused_where area layout need group e = refused area layout need group (at (spot_of area layout need group) e)
  where
    at : (o : Option Spot) → option_map (placed_at area layout need group) o ≡ None → o ≡ None
    at None e = refl
    at (Some s) e = absurd (cc)

pub where_refused : (area : Area) (layout : Layout) (need : ℕ) (group : Option ℕ) → IsRefused area layout need group
    → placed_in area layout need group ≡ None
where_refused area layout need group r = ap (option_map (placed_at area layout need group))
    (no_spot area layout need group r)
