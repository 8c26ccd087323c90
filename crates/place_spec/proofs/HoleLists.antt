-- Ascending holes: with one more, and with the front of one taken.
use Rattle.std.proofs.Common.{◌≡◌, ℕ, zero, suc, ◌+◌, ◌-◌, ◌*◌, ◌<◌, ◌≤◌, ◌⊎◌, ◌==◌, ◌≢◌, cond, Bool, true, false, List}
use Rattle.std.proofs.Common.{[], ◌∷◌, length, sym, inl, inr, refl, ap, arith}
use Rattle.std.specs.Prelude.{nat_lt, min, remove, slice_set}
use Rattle.std.proofs.lemmas.Bool.{ltb-true, ltb-false, eqb-true, eqb-false, cases_lt}
use Rattle.place_spec.specs.declared.parts.Hole.{Hole}
use Rattle.place_spec.specs.Layout.{hole_of}
use Rattle.place_spec.specs.Place.{cut_holes}
use Rattle.place_spec.specs.Release.{joined, with_hole}
use Rattle.place_spec.specs.Sound.{Apart, Frees}
use Rattle.place_spec.proofs.Lists.{Each, Pairs, Has, each_map, each_both, each_at}

-- holes with a granule each from lo on, with a granule between each two
abbrev pub Ascends : ℕ → List Hole → Type 0
Ascends lo [] = Unit {0}
Ascends lo (h ∷ hs) = (lo ≤ h.start) × ((0 < h.length) × Ascends (h.start + h.length + 1) hs)

pub ascends_lower : (lo lo' : ℕ) (hs : List Hole) → lo' ≤ lo → Ascends lo hs → Ascends lo' hs
ascends_lower lo lo' [] l a = tt
ascends_lower lo lo' (h ∷ hs) l a = (omega arith, a.1)

abbrev pub Before : Hole → Hole → Type 0
Before h x = h.start + h.length < x.start

pub ascends_from : (lo : ℕ) (hs : List Hole) → Each (λ h. lo ≤ h.start) hs → Pairs Before hs
    → Each (λ h. 0 < h.length) hs → Ascends lo hs
ascends_from lo [] e p f = tt
ascends_from lo (h ∷ hs) e p f = (
  e.0,
  (
    f.0,
    ascends_from (h.start + h.length + 1) hs (each_map (Before h) (λ x. h.start + h.length + 1 ≤ x.start) hs
        (λ x l. omega arith) p.0) p.1 f.1,
  ),
)

pub ascends_each : (lo : ℕ) (hs : List Hole) → Ascends lo hs → Each (λ h. lo ≤ h.start) hs
ascends_each lo [] a = tt
ascends_each lo (h ∷ hs) a = (
  a.0,
  each_map (λ x. h.start + h.length + 1 ≤ x.start) (λ x. lo ≤ x.start) hs (λ x l. omega arith)
      (ascends_each (h.start + h.length + 1) hs a.1.1),
)

pub ascends_pairs : (lo : ℕ) (hs : List Hole) → Ascends lo hs → Pairs Before hs
ascends_pairs lo [] a = tt
ascends_pairs lo (h ∷ hs) a = (
  each_map (λ x. h.start + h.length + 1 ≤ x.start) (Before h) hs (λ x l. omega arith)
      (ascends_each (h.start + h.length + 1) hs a.1.1),
  ascends_pairs (h.start + h.length + 1) hs a.1.1,
)

pub ascends_filled : (lo : ℕ) (hs : List Hole) → Ascends lo hs → Each (λ h. 0 < h.length) hs
ascends_filled lo [] a = tt
ascends_filled lo (h ∷ hs) a = (a.1.0, ascends_filled (h.start + h.length + 1) hs a.1.1)

-- every second granule at most begins a hole
pub few : (end lo : ℕ) (hs : List Hole) → Each (λ h. h.start + h.length ≤ end) hs → Ascends lo hs → lo ≤ end + 1
    → lo + 2 * length hs ≤ end + 1
few end lo [] e a l = omega arith
few end lo (h ∷ hs) e a l = let m = few end (h.start + h.length + 1) hs e.1 a.1.1 (omega arith) in omega (arith, m)

-- two stretches touch, the second below the first or above it
abbrev pub Touch : (hs hl xs xl : ℕ) → Type 0
Touch hs hl xs xl = (xs + xl ≡ hs) ⊎ (hs + hl ≡ xs)

touching : (hs hl xs xl : ℕ) → Apart hs hl xs xl → hs ≤ xs + xl → xs ≤ hs + hl → Touch hs hl xs xl
touching hs hl xs xl (inl p) l m = inr (omega arith)
touching hs hl xs xl (inr p) l m = inl (omega arith)

joined_below : (hs hl xs xl ys yl : ℕ) → Touch hs hl xs xl → Apart hs hl ys yl → xs + xl + 1 ≤ ys
    → Apart (min hs xs) (hl + xl) ys yl
joined_below hs hl xs xl ys yl (inl t) (inl q) l = inl (omega arith)
joined_below hs hl xs xl ys yl (inl t) (inr q) l = absurd (omega arith)
joined_below hs hl xs xl ys yl (inr t) q l = inl (omega arith)

joined_apart : (a n hs hl xs xl : ℕ) → 0 < n → Touch hs hl xs xl → Apart a n hs hl → Apart a n xs xl
    → Apart a n (min hs xs) (hl + xl)
joined_apart a n hs hl xs xl g (inl t) (inr q) r = inr (omega arith)
joined_apart a n hs hl xs xl g (inl t) (inl q) (inl r) = inl (omega arith)
joined_apart a n hs hl xs xl g (inl t) (inl q) (inr r) = absurd (omega arith)
joined_apart a n hs hl xs xl g (inr t) (inl q) r = inl (omega arith)
joined_apart a n hs hl xs xl g (inr t) (inr q) (inr r) = inr (omega arith)
joined_apart a n hs hl xs xl g (inr t) (inr q) (inl r) = absurd (omega arith)

-- what two stretches that touch have, the two as one have
joined_frees : (h x : Hole) (i : ℕ) → Touch h.start h.length x.start x.length → Frees h i ⊎ Frees x i
    → Frees (joined h x) i
joined_frees h x i (inl t) (inl q) = (omega arith, omega arith)
joined_frees h x i (inl t) (inr q) = (omega arith, omega arith)
joined_frees h x i (inr t) (inl q) = (omega arith, omega arith)
joined_frees h x i (inr t) (inr q) = (omega arith, omega arith)

-- what holds of holes with one more
pub record Added (lo end : ℕ) (h : Hole) (xs ys : List Hole) : Type 0 where
  pub ascends : Ascends lo ys
  pub inside : Each (λ y. y.start + y.length ≤ end) ys
  pub covers : (i : ℕ) → Frees h i ⊎ Has (λ x. Frees x i) xs → Has (λ y. Frees y i) ys
  pub apart : (a n : ℕ) → 0 < n → Apart a n h.start h.length → Each (λ x. Apart a n x.start x.length) xs
      → Each (λ y. Apart a n y.start y.length) ys

pub added : (lo end : ℕ) (h : Hole) (xs : List Hole) → lo ≤ h.start → 0 < h.length → h.start + h.length ≤ end
    → Ascends lo xs → Each (λ x. x.start + x.length ≤ end) xs → Each (λ x. Apart h.start h.length x.start x.length) xs
    → Added lo end h xs (with_hole h xs)
added lo end h [] l f w a e p = record {
  ascends = (l, (f, tt));
  inside = (w, tt);
  covers = λ i c. c;
  apart = λ a n g q r. (q, tt);
}
added lo end h (x ∷ xs) l f w a e p =
    at (λ m. added (x.start + x.length + 1) end h xs m f w a.1.1 e.1 p.1)
    (added lo end (joined h x) xs (omega arith) (omega arith) (omega arith) (ascends_lower _ lo xs (omega arith) a.1.1)
    e.1)
    (nat_lt (x.start + x.length) h.start) refl (nat_lt (h.start + h.length) x.start) refl
  where
    behind : (i : ℕ) → (Frees h i ⊎ Has (λ y. Frees y i) xs → Has (λ y. Frees y i) (with_hole h xs))
        → Frees h i ⊎ (Frees x i ⊎ Has (λ y. Frees y i) xs) → Frees x i ⊎ Has (λ y. Frees y i) (with_hole h xs)
    behind i r (inl q) = inr (r (inl q))
    behind i r (inr (inl q)) = inl q
    behind i r (inr (inr q)) = inr (r (inr q))

    as_one : (i : ℕ) → Touch h.start h.length x.start x.length
        → Frees h i ⊎ (Frees x i ⊎ Has (λ y. Frees y i) xs) → Frees (joined h x) i ⊎ Has (λ y. Frees y i) xs
    as_one i t (inl q) = inl (joined_frees h x i t (inl q))
    as_one i t (inr (inl q)) = inl (joined_frees h x i t (inr q))
    as_one i t (inr (inr q)) = inr q

    at : (x.start + x.length + 1 ≤ h.start → Added (x.start + x.length + 1) end h xs (with_hole h xs))
        → (Each (λ y. Apart (min h.start x.start) (h.length + x.length) y.start y.length) xs
        → Added lo end (joined h x) xs (with_hole (joined h x) xs))
        → (s : Bool) → nat_lt (x.start + x.length) h.start ≡ s → (t : Bool) → nat_lt (h.start + h.length) x.start ≡ t
        → Added lo end h (x ∷ xs) (cond s (x ∷ with_hole h xs) (cond t (h ∷ x ∷ xs) (with_hole (joined h x) xs)))
    at rest both true s t u =
        let r = rest (omega (arith, ltb-true (x.start + x.length) h.start s)) in
        record {
          ascends = (a.0, (a.1.0, r.ascends));
          inside = (e.0, r.inside);
          covers = λ i c. behind i (r.covers i) c;
          apart = λ b n g q o. (o.0, r.apart b n g q o.1);
        }
    at rest both false s true u = record {
      ascends = (l, (f, (omega (arith, ltb-true (h.start + h.length) x.start u), a.1)));
      inside = (w, e);
      covers = λ i c. c;
      apart = λ b n g q o. (q, o);
    }
    at rest both false s false u =
        let t : Touch h.start h.length x.start x.length =
        touching h.start h.length x.start x.length p.0 (ltb-false (x.start + x.length) h.start s)
        (ltb-false (h.start + h.length) x.start u) in
        let r = both (each_both (λ y. Apart h.start h.length y.start y.length) (λ y. x.start + x.length + 1 ≤ y.start)
        (λ y. Apart (min h.start x.start) (h.length + x.length) y.start y.length) xs
        (λ y q m. joined_below h.start h.length x.start x.length y.start y.length t q m) p.1
        (ascends_each (x.start + x.length + 1) xs a.1.1)) in
        record {
          ascends = r.ascends;
          inside = r.inside;
          covers = λ i c. r.covers i (as_one i t c);
          apart = λ b n g q o. r.apart b n g (joined_apart b n h.start h.length x.start x.length g t q o.0) o.1;
        }

-- holes after granules were taken from the front of hole i, item by item
abbrev pub rest_of : ℕ → Hole → List Hole → List Hole
rest_of need h hs = cond (h.length == need) hs (record { start = h.start + need; length = h.length - need } ∷ hs)

abbrev pub cut : (need i : ℕ) → List Hole → List Hole
cut need i [] = []
cut need zero (h ∷ hs) = rest_of need h hs
cut need (suc i) (h ∷ hs) = h ∷ cut need i hs

pub cut_is : (need i : ℕ) (hs : List Hole) → i < length hs → cut_holes need i hs ≡ cut need i hs
cut_is need i [] l = absurd (omega arith)
cut_is need zero (h ∷ hs) l = refl
cut_is need (suc i) (h ∷ hs) l = at ((hole_of hs i).length == need) (cut_is need i hs (omega arith))
  where
    piece : Hole
    piece = record { start = (hole_of hs i).start + need; length = (hole_of hs i).length - need }

    at : (t : Bool) → cond t (remove hs i) (slice_set hs i piece) ≡ cut need i hs
        → cond t (h ∷ remove hs i) (h ∷ slice_set hs i piece) ≡ h ∷ cut need i hs
    at true e = ap (λ ys. h ∷ ys) e
    at false e = ap (λ ys. h ∷ ys) e

-- what holds of holes after the front of hole i was taken
pub record IsCut (lo end need i : ℕ) (hs ys : List Hole) : Type 0 where
  pub ascends : Ascends lo ys
  pub inside : Each (λ y. y.start + y.length ≤ end) ys
  pub covers : (j : ℕ) → Has (λ h. Frees h j) hs
      → (((hole_of hs i).start ≤ j) × (j < (hole_of hs i).start + need)) ⊎ Has (λ y. Frees y j) ys
  pub apart : (a n : ℕ) → Each (λ h. Apart a n h.start h.length) hs → Each (λ y. Apart a n y.start y.length) ys
  pub front_apart : Each (λ y. Apart (hole_of hs i).start need y.start y.length) ys

pub cut_facts : (lo end need i : ℕ) (hs : List Hole) → Ascends lo hs → Each (λ h. h.start + h.length ≤ end) hs
    → i < length hs → need ≤ (hole_of hs i).length → IsCut lo end need i hs (cut need i hs)
cut_facts lo end need i [] a e l m = absurd (omega arith)
cut_facts lo end need zero (h ∷ hs) a e l m = at (h.length == need) refl
  where
    behind : Each (λ y. Apart h.start need y.start y.length) hs
    behind = each_map (λ y. h.start + h.length + 1 ≤ y.start) (λ y. Apart h.start need y.start y.length) hs
        (λ y o. inl (omega arith))
        (ascends_each (h.start + h.length + 1) hs a.1.1)

    piece : Hole
    piece = record { start = h.start + need; length = h.length - need }

    all_of : (j : ℕ) → need ≡ h.length → Frees h j ⊎ Has (λ y. Frees y j) hs
        → ((h.start ≤ j) × (j < h.start + need)) ⊎ Has (λ y. Frees y j) hs
    all_of j q (inl c) = inl (c.0, omega arith)
    all_of j q (inr c) = inr c

    in_two : (j : ℕ) → (j < h.start + need) ⊎ (h.start + need ≤ j) → Frees h j
        → ((h.start ≤ j) × (j < h.start + need)) ⊎ (Frees piece j ⊎ Has (λ y. Frees y j) hs)
    in_two j (inl o) c = inl (c.0, o)
    in_two j (inr o) c = inr (inl (o, omega arith))

    part_of : (j : ℕ) → Frees h j ⊎ Has (λ y. Frees y j) hs
        → ((h.start ≤ j) × (j < h.start + need)) ⊎ (Frees piece j ⊎ Has (λ y. Frees y j) hs)
    part_of j (inl c) = in_two j (cases_lt j (h.start + need)) c
    part_of j (inr c) = inr (inr c)

    smaller : (a n : ℕ) → Apart a n h.start h.length → Apart a n piece.start piece.length
    smaller a n (inl o) = inl (omega arith)
    smaller a n (inr o) = inr (omega arith)

    at : (t : Bool) → (h.length == need) ≡ t
        → IsCut lo end need zero (h ∷ hs) (cond t hs (piece ∷ hs))
    at true q = record {
      ascends = ascends_lower (h.start + h.length + 1) lo hs (omega arith) a.1.1;
      inside = e.1;
      covers = λ j c. all_of j (sym (eqb-true h.length need q)) c;
      apart = λ b n o. o.1;
      front_apart = behind;
    }
    at false q =
        let n : h.length ≢ need = eqb-false h.length need q in
        record {
          ascends = (omega arith, (omega arith, ascends_lower (h.start + h.length + 1) _ hs (omega arith) a.1.1));
          inside = (omega arith, e.1);
          covers = part_of;
          apart = λ b n o. (smaller b n o.0, o.1);
          front_apart = (inl (omega arith), behind);
        }
cut_facts lo end need (suc i) (h ∷ hs) a e l m =
    at (cut_facts (h.start + h.length + 1) end need i hs a.1.1 e.1 (omega arith) m)
  where
    later : h.start + h.length + 1 ≤ (hole_of hs i).start
    later = each_at (λ x. h.start + h.length + 1 ≤ x.start) hs i _ (omega arith)
        (ascends_each (h.start + h.length + 1) hs a.1.1)

    behind : (j : ℕ)
        → (Has (λ x. Frees x j) hs → (((hole_of hs i).start ≤ j) × (j < (hole_of hs i).start + need))
        ⊎ Has (λ y. Frees y j) (cut need i hs))
        → Frees h j ⊎ Has (λ x. Frees x j) hs
        → (((hole_of hs i).start ≤ j) × (j < (hole_of hs i).start + need))
        ⊎ (Frees h j ⊎ Has (λ y. Frees y j) (cut need i hs))
    behind j r (inl c) = inr (inl c)
    behind j r (inr c) = shift (r c)
      where
        shift : (((hole_of hs i).start ≤ j) × (j < (hole_of hs i).start + need)) ⊎ Has (λ y. Frees y j) (cut need i hs)
            → (((hole_of hs i).start ≤ j) × (j < (hole_of hs i).start + need))
            ⊎ (Frees h j ⊎ Has (λ y. Frees y j) (cut need i hs))
        shift (inl q) = inl q
        shift (inr q) = inr (inr q)

    at : IsCut (h.start + h.length + 1) end need i hs (cut need i hs)
        → IsCut lo end need (suc i) (h ∷ hs) (h ∷ cut need i hs)
    at rest = record {
      ascends = (a.0, (a.1.0, rest.ascends));
      inside = (e.0, rest.inside);
      covers = λ j c. behind j (rest.covers j) c;
      apart = λ b n o. (o.0, rest.apart b n o.1);
      front_apart = (inr (omega (arith, later)), rest.front_apart);
    }
