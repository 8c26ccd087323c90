-- The area at an address, with the range and the byte there; areas whose bytes are the same at their addresses.
use Rattle.std.proofs.Common.{◌≡◌, ◌⊎◌, ℕ, zero, suc, ◌+◌, ◌-◌, ◌<◌, ◌≤◌, List, [], ◌∷◌, Bool, true, false}
use Rattle.std.proofs.Common.{cond, length, map, refl, ap, arith, inl, inr, get_or, AllPairs}
use Rattle.std.specs.Prelude.{Some, None, option_map, is_some}
use Rattle.std.specs.List.{range_with_len}
use Rattle.std.proofs.lemmas.Bool.Decides.{nat_tests}
use Rattle.std.proofs.lemmas.List.FromFn.{get_or-map-range_with_len, length-map-range_with_len}
use Rattle.machine_spec.specs.Memory.{range_at, byte_of}
use Rattle.flat_mem.specs.declared.area.Area.{Area}
use Rattle.flat_mem.specs.Areas.{has_address, area_of, range_in, ranges, AreApart}

pub has_bounds : (a : ℕ) (s : Area) → has_address a s ≡ true → (s.start ≤ a) × (a < s.start + s.size)
has_bounds a s e = grind (arith, nat_tests)

pub has_from : (a : ℕ) (s : Area) → s.start ≤ a → a < s.start + s.size → has_address a s ≡ true
has_from a s low high = grind (arith, nat_tests)

-- an area that was found has the address
pub find_has : (a : ℕ) (areas : List Area) (s : Area) → area_of areas a ≡ Some s → has_address a s ≡ true
find_has a [] s e = absurd (cc)
find_has a (r ∷ rs) s e = at (find_has a rs s) (has_address a r) refl e
  where
    at : (area_of rs a ≡ Some s → has_address a s ≡ true) → (v : Bool) → has_address a r ≡ v
        → cond v (Some r) (area_of rs a) ≡ Some s → has_address a s ≡ true
    at ih true d e = let same : r ≡ s = cc in rw same at d
    at ih false d e = ih e

-- the range at an address is that of the area there
pub range_at_ranges : (byte : ℕ → ℕ) (a : ℕ) (areas : List Area)
    → range_at (ranges byte areas) a ≡ option_map (range_in byte) (area_of areas a)
range_at_ranges byte a [] = refl
range_at_ranges byte a (r ∷ rs) =
    rw (length-map-range_with_len byte r.start r.size) (at (range_at_ranges byte a rs) (has_address a r))
  where
    at : range_at (ranges byte rs) a ≡ option_map (range_in byte) (area_of rs a) → (v : Bool)
        → cond v (Some (range_in byte r)) (range_at (ranges byte rs) a)
        ≡ option_map (range_in byte) (cond v (Some r) (area_of rs a))
    at ih true = refl
    at ih false = ih

-- and the byte at an address that of the function
pub byte_found : (byte : ℕ → ℕ) (a : ℕ) (areas : List Area) (s : Area) → area_of areas a ≡ Some s
    → byte_of (ranges byte areas) a ≡ Some (byte a)
unfolding byte_of
byte_found byte a areas s e =
    let b : (s.start ≤ a) × (a < s.start + s.size) = has_bounds a s (find_has a areas s e) in
    rw (range_at_ranges byte a areas, e)
    (ap (λ x. Some x) (get_or-map-range_with_len byte s.start s.size (a - s.start) a 0 (omega (arith, b.0, b.1))
    (omega (arith, b.0))))

pub no_byte : (byte : ℕ → ℕ) (a : ℕ) (areas : List Area) → area_of areas a ≡ None
    → byte_of (ranges byte areas) a ≡ None
unfolding byte_of
no_byte byte a areas e = rw (range_at_ranges byte a areas, e) refl

-- functions that agree on the addresses of areas give the same ranges
pub map_same : (f g : ℕ → ℕ) (a n : ℕ) → ((k : ℕ) → a ≤ k → k < a + n → f k ≡ g k)
    → map f (range_with_len a n) ≡ map g (range_with_len a n)
map_same f g a zero h = refl
map_same f g a (suc n) h =
    rw (h a (omega arith) (omega arith), map_same f g (a + 1) n (λ k low high. h k (omega arith) (omega arith))) refl

head_there : (r : Area) (rs : List Area) (k : ℕ) → r.start ≤ k → k < r.start + r.size
    → is_some (area_of (r ∷ rs) k) ≡ true
head_there r rs k low high = rw (has_from k r low high) refl

pub tail_there : (r : Area) (rs : List Area) (k : ℕ) → is_some (area_of rs k) ≡ true
    → is_some (area_of (r ∷ rs) k) ≡ true
tail_there r rs k h = at (has_address k r)
  where
    at : (v : Bool) → is_some (cond v (Some r) (area_of rs k)) ≡ true
    at true = refl
    at false = h

pub ranges_same : (f g : ℕ → ℕ) (areas : List Area) → ((k : ℕ) → is_some (area_of areas k) ≡ true → f k ≡ g k)
    → ranges f areas ≡ ranges g areas
ranges_same f g [] h = refl
ranges_same f g (r ∷ rs) h =
    rw (
      map_same f g r.start r.size (λ k low high. h k (head_there r rs k low high)),
      ranges_same f g rs (λ k t. h k (tail_there r rs k t)),
    ) refl

-- areas that are apart
pairs_tail : (r : Area) (rs : List Area) → AllPairs AreApart (r ∷ rs) → AllPairs AreApart rs
pairs_tail r rs h = λ i j d l m. h (suc i) (suc j) d (omega arith) (omega arith)

pub apart_has : (k : ℕ) (r s : Area) → AreApart r s → has_address k s ≡ true → has_address k r ≡ false
apart_has k r s h e = at (has_address k r) refl (has_bounds k s e) h
  where
    off : (r.start ≤ k) × (k < r.start + r.size) → (s.start ≤ k) × (k < s.start + s.size)
        → (r.start + r.size ≤ s.start) ⊎ (s.start + s.size ≤ r.start) → ⊥
    off (a, b) (c, d) (inl p) = omega arith
    off (a, b) (c, d) (inr p) = omega arith

    at : (v : Bool) → has_address k r ≡ v → (s.start ≤ k) × (k < s.start + s.size) → (r.start + r.size ≤ s.start)
        ⊎ (s.start + s.size ≤ r.start)
        → has_address k r ≡ false
    at false d b h = d
    at true d b h = absurd (off (has_bounds k r d) b h)

-- the first of areas has no address of the others
first_apart : (r : Area) (rs : List Area) (k : ℕ) → ((j : ℕ) (d : Area) → j < length rs → AreApart r (get_or rs j d))
    → is_some (area_of rs k) ≡ true → has_address k r ≡ false
first_apart r [] k h t = absurd (cc)
first_apart r (s ∷ ss) k h t =
    at (first_apart r ss k (λ j d l. h (suc j) d (omega arith))) (has_address k s) refl t
  where
    at : (is_some (area_of ss k) ≡ true → has_address k r ≡ false) → (v : Bool) → has_address k s ≡ v
        → is_some (cond v (Some s) (area_of ss k)) ≡ true → has_address k r ≡ false
    at ih true e t = apart_has k r s (h 0 s (omega arith)) e
    at ih false e t = ih t

pub others_apart : (r : Area) (rs : List Area) (k : ℕ) → AllPairs AreApart (r ∷ rs) → is_some (area_of rs k) ≡ true
    → has_address k r ≡ false
others_apart r rs k h t = first_apart r rs k (λ j d l. h 0 (suc j) d (omega arith) (omega (arith, l))) t

pub others_pairs : (r : Area) (rs : List Area) → AllPairs AreApart (r ∷ rs) → AllPairs AreApart rs
others_pairs r rs h = pairs_tail r rs h

pub not_both : (b : Bool) → b ≡ true → b ≡ false → ⊥
not_both true e f = absurd (cc)
not_both false e f = absurd (cc)
