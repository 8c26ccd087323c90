-- Stores: memory with other bytes is the same areas over a function with these bytes at their addresses.
use Rattle.std.proofs.Common.{◌≡◌, ◌≢◌, ◌⊎◌, ℕ, ◌+◌, ◌-◌, ◌<◌, ◌≤◌, List, [], ◌∷◌, ◌++◌, Bool, true, false, cond}
use Rattle.std.proofs.Common.{◌&&◌, length, map, refl, sym, ap, ◌∙◌, arith, inl, inr, get_or, AllPairs, set, length-set}
use Rattle.std.proofs.Common.{get_or-set_same, get_or-set_other, length-append}
use Rattle.std.specs.Prelude.{nat_eq, nat_le, nat_lt, slice_index, slice_set}
use Rattle.std.specs.List.{range_with_len}
use Rattle.std.proofs.lemmas.Bool.{cases_lt}
use Rattle.std.proofs.lemmas.Bool.Decides.{nat_tests}
use Rattle.std.proofs.lemmas.List.{get_or_append_left, get_or-append_right}
use Rattle.std.proofs.lemmas.List.FromFn.{get_or-map-range_with_len, length-map-range_with_len}
use Rattle.std.proofs.lemmas.Grind.{same_number_lists}
use Rattle.flat_spec.specs.Stores.{put_byte, put_bytes}
use Rattle.flat_mem.specs.declared.area.Area.{Area}
use Rattle.flat_mem.specs.Areas.{byte_in, has_address, range_in, ranges, over, AreApart}
use Rattle.flat_mem.proofs.Found.{has_bounds, has_from, ranges_same, map_same, others_apart, others_pairs, not_both}

-- a piece over a function, at its addresses and elsewhere
within : (a n k : ℕ) → a ≤ k → k < a + n → (nat_le a k && nat_lt k (a + n)) ≡ true
within a n k low high = grind (arith, nat_tests)

outside : (a n k : ℕ) → (k < a) ⊎ (a + n ≤ k) → (nat_le a k && nat_lt k (a + n)) ≡ false
outside a n k (inl h) = grind (arith, nat_tests)
outside a n k (inr h) = at (nat_le a k) (nat_lt k (a + n)) refl
  where
    at : (v w : Bool) → nat_lt k (a + n) ≡ w → (v && w) ≡ false
    at true w e = let q : nat_lt k (a + n) ≡ false = grind (arith, nat_tests) in sym e ∙ q
    at false w e = refl

pub over_in : (byte : ℕ → ℕ) (a : ℕ) (piece : List ℕ) (k : ℕ) → a ≤ k → k < a + length piece
    → over byte a piece k ≡ slice_index piece (k - a)
over_in byte a piece k low high = rw (within a (length piece) k low high) refl

pub over_out : (byte : ℕ → ℕ) (a : ℕ) (piece : List ℕ) (k : ℕ) → (k < a) ⊎ (a + length piece ≤ k)
    → over byte a piece k ≡ byte k
over_out byte a piece k h = rw (outside a (length piece) k h) refl

pub over_none : (byte : ℕ → ℕ) (a k : ℕ) → over byte a [] k ≡ byte k
over_none byte a k = at (cases_lt k a)
  where
    at : (k < a) ⊎ (a ≤ k) → over byte a [] k ≡ byte k
    at (inl h) = over_out byte a [] k (inl h)
    at (inr h) = let e : a + length {A = ℕ} [] ≤ k = omega (arith, h) in over_out byte a [] k (inr e)

pub over_again : (f g : ℕ → ℕ) (a : ℕ) (piece : List ℕ) (k : ℕ) → f k ≡ g k → over f a piece k ≡ over g a piece k
over_again f g a piece k h = rw h refl

-- the same directory and buffer under other names
pub over_moved : (d e bytes buffer new : List ℕ) (a : ℕ) (piece : List ℕ) → e ≡ d → buffer ≡ bytes
    → ((k : ℕ) → byte_in e new k ≡ over (byte_in e buffer) a piece k)
    → (k : ℕ) → byte_in d new k ≡ over (byte_in d bytes) a piece k
over_moved d e bytes buffer new a piece f g same k =
    ap (λ x. byte_in x new k) (sym f) ∙ same k ∙ ap (λ x. over (byte_in x buffer) a piece k) f
    ∙ ap (λ x. over (byte_in d x) a piece k) g

-- a piece behind another
pub over_more : (byte : ℕ → ℕ) (a : ℕ) (xs ys : List ℕ) (k : ℕ)
    → over (over byte a xs) (a + length xs) ys k ≡ over byte a (xs ++ ys) k
over_more byte a xs ys k = at (cases_lt k a) (cases_lt k (a + length xs)) (cases_lt k (a + length xs + length ys))
  where
    n : length (xs ++ ys) ≡ length xs + length ys
    n = length-append xs ys

    at : (k < a) ⊎ (a ≤ k) → (k < a + length xs) ⊎ (a + length xs ≤ k)
        → (k < a + length xs + length ys) ⊎ (a + length xs + length ys ≤ k)
        → over (over byte a xs) (a + length xs) ys k ≡ over byte a (xs ++ ys) k
    at (inl h) q r =
        over_out (over byte a xs) (a + length xs) ys k (inl (omega (arith, h))) ∙ over_out byte a xs k (inl h)
        ∙ sym (over_out byte a (xs ++ ys) k (inl h))
    at (inr h) (inl q) r =
        over_out (over byte a xs) (a + length xs) ys k (inl q) ∙ over_in byte a xs k h q
        ∙ sym (over_in byte a (xs ++ ys) k h (omega (arith, n, q))
        ∙ get_or_append_left xs ys 0 (k - a) (omega (arith, h, q)))
    at (inr h) (inr q) (inl r) =
        let far : k - (a + length xs) ≡ k - a - length xs = omega (arith, h, q) in
        over_in (over byte a xs) (a + length xs) ys k q r ∙ ap (slice_index ys) far
        ∙ sym (over_in byte a (xs ++ ys) k h (omega (arith, n, r))
        ∙ get_or-append_right xs ys (length xs) (k - a) 0 refl (omega (arith, h, q)))
    at (inr h) (inr q) (inr r) =
        over_out (over byte a xs) (a + length xs) ys k (inr r) ∙ over_out byte a xs k (inr q)
        ∙ sym (over_out byte a (xs ++ ys) k (inr (omega (arith, n, r))))

-- one byte
unlike : (a k : ℕ) (s : Area) → has_address a s ≡ false → s.start ≤ k → k < s.start + s.size → k ≢ a
unlike a k s e low high = λ same. not_both (has_address a s) (rw (← same) (has_from k s low high)) e

pub over_other : (byte : ℕ → ℕ) (a b k : ℕ) → k ≢ a → over byte a (b ∷ []) k ≡ byte k
over_other byte a b k h = at (cases_lt k a)
  where
    at : (k < a) ⊎ (a ≤ k) → over byte a (b ∷ []) k ≡ byte k
    at (inl l) = over_out byte a (b ∷ []) k (inl l)
    at (inr l) = over_out byte a (b ∷ []) k (inr (omega (arith, h, l)))

pub over_same : (byte : ℕ → ℕ) (a b : ℕ) → over byte a (b ∷ []) a ≡ b
over_same byte a b =
    let z : a - a ≡ 0 = omega arith in
    over_in byte a (b ∷ []) a (omega arith) (omega arith) ∙ ap (slice_index (b ∷ [])) z

-- the bytes of the range that has the address
set_over : (byte : ℕ → ℕ) (a b start size : ℕ) → start ≤ a → a < start + size
    → map (over byte a (b ∷ [])) (range_with_len start size) ≡ set (map byte (range_with_len start size)) (a - start) b
set_over byte a b start size low high =
    same_number_lists _ _
    (length-map-range_with_len (over byte a (b ∷ [])) start size
    ∙ sym (length-set (map byte (range_with_len start size)) (a - start) b ∙ length-map-range_with_len byte start size))
    (λ i l. each i (omega (arith, l, length-map-range_with_len (over byte a (b ∷ [])) start size)))
  where
    each : (i : ℕ) → i < size → get_or (map (over byte a (b ∷ [])) (range_with_len start size)) i 0
        ≡ get_or (set (map byte (range_with_len start size)) (a - start) b) i 0
    each i l = get_or-map-range_with_len (over byte a (b ∷ [])) start size i (start + i) 0 l refl
        ∙ at (nat_eq i (a - start)) refl
      where
        at : (v : Bool) → nat_eq i (a - start) ≡ v → over byte a (b ∷ []) (start + i)
            ≡ get_or (set (map byte (range_with_len start size)) (a - start) b) i 0
        at true e =
            let here : i ≡ a - start = grind (arith, nat_tests) in
            let there : start + i ≡ a = omega (arith, here, low) in
            rw (there, here) (over_same byte a b
            ∙ sym (get_or-set_same (map byte (range_with_len start size)) (a - start) b
            0 (omega (arith, low, high, length-map-range_with_len byte start size))))
        at false e =
            let away : i ≢ a - start = grind (arith, nat_tests) in
            let there : start + i ≢ a = omega (arith, away, low) in
            over_other byte a b (start + i) there
            ∙ sym (get_or-set_other (map byte (range_with_len start size)) (a - start) i b 0 away
            ∙ get_or-map-range_with_len byte start size i (start + i) 0 l refl)

pub put_byte_over : (byte : ℕ → ℕ) (a b : ℕ) (areas : List Area) → AllPairs AreApart areas
    → put_byte (ranges byte areas) a b ≡ ranges (over byte a (b ∷ [])) areas
put_byte_over byte a b [] h = refl
put_byte_over byte a b (r ∷ rs) h =
    rw (length-map-range_with_len byte r.start r.size)
    (at (put_byte_over byte a b rs (others_pairs r rs h)) (has_address a r) refl)
  where
    at : put_byte (ranges byte rs) a b ≡ ranges (over byte a (b ∷ [])) rs → (v : Bool) → has_address a r ≡ v
        → cond v (record (range_in byte r) {
          bytes = slice_set (map byte (range_with_len r.start r.size)) (a - r.start) b;
        } ∷ ranges byte rs) (range_in byte r ∷ put_byte (ranges byte rs) a b)
        ≡ ranges (over byte a (b ∷ [])) (r ∷ rs)
    at ih true e =
        let q : (r.start ≤ a) × (a < r.start + r.size) = has_bounds a r e in
        rw (
          set_over byte a b r.start r.size q.0 q.1,
          ← ranges_same byte (over byte a (b ∷ [])) rs (λ k t. sym (over_other byte a b k
              (λ same. not_both (has_address a r) e (rw same at (others_apart r rs k h t))))),
        ) refl
    at ih false e =
        rw (
          ih,
          ← map_same byte (over byte a (b ∷ [])) r.start r.size (λ k low high. sym (over_other byte a b k
              (unlike a k r e low high))),
        ) refl

-- a piece
pub put_bytes_over : (bs : List ℕ) (byte : ℕ → ℕ) (a : ℕ) (areas : List Area) → AllPairs AreApart areas
    → put_bytes (ranges byte areas) a bs ≡ ranges (over byte a bs) areas
put_bytes_over [] byte a areas h = ranges_same byte (over byte a []) areas (λ k t. sym (over_none byte a k))
put_bytes_over (b ∷ bs) byte a areas h =
    ap (λ m. put_bytes m (a + 1) bs) (put_byte_over byte a b areas h)
    ∙ put_bytes_over bs (over byte a (b ∷ [])) (a + 1) areas h
    ∙ ranges_same (over (over byte a (b ∷ [])) (a + 1) bs) (over byte a (b ∷ bs)) areas
    (λ k t. over_more byte a (b ∷ []) bs k)

-- so the ranges after a store are those of any function that agrees with it
pub put_is : (bs : List ℕ) (byte other : ℕ → ℕ) (a : ℕ) (areas : List Area) → AllPairs AreApart areas
    → ((k : ℕ) → other k ≡ over byte a bs k) → ranges other areas ≡ put_bytes (ranges byte areas) a bs
put_is bs byte other a areas h same =
    ranges_same other (over byte a bs) areas (λ k t. same k) ∙ sym (put_bytes_over bs byte a areas h)
