-- Places in pages: successive addresses of a page stand together, no other address with a page of its own stands there.
use Rattle.std.proofs.Common.{◌≡◌, ◌⊎◌, ℕ, ◌+◌, ◌*◌, ◌-◌, ◌/◌, ◌%◌, ◌<◌, ◌≤◌, List, ◌++◌, length, map, take, drop, refl}
use Rattle.std.proofs.Common.{sym, ap, ◌∙◌, arith, inl, inr, get_or, length-append, length-take, length-drop}
use Rattle.std.specs.List.{range_with_len}
use Rattle.std.proofs.lemmas.Bool.{cases_lt}
use Rattle.std.proofs.lemmas.List.{get_or_append_left, get_or-append_right, get_or-take, get_or-drop}
use Rattle.std.proofs.lemmas.List.FromFn.{get_or-map-range_with_len, length-map-range_with_len}
use Rattle.std.proofs.lemmas.Grind.{same_number_lists}
use Rattle.flat_mem.specs.Areas.{page_at, place, byte_in, over, written, IsDirectory}
use Rattle.flat_mem.proofs.Puts.{over_in, over_out}

pub in_page : (d : List ℕ) (a i : ℕ) → a % 4096 + i < 4096 → place d (a + i) ≡ place d a + i
in_page d a i h =
    let page : (a + i) / 4096 ≡ a / 4096 = omega arith in
    let rest : (a + i) % 4096 ≡ a % 4096 + i = omega arith in
    rw (page, rest) (omega arith)

pub in_same_page : (d : List ℕ) (a i : ℕ) → a % 4096 + i < 4096 → page_at d (a + i) ≡ page_at d a
in_same_page d a i h =
    let page : (a + i) / 4096 ≡ a / 4096 = omega arith in
    rw page refl

-- each page is in the buffer
pub place_end : (d bytes : List ℕ) (a n : ℕ) → IsDirectory d (length bytes / 4096) → a % 4096 + n ≤ 4096
    → place d a + n ≤ length bytes
place_end d bytes a n h l = let b : page_at d a < length bytes / 4096 = h.below (a / 4096) in omega (arith, b, l)

pub place_there : (d : List ℕ) (count a : ℕ) → IsDirectory d count → place d a < count * 4096
place_there d count a h = let b : page_at d a < count = h.below (a / 4096) in omega (arith, b)

pub own_place : (d : List ℕ) (count a i k : ℕ) → IsDirectory d count → 0 < page_at d a → a % 4096 + i < 4096
    → place d k ≡ place d a + i → k ≡ a + i
own_place d count a i k h own l e =
    let pages : page_at d a ≡ page_at d k = omega (arith, e, l) in
    let same : a / 4096 ≡ k / 4096 = h.own (a / 4096) (k / 4096) own pages in
    let rest : k % 4096 ≡ a % 4096 + i = omega (arith, e, l, pages) in
    omega (arith, same, rest)

-- what stands in a buffer after a piece was written to a place
written_before : (bytes : List ℕ) (p : ℕ) (piece : List ℕ) (j : ℕ) → p + length piece ≤ length bytes → j < p
    → get_or (written bytes p piece) j 0 ≡ get_or bytes j 0
written_before bytes p piece j h l =
    let n : length (take p bytes) ≡ p = omega (arith, h, length-take p bytes) in
    let m : length (take p bytes ++ piece) ≡ length (take p bytes) + length piece =
    length-append (take p bytes) piece in
    get_or_append_left (take p bytes ++ piece) (drop (p + length piece) bytes) 0 j (omega (arith, n, m, l))
    ∙ get_or_append_left (take p bytes) piece 0 j (omega (arith, n, l)) ∙ get_or-take p bytes j 0 l

written_there : (bytes : List ℕ) (p : ℕ) (piece : List ℕ) (i : ℕ) → p + length piece ≤ length bytes → i < length piece
    → get_or (written bytes p piece) (p + i) 0 ≡ get_or piece i 0
written_there bytes p piece i h l =
    let n : length (take p bytes) ≡ p = omega (arith, h, length-take p bytes) in
    let m : length (take p bytes ++ piece) ≡ length (take p bytes) + length piece =
    length-append (take p bytes) piece in
    let k : p + i - length (take p bytes) ≡ i = omega (arith, n) in
    get_or_append_left (take p bytes ++ piece) (drop (p + length piece) bytes) 0 (p + i) (omega (arith, n, m, l))
    ∙ get_or-append_right (take p bytes) piece (length (take p bytes)) (p + i) 0 refl (omega (arith, n))
    ∙ ap (λ j. get_or piece j 0) k

written_behind : (bytes : List ℕ) (p : ℕ) (piece : List ℕ) (j : ℕ) → p + length piece ≤ length bytes
    → p + length piece ≤ j → get_or (written bytes p piece) j 0 ≡ get_or bytes j 0
written_behind bytes p piece j h l =
    let n : length (take p bytes) ≡ p = omega (arith, h, length-take p bytes) in
    let m : length (take p bytes ++ piece) ≡ length (take p bytes) + length piece =
    length-append (take p bytes) piece in
    let k : p + length piece + (j - length (take p bytes ++ piece)) ≡ j = omega (arith, n, m, l) in
    get_or-append_right (take p bytes ++ piece) (drop (p + length piece) bytes)
    (length (take p bytes ++ piece)) j 0 refl (omega (arith, n, m, l))
    ∙ get_or-drop (p + length piece) bytes (j - length (take p bytes ++ piece)) 0 ∙ ap (λ i. get_or bytes i 0) k

pub length-written : (bytes : List ℕ) (p : ℕ) (bs : List ℕ) → p + length bs ≤ length bytes
    → length (written bytes p bs) ≡ length bytes
length-written bytes p bs h =
    omega (
      arith,
      length-append (take p bytes ++ bs) (drop (p + length bs) bytes),
      length-append (take p bytes) bs,
      length-take p bytes,
      length-drop (p + length bs) bytes,
    )

-- a piece that was written to the place of an address is what stands for its addresses, and for no other
pub written_over : (d bytes : List ℕ) (a : ℕ) (piece : List ℕ) (k : ℕ) → IsDirectory d (length bytes / 4096)
    → 0 < page_at d a → a % 4096 + length piece ≤ 4096
    → byte_in d (written bytes (place d a) piece) k ≡ over (byte_in d bytes) a piece k
written_over d bytes a piece k h own l = at (cases_lt k a) (cases_lt k (a + length piece))
  where
    fits : place d a + length piece ≤ length bytes
    fits = place_end d bytes a (length piece) h l

    -- an address outside of the piece stands outside
    away : (k < a) ⊎ (a + length piece ≤ k) → (place d k < place d a) ⊎ (place d a + length piece ≤ place d k)
    away out = by (cases_lt (place d k) (place d a)) (cases_lt (place d k) (place d a + length piece))
      where
        off : (k < a) ⊎ (a + length piece ≤ k) → k ≡ a + (place d k - place d a)
            → place d k < place d a + length piece → place d a ≤ place d k → ⊥
        off (inl q) e r s = omega (arith, q, e)
        off (inr q) e r s = omega (arith, q, e, r, s)

        by : (place d k < place d a) ⊎ (place d a ≤ place d k)
            → (place d k < place d a + length piece) ⊎ (place d a + length piece ≤ place d k)
            → (place d k < place d a) ⊎ (place d a + length piece ≤ place d k)
        by (inl q) r = inl q
        by (inr q) (inr r) = inr r
        by (inr q) (inl r) = absurd (off out (own_place d (length bytes / 4096) a (place d k - place d a) k h own
            (omega (arith, q, r, l)) (omega (arith, q))) r q)

    stays : (place d k < place d a) ⊎ (place d a + length piece ≤ place d k)
        → byte_in d (written bytes (place d a) piece) k ≡ byte_in d bytes k
    stays (inl q) = written_before bytes (place d a) piece (place d k) fits q
    stays (inr q) = written_behind bytes (place d a) piece (place d k) fits q

    at : (k < a) ⊎ (a ≤ k) → (k < a + length piece) ⊎ (a + length piece ≤ k)
        → byte_in d (written bytes (place d a) piece) k ≡ over (byte_in d bytes) a piece k
    at (inl q) r = stays (away (inl q)) ∙ sym (over_out (byte_in d bytes) a piece k (inl q))
    at (inr q) (inr r) = stays (away (inr r)) ∙ sym (over_out (byte_in d bytes) a piece k (inr r))
    at (inr q) (inl r) =
        let same : a + (k - a) ≡ k = omega (arith, q) in
        let there : place d k ≡ place d a + (k - a) =
        ap (place d) (sym same) ∙ in_page d a (k - a) (omega (arith, q, r, l)) in
        ap (λ j. get_or (written bytes (place d a) piece) j 0) there
        ∙ written_there bytes (place d a) piece (k - a) fits (omega (arith, q, r))
        ∙ sym (over_in (byte_in d bytes) a piece k q r)

-- what stands for the addresses of a page from one on
pub part_is : (d bytes : List ℕ) (a n : ℕ) → IsDirectory d (length bytes / 4096) → a % 4096 + n ≤ 4096
    → take n (drop (place d a) bytes) ≡ map (byte_in d bytes) (range_with_len a n)
part_is d bytes a n h l =
    same_number_lists (take n (drop (place d a) bytes)) (map (byte_in d bytes) (range_with_len a n))
    (omega (
      arith,
      place_end d bytes a n h l,
      length-take n (drop (place d a) bytes),
      length-drop (place d a) bytes,
      length-map-range_with_len (byte_in d bytes) a n,
    ))
    (λ i less. each i (omega (arith, less, length-take n (drop (place d a) bytes))))
  where
    each : (i : ℕ) → i < n → get_or (take n (drop (place d a) bytes)) i 0
        ≡ get_or (map (byte_in d bytes) (range_with_len a n)) i 0
    each i less =
        get_or-take n (drop (place d a) bytes) i 0 less ∙ get_or-drop (place d a) bytes i 0
        ∙ ap (λ j. get_or bytes j 0) (sym (in_page d a i (omega (arith, l, less))))
        ∙ sym (get_or-map-range_with_len (byte_in d bytes) a n i (a + i) 0 less refl)
