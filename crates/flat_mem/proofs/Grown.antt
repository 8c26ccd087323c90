-- Memory that gets one more area: what stands for the other addresses stays.
use Rattle.std.proofs.Common.{◌≡◌, ◌≢◌, ◌⊎◌, ℕ, ◌+◌, ◌*◌, ◌-◌, ◌/◌, ◌%◌, ◌<◌, ◌≤◌, List, [], ◌∷◌, ◌++◌, Bool}
use Rattle.std.proofs.Common.{true, false, cond, length, map, replicate, refl, sym, ap, ◌∙◌, arith, inl, inr, get_or}
use Rattle.std.proofs.Common.{set}
use Rattle.std.proofs.Common.{take, length-append, length-set, get_or-set_same, get_or-set_other}
use Rattle.std.specs.List.{All, range_with_len}
use Rattle.std.specs.Prelude.{Option, Some, None, is_some, slice_index, nat_eq}
use Rattle.std.specs.Option.{option_or}
use Rattle.std.proofs.lemmas.Bool.{cases_lt}
use Rattle.std.proofs.lemmas.Bool.Decides.{nat_tests}
use Rattle.std.proofs.lemmas.List.{get_or_append_left, get_or-append_right, get_or-replicate, get_or_past}
use Rattle.std.proofs.lemmas.List.{length-replicate}
use Rattle.std.proofs.lemmas.List.{map-append, take_all}
use Rattle.std.proofs.lemmas.List.Folds.{find-append}
use Rattle.std.proofs.lemmas.List.Elements.{All-head, All-tail}
use Rattle.std.proofs.lemmas.List.FromFn.{get_or-map-range_with_len, length-map-range_with_len}
use Rattle.std.proofs.lemmas.List.Quantifiers.{all_pairs_push}
use Rattle.std.proofs.lemmas.Grind.{same_number_lists}
use Rattle.flat_mem.specs.declared.area.Area.{Area}
use Rattle.flat_mem.specs.Areas.{area_of, has_address, byte_in, page_at, place, over, range_in, ranges, rights_of}
use Rattle.flat_mem.specs.Areas.{AreApart, IsBuilt, IsDirectory, IsPaged}
use Rattle.flat_mem.proofs.Found.{has_bounds, has_from, apart_has, ranges_same, not_both}
use Rattle.flat_mem.proofs.Pages.{place_there}
use Rattle.flat_mem.proofs.Puts.{over_again, over_in, over_out}

abbrev none : ℕ
none = 0

pub zeros_at : (n k : ℕ) → get_or (replicate n none) k none ≡ none
zeros_at n k = at (cases_lt k n)
  where
    at : (k < n) ⊎ (n ≤ k) → get_or (replicate n none) k none ≡ none
    at (inl h) = get_or-replicate n k none none h
    at (inr h) = get_or_past (replicate n none) k none (omega (arith, h, length-replicate n none))

-- the entry of a directory that is set, and the others
set_entry : (d : List ℕ) (p v n : ℕ) → p < length d
    → ((n ≡ p) × (slice_index (set d p v) n ≡ v)) ⊎ ((n ≢ p) × (slice_index (set d p v) n ≡ slice_index d n))
set_entry d p v n h = at (nat_eq n p) refl
  where
    at : (b : Bool) → nat_eq n p ≡ b
        → ((n ≡ p) × (slice_index (set d p v) n ≡ v)) ⊎ ((n ≢ p) × (slice_index (set d p v) n ≡ slice_index d n))
    at true e =
        let same : n ≡ p = grind (arith, nat_tests) in
        inl (same, rw same (get_or-set_same d p v 0 h))
    at false e =
        let other : n ≢ p = grind (arith, nat_tests) in
        inr (other, get_or-set_other d p n v 0 other)

-- the next page is given to a page of addresses that has none
pub page_given : (d : List ℕ) (count p : ℕ) → IsDirectory d count → p < 1048576
    → IsDirectory (set d p count) (count + 1)
page_given d count p h l =
    let inside : p < length d = omega (arith, l, h.long) in
    record {
      long = length-set d p count ∙ h.long;
      below = λ n. below n (set_entry d p count n inside);
      own = λ n m some same. own n m (set_entry d p count n inside) (set_entry d p count m inside) some same;
    }
  where
    below : (n : ℕ) → ((n ≡ p) × (slice_index (set d p count) n ≡ count))
        ⊎ ((n ≢ p) × (slice_index (set d p count) n ≡ slice_index d n))
        → slice_index (set d p count) n < count + 1
    below n (inl (e, f)) = omega (arith, f)
    below n (inr (e, f)) = omega (arith, f, h.below n)

    own : (n m : ℕ) → ((n ≡ p) × (slice_index (set d p count) n ≡ count))
        ⊎ ((n ≢ p) × (slice_index (set d p count) n ≡ slice_index d n))
        → ((m ≡ p) × (slice_index (set d p count) m ≡ count))
        ⊎ ((m ≢ p) × (slice_index (set d p count) m ≡ slice_index d m))
        → 0 < slice_index (set d p count) n → slice_index (set d p count) n ≡ slice_index (set d p count) m → n ≡ m
    own n m (inl (e, f)) (inl (g, i)) some same = e ∙ sym g
    own n m (inl (e, f)) (inr (g, i)) some same = absurd (omega (arith, f, i, same, h.below m))
    own n m (inr (e, f)) (inl (g, i)) some same = absurd (omega (arith, f, i, same, h.below n))
    own n m (inr (e, f)) (inr (g, i)) some same =
        h.own n m (omega (arith, f, some)) (sym f ∙ same ∙ i)

pub entry_kept : (old d : List ℕ) (count p : ℕ) → p < length d → slice_index d p ≡ 0
    → ((n : ℕ) → 0 < slice_index old n → slice_index d n ≡ slice_index old n)
    → (n : ℕ) → 0 < slice_index old n → slice_index (set d p count) n ≡ slice_index old n
entry_kept old d count p l none h n some = at (set_entry d p count n l)
  where
    at : ((n ≡ p) × (slice_index (set d p count) n ≡ count))
        ⊎ ((n ≢ p) × (slice_index (set d p count) n ≡ slice_index d n))
        → slice_index (set d p count) n ≡ slice_index old n
    at (inl (e, f)) =
        let zero_there : slice_index d n ≡ 0 = rw e none in
        absurd (omega (arith, h n some, zero_there, some))
    at (inr (e, f)) = f ∙ h n some

pub entry_fresh : (old d : List ℕ) (pages count p : ℕ) → p < length d → pages ≤ count
    → ((n : ℕ) → slice_index old n ≡ 0 → (slice_index d n ≡ 0) ⊎ (pages ≤ slice_index d n))
    → (n : ℕ) → slice_index old n ≡ 0
    → (slice_index (set d p count) n ≡ 0) ⊎ (pages ≤ slice_index (set d p count) n)
entry_fresh old d pages count p l more h n none = at (set_entry d p count n l) (h n none)
  where
    at : ((n ≡ p) × (slice_index (set d p count) n ≡ count))
        ⊎ ((n ≢ p) × (slice_index (set d p count) n ≡ slice_index d n))
        → (slice_index d n ≡ 0) ⊎ (pages ≤ slice_index d n)
        → (slice_index (set d p count) n ≡ 0) ⊎ (pages ≤ slice_index (set d p count) n)
    at (inl (e, f)) k = inr (omega (arith, f, more))
    at (inr (e, f)) (inl k) = inl (f ∙ k)
    at (inr (e, f)) (inr k) = inr (omega (arith, f, k))

pub entry_there : (d : List ℕ) (first count p : ℕ) → p < length d → 0 < count
    → ((n : ℕ) → first ≤ n → n < p → 0 < slice_index d n)
    → (n : ℕ) → first ≤ n → n < p + 1 → 0 < slice_index (set d p count) n
entry_there d first count p l some h n low high = at (set_entry d p count n l)
  where
    at : ((n ≡ p) × (slice_index (set d p count) n ≡ count))
        ⊎ ((n ≢ p) × (slice_index (set d p count) n ≡ slice_index d n))
        → 0 < slice_index (set d p count) n
    at (inl (e, f)) = omega (arith, f, some)
    at (inr (e, f)) = omega (arith, f, h n low (omega (arith, e, high)))

-- the first page holds zeros
pub first_zero : (d bytes : List ℕ) → length d ≡ 1048576 → ((k : ℕ) → 4294967296 ≤ k → byte_in d bytes k ≡ 0)
    → (i : ℕ) → i < 4096 → get_or bytes i 0 ≡ 0
first_zero d bytes long h i l =
    let none : page_at d (4294967296 + i) ≡ 0 =
    get_or_past d ((4294967296 + i) / 4096) 0 (omega (arith, long)) in
    let there : place d (4294967296 + i) ≡ i = omega (arith, none, l) in
    ap (λ j. get_or bytes j 0) (sym there) ∙ h (4294967296 + i) (omega arith)

-- pages that are given behind a buffer, with zeros, change nothing
pub grown_same : (d e bytes : List ℕ) (m k : ℕ) → IsDirectory d (length bytes / 4096)
    → length bytes / 4096 * 4096 ≡ length bytes
    → ((n : ℕ) → 0 < slice_index d n → slice_index e n ≡ slice_index d n)
    → ((n : ℕ) → slice_index d n ≡ 0 → (slice_index e n ≡ 0) ⊎ (length bytes / 4096 ≤ slice_index e n))
    → ((i : ℕ) → i < 4096 → get_or bytes i 0 ≡ 0)
    → byte_in e (bytes ++ replicate m 0) k ≡ byte_in d bytes k
grown_same d e bytes m k h whole kept fresh zeros = at (cases_lt 0 (page_at d k))
  where
    new : page_at d k ≡ 0 → (page_at e k ≡ 0) ⊎ (length bytes / 4096 ≤ page_at e k)
        → get_or (bytes ++ replicate m 0) (place e k) 0 ≡ 0
    new none (inl q) =
        let there : place e k ≡ k % 4096 = omega (arith, q) in
        ap (λ j. get_or (bytes ++ replicate m 0) j 0) there
        ∙ get_or_append_left bytes (replicate m 0) 0 (k % 4096) (omega (arith, h.below 0, whole))
        ∙ zeros (k % 4096) (omega arith)
    new none (inr q) =
        get_or-append_right bytes (replicate m 0) (length bytes) (place e k) 0 refl (omega (arith, q, whole))
        ∙ zeros_at m (place e k - length bytes)

    at : (0 < page_at d k) ⊎ (page_at d k ≤ 0) → byte_in e (bytes ++ replicate m 0) k ≡ byte_in d bytes k
    at (inl some) =
        let page : page_at e k ≡ page_at d k = kept (k / 4096) some in
        rw page (get_or_append_left bytes (replicate m 0) 0 (place d k)
        (omega (arith, place_there d (length bytes / 4096) k h, whole)))
    at (inr le) =
        let none : page_at d k ≡ 0 = omega (arith, le) in
        let there : place d k ≡ k % 4096 = omega (arith, none) in
        new none (fresh (k / 4096) none)
        ∙ sym (ap (λ j. get_or bytes j 0) there ∙ zeros (k % 4096) (omega arith))

-- an area that shares no address with those before
pub none_before : (areas : List Area) (s : Area) (k : ℕ) → All (λ r. AreApart r s) areas → has_address k s ≡ true
    → area_of areas k ≡ None
none_before [] s k h e = refl
none_before (r ∷ rs) s k h e =
    rw (apart_has k r s (All-head (λ r. AreApart r s) r rs h) e)
    (none_before rs s k (All-tail (λ r. AreApart r s) r rs h) e)

pushed : (areas : List Area) (s : Area) (k : ℕ) → area_of (areas ++ s ∷ []) k
    ≡ option_or (area_of areas k) (cond (has_address k s) (Some s) None)
pushed areas s k = find-append (has_address k) areas (s ∷ [])

away : (k : ℕ) (s : Area) → has_address k s ≡ false → (k < s.start) ⊎ (s.start + s.size ≤ k)
away k s e = at (cases_lt k s.start) (cases_lt k (s.start + s.size))
  where
    at : (k < s.start) ⊎ (s.start ≤ k) → (k < s.start + s.size) ⊎ (s.start + s.size ≤ k)
        → (k < s.start) ⊎ (s.start + s.size ≤ k)
    at (inl h) r = inl h
    at (inr h) (inr r) = inr r
    at (inr h) (inl r) = absurd (not_both (has_address k s) (has_from k s h r) e)

-- a piece at the area's front leaves the addresses outside of the area
over_away : (byte : ℕ → ℕ) (s : Area) (piece : List ℕ) (k : ℕ) → length piece ≤ s.size → has_address k s ≡ false
    → over byte s.start piece k ≡ byte k
over_away byte s piece k l e = at (away k s e)
  where
    at : (k < s.start) ⊎ (s.start + s.size ≤ k) → over byte s.start piece k ≡ byte k
    at (inl h) = over_out byte s.start piece k (inl h)
    at (inr h) = over_out byte s.start piece k (inr (omega (arith, h, l)))

-- what an area that is added brings with it
pub record IsAdded (s : Area) (part d e bytes rights new flags : List ℕ) : Type 0 where
  pub directs : IsDirectory e (length new / 4096)
  pub same : length flags ≡ length new
  pub there : (a : ℕ) → s.start ≤ a → a < s.start + s.size → 0 < page_at e a
  pub kept : (n : ℕ) → 0 < slice_index d n → slice_index e n ≡ slice_index d n
  pub bytes_over : (k : ℕ) → byte_in e new k ≡ over (byte_in d bytes) s.start part k
  pub rights_over : (k : ℕ) → byte_in e flags k
      ≡ over (byte_in d rights) s.start (replicate s.size (rights_of (Some s))) k
  pub fits : length part ≤ s.size

module _ (areas : List Area) (s : Area) (part d e bytes rights new flags : List ℕ)
    (built : IsBuilt areas d bytes rights) (apart : All (λ r. AreApart r s) areas)
    (added : IsAdded s part d e bytes rights new flags) where
  there_now : (k : ℕ) → is_some (area_of (areas ++ s ∷ []) k) ≡ true → 0 < page_at e k
  there_now k h = at (area_of areas k) refl (has_address k s) refl (rw (pushed areas s k) at h)
    where
      at : (o : Option Area) → area_of areas k ≡ o → (v : Bool) → has_address k s ≡ v
          → is_some (option_or o (cond v (Some s) None)) ≡ true → 0 < page_at e k
      at (Some r) q v f t =
          let before : 0 < page_at d k = built.paged.there k (rw q refl) in
          omega (arith, before, added.kept (k / 4096) before)
      at None q true f t =
          let b : (s.start ≤ k) × (k < s.start + s.size) = has_bounds k s f in
          added.there k b.0 b.1
      at None q false f t = absurd (cc)

  right_now : (k : ℕ) → byte_in e flags k ≡ rights_of (area_of (areas ++ s ∷ []) k)
  right_now k = added.rights_over k ∙ (at (area_of areas k) refl (has_address k s) refl
      ∙ ap rights_of (sym (pushed areas s k)))
    where
      n : length (replicate s.size (rights_of (Some s))) ≡ s.size
      n = length-replicate s.size (rights_of (Some s))

      outside : has_address k s ≡ false
          → over (byte_in d rights) s.start (replicate s.size (rights_of (Some s))) k ≡ rights_of (area_of areas k)
      outside f = over_away (byte_in d rights) s (replicate s.size (rights_of (Some s))) k (omega (arith, n)) f
          ∙ built.paged.right k

      at : (o : Option Area) → area_of areas k ≡ o → (v : Bool) → has_address k s ≡ v
          → over (byte_in d rights) s.start (replicate s.size (rights_of (Some s))) k
          ≡ rights_of (option_or o (cond v (Some s) None))
      at (Some r) q true f = absurd (clash (sym q ∙ none_before areas s k apart f))
        where
          clash : Some r ≡ None → ⊥
          clash h = absurd (cc)
      at (Some r) q false f = outside f ∙ ap rights_of q
      at None q true f =
          let b : (s.start ≤ k) × (k < s.start + s.size) = has_bounds k s f in
          over_in (byte_in d rights) s.start (replicate s.size (rights_of (Some s))) k b.0 (omega (arith, n, b.1))
          ∙ get_or-replicate s.size (k - s.start) (rights_of (Some s)) 0 (omega (arith, b.0, b.1))
      at None q false f = outside f ∙ ap rights_of q

  blank_now : (k : ℕ) → area_of (areas ++ s ∷ []) k ≡ None → byte_in e new k ≡ 0
  blank_now k h = at (area_of areas k) refl (has_address k s) refl (rw (pushed areas s k) at h)
    where
      at : (o : Option Area) → area_of areas k ≡ o → (v : Bool) → has_address k s ≡ v
          → option_or o (cond v (Some s) None) ≡ None → byte_in e new k ≡ 0
      at (Some r) q v f t = absurd (cc)
      at None q true f t = absurd (cc)
      at None q false f t =
          added.bytes_over k ∙ over_away (byte_in d bytes) s part k added.fits f ∙ built.blank k q

  pub built_more : IsBuilt (areas ++ s ∷ []) e new flags
  built_more = record {
    paged = record {
      directs = added.directs;
      same = added.same;
      there = there_now;
      right = right_now;
      apart = all_pairs_push AreApart areas s built.paged.apart (λ k x l. apart k x l);
    };
    blank = blank_now;
  }

  -- the areas before stay
  before_same : (k : ℕ) → is_some (area_of areas k) ≡ true → byte_in e new k ≡ byte_in d bytes k
  before_same k h = at (has_address k s) refl
    where
      clash : (o : Option Area) → o ≡ None → is_some o ≡ true → ⊥
      clash None q t = absurd (cc)
      clash (Some r) q t = absurd (cc)

      at : (v : Bool) → has_address k s ≡ v → byte_in e new k ≡ byte_in d bytes k
      at true f = absurd (clash (area_of areas k) (none_before areas s k apart f) h)
      at false f = added.bytes_over k ∙ over_away (byte_in d bytes) s part k added.fits f

  -- and the new one has the part and zeros
  part_now : map (byte_in e new) (range_with_len s.start s.size) ≡ part ++ replicate (s.size - length part) 0
  part_now =
      same_number_lists (map (byte_in e new) (range_with_len s.start s.size))
      (part ++ replicate (s.size - length part) 0)
      (omega (
        arith,
        length-map-range_with_len (byte_in e new) s.start s.size,
        added.fits,
        length-append part (replicate (s.size - length part) zero_byte),
        length-replicate (s.size - length part) zero_byte,
      ))
      (λ i l. each i (omega (arith, l, length-map-range_with_len (byte_in e new) s.start s.size)))
    where
      zero_byte : ℕ
      zero_byte = 0

      each : (i : ℕ) → i < s.size → get_or (map (byte_in e new) (range_with_len s.start s.size)) i 0
          ≡ get_or (part ++ replicate (s.size - length part) 0) i 0
      each i l =
          get_or-map-range_with_len (byte_in e new) s.start s.size i (s.start + i) 0 l refl
          ∙ added.bytes_over (s.start + i) ∙ at (cases_lt i (length part))
        where
          at : (i < length part) ⊎ (length part ≤ i) → over (byte_in d bytes) s.start part (s.start + i)
              ≡ get_or (part ++ replicate (s.size - length part) 0) i 0
          at (inl h) =
              let far : s.start + i - s.start ≡ i = omega arith in
              over_in (byte_in d bytes) s.start part (s.start + i) (omega arith) (omega (arith, h))
              ∙ ap (λ j. get_or part j 0) far
              ∙ sym (get_or_append_left part (replicate (s.size - length part) 0) 0 i h)
          at (inr h) =
              let none : area_of areas (s.start + i) ≡ None =
              none_before areas s (s.start + i) apart (has_from (s.start + i) s (omega arith) (omega (arith, l))) in
              over_out (byte_in d bytes) s.start part (s.start + i) (inr (omega (arith, h)))
              ∙ built.blank (s.start + i) none
              ∙ sym (get_or-append_right part (replicate (s.size - length part) 0) (length part) i 0 refl h
              ∙ zeros_at (s.size - length part) (i - length part))

  pub ranges_more : ranges (byte_in e new) (areas ++ s ∷ []) ≡ ranges (byte_in d bytes) areas ++ record {
    start = s.start;
    writable = s.writable;
    executable = s.executable;
    bytes = part ++ replicate (s.size - length part) 0;
  } ∷ []
  ranges_more =
      map-append (range_in (byte_in e new)) areas (s ∷ [])
      ∙ rw (ranges_same (byte_in e new) (byte_in d bytes) areas before_same, part_now) refl

-- no area has an address that the directory lacks
none_behind : (areas : List Area) (d bytes rights : List ℕ) (k : ℕ) → IsPaged areas d bytes rights → 4294967296 ≤ k
    → area_of areas k ≡ None
none_behind areas d bytes rights k h high = at (area_of areas k) refl
  where
    none_there : page_at d k ≡ 0
    none_there = get_or_past d (k / 4096) 0 (omega (arith, high, h.directs.long))

    at : (o : Option Area) → area_of areas k ≡ o → o ≡ None
    at None e = refl
    at (Some r) e =
        let some : 0 < page_at d k = h.there k (rw e refl) in
        absurd (omega (arith, some, none_there))

pub resized_is : (xs ys : List ℕ) (n m : ℕ) → m ≡ length xs → length xs ≤ n
    → ys ≡ take n xs ++ replicate (n - m) 0 → ys ≡ xs ++ replicate (n - length xs) 0
resized_is xs ys n m e l h =
    h ∙ ap (λ zs. zs ++ replicate (n - m) 0) (take_all n xs l) ∙ ap (λ i. xs ++ replicate (n - i) 0) e

length-resized : (xs ys : List ℕ) (n : ℕ) → length xs ≤ n → ys ≡ xs ++ replicate (n - length xs) 0 → length ys ≡ n
length-resized xs ys n l e =
    omega (
      arith,
      ap length e,
      length-append xs (replicate (n - length xs) none),
      length-replicate (n - length xs) none,
      l,
    )

-- an area's pages, its flags and its part of the file bring all of this
pub added_is : (areas : List Area) (s : Area) (part d e bytes rights longer wider new flags : List ℕ) (pages : ℕ)
    → IsBuilt areas d bytes rights → length bytes / 4096 * 4096 ≡ length bytes → IsDirectory e pages
    → length bytes / 4096 ≤ pages
    → ((n : ℕ) → 0 < slice_index d n → slice_index e n ≡ slice_index d n)
    → ((n : ℕ) → slice_index d n ≡ 0 → (slice_index e n ≡ 0) ⊎ (length bytes / 4096 ≤ slice_index e n))
    → ((a : ℕ) → s.start ≤ a → a < s.start + s.size → 0 < page_at e a)
    → longer ≡ bytes ++ replicate (pages * 4096 - length bytes) 0
    → wider ≡ rights ++ replicate (pages * 4096 - length rights) 0
    → length new ≡ length longer → length flags ≡ length wider
    → ((k : ℕ) → byte_in e new k ≡ over (byte_in e longer) s.start part k)
    → ((k : ℕ) → byte_in e flags k ≡ over (byte_in e wider) s.start (replicate s.size (rights_of (Some s))) k)
    → length part ≤ s.size
    → IsAdded s part d e bytes rights new flags
added_is areas s part d e bytes rights longer wider new flags pages built whole directs more kept fresh there f g n m
    bytes_over rights_over fits = record {
      directs = rw size directs;
      same = m ∙ wide ∙ sym (n ∙ long);
      there = there;
      kept = kept;
      bytes_over = λ k. bytes_over k ∙ over_again (byte_in e longer) (byte_in d bytes) s.start part k
          (ap (λ xs. byte_in e xs k) f ∙ grown_same d e bytes (pages * 4096 - length bytes) k built.paged.directs whole
          kept fresh (first_zero d bytes built.paged.directs.long
          (λ i high. built.blank i (none_behind areas d bytes rights i built.paged high))));
      rights_over = λ k. rights_over k
          ∙ over_again (byte_in e wider) (byte_in d rights) s.start (replicate s.size (rights_of (Some s))) k
          (ap (λ xs. byte_in e xs k) g ∙ grown_same d e rights (pages * 4096 - length rights) k
          (rw built.paged.same built.paged.directs) (rw built.paged.same whole) kept (rw built.paged.same fresh)
          (first_zero d rights built.paged.directs.long (λ i high. built.paged.right i
          ∙ ap rights_of (none_behind areas d bytes rights i built.paged high))));
      fits = fits;
    }
  where
    long : length longer ≡ pages * 4096
    long = length-resized bytes longer (pages * 4096) (omega (arith, whole, more)) f

    wide : length wider ≡ pages * 4096
    wide = length-resized rights wider (pages * 4096) (omega (arith, whole, more, built.paged.same)) g

    size : length new / 4096 ≡ pages
    size = omega (arith, n, long)

-- memory without areas: a directory of zeros, and one page of them
pub nothing_built : (d bytes rights : List ℕ) (n m : ℕ) → n ≡ 1048576 → m ≡ 4096 → d ≡ replicate n 0
    → bytes ≡ replicate m 0 → rights ≡ replicate m 0 → IsBuilt [] d bytes rights
nothing_built d bytes rights n m e f g h i = record {
  paged = record {
    directs = record {
      long = ap length g ∙ length-replicate n none ∙ e;
      below = λ k. omega (arith, empty k, long, f);
      own = λ k l some same. absurd (omega (arith, some, empty k));
    };
    same = ap length i ∙ length-replicate m none ∙ sym long;
    there = λ a h. absurd (cc);
    right = λ a. ap (λ xs. get_or xs (place d a) 0) i ∙ zeros_at m (place d a);
    apart = λ k l x low high. absurd (omega arith);
  };
  blank = λ a q. ap (λ xs. get_or xs (place d a) 0) h ∙ zeros_at m (place d a);
}
  where
    long : length bytes ≡ m
    long = ap length h ∙ length-replicate m none

    empty : (k : ℕ) → slice_index d k ≡ 0
    empty k = ap (λ xs. get_or xs k 0) g ∙ zeros_at n k
