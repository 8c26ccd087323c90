-- Where the words of pointers lie, out of what the tests of the tables say.
use Rattle.std.proofs.Common.{◌≡◌, ◌≢◌, ◌⊎◌, ℕ, ◌+◌, ◌-◌, ◌^◌, ◌<◌, ◌≤◌, true, false, List, Option, Some, None}
use Rattle.std.proofs.Common.{slice_get, slice_index, refl, inl, inr, ⊎_elim, arith}
use Rattle.std.proofs.lemmas.Bool.{and_parts, or_cases, ltb-true, leb-true, le-ltb, lt-leb}
use Rattle.sym_value.specs.declared.live.Life.{Life}
use Rattle.sym_value.specs.Places.{Lives, is_inner, is_inner_of, is_on, is_on_of, is_near, is_near_of, shifted, is_low}
use Rattle.sym_value.specs.Places.{is_high, is_outer}
use Rattle.sym_value.specs.Standing.{Placed, IsPlaced, area_start, area_end, address}

-- the word lies in the area of the blocks
pub record Inside (live : Lives) (w : ℕ) : Type 0 where
  pub low : area_start live ≤ w
  pub high : w < area_end

pub inside_is_not_outer : (live : Lives) (w : ℕ) → area_start live ≤ w → w < area_end
    → (is_low live w ≡ false) × (is_high w ≡ false)
inside_is_not_outer live w low high = (le-ltb w _ (omega arith), lt-leb 0x7FF00000 w high)

pub below_low : (live : Lives) (v w : ℕ) → Inside live v → is_low live w ≡ true → w < v
below_low live v w h e =
    let low : area_start live ≤ v = h.low in
    let less = ltb-true w _ e in
    omega (arith, less)

pub above_high : (live : Lives) (v w : ℕ) → Inside live v → is_high w ≡ true → v < w
above_high live v w h e =
    let high : v < area_end = h.high in
    let more = leb-true 0x7FF00000 w e in
    omega (arith, more)

pub outer_apart : (live : Lives) (v w : ℕ) → Inside live v → is_outer live w ≡ true → v ≢ w
outer_apart live v w h e same =
    ⊎_elim (λ t. let less : w < v = below_low live v w h t in omega arith)
    (λ t. let more : v < w = above_high live v w h t in omega arith) (or_cases _ _ e)

-- the life of a block, with what a test says of the offset
record Found (P : Life → Type 0) (o : Option Life) : Type 0 where
  pub life : Life
  pub is : o ≡ Some life
  pub holds : P life

found_on : (k : Option Life) (o : ℕ) → is_on_of k o ≡ true → Found (λ l. o ≤ l.capacity) k
found_on (Some l) o e = record { life = l; is = refl; holds = leb-true o l.capacity e }
found_on None o e = absurd (cc)

found_inner : (k : Option Life) (o : ℕ) → is_inner_of k o ≡ true → Found (λ l. (l.lives ≡ true) × (o < l.capacity)) k
found_inner (Some l) o e =
    let parts = and_parts _ _ e in
    record { life = l; is = refl; holds = (parts.0, ltb-true o l.capacity parts.1) }
found_inner None o e = absurd (cc)

found_near : (k : Option Life) (o : ℕ) → is_near_of k o ≡ true
    → Found (λ l. (o ≤ l.capacity + 65536) ⊎ (2 ^ 32 - 65536 ≤ o)) k
found_near (Some l) o e =
    record {
      life = l;
      is = refl;
      holds = ⊎_elim (λ t. inl (leb-true o (l.capacity + 65536) t)) (λ t. inr (leb-true (2 ^ 32 - 65536) o t))
          (or_cases _ _ e);
    }
found_near None o e = absurd (cc)

-- a pointer on its block: its address doesn't wrap
pub record OnWord (live : Lives) (at : List ℕ) (b o w : ℕ) : Type 0 where
  pub exact : w ≡ slice_index at b + o
  pub inside : Inside live w

pub on_word : (live : Lives) (at : List ℕ) (b o w : ℕ) → Placed live at → is_on live b o ≡ true → address at b o ≡ w
    → OnWord live at b o w
on_word live at b o w placed e stands =
    let found = found_on (slice_get live.blocks b) o e in
    let place : IsPlaced live (slice_index at b) found.life = placed.each b found.life found.is in
    let low : area_start live ≤ slice_index at b = place.low in
    let high : slice_index at b + found.life.capacity < area_end = place.high in
    let small : o ≤ found.life.capacity = found.holds in
    let exact : w ≡ slice_index at b + o = omega arith in
    record { exact = exact; inside = record { low = omega arith; high = omega arith } }

-- a near pointer: its word is its address plus its signed offset, and is no small number
pub record NearWord (at : List ℕ) (b o w : ℕ) : Type 0 where
  pub exact : w + 65536 ≡ slice_index at b + shifted o
  pub low : 20480 ≤ w
  pub high : w < 2 ^ 31

pub near_word : (live : Lives) (at : List ℕ) (b o w : ℕ) → Placed live at → is_near live b o ≡ true → o < 2 ^ 32
    → address at b o ≡ w → NearWord at b o w
near_word live at b o w placed e small stands =
    let found = found_near (slice_get live.blocks b) o e in
    let place : IsPlaced live (slice_index at b) found.life = placed.each b found.life found.is in
    let low : 86016 ≤ slice_index at b = (let l : area_start live ≤ slice_index at b = place.low in omega arith) in
    let high : slice_index at b + found.life.capacity < area_end = place.high in
    ⊎_elim
    (λ (h : o ≤ found.life.capacity + 65536). let exact : w + 65536 ≡ slice_index at b + shifted o = omega arith in
    record { exact = exact; low = omega arith; high = omega arith })
    (λ (h : 2 ^ 32 - 65536 ≤ o). let exact : w + 65536 ≡ slice_index at b + shifted o = omega arith in
    record { exact = exact; low = omega arith; high = omega arith })
    found.holds

-- two inner pointers into different blocks have different words
pub inner_apart : (live : Lives) (at : List ℕ) (b o c p v w : ℕ) → Placed live at → b ≢ c → is_inner live b o ≡ true
    → is_inner live c p ≡ true → address at b o ≡ v → address at c p ≡ w → v ≢ w
inner_apart live at b o c p v w placed other e f sv sw same =
    let first = found_inner (slice_get live.blocks b) o e in
    let second = found_inner (slice_get live.blocks c) p f in
    let place : IsPlaced live (slice_index at b) first.life = placed.each b first.life first.is in
    let place2 : IsPlaced live (slice_index at c) second.life = placed.each c second.life second.is in
    let high : slice_index at b + first.life.capacity < area_end = place.high in
    let high2 : slice_index at c + second.life.capacity < area_end = place2.high in
    let small : o < first.life.capacity = first.holds.1 in
    let small2 : p < second.life.capacity = second.holds.1 in
    ⊎_elim (λ (h : slice_index at b + first.life.capacity ≤ slice_index at c). omega arith)
    (λ (h : slice_index at c + second.life.capacity ≤ slice_index at b). omega arith)
    (placed.apart b c first.life second.life other first.is second.is first.holds.0 second.holds.0)
