-- Loaded segments that end below a bound and share no address take no more memory than that bound.
use Rattle.std.proofs.Common.{◌≡◌, ℕ, zero, suc, ◌+◌, ◌-◌, ◌≤◌, Bool, true, false, ◌&&◌, ◌||◌, List, [], ◌∷◌}
use Rattle.std.proofs.Common.{length, length-take, take, get_or, nat_eq, nat_le, nat_lt, refl, sym, subst, ap, ◌∙◌}
use Rattle.std.proofs.Common.{arith, min, if◌then◌else◌}
use Rattle.std.proofs.Common.{Option, Some, None, add-one, sum_by}
use Rattle.std.specs.List.{All, AllPairs, list_any}
use Rattle.std.specs.Option.{option_map}
use Rattle.std.proofs.lemmas.Bool.Decides.{nat_tests}
use Rattle.std.proofs.lemmas.List.{get_or-take}
use Rattle.std.proofs.lemmas.List.Elements.{All-cons, All-head, All-nil, All-tail}
use Rattle.std.proofs.lemmas.List.Sums.{sum_by-append}
use Rattle.elf_spec.specs.declared.Segment.{Segment}
use Rattle.first_check.proofs.Checks.{not_when}
use Rattle.first_check.proofs.Items.{item_passes}
use Rattle.elf_read.specs.declared.refusals.ElfRefusal.TheVariants.{SegmentOverlap}
use Rattle.elf_read.specs.Checks.{is_segment_out, load_size, meets}
use Rattle.elf_read.specs.Refusals.{memory_size, overlap_refusal, segment_out, segment_overlap}
use Rattle.elf_read.proofs.Finds.{none_passes}

-- a sum from the right
abbrev total : (Segment → ℕ) → List Segment → ℕ
total f [] = 0
total f (s ∷ ss) = f s + total f ss

total_is : (f : Segment → ℕ) (ss : List Segment) → sum_by f ss ≡ total f ss
total_is f [] = refl
total_is f (s ∷ ss) = sum_by-append f (s ∷ []) ss ∙ ap (λ n. (0 + f s) + n) (total_is f ss) ∙ omega arith

-- how many addresses of a segment are below a bound, and whether the segment has an address
abbrev part : ℕ → Segment → ℕ
part b s = if nat_eq s.kind 1 then min s.mem_size (b - s.vaddr) else 0

abbrev has : ℕ → Segment → Bool
has b s = nat_eq s.kind 1 && (nat_le s.vaddr b && nat_lt b (s.vaddr + s.mem_size))

abbrev one_if : Bool → ℕ
one_if b = if b then 1 else 0

grows : (k v m b : ℕ) → (if nat_eq k 1 then min m (b + 1 - v) else 0)
    ≡ (if nat_eq k 1 then min m (b - v) else 0) + one_if (nat_eq k 1 && (nat_le v b && nat_lt b (v + m)))
grows k v m b = grind (arith, nat_tests)

part_more : (b : ℕ) (s : Segment) → part (b + 1) s ≡ part b s + one_if (has b s)
part_more b s = grows s.kind s.vaddr s.mem_size b

parts_more : (b : ℕ) (ss : List Segment) → total (part (b + 1)) ss
    ≡ total (part b) ss + total (λ s. one_if (has b s)) ss
parts_more b [] = refl
parts_more b (s ∷ ss) = omega (arith, part_more b s, parts_more b ss)

-- segments of which no two have an address in common
abbrev Apart : Segment → List Segment → Type 0
Apart s [] = Unit {0}
Apart s (t ∷ ts) = (meets s t ≡ false) × Apart s ts

abbrev Disjoint : List Segment → Type 0
Disjoint [] = Unit {0}
Disjoint (s ∷ ss) = Apart s ss × Disjoint ss

met : (k v m l w n b : ℕ) (q : Bool) → (nat_eq k 1 && (nat_le v b && nat_lt b (v + m))) ≡ true
    → (nat_eq l 1 && (nat_le w b && nat_lt b (w + n))) ≡ true
    → ((((nat_eq k 1 && nat_lt 0 m) && (nat_eq l 1 && nat_lt 0 n)) &&
    (((nat_lt 0 m && nat_lt 0 n) && (nat_lt v (w + n) && nat_lt w (v + m))) || q))) ≡ true
met k v m l w n b q h g = grind (arith, nat_tests)

alone : (b : ℕ) (s t : Segment) → has b s ≡ true → meets s t ≡ false → has b t ≡ false
alone b s t h m = decide (has b t) refl
  where
    decide : (x : Bool) → has b t ≡ x → has b t ≡ false
    decide true e = absurd (let q : true ≡ false = sym (met s.kind s.vaddr s.mem_size t.kind t.vaddr t.mem_size b _ h e)
        ∙ m in cc)
    decide false e = e

others : (b : ℕ) (s : Segment) (ss : List Segment) → has b s ≡ true → Apart s ss → total (λ t. one_if (has b t)) ss ≡ 0
others b s [] h a = refl
others b s (t ∷ ts) h (m, a) =
    let e : has b t ≡ false = alone b s t h m in
    rw e (omega (arith, others b s ts h a))

at_most_one : (b : ℕ) (ss : List Segment) → Disjoint ss → total (λ s. one_if (has b s)) ss ≤ 1
at_most_one b [] d = omega arith
at_most_one b (s ∷ ss) (a, d) = decide (has b s) refl (at_most_one b ss d)
  where
    decide : (x : Bool) → has b s ≡ x → total (λ t. one_if (has b t)) ss ≤ 1
        → one_if (has b s) + total (λ t. one_if (has b t)) ss ≤ 1
    decide true e ih = rw e (omega (arith, others b s ss e a))
    decide false e ih = rw e (omega (arith, ih))

none_below : (ss : List Segment) → total (part 0) ss ≡ 0
none_below [] = refl
none_below (s ∷ ss) = let e : part 0 s ≡ 0 = grind (arith, nat_tests) in omega (arith, e, none_below ss)

below : (ss : List Segment) → Disjoint ss → (b : ℕ) → total (part b) ss ≤ b
below ss d zero = omega (arith, none_below ss)
below ss d (suc b) = let h : total (part (b + 1)) ss ≤ b + 1 =
    omega (arith, parts_more b ss, below ss d b, at_most_one b ss d) in rw add-one at h

-- every segment is below a bound at which it ends
whole : (k o v m f bytes b : ℕ) → ((nat_eq k 1 && nat_lt 0 m) &&
    (nat_lt m f || (nat_lt bytes (o + f) || nat_lt b (v + m)))) ≡ false
    → (if nat_eq k 1 then m else 0) ≡ (if nat_eq k 1 then min m (b - v) else 0)
whole k o v m f bytes b h = grind (arith, nat_tests)

all_whole : (bytes : ℕ) (ss : List Segment) → All (λ s. is_segment_out bytes s ≡ false) ss
    → total load_size ss ≡ total (part 0x7ff00000) ss
all_whole bytes [] h = refl
all_whole bytes (s ∷ ss) h =
    let e : load_size s ≡ part 0x7ff00000 s =
    whole s.kind s.offset s.vaddr s.mem_size s.file_size bytes 0x7ff00000
    (All-head (λ t. is_segment_out bytes t ≡ false) s ss h) in
    omega (arith, e, all_whole bytes ss (All-tail (λ t. is_segment_out bytes t ≡ false) s ss h))

-- what the checks say
pub not_some : {A B : Type 0} (f : A → B) (o : Option A) → option_map f o ≡ None → o ≡ None
not_some f None h = refl
not_some f (Some x) h = absurd (cc)

pub all_in : (bytes : ℕ) (ss : List Segment) → segment_out bytes ss ≡ None
    → All (λ s. is_segment_out bytes s ≡ false) ss
unfolding segment_out
all_in bytes ss h = none_passes (is_segment_out bytes) ss (not_some _ _ h)

-- segments of which none meets one before it are apart
pub apart_pairs : (ss : List Segment) → segment_overlap ss ≡ None → AllPairs (λ s t. meets s t ≡ false) ss
unfolding segment_overlap
apart_pairs ss over = λ i j d l m.
    let t : Segment = get_or ss j d in
    let none : list_any (λ s. meets s t) (take j ss) ≡ false =
    not_when (list_any (λ s. meets s t) (take j ss)) (SegmentOverlap j) (item_passes (overlap_refusal ss) ss over j d m)
    in
    let n : length (take j ss) ≡ j = omega (arith, length-take j ss, m) in
    let passes : meets (get_or (take j ss) i d) t ≡ false =
    none_of_any (λ s. meets s t) (take j ss) none i d (omega (arith, n, l)) in
    subst (λ s. meets s t ≡ false) (get_or-take j ss i d l) passes
  where
    neither : (b c : Bool) → (b || c) ≡ false → (b ≡ false) × (c ≡ false)
    neither false false h = (refl, refl)
    neither false true h = absurd (cc)
    neither true c h = absurd (cc)

    none_of_any : (p : Segment → Bool) (xs : List Segment) → list_any p xs ≡ false → All (λ x. p x ≡ false) xs
    none_of_any p [] h = All-nil (λ x. p x ≡ false)
    none_of_any p (x ∷ xs) h =
        let (first, rest) = neither (p x) (list_any p xs) h in
        All-cons (λ y. p y ≡ false) x xs first (none_of_any p xs rest)

apart_from : (s : Segment) (ss : List Segment) → All (λ t. meets s t ≡ false) ss → Apart s ss
apart_from s [] h = tt
apart_from s (t ∷ ts) h =
    (All-head (λ u. meets s u ≡ false) t ts h, apart_from s ts (All-tail (λ u. meets s u ≡ false) t ts h))

disjoint : (ss : List Segment) → AllPairs (λ s t. meets s t ≡ false) ss → Disjoint ss
disjoint [] h = tt
disjoint (s ∷ ss) h = (
  apart_from s ss (λ k d l. h 0 (suc k) d (omega arith) (omega arith)),
  disjoint ss (λ i j d l m. h (suc i) (suc j) d (omega arith) (omega arith)),
)

pub memory_fits : (bytes : ℕ) (ss : List Segment) → segment_out bytes ss ≡ None → segment_overlap ss ≡ None
    → memory_size ss ≤ 0x7ff00000
memory_fits bytes ss out over =
    let d : Disjoint ss = disjoint ss (apart_pairs ss over) in
    omega (arith, total_is load_size ss, all_whole bytes ss (all_in bytes ss out), below ss d 0x7ff00000)
