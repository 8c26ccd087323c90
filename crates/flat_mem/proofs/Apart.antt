-- The areas of a readable file's segments and of the stack share no address.
use Rattle.std.proofs.Common.{◌≡◌, ◌⊎◌, ℕ, ◌+◌, ◌<◌, ◌≤◌, List, [], ◌∷◌, ◌++◌, Bool, true, false, cond}
use Rattle.std.proofs.Common.{◌&&◌, ◌||◌, length, map, take, drop, get_or, nat_eq, nat_lt, refl, ap, ◌∙◌}
use Rattle.std.proofs.Common.{inl, inr, arith, AllPairs, filter, sum_by}
use Rattle.std.specs.List.{All}
use Rattle.std.proofs.lemmas.Bool.Decides.{nat_tests}
use Rattle.std.proofs.lemmas.Bool.{cases_lt}
use Rattle.std.proofs.lemmas.List.{get_or-take, length-take-le, take-append-drop, take_more}
use Rattle.std.proofs.lemmas.List.{get_or_default}
use Rattle.std.proofs.lemmas.List.Elements.{All-nil, All-cons, All-head, All-tail}
use Rattle.std.proofs.lemmas.List.Sums.{sum_by-append}
use Rattle.elf_spec.specs.declared.Segment.{Segment}
use Rattle.elf_spec.specs.Memory.{is_loaded}
use Rattle.elf_spec.specs.Records.{segments_of}
use Rattle.elf_read.specs.Checks.{meets}
use Rattle.elf_read.specs.Readable.{IsInside, IsLoadedInside}
use Rattle.machine_spec.specs.Memory.{Range, range_of, memory_of, stack, stack_start}
use Rattle.flat_mem.specs.declared.area.Area.{Area}
use Rattle.flat_mem.specs.Areas.{AreApart}
use Rattle.flat_mem.specs.Building.{area_for}

-- a pair of segments
shared_none : (a m b n : ℕ) (q : Bool) → ((true && true) && (((nat_lt 0 m && nat_lt 0 n) &&
    (nat_lt a (b + n) && nat_lt b (a + m))) || q)) ≡ false
    → 0 < m → 0 < n → a < b + n → a + m ≤ b
shared_none a m b n q h l k e = grind (arith, nat_tests)

pub loaded_size : (s : Segment) → is_loaded s ≡ true → 0 < s.mem_size
loaded_size s h = sized s.kind s.mem_size h
  where
    sized : (k m : ℕ) → (nat_eq k 1 && nat_lt 0 m) ≡ true → 0 < m
    sized k m h = grind (arith, nat_tests)

away : (s t : Segment) → is_loaded s ≡ true → is_loaded t ≡ true → meets s t ≡ false
    → AreApart (area_for s) (area_for t)
away s t p q h = at (cases_lt s.vaddr (t.vaddr + t.mem_size))
  where
    at : (s.vaddr < t.vaddr + t.mem_size) ⊎ (t.vaddr + t.mem_size ≤ s.vaddr)
        → (s.vaddr + s.mem_size ≤ t.vaddr) ⊎ (t.vaddr + t.mem_size ≤ s.vaddr)
    at (inr l) = inr l
    at (inl l) = inl (shared_none s.vaddr s.mem_size t.vaddr t.mem_size _ (rw (p, q) at h) (loaded_size s p)
        (loaded_size t q) l)

pub areas_away : (s : Segment) (ts : List Segment) → is_loaded s ≡ true → All (λ t. meets t s ≡ false) ts
    → All (λ r. AreApart r (area_for s)) (map area_for (filter is_loaded ts))
areas_away s [] p h = All-nil (λ r. AreApart r (area_for s))
areas_away s (t ∷ ts) p h =
    at (areas_away s ts p (All-tail (λ t. meets t s ≡ false) t ts h)) (is_loaded t) refl
  where
    at : All (λ r. AreApart r (area_for s)) (map area_for (filter is_loaded ts)) → (v : Bool) → is_loaded t ≡ v
        → All (λ r. AreApart r (area_for s)) (map area_for (cond v (t ∷ filter is_loaded ts) (filter is_loaded ts)))
    at rest false e = rest
    at rest true e = All-cons (λ r. AreApart r (area_for s)) (area_for t) (map area_for (filter is_loaded ts))
        (away t s e p (All-head (λ t. meets t s ≡ false) t ts h)) rest

-- the segments before one don't meet it
pub before_apart : (ss : List Segment) (i : ℕ) (d : Segment) → AllPairs (λ s t. meets s t ≡ false) ss → i < length ss
    → All (λ t. meets t (get_or ss i d) ≡ false) (take i ss)
before_apart ss i d h l = λ k x less.
    let low : k < i = omega (arith, less, length-take-le i ss (omega arith)) in
    let pair : meets (get_or ss k x) (get_or ss i x) ≡ false = h k i x low l in
    let same : get_or ss i x ≡ get_or ss i d = get_or_default ss i x d l in
    rw (get_or-take i ss k x low, ← same) pair

-- each segment ends below the stack
pub segments_below : (bytes : ℕ) (ss : List Segment) → All (IsLoadedInside bytes) ss
    → All (λ (r : Area). r.start + r.size ≤ stack_start) (map area_for (filter is_loaded ss))
segments_below bytes [] all = All-nil (λ (r : Area). r.start + r.size ≤ stack_start)
segments_below bytes (s ∷ ss) all =
    at (segments_below bytes ss (All-tail (IsLoadedInside bytes) s ss all)) (is_loaded s) refl
  where
    at : All (λ (r : Area). r.start + r.size ≤ stack_start) (map area_for (filter is_loaded ss)) → (v : Bool)
        → is_loaded s ≡ v
        → All (λ (r : Area). r.start + r.size ≤ stack_start)
        (map area_for (cond v (s ∷ filter is_loaded ss) (filter is_loaded ss)))
    at rest false e = rest
    at rest true e =
        let i : IsInside bytes s = All-head (IsLoadedInside bytes) s ss all e in
        All-cons (λ (r : Area). r.start + r.size ≤ stack_start) (area_for s) (map area_for (filter is_loaded ss))
        (omega (arith, i.memory)) rest

-- the whole is the segments' memory and the stack
pub memory_whole : (file : List ℕ) (ss : List Segment) (m after : List Range) → ss ≡ segments_of file
    → m ≡ map (range_of file) (filter is_loaded ss)
    → after ≡ m ++ stack ∷ [] → after ≡ memory_of file
unfolding memory_of
memory_whole file ss m after e h w = w ∙ ap (λ x. x ++ stack ∷ [])
    (h ∙ ap (λ x. map (range_of file) (filter is_loaded x)) e)

-- the first segments take no more memory than all
pub taken_less : {X : Type 0} (f : X → ℕ) (xs : List X) (n : ℕ) → sum_by f (take n xs) ≤ sum_by f xs
taken_less f xs n =
    let whole : sum_by f (take n xs ++ drop n xs) ≡ sum_by f xs = ap (sum_by f) (take-append-drop n xs) in
    omega (arith, whole, sum_by-append f (take n xs) (drop n xs))

-- also with the next one
pub next_fits : (f : Segment → ℕ) (ss : List Segment) (n i : ℕ) (d : Segment) → i < length ss → n ≡ sum_by f (take i ss)
    → n + f (get_or ss i d) ≤ sum_by f ss
next_fits f ss n i d l e =
    let more : sum_by f (take (i + 1) ss) ≡ sum_by f (take i ss ++ get_or ss i d ∷ []) =
    ap (sum_by f) (take_more ss i d l) in
    let last : sum_by f (get_or ss i d ∷ []) ≡ f (get_or ss i d) = omega arith in
    omega (arith, e, more, last, sum_by-append f (take i ss) (get_or ss i d ∷ []), taken_less f ss (i + 1))
