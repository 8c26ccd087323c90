-- A plan without a fault fits, and one that fits has no fault.
use Rattle.std.proofs.Common.{◌≡◌, ◌≢◌, ℕ, zero, suc, ◌+◌, ◌/◌, ◌^◌, ◌<◌, ◌≤◌, ◌==◌, ◌&&◌, ◌||◌, not, Bool, true, false}
use Rattle.std.proofs.Common.{List, [], ◌∷◌, get_or, length, map, nat_le, nat_lt, eqb, bit_and, refl, sym, ap}
use Rattle.std.proofs.Common.{◌∙◌, inl, inr, arith, Option, Some, None, is_some, option_map, Result, Ok, Err, OnOk}
use Rattle.std.proofs.Common.{OnErr, IsBitSet, subst, take}
use Rattle.std.specs.List.{All, AllPairs, Any, list_any, slice_get}
use Rattle.std.proofs.Math.Nat.{div-eq_of_lt}
use Rattle.std.proofs.Math.Pow.{pow_mono}
use Rattle.std.proofs.lemmas.Bool.{cases_lt}
use Rattle.std.proofs.lemmas.Bool.Decides.{Decides-eqb, nat_tests}
use Rattle.std.proofs.lemmas.List.{get_or_default, get_or-take, length-map, length-take-le}
use Rattle.std.proofs.lemmas.List.Elements.{All-cons, All-head, All-map, All-nil, All-tail}
use Rattle.std.proofs.lemmas.List.Folds.{Any-from_list_any, list_any-from_Any, list_any_none}
use Rattle.std.proofs.lemmas.List.Kept.{AllPairs-cons}
use Rattle.std.proofs.lemmas.Map.Made.{IsDistinct-from_AllPairs}
use Rattle.std.proofs.lemmas.Map.Steps.{length-le_from_distinct_below}
use Rattle.std.proofs.lemmas.Nat.{bit_set_by_shift}
use Rattle.plan_core.specs.declared.types.Plan.{Plan}
use Rattle.plan_core.specs.declared.types.PlanLine.{PlanLine}
use Rattle.plan_core.specs.declared.types.Row.{Row}
use Rattle.plan_core.specs.Plan.{granules}
use Rattle.site_spec.specs.declared.Site.{Site}
use Rattle.site_spec.specs.Places.{reaches, stub_at, text_at}
use Rattle.site_spec.specs.Plans.{Fits, IsInReach}
use Rattle.site_spec.specs.Sites.{site_at}
use Rattle.first_check.specs.First.{first_below, first_from, first_item, when}
use Rattle.first_check.proofs.Items.{item_none, item_passes}
use Rattle.first_check.specs.Answers.{Says}
use Rattle.exec_image.specs.declared.plan_fault.PlanFault.{PlanFault}
use Rattle.exec_image.specs.declared.plan_fault.PlanFault.TheVariants.{PlanSite, PlanBit, PlanRow, AreaTooLarge}
use Rattle.exec_image.specs.declared.plan_fault.PlanFault.TheVariants.{SiteOutOfReach}
use Rattle.exec_image.specs.PlanFaults.{area_too_large, bad_row, is_far, is_strange_bit, mask_fault, no_bit}
use Rattle.exec_image.specs.PlanFaults.{no_site, out_of_reach, plan_fault, reach_fault, row_fault}
use Rattle.exec_image.specs.PlanFaults.{strange_mask, strange_masks}
use Rattle.exec_image.proofs.Finding.{NoneBelow, pairs_head, pairs_tail}
use Rattle.exec_image.proofs.Passed.{both_false, none_both, not_when}
use Rattle.exec_image.proofs.SiteShape.{shape}

-- no element passes a test
pub none_of_any : {X : Type 0} (p : X → Bool) (xs : List X) → list_any p xs ≡ false → All (λ x. p x ≡ false) xs
none_of_any p [] h = All-nil (λ x. p x ≡ false)
none_of_any p (x ∷ xs) h =
    let (a, b) = both_false (p x) (list_any p xs) h in
    All-cons (λ x. p x ≡ false) x xs a (none_of_any p xs b)

-- a line that is bad for itself, or has the key of an earlier line
abbrev line_fault : (PlanLine → Bool) → (PlanLine → ℕ) → (PlanLine → PlanFault) → List PlanLine → ℕ → PlanLine
    → Option PlanFault
line_fault bad key why lines i l = when (bad l || list_any (λ m. key m == key l) (take i lines)) (why l)

record IsScanned (bad : PlanLine → Bool) (key : PlanLine → ℕ) (lines : List PlanLine) : Type 0 where
  good : All (λ l. bad l ≡ false) lines
  apart : AllPairs (λ l m. key l ≢ key m) lines

differ : (x y : ℕ) → (x == y) ≡ false → x ≢ y
differ x y h = λ e. grind (arith, nat_tests)

same : (x y : ℕ) → x ≢ y → (x == y) ≡ false
same x y h = grind (arith, nat_tests)

scanned : (bad : PlanLine → Bool) (key : PlanLine → ℕ) (why : PlanLine → PlanFault) (lines : List PlanLine)
    → first_item (line_fault bad key why lines) lines ≡ None → IsScanned bad key lines
scanned bad key why lines h = record { good = λ k d low. (parts k d low).0; apart = apart }
  where
    parts : (k : ℕ) (d : PlanLine) → k < length lines → (bad (get_or lines k d) ≡ false)
        × (list_any (λ m. key m == key (get_or lines k d)) (take k lines) ≡ false)
    parts k d low =
        both_false (bad (get_or lines k d)) (list_any (λ m. key m == key (get_or lines k d)) (take k lines))
        (not_when (bad (get_or lines k d) || list_any (λ m. key m == key (get_or lines k d)) (take k lines))
        (why (get_or lines k d)) (item_passes (line_fault bad key why lines) lines h k d low))

    apart : AllPairs (λ l m. key l ≢ key m) lines
    apart i j d before low =
        let long : length (take j lines) ≡ j = length-take-le j lines (omega (arith, low)) in
        let other : (key (get_or (take j lines) i d) == key (get_or lines j d)) ≡ false =
        none_of_any (λ m. key m == key (get_or lines j d)) (take j lines) (parts j d low).1 i d
        (omega (arith, long, before)) in
        subst (λ l. key l ≢ key (get_or lines j d)) (get_or-take j lines i d before)
        (differ (key (get_or (take j lines) i d)) (key (get_or lines j d)) other)

unscanned : (bad : PlanLine → Bool) (key : PlanLine → ℕ) (why : PlanLine → PlanFault) (lines : List PlanLine)
    → IsScanned bad key lines → first_item (line_fault bad key why lines) lines ≡ None
unscanned bad key why lines h = item_none (line_fault bad key why lines) lines (λ k d low.
    let good : bad (get_or lines k d) ≡ false = h.good k d low in
    let long : length (take k lines) ≡ k = length-take-le k lines (omega (arith, low)) in
    let fresh : list_any (λ m. key m == key (get_or lines k d)) (take k lines) ≡ false =
    list_any_none (λ m. key m == key (get_or lines k d)) (take k lines) (λ i e inside.
    let before : i < k = omega (arith, long, inside) in
    same (key (get_or (take k lines) i e)) (key (get_or lines k d))
    (subst (λ l. key l ≢ key (get_or lines k d)) (sym (get_or-take k lines i e before)) (apart i k e d before low))) in
    rw (good, fresh) refl)
  where
    apart : (i j : ℕ) (e d : PlanLine) → i < j → j < length lines → key (get_or lines i e) ≢ key (get_or lines j d)
    apart i j e d before low =
        subst (λ l. key (get_or lines i e) ≢ key l) (get_or_default lines j e d low) (h.apart i j e before low)

-- the rows
few_from : (i : ℕ) (rs : List Row) → i ≤ 64 → first_from row_fault i rs ≡ None
    → (i + length rs ≤ 64) × All (λ r. r.group < 16) rs
few_from i [] l h = (omega arith, All-nil (λ r. r.group < 16))
few_from i (r ∷ rs) l h =
    let (a, b) = none_both (when (nat_le 16 r.group || (i == 64)) (PlanRow i)) (first_from row_fault (i + 1) rs) h in
    let (c, d) = both_false (nat_le 16 r.group) (i == 64) (not_when (nat_le 16 r.group || (i == 64)) (PlanRow i) a) in
    let e : i < 64 = grind (arith, nat_tests) in
    let g : r.group < 16 = grind (arith, nat_tests) in
    let (m, n) = few_from (i + 1) rs (omega (arith, e)) b in
    (omega (arith, m), All-cons (λ r. r.group < 16) r rs g n)

rows_none : (i : ℕ) (rs : List Row) → i + length rs ≤ 64 → i ≤ 64 → All (λ r. r.group < 16) rs
    → first_from row_fault i rs ≡ None
rows_none i [] l u h = refl
rows_none i (r ∷ rs) l u h =
    let g : r.group < 16 = All-head (λ r. r.group < 16) r rs h in
    let c : nat_le 16 r.group ≡ false = grind (arith, nat_tests) in
    let d : (i == 64) ≡ false = grind (arith, nat_tests) in
    rw (c, d) (rows_none (i + 1) rs (omega (arith, l)) (omega (arith, l)) (All-tail (λ r. r.group < 16) r rs h))

-- the masks
abbrev HasLines : List PlanLine → ℕ → Type 0
HasLines lines mask = (n : ℕ) → IsBitSet mask n → Any (λ line. line.bit ≡ n) lines

high_bit : (mask n : ℕ) → mask < 2 ^ 32 → 32 ≤ n → IsBitSet mask n → ⊥
high_bit mask n m l h =
    let p : 2 ^ 32 ≤ 2 ^ n = pow_mono {i = 32} {j = n} l in
    let q : mask / 2 ^ n ≡ 0 = div-eq_of_lt (omega (arith, m, p)) in
    let r : bit_and (mask / 2 ^ n) 1 ≡ 1 = (bit_set_by_shift mask n).1 h in
    let s : bit_and 0 1 ≡ 1 = rw q at r in
    absurd (cc)

line_of : (lines : List PlanLine) (n : ℕ) → list_any (λ l. l.bit == n) lines ≡ true → Any (λ line. line.bit ≡ n) lines
line_of lines n h =
    let (k, x, l, g, e) = Any-from_list_any (λ l. l.bit == n) lines h in
    (k, x, l, g, grind (arith, nat_tests))

has_line : (lines : List PlanLine) (n : ℕ) → Any (λ line. line.bit ≡ n) lines → list_any (λ l. l.bit == n) lines ≡ true
has_line lines n (k, x, l, g, e) = list_any-from_Any (λ l. l.bit == n) lines (k, x, l, g, grind (arith, nat_tests))

mask_lines : NoneBelow → (lines : List PlanLine) (mask : ℕ) → mask < 2 ^ 32 → strange_mask lines mask ≡ None
    → HasLines lines mask
unfolding strange_mask
mask_lines none_below lines mask m h n set = elim (cases_lt n 32) [
  | inl l ↦
      let b : first_below (is_strange_bit lines mask) 32 ≡ None =
      no_map (first_below (is_strange_bit lines mask) 32) h in
      let e : is_strange_bit lines mask n ≡ false = (none_below (is_strange_bit lines mask) 32).0 b n l in
      line_of lines n (known_line (bit_and mask (2 ^ n)) (list_any (λ l. l.bit == n) lines) set e)
  | inr l ↦ absurd (high_bit mask n m l set)
]
  where
    no_map : (o : Option ℕ) → option_map PlanBit o ≡ None → o ≡ None
    no_map None e = refl
    no_map (Some i) e = absurd (cc)

    known_line : (x : ℕ) (b : Bool) → x ≢ 0 → (not (x == 0) && not b) ≡ false → b ≡ true
    known_line x true n e = refl
    known_line x false n e = absurd (let d : (x == 0) ≡ false = same x 0 n in let q : true ≡ false = rw d at e in cc)

mask_none : NoneBelow → (lines : List PlanLine) (mask : ℕ) → HasLines lines mask → strange_mask lines mask ≡ None
unfolding strange_mask
mask_none none_below lines mask h =
    ap (option_map PlanBit) ((none_below (is_strange_bit lines mask) 32).1
    (λ n l. decide n (bit_and mask (2 ^ n) == 0) refl))
  where
    decide : (n : ℕ) (b : Bool) → (bit_and mask (2 ^ n) == 0) ≡ b → is_strange_bit lines mask n ≡ false
    decide n true e = rw e refl
    decide n false e = rw (e, has_line lines n (h n (differ (bit_and mask (2 ^ n)) 0 e))) refl

masks_lines : NoneBelow → (lines : List PlanLine) (i : ℕ) (rows : List Row) → All (λ r. r.mask < 2 ^ 32) rows
    → first_from (mask_fault lines) i rows ≡ None → All (λ row. HasLines lines row.mask) rows
masks_lines none_below lines i [] b h = All-nil (λ row. HasLines lines row.mask)
masks_lines none_below lines i (r ∷ rs) b h =
    let (x, y) = none_both (strange_mask lines r.mask) (first_from (mask_fault lines) (i + 1) rs) h in
    All-cons (λ row. HasLines lines row.mask) r rs
    (mask_lines none_below lines r.mask (All-head (λ r. r.mask < 2 ^ 32) r rs b) x)
    (masks_lines none_below lines (i + 1) rs (All-tail (λ r. r.mask < 2 ^ 32) r rs b) y)

masks_none : NoneBelow → (lines : List PlanLine) (i : ℕ) (rows : List Row)
    → All (λ row. HasLines lines row.mask) rows → first_from (mask_fault lines) i rows ≡ None
masks_none none_below lines i [] h = refl
masks_none none_below lines i (r ∷ rs) h =
    rw (mask_none none_below lines r.mask (All-head (λ row. HasLines lines row.mask) r rs h))
    (masks_none none_below lines (i + 1) rs (All-tail (λ row. HasLines lines row.mask) r rs h))

-- the reach
reach_of : (file : List ℕ) (l : PlanLine) (k : ℕ) → is_far file k (site_at file l.addr) ≡ false
    → IsInReach file (Some l) k
reach_of file l k h s e p =
    let q : (not s.pair && not (reaches s.addr (stub_at (text_at file) k))) ≡ false = rw e at h in
    let r : reaches s.addr (stub_at (text_at file) k) ≡ true =
    known_reach s.pair (reaches s.addr (stub_at (text_at file) k)) p q in
    rw (sym (shape file l.addr s e).addr) r
  where
    known_reach : (b c : Bool) → b ≡ false → (not b && not c) ≡ false → c ≡ true
    known_reach false true x y = refl
    known_reach false false x y = absurd (cc)
    known_reach true c x y = absurd (cc)

reach_from : (file : List ℕ) (k : ℕ) (ls : List PlanLine) → first_from (reach_fault file) k ls ≡ None → (j : ℕ)
    → IsInReach file (slice_get ls j) (k + j)
reach_from file k [] h j = tt
reach_from file k (l ∷ ls) h zero =
    let (a, b) = none_both (when (is_far file k (site_at file l.addr)) (SiteOutOfReach l.addr))
    (first_from (reach_fault file) (k + 1) ls) h in
    let z : k + 0 ≡ k = omega arith in
    rw z (reach_of file l k (not_when (is_far file k (site_at file l.addr)) (SiteOutOfReach l.addr) a))
reach_from file k (l ∷ ls) h (suc j) =
    let (a, b) = none_both (when (is_far file k (site_at file l.addr)) (SiteOutOfReach l.addr))
    (first_from (reach_fault file) (k + 1) ls) h in
    let z : k + suc j ≡ k + 1 + j = omega arith in
    rw z (reach_from file (k + 1) ls b j)

far_none : (file : List ℕ) (l : PlanLine) (k : ℕ) → IsInReach file (Some l) k
    → is_far file k (site_at file l.addr) ≡ false
far_none file l k h = decide (site_at file l.addr) refl
  where
    decide : (o : Option Site) → site_at file l.addr ≡ o → is_far file k (site_at file l.addr) ≡ false
    decide None e = rw e refl
    decide (Some s) e = rw e (pairs s.pair refl)
      where
        pairs : (b : Bool) → s.pair ≡ b → (not s.pair && not (reaches s.addr (stub_at (text_at file) k))) ≡ false
        pairs true p = rw p refl
        pairs false p = let r : reaches l.addr (stub_at (text_at file) k) ≡ true = h s e p in
            rw (p, (shape file l.addr s e).addr, r) refl

reach_none : (file : List ℕ) (k : ℕ) (ls : List PlanLine) → ((j : ℕ) → IsInReach file (slice_get ls j) (k + j))
    → first_from (reach_fault file) k ls ≡ None
reach_none file k [] h = refl
reach_none file k (l ∷ ls) h =
    let z : k + 0 ≡ k = omega arith in
    let a : IsInReach file (Some l) k = rw z at (h 0) in
    rw (far_none file l k a) (reach_none file (k + 1) ls
    (λ j. let y : k + suc j ≡ k + 1 + j = omega arith in rw y at (h (suc j))))

area_parts : (a b : Bool) (x y z w : ℕ) → (nat_lt 20 x || (nat_lt 256 y || nat_lt 1048576 z)) ≡ false
    → (x ≤ 20) × (y ≤ 256) × (z ≤ 1048576)
area_parts a b x y z w h = (grind (arith, nat_tests), grind (arith, nat_tests), grind (arith, nat_tests))

some_of : (b : Bool) → not b ≡ false → b ≡ true
some_of true h = refl
some_of false h = absurd (cc)

pub fits_of : NoneBelow → (file : List ℕ) (plan : Plan) → All (λ r. r.mask < 2 ^ 32) plan.rows
    → plan_fault file plan ≡ None → Fits file plan
unfolding no_site no_bit strange_masks bad_row area_too_large out_of_reach
fits_of none_below file plan bound h =
    let (a, h1) = none_both (no_site file plan.sites) _ h in
    let (b, h2) = none_both (no_bit plan.sites) _ h1 in
    let (c, h3) = none_both (strange_masks plan.sites plan.rows) _ h2 in
    let (d, h4) = none_both (bad_row plan.rows) _ h3 in
    let (e, f) = none_both (area_too_large plan.area) (out_of_reach file plan.sites) h4 in
    let s : IsScanned (λ l. not (is_some (site_at file l.addr))) (λ l. l.addr) plan.sites =
    scanned (λ l. not (is_some (site_at file l.addr))) (λ l. l.addr) (λ l. PlanSite l.addr) plan.sites a in
    let t : IsScanned (λ l. nat_le 32 l.bit) (λ l. l.bit) plan.sites =
    scanned (λ l. nat_le 32 l.bit) (λ l. l.bit) (λ l. PlanBit l.bit) plan.sites b in
    let (few, groups) = few_from 0 plan.rows (omega arith) d in
    let (log, chunks, area) = area_parts true true plan.area.log_chunk plan.area.chunks (granules plan.area) 0
    (not_when (nat_lt 20 plan.area.log_chunk
    || (nat_lt 256 plan.area.chunks || nat_lt 1048576 (granules plan.area))) AreaTooLarge e) in
    record {
      sites = λ k d l. some_of (is_some (site_at file (get_or plan.sites k d).addr)) (s.good k d l);
      once = s.apart;
      bits = λ k d l. low_bit (get_or plan.sites k d).bit (t.good k d l);
      own_bits = t.apart;
      masks = masks_lines none_below plan.sites 0 plan.rows bound c;
      groups = groups;
      few_rows = omega (arith, few);
      log_chunk = log;
      chunks = chunks;
      area = area;
      reach = λ k. let z : 0 + k ≡ k = omega arith in rw z at (reach_from file 0 plan.sites f k);
    }
  where
    low_bit : (n : ℕ) → nat_le 32 n ≡ false → n < 32
    low_bit n h = grind (arith, nat_tests)

pub fault_of : NoneBelow → (file : List ℕ) (plan : Plan) → Fits file plan → plan_fault file plan ≡ None
unfolding no_site no_bit strange_masks bad_row area_too_large out_of_reach
fault_of none_below file plan h =
    let a : no_site file plan.sites ≡ None =
    unscanned (λ l. not (is_some (site_at file l.addr))) (λ l. l.addr) (λ l. PlanSite l.addr) plan.sites (record {
      good = λ k d l. let e : is_some (site_at file (get_or plan.sites k d).addr) ≡ true = h.sites k d l in rw e refl;
      apart = h.once;
    }) in
    let b : no_bit plan.sites ≡ None =
    unscanned (λ l. nat_le 32 l.bit) (λ l. l.bit) (λ l. PlanBit l.bit) plan.sites (record {
      good = λ k d l. high_none (get_or plan.sites k d).bit (h.bits k d l);
      apart = h.own_bits;
    }) in
    let c : strange_masks plan.sites plan.rows ≡ None = masks_none none_below plan.sites 0 plan.rows h.masks in
    let d : bad_row plan.rows ≡ None = rows_none 0 plan.rows (omega (arith, h.few_rows)) (omega arith) h.groups in
    let e : area_too_large plan.area ≡ None =
    ap (λ b. when b AreaTooLarge) (area_none plan.area.log_chunk plan.area.chunks (granules plan.area) h.log_chunk
    h.chunks h.area) in
    let f : out_of_reach file plan.sites ≡ None =
    reach_none file 0 plan.sites (λ j. let z : 0 + j ≡ j = omega arith in rw z (h.reach j)) in
    rw (a, b, c, d, e) f
  where
    high_none : (n : ℕ) → n < 32 → nat_le 32 n ≡ false
    high_none n h = grind (arith, nat_tests)

    area_none : (x y z : ℕ) → x ≤ 20 → y ≤ 256 → z ≤ 1048576
        → (nat_lt 20 x || (nat_lt 256 y || nat_lt 1048576 z)) ≡ false
    area_none x y z a b c = grind (arith, nat_tests)

mapped : (ls : List PlanLine) → AllPairs (λ l m. l.bit ≢ m.bit) ls → AllPairs (λ x y. x ≢ y) (map (λ l. l.bit) ls)
mapped [] h = λ i j d l m. absurd (omega arith)
mapped (l ∷ ls) h =
    AllPairs-cons (λ x y. x ≢ y) l.bit (map (λ l. l.bit) ls)
    (All-map (λ y. l.bit ≢ y) (λ l. l.bit) ls (pairs_head (λ l m. l.bit ≢ m.bit) l ls h))
    (mapped ls (pairs_tail (λ l m. l.bit ≢ m.bit) l ls h))

below_bound : (xs : List ℕ) (q : ℕ) → All (λ x. nat_le 32 x ≡ false) xs → list_any (eqb q) xs ≡ true → q < 32
below_bound xs q h i =
    let (k, x, l, g, e) = Any-from_list_any (eqb q) xs i in
    let n : nat_le 32 (get_or xs k x) ≡ false = h k x l in
    let m : nat_le 32 x ≡ false = rw g at n in
    grind (arith, nat_tests)

pub few_lines : (lines : List PlanLine) → no_bit lines ≡ None → length lines ≤ 32
unfolding no_bit
few_lines lines h =
    let t : IsScanned (λ l. nat_le 32 l.bit) (λ l. l.bit) lines =
    scanned (λ l. nat_le 32 l.bit) (λ l. l.bit) (λ l. PlanBit l.bit) lines h in
    let n : length (map (λ l. l.bit) lines) ≡ length lines = length-map lines (λ l. l.bit) in
    let m : length (map (λ l. l.bit) lines) ≤ 32 =
    length-le_from_distinct_below (map (λ l. l.bit) lines) 32
    (IsDistinct-from_AllPairs Decides-eqb (map (λ l. l.bit) lines) (mapped lines t.apart))
    (λ q i. below_bound (map (λ l. l.bit) lines) q (All-map (λ x. nat_le 32 x ≡ false) (λ l. l.bit) lines t.good) i) in
    omega (arith, n, m)

-- what is said of a fault says whether the plan fits
pub says_fits : NoneBelow → (r : Result (Unit {0}) PlanFault) (file : List ℕ) (plan : Plan)
    → Says r (plan_fault file plan) → OnOk r (All (λ r. r.mask < 2 ^ 32) plan.rows) → OnOk r (Fits file plan)
says_fits none_below (Ok x) file plan h b = fits_of none_below file plan b h
says_fits none_below (Err why) file plan h b = tt

pub says_misfits : NoneBelow → (r : Result (Unit {0}) PlanFault) (file : List ℕ) (plan : Plan)
    → Says r (plan_fault file plan) → OnErr r (Fits file plan → ⊥)
says_misfits none_below (Ok x) file plan h = tt
says_misfits none_below (Err why) file plan h = λ f. let q : None ≡ Some why = sym (fault_of none_below file plan f)
    ∙ h in absurd (cc)

-- no bit below 32 passes where none below a number of at least 32 does
pub all_bits : NoneBelow → (p : ℕ → Bool) (n : ℕ) → first_below p n ≡ None → 32 ≤ n → first_below p 32 ≡ None
all_bits none_below p n h l = (none_below p 32).1 (λ b i. (none_below p n).0 h b (omega (arith, i, l)))
