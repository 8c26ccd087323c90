-- A shadow stack with one frame more, and one less.
use Rattle.std.proofs.Common.{◌≡◌, ◌||◌, ◌&&◌, ◌+◌, ◌-◌, ◌^◌, ◌<◌, ℕ, zero, suc, Bool, true, false, cond, not, List, []}
use Rattle.std.proofs.Common.{◌∷◌, ◌++◌, length, Option, Some, None, refl, ap, sym, ◌∙◌, arith, append_assoc}
use Rattle.std.proofs.Common.{length-append}
use Rattle.std.specs.Prelude.{count_by, nat_eq, nat_lt, position, unwrap_or, if◌then◌else◌, IsSome, option_to_list}
use Rattle.std.specs.List.{list_any}
use Rattle.std.proofs.lemmas.Bool.Decides.{nat_tests}
use Rattle.std.proofs.lemmas.List.{append-nil, map-append}
use Rattle.std.proofs.lemmas.List.Elements.{All-push, All-pop}
use Rattle.std.proofs.lemmas.List.Sums.{sum_by-append, sum_by-cons}
use Rattle.std.proofs.lemmas.List.Folds.{list_any-append}
use Rattle.site_spec.specs.declared.Site.{Site}
use Rattle.heap_trace.specs.declared.stack.Frame.{Frame}
use Rattle.indexmap.specs.IndexMap.{IndexMap, move_index}
use Rattle.sym_spec.specs.Contexts.{comes_back_to, context_of, cut}
use Rattle.heap_trace.specs.Stacks.{sites_of, called_last, place_of, KeepPlaces, count_in, IsStack}
use Rattle.heap_trace.proofs.Orders.{place_low, move_back, not_there, popped, context_far, context_near}

pub sites_push : (fs : List Frame) (f : Frame) → sites_of (fs ++ f ∷ []) ≡ sites_of fs ++ f.site ∷ []
sites_push fs f = map-append (λ g. g.site) fs (f ∷ [])

-- the places that frames keep, with one more
pub places_push : (before : List Site) (fs : List Frame) (f : Frame) → KeepPlaces before fs
    → f.place ≡ place_of (before ++ sites_of fs) f.site → KeepPlaces before (fs ++ f ∷ [])
places_push before [] f h at = (at ∙ ap (λ ss. place_of ss f.site) (append-nil before), tt)
places_push before (g ∷ fs) f h at = (
  h.0,
  places_push (before ++ g.site ∷ []) fs f h.1
      (at ∙ ap (λ ss. place_of ss f.site) (sym (append_assoc before (g.site ∷ []) (sites_of fs)))),
)

pub record Popped (before : List Site) (fs : List Frame) (f : Frame) : Type 0 where
  pub places : KeepPlaces before fs
  pub place : f.place ≡ place_of (before ++ sites_of fs) f.site

-- and with one less
pub places_pop : (before : List Site) (fs : List Frame) (f : Frame) → KeepPlaces before (fs ++ f ∷ [])
    → Popped before fs f
places_pop before [] f h = record {
  places = tt;
  place = h.0 ∙ ap (λ ss. place_of ss f.site) (sym (append-nil before));
}
places_pop before (g ∷ fs) f h =
    let p : Popped (before ++ g.site ∷ []) fs f = places_pop (before ++ g.site ∷ []) fs f h.1 in record {
      places = (h.0, p.places);
      place = p.place ∙ ap (λ ss. place_of ss f.site) (append_assoc before (g.site ∷ []) (sites_of fs));
    }

-- how many sites come back to an address, with one more
pub count_push : (ss : List Site) (s : Site) (a : ℕ)
    → count_by (comes_back_to a) (ss ++ s ∷ []) ≡ count_by (comes_back_to a) ss + (if nat_eq s.back a then 1 else 0)
count_push ss s a =
    omega (arith, sum_by-append (λ t. cond (comes_back_to a t) 1 0) ss (s ∷ []))

-- and with one before the others
count_cons : (s : Site) (ss : List Site) (a : ℕ)
    → count_by (comes_back_to a) (s ∷ ss) ≡ cond (comes_back_to a s) 1 0 + count_by (comes_back_to a) ss
count_cons s ss a = sum_by-cons (λ t. cond (comes_back_to a t) 1 0) s ss

-- whether one comes back there, by the count
none_counted : (ss : List Site) (a : ℕ) → count_by (comes_back_to a) ss ≡ 0 → list_any (comes_back_to a) ss ≡ false
none_counted [] a h = refl
none_counted (s ∷ ss) a h = by_test (comes_back_to a s) (sym (count_cons s ss a) ∙ h) (none_counted ss a)
  where
    by_test : (t : Bool) → cond t 1 0 + count_by (comes_back_to a) ss ≡ 0
        → (count_by (comes_back_to a) ss ≡ 0 → list_any (comes_back_to a) ss ≡ false)
        → (t || list_any (comes_back_to a) ss) ≡ false
    by_test true h later = absurd (omega arith)
    by_test false h later = later (omega arith)

some_counted : (ss : List Site) (a : ℕ) → 0 < count_by (comes_back_to a) ss → list_any (comes_back_to a) ss ≡ true
some_counted [] a h = absurd (omega arith)
some_counted (s ∷ ss) a h = by_test (comes_back_to a s) (rw (count_cons s ss a) at h) (some_counted ss a)
  where
    by_test : (t : Bool) → 0 < cond t 1 0 + count_by (comes_back_to a) ss
        → (0 < count_by (comes_back_to a) ss → list_any (comes_back_to a) ss ≡ true)
        → (t || list_any (comes_back_to a) ss) ≡ true
    by_test true h later = refl
    by_test false h later = later (omega arith)

pub told_by_count : (ss : List Site) (a n : ℕ) (r : Option ℕ) → Some n ≡ r
    → unwrap_or r 0 ≡ count_by (comes_back_to a) ss
    → nat_lt 0 n ≡ list_any (comes_back_to a) ss
told_by_count ss a n r is count =
    by_number n (ap (λ o. unwrap_or o 0) is ∙ count)
  where
    by_number : (n : ℕ) → n ≡ count_by (comes_back_to a) ss → nat_lt 0 n ≡ list_any (comes_back_to a) ss
    by_number zero e = sym (none_counted ss a (sym e))
    by_number (suc n) e =
        let some : nat_lt 0 (suc n) ≡ true = grind (arith, nat_tests) in
        some ∙ sym (some_counted ss a (omega (arith, e)))

pub told_by_none : (ss : List Site) (a : ℕ) (r : Option ℕ) → None ≡ r → unwrap_or r 0 ≡ count_by (comes_back_to a) ss
    → false ≡ list_any (comes_back_to a) ss
told_by_none ss a r is count = sym (none_counted ss a (sym (ap (λ o. unwrap_or o 0) is ∙ count)))

-- a stack that no site of comes back to an address isn't cut
pub cut_none : (a : ℕ) (ss : List Site) → list_any (comes_back_to a) ss ≡ false → cut a ss ≡ ss
cut_none a [] h = refl
cut_none a (s ∷ ss) h = by_test (comes_back_to a s) (list_any (comes_back_to a) ss) h (cut_none a ss)
  where
    by_test : (x y : Bool) → (x || y) ≡ false → (y ≡ false → cut a ss ≡ ss)
        → cond (x && not y) [] (s ∷ cut a ss) ≡ s ∷ ss
    by_test true y h later = absurd cc
    by_test false y h later = ap (λ t. s ∷ t) (later h)

any_push : (a : ℕ) (ss : List Site) (s : Site)
    → list_any (comes_back_to a) (ss ++ s ∷ []) ≡ (list_any (comes_back_to a) ss || (comes_back_to a s || false))
any_push a ss s = list_any-append (comes_back_to a) ss (s ∷ [])

-- where the last site comes back there, it alone is cut
pub cut_here : (a : ℕ) (ss : List Site) (s : Site) → comes_back_to a s ≡ true → cut a (ss ++ s ∷ []) ≡ ss
cut_here a [] s h = rw h refl
cut_here a (x ∷ ss) s h =
    let later : list_any (comes_back_to a) (ss ++ s ∷ []) ≡ true =
    any_push a ss s ∙ rw h (or_true (list_any (comes_back_to a) ss)) in
    rw later (none (comes_back_to a x) (ap (λ t. x ∷ t) (cut_here a ss s h)))
  where
    or_true : (t : Bool) → (t || true) ≡ true
    or_true true = refl
    or_true false = refl

    none : (t : Bool) → x ∷ cut a (ss ++ s ∷ []) ≡ x ∷ ss → cond (t && false) [] (x ∷ cut a (ss ++ s ∷ [])) ≡ x ∷ ss
    none true later = later
    none false later = later

-- else it is cut with what is cut without it
pub cut_later : (a : ℕ) (ss : List Site) (s : Site) → comes_back_to a s ≡ false
    → list_any (comes_back_to a) ss ≡ true → cut a (ss ++ s ∷ []) ≡ cut a ss
cut_later a [] s h there = absurd cc
cut_later a (x ∷ ss) s h there =
    rw (any_push a ss s, h)
    (by_test (comes_back_to a x) (list_any (comes_back_to a) ss) there (cut_later a ss s h))
  where
    by_test : (t u : Bool) → (t || u) ≡ true → (u ≡ true → cut a (ss ++ s ∷ []) ≡ cut a ss)
        → cond (t && not (u || false)) [] (x ∷ cut a (ss ++ s ∷ [])) ≡ cond (t && not u) [] (x ∷ cut a ss)
    by_test true true there later = ap (λ t. x ∷ t) (later refl)
    by_test true false there later = refl
    by_test false true there later = ap (λ t. x ∷ t) (later refl)
    by_test false false there later = absurd cc

-- whether one is left in a stack whose last site doesn't come back there
pub any_left : (a : ℕ) (ss : List Site) (s : Site) → comes_back_to a s ≡ false
    → list_any (comes_back_to a) (ss ++ s ∷ []) ≡ true → list_any (comes_back_to a) ss ≡ true
any_left a ss s h there = left (list_any (comes_back_to a) ss) (sym (any_push a ss s ∙ rw h refl) ∙ there)
  where
    left : (t : Bool) → (t || (false || false)) ≡ true → t ≡ true
    left true e = refl
    left false e = absurd cc

-- whether a site comes back to an address
pub same_back : (a : ℕ) (s : Site) → s.back ≡ a → comes_back_to a s ≡ true
same_back a s same = grind (arith, nat_tests)

pub other_back : (a : ℕ) (s : Site) → (s.back ≡ a → ⊥) → comes_back_to a s ≡ false
other_back a s other = grind (arith, nat_tests)

-- the address of a frame's site is a word
abbrev IsWord : Frame → Type 0
IsWord f = f.site.addr < 2 ^ 32

-- a stack with one frame more
pub pushed_stack : {S : Type 0} (frames after : List Frame) (f : Frame) (order order' : List ℕ)
    (returns returns' : IndexMap ℕ ℕ S)
    → IsStack frames order returns → after ≡ frames ++ f ∷ [] → f.site.addr < 2 ^ 32
    → f.place ≡ (if f.site.near then position (nat_eq f.site.addr) order else None)
    → order' ≡ (if f.site.near then called_last f.site.addr order else order)
    → ((a : ℕ) → count_in returns' a ≡ count_in returns a + (if nat_eq f.site.back a then 1 else 0))
    → IsStack after order' returns'
pushed_stack frames after f order order' returns returns' s is word place order_is counts = rw is (record {
  places = places_push [] frames f s.places (rw (← s.order_is) place);
  order_is = order_is ∙ by_near f.site.near refl ∙ ap context_of (sym (sites_push frames f));
  words = All-push IsWord frames f s.words word;
  counts = λ a. counts a
      ∙ ap (λ n. n + (if nat_eq f.site.back a then 1 else 0)) (s.counts a)
      ∙ sym (count_push (sites_of frames) f.site a)
      ∙ ap (count_by (comes_back_to a)) (sym (sites_push frames f));
})
  where
    by_near : (t : Bool) → f.site.near ≡ t
        → (if t then called_last f.site.addr order else order) ≡ context_of (sites_of frames ++ f.site ∷ [])
    by_near true near = ap (called_last f.site.addr) s.order_is ∙ sym (context_near (sites_of frames) f.site near)
    by_near false far = s.order_is ∙ sym (context_far (sites_of frames) f.site far)

-- a stack and its last frame
pub record Split {S : Type 0} (rest : List Frame) (f : Frame) (order : List ℕ) (returns : IndexMap ℕ ℕ S) : Type 0 where
  pub places : KeepPlaces [] rest
  pub place : f.place ≡ place_of (sites_of rest) f.site
  pub order_is : order ≡ context_of (sites_of rest ++ f.site ∷ [])
  pub counts : (a : ℕ) → count_in returns a ≡ count_by (comes_back_to a) (sites_of rest) +
      (if nat_eq f.site.back a then 1 else 0)

pub split : {S : Type 0} (frames rest : List Frame) (f : Frame) (order : List ℕ) (returns : IndexMap ℕ ℕ S)
    → IsStack frames order returns → frames ≡ rest ++ f ∷ [] → Split rest f order returns
split frames rest f order returns s is =
    let p : Popped [] rest f = places_pop [] rest f (rw is at s.places) in
    let sites : sites_of frames ≡ sites_of rest ++ f.site ∷ [] = ap sites_of is ∙ sites_push rest f in
    record {
      places = p.places;
      place = p.place;
      order_is = s.order_is ∙ ap context_of sites;
      counts = λ a. s.counts a ∙ ap (count_by (comes_back_to a)) sites ∙ count_push (sites_of rest) f.site a;
    }

-- the count of its return address isn't 0
pub counted_once : {S : Type 0} (frames rest : List Frame) (f : Frame) (order : List ℕ) (returns : IndexMap ℕ ℕ S)
    (back : ℕ)
    → IsStack frames order returns → frames ≡ rest ++ f ∷ [] → back ≡ f.site.back → 0 < count_in returns back
counted_once frames rest f order returns back s is same =
    let t : Split rest f order returns = split frames rest f order returns s is in
    let one : nat_eq f.site.back back ≡ true = grind (arith, nat_tests) in
    let count = t.counts back in omega (arith, rw one at count)

one_less : (n m k : ℕ) → n + k ≡ m → (l : ℕ) → m ≡ l + k → n ≡ l
one_less n m k e l f = omega (arith, e, f)

module _ {S : Type 0} (frames rest : List Frame) (f : Frame) (order order' : List ℕ) (returns returns' : IndexMap ℕ ℕ S)
    (s : IsStack frames order returns) (is : frames ≡ rest ++ f ∷ []) where
  without : ((a : ℕ) → count_in returns' a + (if nat_eq f.site.back a then 1 else 0) ≡ count_in returns a)
      → order' ≡ context_of (sites_of rest) → IsStack rest order' returns'
  without counts order_is =
      let t : Split rest f order returns = split frames rest f order returns s is in
      record {
        places = t.places;
        order_is = order_is;
        words = (All-pop IsWord frames rest (Some f) is s.words).0;
        counts = λ a. one_less (count_in returns' a) (count_in returns a) (if nat_eq f.site.back a then 1 else 0)
            (counts a) (count_by (comes_back_to a) (sites_of rest)) (t.counts a);
      }

  near_order : f.site.near ≡ true → order ≡ called_last f.site.addr (context_of (sites_of rest))
  near_order near =
      let t : Split rest f order returns = split frames rest f order returns s is in
      t.order_is ∙ context_near (sites_of rest) f.site near

  near_place : f.site.near ≡ true → f.place ≡ position (nat_eq f.site.addr) (context_of (sites_of rest))
  near_place near =
      let t : Split rest f order returns = split frames rest f order returns s is in
      t.place ∙ ap (λ b. if b then position (nat_eq f.site.addr) (context_of (sites_of rest)) else None) near

  -- its place in the order is one
  pub place_within : (p : ℕ) → f.site.near ≡ true → f.place ≡ Some p → p < length order
  place_within p near at =
      let low = place_low f.site.addr (context_of (sites_of rest)) p (sym (near_place near) ∙ at) in
      omega (arith, low.0, low.1, ap length (near_order near))

  -- a stack without its last frame: its site goes back to its place in the order, or out of it
  pub put_back : (p n : ℕ) → f.site.near ≡ true → f.place ≡ Some p → n ≡ length order - 1
      → order' ≡ move_index order n p
      → ((a : ℕ) → count_in returns' a + (if nat_eq f.site.back a then 1 else 0) ≡ count_in returns a)
      → IsStack rest order' returns'
  put_back p n near at last moved counts =
      without counts (moved ∙ move_back f.site.addr (context_of (sites_of rest)) order p n
      (sym (near_place near) ∙ at) (near_order near) last)

  pub taken_out : (r : Option ℕ) → f.site.near ≡ true → f.place ≡ None → order ≡ order' ++ option_to_list r
      → (0 < length order → IsSome r)
      → ((a : ℕ) → count_in returns' a + (if nat_eq f.site.back a then 1 else 0) ≡ count_in returns a)
      → IsStack rest order' returns'
  taken_out r near at out found counts = without counts (by_result r out found)
    where
      last : order ≡ context_of (sites_of rest) ++ f.site.addr ∷ []
      last = near_order near ∙ ap (λ ys. ys ++ f.site.addr ∷ [])
          (not_there f.site.addr (context_of (sites_of rest)) (sym (near_place near) ∙ at))

      by_result : (r : Option ℕ) → order ≡ order' ++ option_to_list r → (0 < length order → IsSome r)
          → order' ≡ context_of (sites_of rest)
      by_result (Some b) out found = popped f.site.addr b (context_of (sites_of rest)) order' (sym last ∙ out)
      by_result None out found =
          let some : 0 < length order =
          omega (arith, ap length last, length-append (context_of (sites_of rest)) (f.site.addr ∷ [])) in
          let wrong : false ≡ true = found some in absurd cc

  pub left_alone : f.site.near ≡ false → order' ≡ order
      → ((a : ℕ) → count_in returns' a + (if nat_eq f.site.back a then 1 else 0) ≡ count_in returns a)
      → IsStack rest order' returns'
  left_alone far same counts =
      let t : Split rest f order returns = split frames rest f order returns s is in
      without counts (same ∙ t.order_is ∙ context_far (sites_of rest) f.site far)
