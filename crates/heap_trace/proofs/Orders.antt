-- Moves in an order of addresses, and what a call does to the context of a stack.
use Rattle.std.proofs.Common.{◌≡◌, ◌==◌, ◌||◌, ◌+◌, ◌-◌, ◌<◌, ◌≤◌, ℕ, Bool, true, false, cond, not, List, [], ◌∷◌, ◌++◌}
use Rattle.std.proofs.Common.{length, map, filter, Some, None, refl, ap, sym, ◌∙◌, arith, length-append}
use Rattle.std.specs.Prelude.{insert, nat_eq, nat_lt, position, remove, slice_get, if◌then◌else◌}
use Rattle.std.specs.Option.{option_map_or}
use Rattle.std.specs.List.{list_any, position_or_len}
use Rattle.std.specs.Set.{remove_key}
use Rattle.std.proofs.lemmas.Bool.Decides.{nat_tests}
use Rattle.std.proofs.lemmas.List.{append-nil, map-append}
use Rattle.std.proofs.lemmas.List.Elements.{filter-append}
use Rattle.std.proofs.lemmas.List.Folds.{list_any-append}
use Rattle.indexmap.specs.IndexMap.{move_index}
use Rattle.indexmap.specs.IndexSet.{insert_key}
use Rattle.site_spec.specs.declared.Site.{Site}
use Rattle.sym_spec.specs.Contexts.{last_of_equal, is_near, addr_of, context_of}
use Rattle.heap_trace.specs.Stacks.{called_last}

-- where an address stands in an order: what is before it and behind it
pub record Splits (a : ℕ) (xs : List ℕ) (p : ℕ) : Type 0 where
  pub front : List ℕ
  pub back : List ℕ
  pub is : xs ≡ front ++ a ∷ back
  pub at : p ≡ length front
  pub without : remove_key (nat_eq a) xs ≡ front ++ back

-- the first place of an address, or the length
abbrev first_of : ℕ → List ℕ → ℕ
first_of a xs = position_or_len (nat_eq a) xs

same_number : (a b : ℕ) → nat_eq a b ≡ true → a ≡ b
same_number a b h = grind (arith, nat_tests)

splits_later : (a x : ℕ) (xs : List ℕ) (p : ℕ) → nat_eq a x ≡ false → Splits a xs p → Splits a (x ∷ xs) (1 + p)
splits_later a x xs p other s = record {
  front = x ∷ s.front;
  back = s.back;
  is = ap (λ t. x ∷ t) s.is;
  at = omega (arith, s.at);
  without = rw other (ap (λ t. x ∷ t) s.without);
}

splits_here : (a x : ℕ) (xs : List ℕ) → nat_eq a x ≡ true → Splits a (x ∷ xs) 0
splits_here a x xs same = record {
  front = [];
  back = xs;
  is = ap (λ y. y ∷ xs) (sym (same_number a x same));
  at = refl;
  without = rw same refl;
}

splits_at : (a : ℕ) (xs : List ℕ) → first_of a xs < length xs → Splits a xs (first_of a xs)
splits_at a [] low = absurd (omega arith)
splits_at a (x ∷ xs) low = by_test (nat_eq a x) refl low (splits_at a xs)
  where
    by_test : (t : Bool) → nat_eq a x ≡ t → cond (not t) (1 + first_of a xs) 0 < length (x ∷ xs)
        → (first_of a xs < length xs → Splits a xs (first_of a xs))
        → Splits a (x ∷ xs) (cond (not t) (1 + first_of a xs) 0)
    by_test true same low later = splits_here a x xs same
    by_test false other low later = splits_later a x xs (first_of a xs) other (later (omega arith))

-- an address that has a place splits the order there
pub splits : (a : ℕ) (xs : List ℕ) (p : ℕ) → position (nat_eq a) xs ≡ Some p → Splits a xs p
splits a xs p is = by_test (nat_lt (first_of a xs) (length xs)) refl is
  where
    by_test : (t : Bool) → nat_lt (first_of a xs) (length xs) ≡ t → cond t (Some (first_of a xs)) None ≡ Some p
        → Splits a xs p
    by_test true low is = let same : first_of a xs ≡ p =
        cc in rw (← same) (splits_at a xs (grind (arith, nat_tests)))
    by_test false high is = absurd cc

-- one that has none isn't there
pub not_there : (a : ℕ) (xs : List ℕ) → position (nat_eq a) xs ≡ None → remove_key (nat_eq a) xs ≡ xs
not_there a xs is = by_test (nat_lt (first_of a xs) (length xs)) refl is
  where
    kept : (ys : List ℕ) → length ys ≤ first_of a ys → remove_key (nat_eq a) ys ≡ ys
    kept [] high = refl
    kept (y ∷ ys) high = by_first (nat_eq a y) refl high (kept ys)
      where
        by_first : (t : Bool) → nat_eq a y ≡ t → length (y ∷ ys) ≤ cond (not t) (1 + first_of a ys) 0
            → (length ys ≤ first_of a ys → remove_key (nat_eq a) ys ≡ ys)
            → cond t ys (y ∷ remove_key (nat_eq a) ys) ≡ y ∷ ys
        by_first true same high later = absurd (omega arith)
        by_first false other high later = ap (λ t. y ∷ t) (later (omega arith))

    by_test : (t : Bool) → nat_lt (first_of a xs) (length xs) ≡ t → cond t (Some (first_of a xs)) None ≡ None
        → remove_key (nat_eq a) xs ≡ xs
    by_test true low is = absurd cc
    by_test false high is = kept xs (grind (arith, nat_tests))

-- so it comes last
pub called_new : (a : ℕ) (xs : List ℕ) → position (nat_eq a) xs ≡ None → insert_key nat_eq xs a ≡ called_last a xs
called_new a xs is = by_test (list_any (nat_eq a) xs) refl
  where
    found : (ys : List ℕ) → remove_key (nat_eq a) ys ≡ ys → list_any (nat_eq a) ys ≡ false
    found [] kept = refl
    found (y ∷ ys) kept = by_first (nat_eq a y) kept (found ys)
      where
        shorter : (zs : List ℕ) (z : ℕ) → zs ≡ z ∷ zs → ⊥
        shorter zs z e = absurd (omega (arith, ap length e))

        by_first : (t : Bool) → cond t ys (y ∷ remove_key (nat_eq a) ys) ≡ y ∷ ys
            → (remove_key (nat_eq a) ys ≡ ys → list_any (nat_eq a) ys ≡ false) → (t || list_any (nat_eq a) ys) ≡ false
        by_first true kept later = absurd (shorter ys y kept)
        by_first false kept later = later (let same : remove_key (nat_eq a) ys ≡ ys = cc in same)

    by_test : (t : Bool) → list_any (nat_eq a) xs ≡ t → (if t then xs else xs ++ a ∷ []) ≡ called_last a xs
    by_test true there = let none : true ≡ false = sym there ∙ found xs (not_there a xs is) in absurd cc
    by_test false none = ap (λ ys. ys ++ a ∷ []) (sym (not_there a xs is))

get_at : (front back : List ℕ) (a : ℕ) → slice_get (front ++ a ∷ back) (length front) ≡ Some a
get_at [] back a = refl
get_at (x ∷ front) back a = get_at front back a

remove_at : (front back : List ℕ) (a : ℕ) → remove (front ++ a ∷ back) (length front) ≡ front ++ back
remove_at [] back a = refl
remove_at (x ∷ front) back a = ap (λ t. x ∷ t) (remove_at front back a)

insert_at : (front back : List ℕ) (a : ℕ) → insert (front ++ back) (length front) a ≡ front ++ a ∷ back
insert_at [] back a = refl
insert_at (x ∷ front) back a = ap (λ t. x ∷ t) (insert_at front back a)

-- a move from behind some addresses to behind others
moved : (front back : List ℕ) (a : ℕ) (to : ℕ)
    → move_index (front ++ a ∷ back) (length front) to ≡ insert (front ++ back) to a
moved front back a to =
    ap (λ o. option_map_or (λ x. insert (remove (front ++ a ∷ back) (length front)) to x) o (front ++ a ∷ back))
    (get_at front back a)
    ∙ ap (λ ys. insert ys to a) (remove_at front back a)

insert_last : (xs : List ℕ) (a : ℕ) → insert xs (length xs) a ≡ xs ++ a ∷ []
insert_last [] a = refl
insert_last (x ∷ xs) a = ap (λ t. x ∷ t) (insert_last xs a)

move_split : (front back : List ℕ) (a n : ℕ) → n ≡ length (front ++ back)
    → move_index (front ++ a ∷ back) (length front) n ≡ (front ++ back) ++ a ∷ []
move_split front back a n is = moved front back a n ∙ ap (λ k. insert (front ++ back) k a) is
    ∙ insert_last (front ++ back) a

-- a move of a called address to the end
pub move_last : (a : ℕ) (xs : List ℕ) (p n : ℕ) → position (nat_eq a) xs ≡ Some p → n ≡ length xs - 1
    → move_index xs p n ≡ called_last a xs
move_last a xs p n at is =
    let s : Splits a xs p = splits a xs p at in
    let as_many : n ≡ length (s.front ++ s.back) =
    omega (arith, ap length s.is, length-append s.front (a ∷ s.back), length-append s.front s.back) in
    ap (λ ys. move_index ys p n) s.is
    ∙ ap (λ k. move_index (s.front ++ a ∷ s.back) k n) s.at
    ∙ move_split s.front s.back a n as_many
    ∙ ap (λ ys. ys ++ a ∷ []) (sym s.without)

move_joined : (front back : List ℕ) (a n : ℕ) → n ≡ length (front ++ back)
    → move_index ((front ++ back) ++ a ∷ []) n (length front) ≡ front ++ a ∷ back
move_joined front back a n is =
    ap (λ k. move_index ((front ++ back) ++ a ∷ []) k (length front)) is
    ∙ moved (front ++ back) [] a (length front)
    ∙ ap (λ ys. insert ys (length front) a) (append-nil (front ++ back))
    ∙ insert_at front back a

-- and the move of the last address back
pub move_back : (a : ℕ) (xs ys : List ℕ) (p n : ℕ) → position (nat_eq a) xs ≡ Some p → ys ≡ called_last a xs
    → n ≡ length ys - 1 → move_index ys n p ≡ xs
move_back a xs ys p n at last is =
    let s : Splits a xs p = splits a xs p at in
    let ys_are : ys ≡ (s.front ++ s.back) ++ a ∷ [] = last ∙ ap (λ zs. zs ++ a ∷ []) s.without in
    let as_many : n ≡ length (s.front ++ s.back) =
    omega (arith, ap length ys_are, length-append (s.front ++ s.back) (a ∷ [])) in
    ap (λ zs. move_index zs n p) ys_are
    ∙ ap (λ k. move_index ((s.front ++ s.back) ++ a ∷ []) n k) s.at
    ∙ move_joined s.front s.back a n as_many
    ∙ sym s.is

-- the places are in range
pub place_low : (a : ℕ) (xs : List ℕ) (p : ℕ) → position (nat_eq a) xs ≡ Some p
    → (p < length xs) × (length (called_last a xs) ≡ length xs)
place_low a xs p at =
    let s : Splits a xs p = splits a xs p at in
    let n = length-append s.front (a ∷ s.back) in
    let m = length-append s.front s.back in (
      omega (arith, ap length s.is, s.at, n),
      omega (arith, ap length s.is, n, m, ap length s.without, length-append (remove_key (nat_eq a) xs) (a ∷ [])),
    )

-- of an order whose last address was new, the last is taken away
pub popped : (a b : ℕ) (xs ys : List ℕ) → xs ++ a ∷ [] ≡ ys ++ b ∷ [] → ys ≡ xs
popped a b [] [] is = refl
popped a b [] (y ∷ []) is = absurd cc
popped a b [] (y ∷ z ∷ ys) is = absurd cc
popped a b (x ∷ []) [] is = absurd cc
popped a b (x ∷ z ∷ xs) [] is = absurd cc
popped a b (x ∷ xs) (y ∷ ys) is =
    let heads : y ≡ x = cc in
    let tails : xs ++ a ∷ [] ≡ ys ++ b ∷ [] = cc in
    let rest : ys ≡ xs = popped a b xs ys tails in cc

-- of equal addresses the last stays, so an address that isn't there stays out
never_there : (a : ℕ) (xs : List ℕ) → list_any (λ b. b == a) xs ≡ false
    → remove_key (nat_eq a) (last_of_equal xs) ≡ last_of_equal xs
never_there a [] h = refl
never_there a (x ∷ xs) h =
    by_test (list_any (λ b. b == x) xs)
    (never_there a xs (none (x == a) (list_any (λ b. b == a) xs) h))
  where
    none : (s t : Bool) → (s || t) ≡ false → t ≡ false
    none true t h = absurd cc
    none false t h = h

    first : (s t : Bool) → (s || t) ≡ false → s ≡ false
    first true t h = absurd cc
    first false t h = refl

    by_test : (t : Bool) → remove_key (nat_eq a) (last_of_equal xs) ≡ last_of_equal xs
        → remove_key (nat_eq a) (cond t (last_of_equal xs) (x ∷ last_of_equal xs))
        ≡ cond t (last_of_equal xs) (x ∷ last_of_equal xs)
    by_test true later = later
    by_test false later =
        let other : nat_eq a x ≡ false =
        turned (first (x == a) (list_any (λ b. b == a) xs) h) in rw other (ap (λ t. x ∷ t) later)
      where
        turned : (x == a) ≡ false → nat_eq a x ≡ false
        turned e = grind (arith, nat_tests)

-- one more address
last_push : (xs : List ℕ) (a : ℕ) → last_of_equal (xs ++ a ∷ []) ≡ called_last a (last_of_equal xs)
last_push [] a = refl
last_push (x ∷ xs) a =
    by_tests (list_any (λ b. b == x) xs) (nat_eq a x) refl refl (list_any-append (λ b. b == x) xs (a ∷ []))
    (last_push xs a)
  where
    by_tests : (t s : Bool) → list_any (λ b. b == x) xs ≡ t → nat_eq a x ≡ s
        → list_any (λ b. b == x) (xs ++ a ∷ []) ≡ (list_any (λ b. b == x) xs || (nat_eq a x || false))
        → last_of_equal (xs ++ a ∷ []) ≡ called_last a (last_of_equal xs)
        → cond (list_any (λ b. b == x) (xs ++ a ∷ [])) (last_of_equal (xs ++ a ∷ []))
        (x ∷ last_of_equal (xs ++ a ∷ []))
        ≡ called_last a (cond t (last_of_equal xs) (x ∷ last_of_equal xs))
    by_tests true s here test is later = rw (is, here) later
    by_tests false true here test is later =
        let same : a ≡ x = same_number a x test in
        let kept : remove_key (nat_eq a) (last_of_equal xs) ≡ last_of_equal xs =
        never_there a xs (rw same here) in
        rw (is, here, test) (later ∙ ap (λ ys. ys ++ a ∷ []) kept)
    by_tests false false here test is later = rw (is, here, test) (ap (λ t. x ∷ t) later)

-- a call of a far site leaves the context, and one of a near site comes last
pub context_far : (ss : List Site) (s : Site) → s.near ≡ false → context_of (ss ++ s ∷ []) ≡ context_of ss
context_far ss s far =
    let none : filter is_near (s ∷ []) ≡ [] = rw far refl in
    ap (λ ts. last_of_equal (map addr_of ts))
    (filter-append is_near ss (s ∷ []) ∙ ap (λ ts. filter is_near ss ++ ts) none ∙ append-nil (filter is_near ss))

pub context_near : (ss : List Site) (s : Site) → s.near ≡ true
    → context_of (ss ++ s ∷ []) ≡ called_last s.addr (context_of ss)
context_near ss s near =
    let one : filter is_near (s ∷ []) ≡ s ∷ [] = rw near refl in
    ap (λ ts. last_of_equal (map addr_of ts))
    (filter-append is_near ss (s ∷ []) ∙ ap (λ ts. filter is_near ss ++ ts) one)
    ∙ ap last_of_equal (map-append addr_of (filter is_near ss) (s ∷ []))
    ∙ last_push (map addr_of (filter is_near ss)) s.addr
