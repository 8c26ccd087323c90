-- What one event more does to the lists that are made of events.
use Rattle.std.proofs.Common.{◌≡◌, ◌==◌, ◌||◌, ◌≤◌, ◌+◌, ◌-◌, ℕ, suc, Bool, true, false, cond, nat_lt, List, [], ◌∷◌}
use Rattle.std.proofs.Common.{◌++◌, length, Option, Some, None, inl, inr, ◌⊎◌, refl, ap, sym, ◌∙◌, arith}
use Rattle.std.specs.Prelude.{filter_map}
use Rattle.std.specs.List.{dedup, dedup_from}
use Rattle.std.proofs.lemmas.List.{append-nil, length_push, get_or_push}
use Rattle.std.proofs.lemmas.List.Elements.{filter_map-append}
use Rattle.std.proofs.lemmas.List.Folds.{list_any-append}
use Rattle.std.proofs.lemmas.Bool.{cases_eq}
use Rattle.std.proofs.lemmas.Bool.Decides.{nat_tests}
use Rattle.plan_core.specs.declared.profiles.Event.{Event}
use Rattle.plan_core.specs.declared.profiles.Event.TheVariants.{Access}
use Rattle.affinity.specs.declared.entries.Entry.{Entry}
use Rattle.affinity.specs.Histories.{is_in, entry_of, accesses_of, same_block, access_list, different, MayFollow, Legal}
use Rattle.affinity.specs.Weights.{block_at}
use Rattle.affinity.specs.Near.{ends_with, in_reach}
use Rattle.affinity.proofs.Comparisons.{is_same, is_other, turned}
use Rattle.affinity.proofs.Reaches.{reach_last}
use Rattle.affinity.proofs.EntryWeights.{blank, split_last}

-- one event more, in a list that is made event by event
pub grown : {X : Type 0} (f : Event → Option X) (h : List Event) (e : Event) (x : X) → f e ≡ Some x
    → filter_map f (h ++ (e ∷ [])) ≡ filter_map f h ++ (x ∷ [])
grown f h e x is = filter_map-append f h (e ∷ []) ∙ (rw is refl)

pub kept_same : {X : Type 0} (f : Event → Option X) (h : List Event) (e : Event) → f e ≡ None
    → filter_map f (h ++ (e ∷ [])) ≡ filter_map f h
kept_same f h e is = filter_map-append f h (e ∷ []) ∙ (rw is (append-nil (filter_map f h)))

ends_at_last : (es : List Entry) (e : Entry) (block : ℕ) → ends_with (es ++ (e ∷ [])) block ≡ (e.block == block)
ends_at_last es e block =
    let n : length (es ++ (e ∷ [])) ≡ length es + 1 = length_push es e in
    let some : nat_lt 0 (length (es ++ (e ∷ []))) ≡ true = grind (arith, nat_tests) in
    let place : length (es ++ (e ∷ [])) - 1 ≡ length es = omega arith in
    let last : block_at (es ++ (e ∷ [])) (length (es ++ (e ∷ [])) - 1) ≡ e.block =
    ap (λ k. block_at (es ++ (e ∷ [])) k) place
    ∙ ap (λ (x : Entry). x.block) (get_or_push es e blank (length es) refl) in
    rw (some, last) refl

-- what is in reach ends as the whole list does
pub ends_in_reach : (distance : ℕ) (es : List Entry) (block : ℕ)
    → ends_with (in_reach distance es) block ≡ ends_with es block
ends_in_reach distance [] block = refl
ends_in_reach distance (x ∷ xs) block =
    let (es, e, is) = split_last x xs in
    let (middle, reach) = reach_last distance es e in
    ap (λ ys. ends_with (in_reach distance ys) block) is
    ∙ (ap (λ ys. ends_with ys block) reach
    ∙ (ends_at_last middle e block
    ∙ (sym (ends_at_last es e block)
    ∙ ap (λ ys. ends_with ys block) (sym is))))

ends_step : (k y : Entry) (ys : List Entry) (block : ℕ) → ends_with (k ∷ y ∷ ys) block ≡ ends_with (y ∷ ys) block
ends_step k y ys block =
    let place : length (k ∷ y ∷ ys) - 1 ≡ suc (length (y ∷ ys) - 1) = omega arith in
    let some : nat_lt 0 (length (k ∷ y ∷ ys)) ≡ true = grind (arith, nat_tests) in
    let some_left : nat_lt 0 (length (y ∷ ys)) ≡ true = grind (arith, nat_tests) in
    let last : block_at (k ∷ y ∷ ys) (length (k ∷ y ∷ ys) - 1) ≡ block_at (y ∷ ys) (length (y ∷ ys) - 1) =
    ap (λ i. block_at (k ∷ y ∷ ys) i) place in
    rw (some, some_left, last) refl

dedup_some : (k : Entry) (xs : List Entry) → (y : Entry) × (ys : List Entry) × (dedup_from same_block k xs ≡ y ∷ ys)
dedup_some k [] = (k, [], refl)
dedup_some k (x ∷ xs) = at (same_block x k) (dedup_some k xs)
  where
    at : (t : Bool) → ((y : Entry) × (ys : List Entry) × (dedup_from same_block k xs ≡ y ∷ ys))
        → (y : Entry) × (ys : List Entry) × (cond t (dedup_from same_block k xs) (k ∷ dedup_from same_block x xs)
        ≡ y ∷ ys)
    at true later = later
    at false later = (k, dedup_from same_block x xs, refl)

dedup_from_push : (k : Entry) (xs : List Entry) (e : Entry)
    → (ends_with (dedup_from same_block k xs) e.block ≡ true
    → dedup_from same_block k (xs ++ (e ∷ [])) ≡ dedup_from same_block k xs)
    × (ends_with (dedup_from same_block k xs) e.block ≡ false
    → dedup_from same_block k (xs ++ (e ∷ [])) ≡ dedup_from same_block k xs ++ (e ∷ []))
dedup_from_push k [] e =
    let one : ends_with (k ∷ []) e.block ≡ (k.block == e.block) = ends_at_last [] k e.block in (
      λ ends. rw (turned e.block k.block, sym one ∙ ends) refl,
      λ other. rw (turned e.block k.block, sym one ∙ other) refl,
    )
dedup_from_push k (x ∷ xs) e = step (same_block x k) (dedup_from_push k xs e) (dedup_from_push x xs e)
  where
    later : (y : Entry) (ys : List Entry) (block : ℕ)
        → ends_with (y ∷ dedup_from same_block x ys) block ≡ ends_with (dedup_from same_block x ys) block
    later y ys block =
        let (z, zs, is) = dedup_some x ys in
        ap (λ ws. ends_with (y ∷ ws) block) is ∙ (ends_step y z zs block ∙ ap (λ ws. ends_with ws block) (sym is))

    step : (t : Bool)
        → (ends_with (dedup_from same_block k xs) e.block ≡ true
        → dedup_from same_block k (xs ++ (e ∷ [])) ≡ dedup_from same_block k xs)
        × (ends_with (dedup_from same_block k xs) e.block ≡ false
        → dedup_from same_block k (xs ++ (e ∷ [])) ≡ dedup_from same_block k xs ++ (e ∷ []))
        → (ends_with (dedup_from same_block x xs) e.block ≡ true
        → dedup_from same_block x (xs ++ (e ∷ [])) ≡ dedup_from same_block x xs)
        × (ends_with (dedup_from same_block x xs) e.block ≡ false
        → dedup_from same_block x (xs ++ (e ∷ [])) ≡ dedup_from same_block x xs ++ (e ∷ []))
        → (ends_with (cond t (dedup_from same_block k xs) (k ∷ dedup_from same_block x xs)) e.block ≡ true
        → cond t (dedup_from same_block k (xs ++ (e ∷ []))) (k ∷ dedup_from same_block x (xs ++ (e ∷ [])))
        ≡ cond t (dedup_from same_block k xs) (k ∷ dedup_from same_block x xs))
        × (ends_with (cond t (dedup_from same_block k xs) (k ∷ dedup_from same_block x xs)) e.block ≡ false
        → cond t (dedup_from same_block k (xs ++ (e ∷ []))) (k ∷ dedup_from same_block x (xs ++ (e ∷ [])))
        ≡ cond t (dedup_from same_block k xs) (k ∷ dedup_from same_block x xs) ++ (e ∷ []))
    step true same other = same
    step false same other = (
      λ ends. ap (λ ys. k ∷ ys) (other.0 (sym (later k xs e.block) ∙ ends)),
      λ ends. ap (λ ys. k ∷ ys) (other.1 (sym (later k xs e.block) ∙ ends)),
    )

-- an access to the block of the last entry makes no entry
pub access_same : (h : List Event) (block width : ℕ) → ends_with (access_list h) block ≡ true
    → access_list (h ++ (Access block width ∷ [])) ≡ access_list h
access_same h block width ends =
    ap (dedup same_block) (grown entry_of h (Access block width) (record { block = block; width = width }) refl)
    ∙ at (accesses_of h) ends
  where
    at : (xs : List Entry) → ends_with (dedup same_block xs) block ≡ true
        → dedup same_block (xs ++ (record { block = block; width = width } ∷ [])) ≡ dedup same_block xs
    at [] ends = absurd cc
    at (x ∷ xs) ends = (dedup_from_push x xs (record { block = block; width = width })).0 ends

-- an access to another block makes one
pub access_new : (h : List Event) (block width : ℕ) → ends_with (access_list h) block ≡ false
    → access_list (h ++ (Access block width ∷ [])) ≡ access_list h ++ (record { block = block; width = width } ∷ [])
access_new h block width ends =
    ap (dedup same_block) (grown entry_of h (Access block width) (record { block = block; width = width }) refl)
    ∙ at (accesses_of h) ends
  where
    at : (xs : List Entry) → ends_with (dedup same_block xs) block ≡ false
        → dedup same_block (xs ++ (record { block = block; width = width } ∷ []))
        ≡ dedup same_block xs ++ (record { block = block; width = width } ∷ [])
    at [] ends = refl
    at (x ∷ xs) ends = (dedup_from_push x xs (record { block = block; width = width })).1 ends

-- the access list is no longer than the accesses
pub entries_few : (h : List Event) → length (access_list h) ≤ length (accesses_of h)
entries_few h = at (accesses_of h)
  where
    from : (k : Entry) (xs : List Entry) → length (dedup_from same_block k xs) ≤ length xs + 1
    from k [] = omega arith
    from k (x ∷ xs) = step (same_block x k) (from k xs) (from x xs)
      where
        step : (t : Bool) → length (dedup_from same_block k xs) ≤ length xs + 1
            → length (dedup_from same_block x xs) ≤ length xs + 1
            → length (cond t (dedup_from same_block k xs) (k ∷ dedup_from same_block x xs)) ≤ length (x ∷ xs) + 1
        step true a b = omega arith
        step false a b = omega arith

    at : (xs : List Entry) → length (dedup same_block xs) ≤ length xs
    at [] = omega arith
    at (x ∷ xs) = omega (arith, from x xs)

-- a number more in a list
pub is_in_push : (ns : List ℕ) (c x : ℕ) → is_in (ns ++ (c ∷ [])) x ≡ (is_in ns x || (c == x))
is_in_push ns c x = list_any-append (λ y. y == x) ns (c ∷ []) ∙ ap (λ t. is_in ns x || t) (or_false (c == x))
  where
    or_false : (t : Bool) → (t || false) ≡ t
    or_false true = refl
    or_false false = refl

-- one for a number that isn't there
abbrev pub fresh : Bool → ℕ
fresh t = cond t 0 1

-- how many different numbers there are then
pub different_push : (ns : List ℕ) (c : ℕ) → different (ns ++ (c ∷ [])) ≡ different ns + fresh (is_in ns c)
different_push [] c = refl
different_push (n ∷ ns) c =
    let more = different_push ns c in
    let here : fresh (is_in (ns ++ (c ∷ [])) n) ≡ fresh (is_in ns n || (c == n)) = ap fresh (is_in_push ns c n) in
    elim (cases_eq n c) [
      | inl same ↦
          (let there : fresh (is_in ns n) ≡ fresh (is_in ns c) = ap (λ k. fresh (is_in ns k)) same in
          let front : fresh (is_in ns n || (c == n)) ≡ 0 = rw (is_same c n (sym same)) (or_true (is_in ns n)) in
          let back : fresh ((n == c) || is_in ns c) ≡ 0 = rw (is_same n c same) refl in
          omega (arith, more, here, there, front, back))
      | inr other ↦
          (let front : fresh (is_in ns n || (c == n)) ≡ fresh (is_in ns n) =
          rw (is_other c n (λ e. other (sym e))) (or_none (is_in ns n)) in
          let back : fresh ((n == c) || is_in ns c) ≡ fresh (is_in ns c) = rw (is_other n c other) refl in
          omega (arith, more, here, front, back))
    ]
  where
    or_true : (t : Bool) → fresh (t || true) ≡ 0
    or_true true = refl
    or_true false = refl

    or_none : (t : Bool) → fresh (t || false) ≡ fresh t
    or_none true = refl
    or_none false = refl

-- where the numbers are those below a bound, they are so with one more, which is at most the bound
pub dense_push : (ns : List ℕ) (c n m : ℕ) → ((x : ℕ) → is_in ns x ≡ nat_lt x n) → c ≤ n → m ≡ n + fresh (is_in ns c)
    → (x : ℕ) → is_in (ns ++ (c ∷ [])) x ≡ nat_lt x m
dense_push ns c n m dense low is x =
    rw (is_in_push ns c x, dense x) (grow (is_in ns c) (dense c) is)
  where
    grow : (t : Bool) → t ≡ nat_lt c n → m ≡ n + fresh t → (nat_lt x n || (c == x)) ≡ nat_lt x m
    grow true t is = grind (arith, nat_tests)
    grow false t is = grind (arith, nat_tests)

split_push : (xs : List Event) (x : Event) (before : List Event) (event : Event) (after : List Event)
    → xs ++ (x ∷ []) ≡ before ++ event ∷ after
    → ((before ≡ xs) × (event ≡ x)) ⊎ ((more : List Event) × (xs ≡ before ++ event ∷ more))
split_push [] x [] event after is = inl (refl, let e : x ≡ event = cc in sym e)
split_push [] x (b ∷ []) event after is = absurd cc
split_push [] x (b ∷ d ∷ bs) event after is = absurd cc
split_push (y ∷ ys) x [] event after is = let e : y ≡ event = cc in inr (ys, ap (λ z. z ∷ ys) e)
split_push (y ∷ ys) x (b ∷ bs) event after is =
    let heads : y ≡ b = cc in
    let tails : ys ++ (x ∷ []) ≡ bs ++ event ∷ after = cc in
    elim (split_push ys x bs event after tails) [
      | inl last ↦ (let front : bs ≡ ys = last.0 in let same : b ∷ bs ≡ y ∷ ys = cc in inl (same, last.1))
      | inr more ↦ (let front : ys ≡ bs ++ event ∷ more.0 = more.1 in let same : y ∷ ys ≡ b ∷ (bs ++ event ∷ more.0) =
          cc in inr (more.0, same))
    ]

-- a legal list stays legal with an event that may follow
pub legal_push : (h : List Event) (e : Event) → Legal h → MayFollow h e → Legal (h ++ (e ∷ []))
legal_push h e legal may = λ before event after is.
    elim (split_push h e before event after is) [
      | inl last ↦ rw (last.0, last.1) may
      | inr more ↦ legal before event more.0 more.1
    ]

-- no event is legal
pub legal_nil : Legal []
legal_nil = λ before event after is. none before event after is
  where
    none : (before : List Event) (event : Event) (after : List Event) → [] ≡ before ++ event ∷ after
        → MayFollow before event
    none [] event after is = absurd cc
    none (b ∷ bs) event after is = absurd cc
