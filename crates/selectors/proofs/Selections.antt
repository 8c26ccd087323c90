-- What is made before a member of a group: it fits, and no more members are dropped than there are contexts.
use Rattle.std.proofs.Common.{◌≡◌, ◌⊎◌, ℕ, ◌+◌, ◌<◌, ◌≤◌, ◌==◌, ◌||◌, not, Bool, true, false, List, [], ◌∷◌, length}
use Rattle.std.proofs.Common.{take, get_or, get_or-take, length-take, refl, sym, ◌∙◌, ap, subst, inl, inr, arith}
use Rattle.std.proofs.Common.{filter, nat_lt, nat_le}
use Rattle.std.specs.List.{range_with_len}
use Rattle.std.proofs.Math.Path.{fun_ext}
use Rattle.std.proofs.lemmas.Bool.{cases_Bool, cases_lt, false_from_ne_true, or_right}
use Rattle.std.proofs.lemmas.List.{get_or_past, get_or_default}
use Rattle.std.proofs.lemmas.List.Elements.{All-filter}
use Rattle.std.proofs.lemmas.List.Folds.{list_any_more, Any-from_list_any}
use Rattle.std.proofs.lemmas.List.FromFn.{length-range_with_len, get_or-range_with_len}
use Rattle.std.proofs.lemmas.List.Sums.{length-filter, count_by-le-length}
use Rattle.selectors.specs.Made.{Made}
use Rattle.selectors.specs.Sets.{is_in, is_in_any, outside_of, members_of, others, holds_in, AreApart}
use Rattle.selectors.specs.Rows.{with_new, row_of, is_made, after_member, members, Selects}
use Rattle.selectors.specs.Rows.Selects.{start, member, next}
use Rattle.selectors.specs.Counting.{AreSets}
use Rattle.selectors.proofs.Fittings.{Fits, fits_start, fits_member, chosen_distinct, chosen_own}

or_none : (a : Bool) → (a || false) ≡ a
or_none true = refl
or_none false = refl

filter_none : (xs : List ℕ) → filter (λ (x : ℕ). false) xs ≡ []
filter_none [] = refl
filter_none (x ∷ xs) = filter_none xs

-- there are no members past the last group
pub group_there : (n : ℕ) (groups : List (List ℕ)) (k j : ℕ) → j < length (members groups n k) → k < length groups
group_there n groups k j inside = elim (cases_lt k (length groups)) [
  | inl there ↦ there
  | inr past ↦ absurd (omega (
    arith,
    inside,
    ap length
        (ap (members_of n) (get_or_past groups k [] past) ∙ filter_none (range_with_len 0 n)),
  ))
]

-- members are contexts
pub member_below : (n : ℕ) (groups : List (List ℕ)) (k j : ℕ) → j < length (members groups n k) →
    get_or (members groups n k) j 0 < n
member_below n groups k j inside =
    All-filter (is_in (get_or groups k [])) (λ x. x < n) (range_with_len 0 n)
    (λ i d h. let below : i < n = omega (arith, h, length-range_with_len 0 n) in
    omega (arith, below, get_or-range_with_len 0 n i d below)) j 0 inside

split_list : (a b c : ℕ → Bool) →
    ((x : ℕ) → ((b x ≡ true) × (a x ≡ true) × (c x ≡ false)) ⊎ ((b x ≡ false) × (c x ≡ a x))) →
    (xs : List ℕ) → length (filter a xs) ≡ length (filter b xs) + length (filter c xs)
split_list a b c parts [] = refl
split_list a b c parts (x ∷ xs) = let rest = split_list a b c parts xs in
    elim (parts x) [
      | inl inner ↦ rw (inner.0, inner.1, inner.2) (omega (arith, rest))
      | inr outer ↦ rw (outer.0, outer.1) (elim (cases_Bool (a x)) [
        | inl kept ↦ rw kept (omega (arith, rest))
        | inr left ↦ rw left (omega (arith, rest))
      ])
    ]

-- who is in a group is in no other
pub only_in : (groups : List (List ℕ)) (k d : ℕ) → AreApart groups → is_in (get_or groups k []) d ≡ true →
    is_in_any (take k groups) d ≡ false
only_in groups k d apart there = false_from_ne_true (is_in_any (take k groups) d) (λ earlier.
    let found = Any-from_list_any (λ g. is_in g d) (take k groups) earlier in
    let below : found.0 < k = omega (arith, found.2, length-take k groups) in
    let inside : found.0 < length groups = omega (arith, found.2, length-take k groups) in
    let at : get_or groups found.0 [] ≡ found.1 = get_or_default groups found.0 [] found.1 inside
    ∙ sym (get_or-take k groups found.0 found.1 below) ∙ found.3 in
    omega (arith, below, apart found.0 k d (ap (λ g. is_in g d) at ∙ found.4) there))

-- who is outside before a group is in it or outside after it
pub split : (n : ℕ) (groups : List (List ℕ)) (k : ℕ) → k < length groups → AreApart groups →
    length (outside_of n (take k groups)) ≡ length (members groups n k) + length (others groups n k)
split n groups k inside apart =
    split_list (λ d. not (is_in_any (take k groups) d)) (is_in (get_or groups k [])) (λ d. not (is_in_any (take
    (k + 1) groups) d))
    (λ d. let step = list_any_more (λ g. is_in g d) groups k [] inside in
    elim (cases_Bool (is_in (get_or groups k []) d)) [
      | inl there ↦ inl (
        there,
        ap not (only_in groups k d apart there),
        ap not (step ∙ or_right (is_in_any (take k groups) d) (is_in (get_or groups k []) d) there),
      )
      | inr not_there ↦ inr (
        not_there,
        ap not (step ∙ ap (λ b. is_in_any (take k groups) d || b) not_there
            ∙ or_none (is_in_any (take k groups) d)),
      )
    ])
    (range_with_len 0 n)

drops_one : (k : ℕ) (set : List ℕ) (m : Made) → (after_member k set m).dropped ≤ m.dropped + 1
drops_one k set m = elim (cases_Bool (length set == 0)) [
  | inl empty ↦ rw empty (omega arith)
  | inr some ↦ rw some (elim (cases_Bool (nat_lt 32 (length (with_new m.sites set)))) [
    | inl many ↦ rw many (omega arith)
    | inr few ↦ rw few (elim (cases_Bool (is_made m.rows (row_of (with_new m.sites set) k set))) [
      | inl old ↦ rw old (omega arith)
      | inr fresh ↦ rw fresh (elim (cases_Bool (nat_le 64 (length m.rows))) [
        | inl full ↦ rw full (omega arith)
        | inr room ↦ rw room (omega arith)
      ])
    ])
  ])
]

-- for which contexts hold which sites, how many contexts there are, and the groups
module _ (holds : ℕ → ℕ → Bool) (n : ℕ) (groups : List (List ℕ)) (apart : AreApart groups) where
  -- members that were dropped, and contexts that are still outside, are no more than there are contexts and members
  pub dropped_small : (k j : ℕ) (m : Made) → Selects holds n groups k j m →
      m.dropped + length (outside_of n (take k groups)) ≤ n + j
  dropped_small k j m start =
      omega (
        arith,
        length-filter (λ d. not (is_in_any [] d)) (range_with_len 0 n),
        count_by-le-length (λ d. not (is_in_any [] d)) (range_with_len 0 n),
        length-range_with_len 0 n,
      )
  dropped_small k j m (member g i old set before inside is) =
      omega (arith, dropped_small g i old before, drops_one g set old)
  dropped_small k j m (next g all before there) =
      omega (arith, dropped_small g (length (members groups n g)) all before, split n groups g there apart)

  pub room : (k j : ℕ) (m : Made) → Selects holds n groups k j m → j < length (members groups n k) → m.dropped < n
  room k j m before inside =
      omega (arith, dropped_small k j m before, inside, split n groups k (group_there n groups k j inside) apart)

module _ (holds : ℕ → ℕ → Bool) (n : ℕ) (groups : List (List ℕ)) (few : length groups ≤ 16) where
  -- a site of some context
  abbrev pub Sited : ℕ → Type 0
  Sited s = (d : ℕ) × (d < n) × (holds d s ≡ true)

  pub all_fits : (k j : ℕ) (m : Made) → Selects holds n groups k j m → Fits Sited m
  all_fits k j m start = fits_start Sited
  all_fits k j m (member g i old set before inside is) =
      let c = get_or (members groups n g) i 0 in
      fits_member Sited g set old (omega (arith, few, group_there n groups g i inside)) (all_fits g i old before)
      (chosen_distinct holds (others groups n g) c set is.0)
      (λ t there. (c, member_below n groups g i inside, chosen_own holds (others groups n g) c set is.0 t there))
  all_fits k j m (next g all before there) = all_fits g (length (members groups n g)) all before

pub outside_few : (n : ℕ) (groups : List (List ℕ)) → length (outside_of n groups) ≤ n
outside_few n groups =
    omega (
      arith,
      length-filter (λ d. not (is_in_any groups d)) (range_with_len 0 n),
      count_by-le-length (λ d. not (is_in_any groups d)) (range_with_len 0 n),
      length-range_with_len 0 n,
    )

-- sorted sets give what the contexts give
pub from_sets : (contexts sets groups : List (List ℕ)) (k j : ℕ) (m : Made) → AreSets contexts sets →
    Selects (holds_in sets) (length sets) groups k j m → Selects (holds_in contexts) (length contexts) groups k j m
from_sets contexts sets groups k j m are selects =
    subst (λ n. Selects (holds_in contexts) n groups k j m) are.count
    (subst (λ h. Selects h (length sets) groups k j m) (fun_ext (λ d. fun_ext (λ s. are.same d s))) selects)
