-- The least of the candidates, the next site, and the set of a member.
use Rattle.std.proofs.Common.{◌≡◌, ◌≢◌, ◌⊎◌, ℕ, ◌+◌, ◌<◌, ◌≤◌, ◌==◌, ◌&&◌, ◌||◌, not, Bool, true, false, cond, List, []}
use Rattle.std.proofs.Common.{◌∷◌, length, take, get_or, refl, sym, ◌∙◌, ap, subst, inl, inr, arith, Option, None, Some}
use Rattle.std.proofs.Common.{count_by, insert, nat_lt}
use Rattle.std.proofs.lemmas.Bool.{cases_Bool, cases_eq, cases_order, eq-eqb, ne_eqb, eqb-true, lt-ltb, ltb-true}
use Rattle.std.proofs.lemmas.Bool.{or_left, or_right, or_cases, and_parts, and_cases, and_from, both_ways, not-true}
use Rattle.std.proofs.lemmas.Bool.{not-false, ltb-false}
use Rattle.std.proofs.lemmas.List.{take_all, get_or_default, nil_from_length}
use Rattle.std.proofs.lemmas.List.Folds.{list_any_more, list_any_kept, Any-from_list_any}
use Rattle.std.proofs.lemmas.List.Sorted.{list_any-IsPermutation, IsPermutation-insert}
use Rattle.selectors.specs.declared.next_site.Candidate.{Candidate}
use Rattle.selectors.specs.Sets.{is_in, with_site, conflicts, left, IsNext, Adds, Tells}
use Rattle.selectors.specs.Counting.{IsLeast, IsBefore, NextOf, first_of, is_before, added_of, told}
use Rattle.selectors.proofs.Conflicts.{left_is}

-- a place of a number in a list
pub place_of : (xs : List ℕ) (x : ℕ) → is_in xs x ≡ true → (i : ℕ) × (i < length xs) × (get_or xs i 0 ≡ x)
place_of xs x there = let found = Any-from_list_any (λ y. y == x) xs there in
    (found.0, found.2, get_or_default xs found.0 0 found.1 found.2 ∙ found.3 ∙ eqb-true found.1 x found.4)

pub with_site_is : (s : ℕ) (sites : List ℕ) (t : ℕ) → is_in (with_site s sites) t ≡ ((s == t) || is_in sites t)
with_site_is s sites t = let i = count_by (λ u. nat_lt u s) sites in
    sym (list_any-IsPermutation (λ u. u == t) (s ∷ sites) (insert sites i s) (IsPermutation-insert sites i s))

-- of two candidates one is before the other
before_says : (a b : Candidate) → is_before a b ≡ true → IsBefore a.left a.site b.left b.site
before_says a b says = elim (or_cases (nat_lt a.left b.left) (a.left == b.left && nat_lt a.site b.site) says) [
  | inl fewer ↦ inl (ltb-true a.left b.left fewer)
  | inr alike ↦ let both = and_parts (a.left == b.left) (nat_lt a.site b.site) alike in
      inr (eqb-true a.left b.left both.0, ltb-true a.site b.site both.1)
]

before_shown : (a b : Candidate) → IsBefore a.left a.site b.left b.site → is_before a b ≡ true
before_shown a b (inl fewer) =
    or_left (nat_lt a.left b.left) (a.left == b.left && nat_lt a.site b.site) (lt-ltb a.left b.left fewer)
before_shown a b (inr alike) =
    or_right (nat_lt a.left b.left) (a.left == b.left && nat_lt a.site b.site)
    (and_from (a.left == b.left) (nat_lt a.site b.site) (eq-eqb a.left b.left alike.0) (lt-ltb a.site b.site alike.1))

either_before : (a b c d : ℕ) → b ≢ d → IsBefore a b c d ⊎ IsBefore c d a b
either_before a b c d other = elim (cases_order a c) [
  | inl same ↦ elim (cases_order b d) [
    | inl equal ↦ absurd (other equal)
    | inr apart ↦ elim apart [ inl below ↦ inl (inr (same, below)) | inr above ↦ inr (inr (sym same, above)) ]
  ]
  | inr apart ↦ elim apart [ inl below ↦ inl (inl below) | inr above ↦ inr (inl above) ]
]

before_trans : (a b c d e f : ℕ) → IsBefore a b c d → IsBefore c d e f → IsBefore a b e f
before_trans a b c d e f (inl one) (inl two) = inl (omega (arith, one, two))
before_trans a b c d e f (inl one) (inr two) = inl (omega (arith, one, two.0))
before_trans a b c d e f (inr one) (inl two) = inl (omega (arith, one.0, two))
before_trans a b c d e f (inr one) (inr two) = inr (one.0 ∙ two.0, omega (arith, one.1, two.1))

not_both : (a b c d : ℕ) → IsBefore a b c d → IsBefore c d a b → ⊥
not_both a b c d (inl one) (inl two) = omega (arith, one, two)
not_both a b c d (inl one) (inr two) = omega (arith, one, two.0)
not_both a b c d (inr one) (inl two) = omega (arith, one.0, two)
not_both a b c d (inr one) (inr two) = omega (arith, one.1, two.1)

module _ (left : ℕ → ℕ) (own chosen : List ℕ) where
  pub least_start : IsLeast left own chosen 0 None
  least_start = λ i h. absurd (omega (arith, h))

  -- a site that was chosen is no candidate
  pub least_skip : (n : ℕ) (best : Option Candidate) → n < length own → is_in chosen (get_or own n 0) ≡ true →
      IsLeast left own chosen n best → IsLeast left own chosen (n + 1) best
  least_skip n None inside taken least = λ i h. elim (cases_eq i n) [
    | inl last ↦ ap (λ k. is_in chosen (get_or own k 0)) last ∙ taken
    | inr other ↦ least i (omega (arith, h, other))
  ]
  least_skip n (Some c) inside taken least = (
    list_any_kept (λ y. y == c.site) own n least.0,
    least.1,
    least.2,
    λ i h free apart. elim (cases_eq i n) [
      | inl last ↦ absurd (both_ways (is_in chosen (get_or own i 0)) free
          (ap (λ k. is_in chosen (get_or own k 0)) last ∙ taken))
      | inr other ↦ least.3 i (omega (arith, h, other)) free apart
    ],
  )

  here : (n s : ℕ) → n < length own → get_or own n 0 ≡ s → is_in (take (n + 1) own) s ≡ true
  here n s inside is = list_any_more (λ y. y == s) own n 0 inside
      ∙ or_right (is_in (take n own) s) (get_or own n 0 == s) (eq-eqb (get_or own n 0) s is)

  -- the first of the least one and one more
  pub least_more : (n : ℕ) (best : Option Candidate) (b : Candidate) → n < length own → get_or own n 0 ≡ b.site →
      b.left ≡ left b.site → is_in chosen b.site ≡ false → IsLeast left own chosen n best →
      IsLeast left own chosen (n + 1) (first_of best b)
  least_more n None b inside is counts free least = (
    here n b.site inside is,
    free,
    counts,
    λ i h still apart. elim (cases_eq i n) [
      | inl last ↦ absurd (apart (ap (λ k. get_or own k 0) last ∙ is))
      | inr other ↦ absurd (both_ways (is_in chosen (get_or own i 0)) still (least i (omega (arith, h, other))))
    ],
  )
  least_more n (Some c) b inside is counts free least = elim (cases_Bool (is_before b c)) [
    | inl first ↦ let before = before_says b c first in
        rw first (
          here n b.site inside is,
          free,
          counts,
          λ i h still apart. elim (cases_eq i n) [
            | inl last ↦ absurd (apart (ap (λ k. get_or own k 0) last ∙ is))
            | inr other ↦ elim (cases_eq (get_or own i 0) c.site) [
              | inl same ↦ subst (λ t. IsBefore b.left b.site (left t) t) (sym same)
                  (subst (λ m. IsBefore b.left b.site m c.site) least.2 before)
              | inr differs ↦ before_trans b.left b.site c.left c.site (left (get_or own i 0)) (get_or own i 0) before
                  (least.3 i (omega (arith, h, other)) still differs)
            ]
          ],
        )
    | inr later ↦ rw later (
      list_any_kept (λ y. y == c.site) own n least.0,
      least.1,
      least.2,
      λ i h still apart. elim (cases_eq i n) [
        | inl last ↦
            let at = ap (λ k. get_or own k 0) last ∙ is in
            elim (either_before c.left c.site b.left b.site (λ e. apart (at ∙ sym e))) [
              | inl before ↦ subst (λ t. IsBefore c.left c.site (left t) t) (sym at)
                  (subst (λ m. IsBefore c.left c.site m b.site) counts before)
              | inr after ↦ absurd (both_ways (is_before b c) later (before_shown b c after))
            ]
        | inr other ↦ least.3 i (omega (arith, h, other)) still apart
      ],
    )
  ]

-- for which contexts hold which sites, the contexts outside and the member, its own sites, a set and its conflicts
module _ (holds : ℕ → ℕ → Bool) (outside : List ℕ) (c : ℕ) (own : List ℕ) (same : (s : ℕ) → is_in own s ≡ holds c s)
    (sites rivals : List ℕ) (are : rivals ≡ conflicts holds outside c sites) where
  abbrev pub count : ℕ → ℕ
  count s = count_by (λ d. holds d s) rivals

  count_is : (s : ℕ) → count s ≡ left holds outside c sites s
  count_is s = ap (count_by (λ d. holds d s)) are ∙ sym (left_is holds outside c sites s)

  -- the least candidate is the next one
  pub next_is : (best : Candidate) → IsLeast count own sites (length own) (Some best) →
      IsNext holds outside c sites best.site
  next_is best least = record {
    own = sym (same best.site) ∙ sym (ap (λ xs. is_in xs best.site) (take_all (length own) own (omega arith))) ∙
        least.0;
    new = least.1;
    fewest = λ t holds_t free apart.
        let place = place_of own t (same t ∙ holds_t) in
        let before = subst (λ u. IsBefore best.left best.site (count u) u) place.2
        (least.3 place.0 place.1 (ap (is_in sites) place.2 ∙ free) (λ e. apart (sym place.2 ∙ e))) in
        subst (λ m. IsBefore m best.site (left holds outside c sites t) t) (least.2 ∙ count_is best.site)
        (subst (λ m. IsBefore best.left best.site m t) (count_is t) before);
  }

  -- a least candidate that is added
  pub added : (best : Candidate) → IsLeast count own sites (length own) (Some best) →
      ((sites ≡ []) ⊎ (best.left < length rivals)) → Adds holds outside c sites best.site
  added best least (inl first) = (next_is best least, inl first)
  added best least (inr fewer) = (
    next_is best least,
    inr (omega (arith, fewer, least.2, count_is best.site, ap length are)),
  )

  -- a least candidate that isn't added, so that no site is
  pub not_added : (best : Candidate) → IsLeast count own sites (length own) (Some best) → sites ≢ [] →
      length rivals ≤ best.left → (s : ℕ) → Adds holds outside c sites s → ⊥
  not_added best least some many s adds =
      let next = next_is best least in
      elim (cases_eq best.site s) [
        | inl equal ↦ elim adds.1 [
          | inl first ↦ some first
          | inr fewer ↦ omega (
            arith,
            fewer,
            ap (left holds outside c sites) equal,
            many,
            least.2,
            count_is best.site,
            ap length are,
          )
        ]
        | inr other ↦ not_both (left holds outside c sites s) s (left holds outside c sites best.site) best.site
            (adds.0.fewest best.site next.own next.new other)
            (next.fewest s adds.0.own adds.0.new (λ e. other (sym e)))
      ]

  -- no candidate
  pub none_added : IsLeast count own sites (length own) None → (s : ℕ) → Adds holds outside c sites s → ⊥
  none_added least s adds =
      let place = place_of own s (same s ∙ adds.0.own) in
      both_ways (is_in sites s) adds.0.new (sym (ap (is_in sites) place.2) ∙ least place.0 place.1)

  pub tells_is : told rivals sites ≡ true → Tells holds outside c sites
  tells_is tells = let both = and_parts (not (length sites == 0)) (length rivals == 0) tells in (
    λ empty. both_ways (length sites == 0) (not-true (length sites == 0) both.0) (eq-eqb (length sites) 0
        (ap length empty)),
    sym are ∙ nil_from_length rivals (eqb-true (length rivals) 0 both.1),
  )

  pub tells_not : told rivals sites ≡ false → Tells holds outside c sites → ⊥
  tells_not untold tells = elim (and_cases (not (length sites == 0)) (length rivals == 0) untold) [
    | inl empty ↦ tells.0 (nil_from_length sites (eqb-true (length sites) 0 (not-false (length sites == 0) empty)))
    | inr some ↦ both_ways (length rivals == 0) some (eq-eqb (length rivals) 0 (ap length (are ∙ tells.1)))
  ]

  -- what is added next
  pub next_of : (best : Option Candidate) → IsLeast count own sites (length own) best → told rivals sites ≡ false →
      NextOf holds outside c sites (added_of best sites (length rivals))
  next_of None least untold = inr (none_added least)
  next_of (Some best) least untold = elim (cases_Bool (length sites == 0)) [
    | inl empty ↦ rw empty (
      tells_not untold,
      added best least (inl (nil_from_length sites (eqb-true
          (length sites) 0 empty))),
    )
    | inr some ↦ rw some (elim (cases_Bool (nat_lt best.left (length rivals))) [
      | inl fewer ↦ rw fewer (tells_not untold, added best least (inr (ltb-true best.left (length rivals) fewer)))
      | inr many ↦ rw many (inr (not_added best least
          (λ none. both_ways (length sites == 0) some (eq-eqb (length sites) 0 (ap length none)))
          (ltb-false best.left (length rivals) many)))
    ])
  ]

-- what comes next, said of the lists that were lent
pub next_lent : (holds : ℕ → ℕ → Bool) (outside : List ℕ) (c : ℕ) (own given seen sites rivals : List ℕ)
    (result : Option ℕ) →
    ((outer : List ℕ) (m : ℕ) → seen ≡ conflicts holds outer m given → ((s : ℕ) → is_in own s ≡ holds m s) →
    NextOf holds outer m given result) →
    given ≡ sites → seen ≡ rivals → rivals ≡ conflicts holds outside c sites → ((s : ℕ) → is_in own s ≡ holds c s) →
    NextOf holds outside c sites result
next_lent holds outside c own given seen sites rivals result says lent shown are same =
    subst (λ set. NextOf holds outside c set result) lent
    (says outside c (shown ∙ are ∙ ap (conflicts holds outside c) (sym lent)) same)

-- how many of a member's sites aren't in a set
abbrev pub spare : List ℕ → List ℕ → ℕ
spare sites [] = 0
spare sites (x ∷ own) = cond (is_in sites x) 0 1 + spare sites own

pub spare_kept : (s : ℕ) (sites own : List ℕ) → spare (with_site s sites) own ≤ spare sites own
spare_kept s sites [] = omega arith
spare_kept s sites (x ∷ own) = let rest = spare_kept s sites own in
    elim (cases_Bool (is_in sites x)) [
      | inl there ↦ rw (with_site_is s sites x ∙ or_right (s == x) (is_in sites x) there, there) (omega (arith, rest))
      | inr new ↦ rw new (elim (cases_Bool (is_in (with_site s sites) x)) [
        | inl added ↦ rw added (omega (arith, rest))
        | inr still ↦ rw still (omega (arith, rest))
      ])
    ]

pub spare_less : (s : ℕ) (sites own : List ℕ) → is_in own s ≡ true → is_in sites s ≡ false →
    spare (with_site s sites) own < spare sites own
spare_less s sites [] there new = absurd (both_ways false refl there)
spare_less s sites (x ∷ own) there new = elim (cases_eq x s) [
  | inl same ↦ rw (
    ap (is_in sites) same ∙ new,
    with_site_is s sites x ∙ or_left (s == x) (is_in sites x) (eq-eqb s x
        (sym same)),
  )
      (omega (arith, spare_kept s sites own))
  | inr other ↦
      let rest = spare_less s sites own (sym (rw (ne_eqb x s other) refl) ∙ there) new in
      elim (cases_Bool (is_in sites x)) [
        | inl old ↦ rw (with_site_is s sites x ∙ or_right (s == x) (is_in sites x) old, old) (omega (arith, rest))
        | inr fresh ↦ rw (
          fresh,
          with_site_is s sites x ∙ ap (λ b. b || is_in sites x) (ne_eqb s x (λ e. other
              (sym e))) ∙ fresh,
        )
            (omega (arith, rest))
      ]
]
