-- Rows and sites that are made fit: sites are distinct and on contexts, masks have the bits of sites, both are few.
use Rattle.std.proofs.Common.{◌≡◌, ◌≢◌, ℕ, zero, suc, ◌+◌, ◌<◌, ◌≤◌, ◌==◌, not, Bool, true, false, List, [], ◌∷◌, ◌++◌}
use Rattle.std.proofs.Common.{length, length-append, get_or, refl, sym, ◌∙◌, ap, subst, inl, inr, arith, All, filter}
use Rattle.std.proofs.Common.{insert, count_by, nat_lt, nat_le}
use Rattle.std.specs.List.{AllPairs}
use Rattle.std.proofs.lemmas.Bool.{cases_Bool, eq-eqb, eqb-true, ne_eqb, ltb-false, leb-false, or_left, or_right}
use Rattle.std.proofs.lemmas.Bool.{or_cases, or_parts, or_from, both_ways, not-true}
use Rattle.std.proofs.lemmas.List.Elements.{All-nil, All-cons, All-push, All-weaker}
use Rattle.std.proofs.lemmas.List.Folds.{list_any-append}
use Rattle.std.proofs.lemmas.List.Kept.{AllPairs-cons}
use Rattle.plan_core.specs.declared.types.PlanLine.{PlanLine}
use Rattle.selectors.specs.Made.{Made}
use Rattle.selectors.specs.declared.selecting.Selected.{Selected}
use Rattle.selectors.specs.Sets.{is_in, Chosen}
use Rattle.selectors.specs.Sets.Chosen.{none, more}
use Rattle.selectors.specs.Rows.{with_new, row_of, is_made, drop_one, after_member, numbered}
use Rattle.selectors.specs.Fitting.{IsRowBelow, IsSiteOf, IsFitting}
use Rattle.selectors.proofs.Choices.{with_site_is}
use Rattle.selectors.proofs.Masks.{pow_le, mask_small, length_numbered}

-- each number once
abbrev pub Distinct : List ℕ → Type 0
Distinct [] = Unit {0}
Distinct (x ∷ xs) = (is_in xs x ≡ false) × Distinct xs

in_insert : (xs : List ℕ) (i x t : ℕ) → is_in xs t ≡ false → x ≢ t → is_in (insert xs i x) t ≡ false
in_insert [] zero x t fresh other = rw (ne_eqb x t other) refl
in_insert [] (suc i) x t fresh other = rw (ne_eqb x t other) refl
in_insert (y ∷ ys) zero x t fresh other = rw (ne_eqb x t other) fresh
in_insert (y ∷ ys) (suc i) x t fresh other = let both = or_parts (y == t) (is_in ys t) fresh in
    or_from (y == t) (is_in (insert ys i x) t) both.0 (in_insert ys i x t both.1 other)

distinct_insert : (xs : List ℕ) (i x : ℕ) → is_in xs x ≡ false → Distinct xs → Distinct (insert xs i x)
distinct_insert [] zero x fresh once = (refl, tt)
distinct_insert [] (suc i) x fresh once = (refl, tt)
distinct_insert (y ∷ ys) zero x fresh once = (fresh, once)
distinct_insert (y ∷ ys) (suc i) x fresh once = let both = or_parts (y == x) (is_in ys x) fresh in (
  in_insert ys i x y once.0 (λ e. both_ways (y == x) both.0 (eq-eqb y x (sym e))),
  distinct_insert ys i x both.1 once.1,
)

pub in_filter : (p : ℕ → Bool) (xs : List ℕ) (t : ℕ) → is_in (filter p xs) t ≡ true → (is_in xs t ≡ true) × (p t ≡ true)
in_filter p [] t there = absurd (both_ways false refl there)
in_filter p (x ∷ xs) t there = elim (cases_Bool (p x)) [
  | inl kept ↦ elim (or_cases (x == t) (is_in (filter p xs) t) (sym (rw kept refl) ∙ there)) [
    | inl here ↦ (or_left (x == t) (is_in xs t) here, sym (ap p (eqb-true x t here)) ∙ kept)
    | inr later ↦ let rest = in_filter p xs t later in (or_right (x == t) (is_in xs t) rest.0, rest.1)
  ]
  | inr left ↦ let rest = in_filter p xs t (sym (rw left refl) ∙ there) in (
    or_right (x == t) (is_in xs t) rest.0,
    rest.1,
  )
]

distinct_filter : (p : ℕ → Bool) (xs : List ℕ) → Distinct xs → Distinct (filter p xs)
distinct_filter p [] once = tt
distinct_filter p (x ∷ xs) once = elim (cases_Bool (p x)) [
  | inl kept ↦ rw kept (elim (cases_Bool (is_in (filter p xs) x)) [
    | inl again ↦ absurd (both_ways (is_in xs x) once.0 (in_filter p xs x again).0)
    | inr fresh ↦ (fresh, distinct_filter p xs once.1)
  ])
  | inr left ↦ rw left (distinct_filter p xs once.1)
]

distinct_append : (xs ys : List ℕ) → Distinct xs → Distinct ys → ((t : ℕ) → is_in ys t ≡ true → is_in xs t ≡ false) →
    Distinct (xs ++ ys)
distinct_append [] ys one two apart = two
distinct_append (x ∷ xs) ys one two apart = (
  list_any-append (λ y. y == x) xs ys ∙ or_from (is_in xs x) (is_in ys x) one.0 (elim (cases_Bool (is_in ys x)) [
    | inl again ↦ absurd (both_ways (is_in (x ∷ xs) x) (apart x again) (or_left (x == x) (is_in xs x)
        (eq-eqb x x refl)))
    | inr fresh ↦ fresh
  ]),
  distinct_append xs ys one.1 two (λ t there. (or_parts (x == t) (is_in xs t) (apart t there)).1),
)

pub distinct_new : (sites set : List ℕ) → Distinct sites → Distinct set → Distinct (with_new sites set)
distinct_new sites set one two = distinct_append sites (filter (λ s. not (is_in sites s)) set) one
    (distinct_filter (λ s. not (is_in sites s)) set two)
    (λ t there. not-true (is_in sites t) (in_filter (λ s. not (is_in sites s)) set t there).1)

-- what is said of each number of a list
abbrev pub Each : (ℕ → Type 0) → List ℕ → Type 0
Each P xs = (t : ℕ) → is_in xs t ≡ true → P t

pub each_new : (P : ℕ → Type 0) (sites set : List ℕ) → Each P sites → Each P set → Each P (with_new sites set)
each_new P sites set one two = λ t there.
    elim (or_cases (is_in sites t) (is_in (filter (λ s. not (is_in sites s)) set) t)
    (sym (list_any-append (λ y. y == t) sites (filter (λ s. not (is_in sites s)) set)) ∙ there)) [
      | inl old ↦ one t old
      | inr fresh ↦ two t (in_filter (λ s. not (is_in sites s)) set t fresh).0
    ]

-- for which contexts hold which sites, the contexts outside and the member
module _ (holds : ℕ → ℕ → Bool) (outside : List ℕ) (c : ℕ) where
  pub chosen_distinct : (set : List ℕ) → Chosen holds outside c set → Distinct set
  chosen_distinct set none = tt
  chosen_distinct set (more sites s chosen going adds) =
      distinct_insert sites (count_by (λ t. nat_lt t s) sites) s adds.0.new (chosen_distinct sites chosen)

  pub chosen_own : (set : List ℕ) → Chosen holds outside c set → Each (λ t. holds c t ≡ true) set
  chosen_own set none = λ t there. absurd (both_ways false refl there)
  chosen_own set (more sites s chosen going adds) = λ t there.
      elim (or_cases (s == t) (is_in sites t) (sym (with_site_is s sites t) ∙ there)) [
        | inl same ↦ ap (holds c) (sym (eqb-true s t same)) ∙ adds.0.own
        | inr old ↦ chosen_own sites chosen t old
      ]

-- what holds of all that is made: the sites are distinct, few and on contexts; the rows are few and have their bits
pub record Fits (P : ℕ → Type 0) (m : Made) : Type 0 where
  pub once : Distinct m.sites
  pub few : length m.sites ≤ 32
  pub sites : Each P m.sites
  pub few_rows : length m.rows ≤ 64
  pub rows : All (IsRowBelow (length m.sites)) m.rows

pub fits_start : (P : ℕ → Type 0) → Fits P record { rows = []; sites = []; dropped = 0 }
fits_start P = record {
  once = tt;
  few = omega arith;
  sites = λ t there. absurd (both_ways false refl there);
  few_rows = omega arith;
  rows = All-nil (IsRowBelow 0);
}

fits_drop : (P : ℕ → Type 0) (m : Made) → Fits P m → Fits P (drop_one m)
fits_drop P m fits = record {
  once = fits.once;
  few = fits.few;
  sites = fits.sites;
  few_rows = fits.few_rows;
  rows =
      fits.rows;
}

fits_make : (P : ℕ → Type 0) (k : ℕ) (set : List ℕ) (m : Made) → k < 16 → Fits P m → Distinct set → Each P set →
    length (with_new m.sites set) ≤ 32 → length m.rows < 64 →
    Fits P record {
      rows = m.rows ++ row_of
          (with_new m.sites set) k set ∷ [];
      sites = with_new m.sites set;
      dropped = m.dropped;
    }
fits_make P k set m group fits once own few room =
    let sites = with_new m.sites set in
    let longer : length m.sites ≤ length sites =
    omega (arith, length-append m.sites (filter (λ s. not (is_in m.sites s)) set)) in
    record {
      once = distinct_new m.sites set fits.once once;
      few = few;
      sites = each_new P m.sites set fits.sites own;
      few_rows = omega (arith, room, length-append m.rows (row_of sites k set ∷ []));
      rows = All-push (IsRowBelow (length sites)) m.rows (row_of sites k set)
          (All-weaker (IsRowBelow (length m.sites)) (IsRowBelow (length sites))
          (λ row below. (
            below.0,
            omega (
              arith,
              below.1,
              pow_le (length m.sites)
                  (length sites) longer,
            ),
          )) m.rows fits.rows)
          (group, mask_small sites set);
    }

pub fits_member : (P : ℕ → Type 0) (k : ℕ) (set : List ℕ) (m : Made) → k < 16 → Fits P m → Distinct set → Each P set →
    Fits P (after_member k set m)
fits_member P k set m group fits once own = elim (cases_Bool (length set == 0)) [
  | inl empty ↦ rw empty (fits_drop P m fits)
  | inr some ↦ rw some (elim (cases_Bool (nat_lt 32 (length (with_new m.sites set)))) [
    | inl many ↦ rw many (fits_drop P m fits)
    | inr few ↦ rw few (elim (cases_Bool (is_made m.rows (row_of (with_new m.sites set) k set))) [
      | inl old ↦ rw old fits
      | inr fresh ↦ rw fresh (elim (cases_Bool (nat_le 64 (length m.rows))) [
        | inl full ↦ rw full (fits_drop P m fits)
        | inr room ↦ rw room (fits_make P k set m group fits once own
            (ltb-false 32 (length (with_new m.sites set)) few) (leb-false 64 (length m.rows) room))
      ])
    ])
  ])
]

number_at : (from : ℕ) (sites : List ℕ) (i : ℕ) (d : PlanLine) → i < length sites →
    (get_or (numbered from sites) i d).bit ≡ from + i
number_at from [] i d inside = absurd (omega (arith, inside))
number_at from (s ∷ sites) zero d inside = omega arith
number_at from (s ∷ sites) (suc i) d inside =
    number_at (from + 1) sites i d (omega (arith, inside)) ∙ omega arith

numbered_each : (P : ℕ → Type 0) (from : ℕ) (sites : List ℕ) → Each P sites →
    All (λ (line : PlanLine). P line.addr) (numbered from sites)
numbered_each P from [] each = All-nil (λ (line : PlanLine). P line.addr)
numbered_each P from (s ∷ sites) each =
    All-cons (λ (line : PlanLine). P line.addr) record { bit = from; addr = s } (numbered (from + 1) sites)
    (each s (or_left (s == s) (is_in sites s) (eq-eqb s s refl)))
    (numbered_each P (from + 1) sites (λ t there. each t (or_right (s == t) (is_in sites t) there)))

numbered_once : (from : ℕ) (sites : List ℕ) → Distinct sites →
    AllPairs (λ (a b : PlanLine). a.addr ≢ b.addr) (numbered from sites)
numbered_once from [] once = λ i j d less inside. absurd (omega (arith, inside))
numbered_once from (s ∷ sites) once =
    AllPairs-cons (λ (a b : PlanLine). a.addr ≢ b.addr) record { bit = from; addr = s } (numbered (from + 1) sites)
    (numbered_each (λ t. s ≢ t) (from + 1) sites (λ t there same.
    both_ways (is_in sites s) once.0 (subst (λ u. is_in sites u ≡ true) (sym same) there)))
    (numbered_once (from + 1) sites once.1)

pub fits_fitting : (contexts : List (List ℕ)) (m : Made) (selected : Selected) → Fits (IsSiteOf contexts) m →
    selected.rows ≡ m.rows → selected.sites ≡ numbered 0 m.sites → IsFitting contexts selected
fits_fitting contexts m selected fits rows sites =
    let count : length selected.sites ≡ length m.sites = ap length sites ∙ length_numbered 0 m.sites in
    record {
      few_sites = omega (arith, count, fits.few);
      bits = λ i d inside. ap (λ lines. (get_or lines i d).bit) sites
          ∙ number_at 0 m.sites i d (omega (arith, inside, count)) ∙ omega arith;
      once = rw sites (numbered_once 0 m.sites fits.once);
      sites = rw sites (numbered_each (IsSiteOf contexts) 0 m.sites fits.sites);
      few_rows = omega (arith, ap length rows, fits.few_rows);
      rows = rw (rows, count) fits.rows;
    }
