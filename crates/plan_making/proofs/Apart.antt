-- Groups that are made greedily are few, and no context is in two of them.
use Rattle.std.proofs.Common.{◌≡◌, ◌∙◌, ℕ, zero, suc, ℤ, ◌≤◌, ◌⊎◌, inl, inr, ◌==◌, true, false, List, [], ◌∷◌, ◌++◌}
use Rattle.std.proofs.Common.{length, length-append, insert, refl, sym, subst, arith}
use Rattle.std.specs.Prelude.{slice_index_or}
use Rattle.std.proofs.lemmas.Bool.{cases_Bool, eqb-true, or_left, or_right, or_cases, both_ways}
use Rattle.plan_core.specs.declared.profiles.Edge.{Edge}
use Rattle.group_policy.specs.declared.cut.Cut.{Cut}
use Rattle.grouping.specs.Weights.{is_in}
use Rattle.grouping.specs.Greedy.{is_taken, Grown, Begun}
use Rattle.grouping.specs.Greedy.Grown.{started, joined}
use Rattle.grouping.specs.Greedy.Begun.{none, more}
use Rattle.selectors.specs.Sets.{AreApart}

-- what is in a list with one more is that one or was in it
in_insert : (xs : List ℕ) (i x t : ℕ) → is_in (insert xs i x) t ≡ true → (x ≡ t) ⊎ (is_in xs t ≡ true)
in_insert [] zero x t there = elim (or_cases (x == t) false there) [
  | inl here ↦ inl (eqb-true x t here)
  | inr later ↦ absurd (both_ways false refl later)
]
in_insert [] (suc i) x t there = elim (or_cases (x == t) false there) [
  | inl here ↦ inl (eqb-true x t here)
  | inr later ↦ absurd (both_ways false refl later)
]
in_insert (y ∷ ys) zero x t there = elim (or_cases (x == t) (is_in (y ∷ ys) t) there) [
  | inl here ↦ inl (eqb-true x t here)
  | inr later ↦ inr later
]
in_insert (y ∷ ys) (suc i) x t there = elim (or_cases (y == t) (is_in (insert ys i x) t) there) [
  | inl here ↦ inr (or_left (y == t) (is_in ys t) here)
  | inr later ↦ elim (in_insert ys i x t later) [
    | inl new ↦ inl new
    | inr old ↦ inr (or_right (y == t) (is_in ys t) old)
  ]
]

-- a context in the group at a place is in one of the groups
taken_at : (groups : List (List ℕ)) (i d : ℕ) → is_in (slice_index_or groups i []) d ≡ true → is_taken groups d ≡ true
taken_at [] i d there = absurd (both_ways false refl there)
taken_at (g ∷ gs) zero d there = or_left (is_in g d) (is_taken gs d) there
taken_at (g ∷ gs) (suc i) d there = or_right (is_in g d) (is_taken gs d) (taken_at gs i d there)

-- a context in the group at a place of groups with one more is in one of the old ones, or in the new one at the end
at_more : (groups : List (List ℕ)) (g : List ℕ) (i d : ℕ) → is_in (slice_index_or (groups ++ g ∷ []) i []) d ≡ true
    → (is_in (slice_index_or groups i []) d ≡ true) ⊎ ((i ≡ length groups) × (is_in g d ≡ true))
at_more [] g zero d there = inr (refl, there)
at_more [] g (suc i) d there = absurd (both_ways false refl there)
at_more (h ∷ hs) g zero d there = inl there
at_more (h ∷ hs) g (suc i) d there = elim (at_more hs g i d there) [
  | inl old ↦ inl old
  | inr new ↦ inr (omega (arith, new.0), new.1)
]

module _ (answers : Cut → ℤ → Type 0) (tolerance contexts : ℕ) (edges : List Edge) where
  -- the members of a group that grows are in none of the groups before it
  grown_free : (groups : List (List ℕ)) (group : List ℕ) → Grown answers tolerance contexts edges groups group
      → (x : ℕ) → is_in group x ≡ true → is_taken groups x ≡ false
  grown_free groups _ (started e starts) x there = elim (cases_Bool (e.low == e.high)) [
    | inl one ↦ elim (or_cases (e.low == x) false (sym (rw one refl) ∙ there)) [
      | inl here ↦ subst (λ y. is_taken groups y ≡ false) (eqb-true e.low x here) starts.free.0
      | inr later ↦ absurd (both_ways false refl later)
    ]
    | inr two ↦ elim (or_cases (e.low == x) (is_in (e.high ∷ []) x) (sym (rw two refl) ∙ there)) [
      | inl here ↦ subst (λ y. is_taken groups y ≡ false) (eqb-true e.low x here) starts.free.0
      | inr rest ↦ elim (or_cases (e.high == x) false rest) [
        | inl here ↦ subst (λ y. is_taken groups y ≡ false) (eqb-true e.high x here) starts.free.1
        | inr later ↦ absurd (both_ways false refl later)
      ]
    ]
  ]
  grown_free groups _ (joined group y grown few joins) x there = elim (in_insert group _ y x there) [
    | inl new ↦ subst (λ z. is_taken groups z ≡ false) new joins.outside.1
    | inr old ↦ grown_free groups group grown x old
  ]

  -- there are at most 16
  pub few_begun : (groups : List (List ℕ)) → Begun answers tolerance contexts edges groups → length groups ≤ 16
  few_begun _ none = omega arith
  few_begun _ (more groups group begun few formed) = simp length-append (omega (arith, few))

  -- no context is in two of them
  pub apart_begun : (groups : List (List ℕ)) → Begun answers tolerance contexts edges groups → AreApart groups
  apart_begun _ none i j d in_i in_j = absurd (both_ways false refl in_i)
  apart_begun _ (more groups group begun few formed) i j d in_i in_j =
      elim (at_more groups group i d in_i) [
        | inl old_i ↦ elim (at_more groups group j d in_j) [
          | inl old_j ↦ apart_begun groups begun i j d old_i old_j
          | inr new_j ↦ absurd (both_ways (is_taken groups d) (grown_free groups group formed.0 d new_j.1)
              (taken_at groups i d old_i))
        ]
        | inr new_i ↦ elim (at_more groups group j d in_j) [
          | inl old_j ↦ absurd (both_ways (is_taken groups d) (grown_free groups group formed.0 d new_i.1)
              (taken_at groups j d old_j))
          | inr new_j ↦ new_i.0 ∙ sym new_j.0
        ]
      ]
