-- The heaviest of the edges seen so far, with one more.
use Rattle.std.proofs.Common.{ℕ, ◌+◌, ◌<◌, Bool, List, length, get_or, Option, None, Some, nat_lt, sym, ◌∙◌, ap, subst}
use Rattle.std.proofs.Common.{inl, inr, arith}
use Rattle.std.specs.List.{AllPairs}
use Rattle.std.proofs.lemmas.Bool.{cases_Bool, cases_eq, cases_order, ltb-true, ltb-false}
use Rattle.std.proofs.lemmas.List.{get_or_default}
use Rattle.plan_core.specs.declared.profiles.Edge.{Edge}
use Rattle.plan_core.specs.Graphs.{EndsBefore}
use Rattle.grouping.specs.Greedy.{IsHeavier}
use Rattle.grouping.specs.Choosing.{IsIdleEdge, IsHeaviest, FindsHeaviest, heavier_of}

module _ (edges : List Edge) (busy : List Bool) (n : ℕ) (e0 : Edge) (here : n < length edges) where
  pub heaviest_skip : (best : Option Edge) → (IsIdleEdge busy (get_or edges n e0) → ⊥) → IsHeaviest edges busy n best →
      IsHeaviest edges busy (n + 1) best
  heaviest_skip None taken is = λ i d h idle. elim (cases_eq i n) [
    | inl same ↦ absurd (taken (subst (IsIdleEdge busy) (ap (λ k. get_or edges k d) same
        ∙ get_or_default edges n d e0 here) idle))
    | inr other ↦ is i d (omega (arith, h, other)) idle
  ]
  heaviest_skip (Some best) taken is = (
    is.0,
    (
      omega (arith, is.1.0),
      is.1.1,
      is.1.2,
      λ i d h ne idle. elim (cases_eq i n) [
        | inl same ↦ absurd (taken (subst (IsIdleEdge busy) (ap (λ k. get_or edges k d) same
            ∙ get_or_default edges n d e0 here) idle))
        | inr other ↦ is.1.3 i d (omega (arith, h, other)) ne idle
      ],
    ),
  )

  pub heaviest_more : (best : Option Edge) → IsIdleEdge busy (get_or edges n e0) → AllPairs EndsBefore edges →
      IsHeaviest edges busy n best → IsHeaviest edges busy (n + 1) (heavier_of best (get_or edges n e0))
  heaviest_more None idle ascending is = (
    n,
    (
      omega arith,
      get_or_default edges n (get_or edges n e0) e0 here,
      idle,
      λ i d h ne p. absurd (is i d (omega (arith, h, ne)) p),
    ),
  )
  heaviest_more (Some best) idle ascending is = let f = get_or edges n e0 in
      let k = is.0 in
      let front : k < n = is.1.0 in
      let there : k < length edges = omega arith in
      elim (cases_Bool (nat_lt best.weight f.weight)) [
        | inl lighter ↦ let less = ltb-true best.weight f.weight lighter in
            rw lighter (
              n,
              (
                omega arith,
                get_or_default edges n f e0 here,
                idle,
                λ i d h ne p. elim (cases_eq i k) [
                  | inl same ↦
                      let e = ap (λ (x : Edge). x.weight) (ap (λ j. get_or edges j d) same
                      ∙ get_or_default edges k d best there ∙ is.1.1) in
                      inl (omega (arith, e, less))
                  | inr other ↦ elim (is.1.3 i d (omega (arith, h, ne)) other p) [
                    | inl less_yet ↦ inl (omega (arith, less_yet, less))
                    | inr equal ↦ inl (omega (arith, equal.0, less))
                  ]
                ],
              ),
            )
        | inr heavier ↦ let most = ltb-false best.weight f.weight heavier in
            rw heavier (
              k,
              (
                omega arith,
                is.1.1,
                is.1.2,
                λ i d h ne p. elim (cases_eq i n) [
                  | inl same ↦
                      let at = ap (λ j. get_or edges j d) same ∙ get_or_default edges n d e0 here in
                      let e = ap (λ (x : Edge). x.weight) at in
                      let before = subst (λ x. EndsBefore x (get_or edges n d))
                      (get_or_default edges k d best there ∙ is.1.1)
                      (ascending k n d front here) in
                      let before_here = subst (EndsBefore best) (sym (ap (λ j. get_or edges j d) same)) before in
                      elim (cases_order f.weight best.weight) [
                        | inl equal ↦ inr (e ∙ equal, before_here)
                        | inr unequal ↦ elim unequal [
                          | inl below ↦ inl (omega (arith, e, below))
                          | inr above ↦ absurd (omega (arith, above, most))
                        ]
                      ]
                  | inr other ↦ is.1.3 i d (omega (arith, h, other)) ne p
                ],
              ),
            )
      ]

pub heaviest_found : (edges : List Edge) (busy : List Bool) (best : Option Edge)
    → IsHeaviest edges busy (length edges) best →
    FindsHeaviest edges busy best
heaviest_found edges busy None is = λ e there idle. is there.0 e there.1 (subst (IsIdleEdge busy) (sym there.2) idle)
heaviest_found edges busy (Some e) is = (
  (is.0, is.1.0, is.1.1),
  is.1.2,
  λ f there idle ne. elim (cases_eq there.0 is.0) [
    | inl same ↦ absurd (ne (sym there.2 ∙ ap (λ j. get_or edges j f) same ∙ get_or_default edges is.0 f e is.1.0
        ∙ is.1.1))
    | inr other ↦ subst (IsHeavier e) there.2
        (is.1.3 there.0 f there.1 other (subst (IsIdleEdge busy) (sym there.2) idle))
  ],
)
