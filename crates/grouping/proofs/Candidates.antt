-- The best of the candidates seen so far, with one more.
use Rattle.std.proofs.Common.{ℕ, ℤ, pos, ◌+◌, Option, None, Some, MatchOption, sym, subst, inl, inr, arith}
use lib.Signed.{◌≤ℤ◌, le_z, lt_z}
use Rattle.std.proofs.lemmas.Bool.{cases_Bool, cases_eq}
use Rattle.std.proofs.lemmas.Int.{ints}
use Rattle.grouping.specs.declared.choice.Choice.{Choice}
use Rattle.grouping.specs.Choosing.{IsBest, IsChosen, NoneAbove, better_of, if_above_zero}

module _ (says : ℕ → ℤ → Type 0) (outside : ℕ → Type 0) where
  pub best_start : IsBest says outside 0 None
  best_start = λ y h o. absurd (omega (arith, h))

  pub best_skip : (n : ℕ) (best : Option Choice) → (outside n → ⊥) → IsBest says outside n best →
      IsBest says outside (n + 1) best
  best_skip n None busy is = λ y h o.
      elim (cases_eq y n) [
        | inl same ↦ absurd (busy (subst outside same o))
        | inr other ↦ is y (omega (arith, h, other))
            o
      ]
  best_skip n (Some best) busy is = (
    omega (arith, is.0),
    is.1,
    is.2,
    λ y h o ne.
        elim (cases_eq y n) [
          | inl same ↦ absurd (busy (subst outside same o))
          | inr other ↦ is.3 y
              (omega (arith, h, other)) o ne
        ],
  )

  pub best_more : (n : ℕ) (best : Option Choice) (answer : ℤ) → outside n → says n answer → IsBest says outside n best →
      IsBest says outside (n + 1) (better_of best record { context = n; answer = answer })
  best_more n None answer o s is = (omega arith, o, s, λ y h p ne. absurd (is y (omega (arith, h, ne)) p))
  best_more n (Some best) answer o s is = elim (cases_Bool (le_z answer best.answer)) [
    | inl low ↦ rw low (
      omega (arith, is.0),
      is.1,
      is.2,
      λ y h p ne.
          elim (cases_eq y n) [
            | inl same ↦ (
              answer,
              subst (λ z. says z answer) (sym same) s,
              grind (arith, ints),
              λ before. absurd
                  (omega (arith, before, same, is.0)),
            )
            | inr other ↦ is.3 y (omega (arith, h, other)) p ne
          ],
    )
    | inr high ↦ rw high (
      omega arith,
      o,
      s,
      λ y h p ne.
          elim (cases_eq y best.context) [
            | inl same ↦ (
              best.answer,
              subst (λ z. says z best.answer) (sym same) is.2,
              grind (arith, ints),
              λ before.
                  grind (arith, ints),
            )
            | inr other ↦
                let rest = is.3 y (omega (arith, h, ne)) p other in
                let below : rest.0 ≤ℤ best.answer = rest.2 in
                (rest.0, rest.1, grind (arith, ints), λ before. grind (arith, ints))
          ],
    )
  ]

  pub best_done : (n : ℕ) (best : Option Choice) → IsBest says outside n best →
      MatchOption (if_above_zero best) (NoneAbove says outside n) (IsChosen says outside n)
  best_done n None is = λ y h o. absurd (is y h o)
  best_done n (Some best) is = elim (cases_Bool (lt_z (pos 0) best.answer)) [
    | inl above ↦ rw above (best.answer, record { lt = rw above tt }, is)
    | inr none ↦ rw none (λ y h o.
        elim (cases_eq y best.context) [
          | inl same ↦ (best.answer, subst (λ z. says z best.answer) (sym same) is.2, grind (arith, ints))
          | inr other ↦ let rest = is.3 y h o other in
              let below : rest.0 ≤ℤ best.answer = rest.2 in (rest.0, rest.1, grind (arith, ints))
        ])
  ]
