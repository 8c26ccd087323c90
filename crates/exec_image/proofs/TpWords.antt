-- Where no code word names x4.
use Rattle.std.proofs.Common.{◌≡◌, ◌≢◌, ℕ, ◌+◌, ◌%◌, ◌<◌, ◌≤◌, true, false, List, refl, sym, ◌∙◌, inl, inr, arith}
use Rattle.std.proofs.Common.{subst, None, is_some}
use Rattle.std.proofs.lemmas.Bool.{cases_lt}
use Rattle.elf_spec.specs.Code.{code_place, code_word}
use Rattle.elf_spec.specs.Fields.{word_at}
use Rattle.exec_image.specs.Checks.{uses_tp_at}
use Rattle.exec_image.proofs.NextWords.{aligned, no_word, odd_place, same_some}

no_use : (file : List ℕ) (a : ℕ) → code_word file a ≡ None → uses_tp_at file a ≡ false
unfolding uses_tp_at
no_use file a h = rw h refl

odd_use : (file : List ℕ) (a : ℕ) → a % 4 ≢ 0 → uses_tp_at file a ≡ false
odd_use file a h = no_use file a (no_word file a (odd_place file a h))

-- from one code word to the next
pub next_use : (file : List ℕ) (from a : ℕ) → ((b : ℕ) → b < from → uses_tp_at file b ≡ false)
    → ((b : ℕ) → from ≤ b → b < a → code_word file b ≡ None) → (b : ℕ) → b < a → uses_tp_at file b ≡ false
next_use file from a before gap b l = elim (cases_lt b from) [
  | inl k ↦ before b k
  | inr k ↦ no_use file b (gap b k l)
]

pub behind_use : (file : List ℕ) (from a : ℕ) → ((b : ℕ) → b < from → uses_tp_at file b ≡ false)
    → ((b : ℕ) → from ≤ b → b < a → code_word file b ≡ None) → is_some (code_word file a) ≡ true
    → uses_tp_at file a ≡ false
    → (b : ℕ) → b < a + 4 → uses_tp_at file b ≡ false
behind_use file from a before gap word here b l =
    let m : a % 4 ≡ 0 = aligned file a (sym (same_some (word_at file) (code_place file a)) ∙ word) in
    elim (cases_lt b a) [
      | inl k ↦ next_use file from a before gap b k
      | inr k ↦ elim (cases_lt a b) [
        | inl j ↦ odd_use file b (λ z. omega (arith, j, l, m, z))
        | inr j ↦ let e : a ≡ b = omega (arith, k, j) in subst (λ x. uses_tp_at file x ≡ false) e here
      ]
    ]
