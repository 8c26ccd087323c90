-- Records read one after the other: how many there are, and what holds of each.
use Rattle.std.proofs.Common.{◌≡◌, ℕ, zero, suc, ◌+◌, ◌*◌, ◌<◌, [], ◌∷◌, ◌++◌, length, get_or, refl, sym, ap, ◌∙◌}
use Rattle.std.proofs.Common.{subst, inl, inr, arith, length-append, add-one}
use Rattle.std.proofs.Math.ListN.{get_or-append}
use Rattle.std.proofs.Math.Seq.{get_or-append_seam}
use Rattle.std.proofs.lemmas.Bool.{cases_lt}
use Rattle.std.specs.List.{All}
use Rattle.elf_spec.specs.Records.{entries}

pub length-entries : {A : Type 0} (f : ℕ → A) (size at n : ℕ) → length (entries f size at n) ≡ n
length-entries f size at zero = refl
length-entries f size at (suc n) =
    length-append (entries f size at n) (f (at + size * n) ∷ []) ∙ ap (λ k. k + 1) (length-entries f size at n)
    ∙ add-one n

get_or-entries : {A : Type 0} (f : ℕ → A) (size at n k : ℕ) (d : A) → k < n
    → get_or (entries f size at n) k d ≡ f (at + size * k)
get_or-entries f size at zero k d h = absurd (omega arith)
get_or-entries f size at (suc n) k d h = elim (cases_lt k n) [
  | inl l ↦ get_or-append (entries f size at n) (f (at + size * n) ∷ []) d k (omega (arith, length-entries f size at n))
      ∙ get_or-entries f size at n k d l
  | inr g ↦
      let e : k ≡ n = omega arith in
      let s : get_or (entries f size at n ++ f (at + size * n) ∷ []) (length (entries f size at n)) d
      ≡ f (at + size * n) =
      get_or-append_seam (entries f size at n) (f (at + size * n)) [] d in
      let r : get_or (entries f size at n ++ f (at + size * n) ∷ []) n d ≡ f (at + size * n) =
      rw (length-entries f size at n) at s in
      rw e r
]

-- what holds at each offset holds of all records
pub all_entries : {A : Type 0} (P : A → Type 0) (f : ℕ → A) (size at n : ℕ) → ((k : ℕ) → k < n → P (f (at + size * k)))
    → All P (entries f size at n)
all_entries P f size at n h = λ k d l.
    let i : k < n = omega (arith, length-entries f size at n, l) in
    subst P (sym (get_or-entries f size at n k d i)) (h k i)
