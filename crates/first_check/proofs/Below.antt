-- The least number below a bound that passes a test.
use Rattle.std.proofs.Common.{◌≡◌, ℕ, zero, suc, ◌+◌, ◌<◌, Bool, true, false, refl, ap, sym, ◌∙◌, inl, inr, arith}
use Rattle.std.proofs.Common.{Option, Some, None, add-one}
use Rattle.std.proofs.lemmas.Bool.{cases_lt}
use Rattle.first_check.specs.First.{first_below}

pub below_more : (p : ℕ → Bool) (i : ℕ) → first_below p i ≡ None → p i ≡ false → first_below p (i + 1) ≡ None
below_more p i none h = rw (add-one, none, h) refl

pub below_hit : (p : ℕ → Bool) (i n : ℕ) → first_below p i ≡ None → p i ≡ true → i < n → first_below p n ≡ Some i
below_hit p i zero none h l = absurd (omega arith)
below_hit p i (suc n) none h l = elim (cases_lt i n) [
  | inl k ↦ let r : first_below p n ≡ Some i = below_hit p i n none h k in rw r refl
  | inr k ↦ let e : n ≡ i = omega arith in rw (e, none, h) refl
]

last_below : (p : ℕ → Bool) (n i : ℕ) (o : Option ℕ) (b : Bool) → first_below p n ≡ o → p n ≡ b
    → first_below p (suc n) ≡ None → i < suc n
    → (first_below p n ≡ None → i < n → p i ≡ false) → p i ≡ false
last_below p n i (Some k) b e f h l ih = absurd (let q : Some k ≡ None = rw e at h in cc)
last_below p n i None true e f h l ih = absurd (let q : Some n ≡ None = rw (e, f) at h in cc)
last_below p n i None false e f h l ih = elim (cases_lt i n) [
  | inl k ↦ ih e k
  | inr k ↦ let q : i ≡ n = omega arith in ap p q ∙ f
]

pub below_none : (p : ℕ → Bool) (n : ℕ) → first_below p n ≡ None → (i : ℕ) → i < n → p i ≡ false
below_none p zero h i l = absurd (omega arith)
below_none p (suc n) h i l = last_below p n i (first_below p n) (p n) refl refl h l (λ e k. below_none p n e i k)

pub below_all : (p : ℕ → Bool) (n : ℕ) → ((k : ℕ) → k < n → p k ≡ false) → first_below p n ≡ None
below_all p zero h = refl
below_all p (suc n) h = rw (below_all p n (λ k l. h k (omega arith)), h n (omega arith)) refl

-- the number found is below the bound and passes, and none before it does
abbrev pub IsFirst : (ℕ → Bool) → ℕ → ℕ → Type 0
IsFirst p n i = (i < n) × (p i ≡ true) × ((k : ℕ) → k < i → p k ≡ false)

some_below : (p : ℕ → Bool) (n i : ℕ) (o : Option ℕ) (b : Bool) → first_below p n ≡ o → p n ≡ b
    → first_below p (suc n) ≡ Some i
    → (first_below p n ≡ Some i → IsFirst p n i) → IsFirst p (suc n) i
some_below p n i (Some k) b e f h ih =
    let q : Some k ≡ Some i = rw e at h in
    let is : first_below p n ≡ Some i = e ∙ q in
    let first = ih is in
    (omega (arith, first.0), first.1, first.2)
some_below p n i None true e f h ih =
    let q : Some n ≡ Some i = rw (e, f) at h in
    let same : n ≡ i = cc in
    (omega arith, ap p (sym same) ∙ f, λ k l. below_none p n e k (omega arith))
some_below p n i None false e f h ih = absurd (let q : None ≡ Some i = rw (e, f) at h in cc)

pub below_some : (p : ℕ → Bool) (n i : ℕ) → first_below p n ≡ Some i → IsFirst p n i
below_some p zero i h = absurd (cc)
below_some p (suc n) i h = some_below p n i (first_below p n) (p n) refl refl h (below_some p n i)
