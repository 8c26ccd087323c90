-- What passes where no check refuses.
use Rattle.std.proofs.Common.{◌≡◌, ℕ, zero, suc, ◌<◌, Bool, true, false, refl, inl, inr, arith, Option, Some, None}
use Rattle.std.proofs.lemmas.Bool.{cases_lt}
use Rattle.first_check.specs.First.{◌or_else◌, first_of, when}

-- two checks refuse nothing together exactly where neither does
pub none_both : {A : Type 0} (p q : Option A) → (p or_else q) ≡ None → (p ≡ None) × (q ≡ None)
none_both None q h = (refl, h)
none_both (Some why) q h = absurd (cc)

pub both_none : {A : Type 0} (p q : Option A) → p ≡ None → q ≡ None → (p or_else q) ≡ None
both_none None q h g = g
both_none (Some why) q h g = absurd (cc)

pub not_when : {A : Type 0} (b : Bool) (why : A) → when b why ≡ None → b ≡ false
not_when true why h = absurd (cc)
not_when false why h = refl

pub when_not : {A : Type 0} (b : Bool) (why : A) → b ≡ false → when b why ≡ None
when_not true why h = absurd (cc)
when_not false why h = refl

-- the first refusal of numbers is one that none before refuses
pub first_hit : {A : Type 0} (f : ℕ → Option A) (k n : ℕ) (why : A) → first_of f k ≡ None → f k ≡ Some why → k < n
    → first_of f n ≡ Some why
first_hit f k zero why h e l = absurd (omega arith)
first_hit f k (suc n) why h e l = elim (cases_lt k n) [
  | inl l ↦ rw (first_hit f k n why h e l) refl
  | inr g ↦ let q : n ≡ k = omega arith in rw (q, h) e
]

pub none_first : {A : Type 0} (f : ℕ → Option A) (n : ℕ) → ((k : ℕ) → k < n → f k ≡ None) → first_of f n ≡ None
none_first f zero h = refl
none_first f (suc n) h = rw (none_first f n (λ k l. h k (omega (arith, l))), h n (omega arith)) refl
