-- The first refusal of some checks, and the first number or item that is refused.
use Rattle.std.specs.Prelude.{ℕ, zero, suc, ◌+◌, Bool, List, [], ◌∷◌, Option, Some, None, if◌then◌else◌}
use Rattle.std.specs.Option.{option_or}

-- the first refusal of two
infixr 5 ◌or_else◌
abbrev pub ◌or_else◌ : {A : Type 0} → Option A → Option A → Option A
None or_else q = q
(Some why) or_else q = Some why

-- a refusal where a test passes
abbrev pub when : {A : Type 0} → Bool → A → Option A
when b why = if b then Some why else None

-- the least number below n that passes
abbrev pub first_below : (ℕ → Bool) → ℕ → Option ℕ
first_below p zero = None
first_below p (suc n) = option_or (first_below p n) (if p n then Some n else None)

-- the first refusal of numbers below n
abbrev pub first_of : {A : Type 0} → (ℕ → Option A) → ℕ → Option A
first_of refusal_at zero = None
first_of refusal_at (suc n) = first_of refusal_at n or_else refusal_at n

-- the first refusal of items, the first of which has this index
abbrev pub first_from : {X A : Type 0} → (ℕ → X → Option A) → ℕ → List X → Option A
first_from refusal_of i [] = None
first_from refusal_of i (x ∷ xs) = refusal_of i x or_else first_from refusal_of (i + 1) xs

-- the first refusal of an item of a list, each told by its index and itself
abbrev pub first_item : {X A : Type 0} → (ℕ → X → Option A) → List X → Option A
first_item refusal_of items = first_from refusal_of 0 items
