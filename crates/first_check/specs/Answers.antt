-- What a call says of the first refusal.
use Rattle.std.specs.Prelude.{◌≡◌, ◌⊎◌, Option, Some, None, Result, Ok, Err}

-- a call gives this value where no check refuses, and else the first refusal; memory may lack
abbrev pub GivesOrRefuses : {A E : Type 0} → (memory : E) → Result A E → Option E → A → Type 0
GivesOrRefuses memory (Ok x) first value = (first ≡ None) × (x ≡ value)
GivesOrRefuses memory (Err why) first value = (first ≡ Some why) ⊎ (why ≡ memory)

-- a check says no more than whether, and why, it refuses
abbrev pub Says : {A : Type 0} → Result (Unit {0}) A → Option A → Type 0
Says (Ok x) o = o ≡ None
Says (Err why) o = o ≡ Some why

-- so does one that takes memory, but memory may lack
abbrev pub MaySay : {A : Type 0} → (memory : A) → Result (Unit {0}) A → Option A → Type 0
MaySay memory (Ok x) o = o ≡ None
MaySay memory (Err why) o = (o ≡ Some why) ⊎ (why ≡ memory)
