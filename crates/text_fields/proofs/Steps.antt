-- Steps of a reader that are known to have found something.
use Rattle.std.proofs.Common.{◌≡◌, ◌&&◌, Bool, true, false, refl, Option, Some}
use Rattle.std.proofs.lemmas.Option.{option_and_then_some}
use Rattle.text_fields.specs.Reading.{◌>>=◌}

-- both steps found something, if the two together did
pub bound : {A B P : Type 0} (r : Option A) (f : A → Option B) (y : B) → (r >>= f) ≡ Some y
    → ((x : A) → r ≡ Some x → f x ≡ Some y → P) → P
bound r f y e k = option_and_then_some f r y e k

-- the parts of a test of two
pub and_parts : (a b : Bool) → (a && b) ≡ true → (a ≡ true) × (b ≡ true)
and_parts true b e = (refl, e)
and_parts false b e = absurd cc
