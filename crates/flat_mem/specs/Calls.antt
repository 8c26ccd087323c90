-- What a call that stores answers: whether it was done, and then the memory after it.
use Rattle.std.specs.Prelude.{◌≡◌, List, Bool, true, false, Option, Some, None}
use Rattle.machine_spec.specs.Memory.{Range}

-- true and the memory that a store gives, or false and the memory as it was
abbrev pub Stores : Bool → Option (List Range) → List Range → List Range → Type 0
Stores true after old new = after ≡ Some new
Stores false after old new = (after ≡ None) × (new ≡ old)
