-- Results that are known to be Ok.
use Rattle.std.specs.Prelude.{Result, Ok, Err, IsOk, IfOk}

pub of_ok : {T E : Type 0} (r : Result T E) (P : Type 0) → IsOk r → IfOk r (λ x. P) → P
of_ok (Ok x) P is p = p
of_ok (Err e) P is p = absurd cc
