-- Registers by their numbers.
use Rattle.std.proofs.Common.{◌≡◌, ℕ, zero, suc, ◌<◌, ◌==◌, Bool, true, false, List, [], ◌∷◌, length, refl, arith}
use Rattle.std.specs.Prelude.{slice_index_or, nat_eq}
use Rattle.sym_value.specs.declared.Value.{Value}
use Rattle.sym_value.specs.declared.Value.TheVariants.{Num, Unset}
use Rattle.sym_spec.specs.SymMachine.{value_read}

-- an element of a list, whatever is read behind its end
inside : (xs : List Value) (r : ℕ) (v w : Value) → r < length xs → slice_index_or xs r v ≡ slice_index_or xs r w
inside [] r v w l = absurd (omega arith)
inside (x ∷ xs) zero v w l = refl
inside (x ∷ xs) (suc r) v w l = inside xs r v w (omega arith)

at_test : (xs : List Value) (r : ℕ) (b : Bool) → (r == 0) ≡ b → b ≡ false → r < length xs
    → slice_index_or xs r (Num 0) ≡ value_read xs r
at_test xs r true e f l = absurd (cc)
at_test xs r false e f l = rw e (inside xs r (Num 0) Unset l)

pub value_at : (xs : List Value) (r : ℕ) → nat_eq r 0 ≡ false → r < 32 → length xs ≡ 32
    → slice_index_or xs r (Num 0) ≡ value_read xs r
value_at xs r e l n = at_test xs r (r == 0) refl e (omega (arith, l, n))
