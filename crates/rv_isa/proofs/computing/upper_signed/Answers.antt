-- Widened to 64 bits, two signed words and their product are the numbers themselves.
use Rattle.std.proofs.Common.{◌≡◌, ℤ, ◌*ℤ◌, ◌≤◌, ◌<◌, ◌^◌, lit<, pos, negsuc, unsigned_abs, ◌/◌, to_z, of_z, w32, w64}
use Rattle.std.proofs.Common.{ap, ◌∙◌, arith, rules, FitsSigned}
use Rattle.std.proofs.lemmas.Int.{to_z-of_z, fits_signed_mul}
use Rattle.rv_isa.specs.Compute.{computed}
use Rattle.rv_isa.proofs.computing.upper_signed.Goals as goal

widened : (x : ℤ) → FitsSigned w32 x → to_z w64 (of_z w64 (to_z w32 (of_z w32 x))) ≡ x
widened x f = let g : FitsSigned w64 x = search rules in ap (λ z. to_z w64 (of_z w64 z)) (to_z-of_z w32 x f)
    ∙ to_z-of_z w64 x g

at_most : (x : ℤ) → FitsSigned w32 x → unsigned_abs x ≤ 2 ^ 31
at_most (pos n) f = let h : n < 2 ^ 31 = f.sfits in omega arith
at_most (negsuc n) f = let h : n < 2 ^ 31 = f.sfits in omega arith

product :
    (x y : ℤ) → FitsSigned w32 x → FitsSigned w32 y →
    of_z w64 (to_z w64 (of_z w64 (to_z w64 (of_z w64 (to_z w32 (of_z w32 x))) *ℤ to_z w64
    (of_z w64 (to_z w32 (of_z w32 y))))))
    ≡ of_z w64 (x *ℤ y)
product x y f g =
    let fits : FitsSigned w64 (x *ℤ y) =
    fits_signed_mul w64 x y (2 ^ 31) (2 ^ 31) (at_most x f) (at_most y g) (lit< tt) in
    rw (widened x f, widened y g) (ap (of_z w64) (to_z-of_z w64 (x *ℤ y) fits))

same_product : (x y x' y' : ℤ) → x ≡ x' → y ≡ y' → of_z w64 (x *ℤ y) ≡ of_z w64 (x' *ℤ y')
same_product x y x' y' e f = cc

pub returns : goal.returns
unfolding computed
returns c =
    ap (λ n. n / 2 ^ 32)
    (c.cast_unsigned.ensures ∙ product c.cast_signed.result c.cast_signed-2.result (search rules) (search rules)
    ∙ same_product _ _ _ _ c.cast_signed.ensures c.cast_signed-2.ensures)
