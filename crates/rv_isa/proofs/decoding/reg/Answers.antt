-- With the opcode of operations on registers and another funct7 no row fits, whatever funct3 is.
use Rattle.std.proofs.Common.{◌≡◌, ◌≢◌, ◌/◌, ◌%◌, ◌^◌, ◌<◌, ℕ, false, ◌∙◌, sym, ap, arith}
use Rattle.std.specs.Prelude.{◌==◌, None}
use Rattle.std.proofs.Math.Bool.{and-false}
use Rattle.std.proofs.lemmas.Bool.Decides.{nat_tests}
use Rattle.rv_isa.specs.Table.{table, decoded}
use Rattle.rv_isa.proofs.Fits.{read_fields, decoded_by}
use Rattle.rv_isa.proofs.decoding.reg.Goals as goal

none_fits :
    (f g w : ℕ) → (g == 0) ≡ false → (g == 1) ≡ false → (g == 0x20) ≡ false →
    read_fields table 0x33 f g w ≡ None
unfolding table
none_fits f g w a b c = simp (a, b, c, and-false)

none_decoded :
    (w : ℕ) → w < 2 ^ 32 → w % 2 ^ 7 ≡ 0x33 → w / 2 ^ 25 ≢ 0 → w / 2 ^ 25 ≢ 1 → w / 2 ^ 25 ≢ 0x20 →
    None ≡ decoded w
none_decoded w m o a b c =
    let f : ℕ = w / 2 ^ 12 % 2 ^ 3 in
    let g : ℕ = w / 2 ^ 25 in
    let none : read_fields table 0x33 f g w ≡ None =
    none_fits f g w (grind (arith, nat_tests)) (grind (arith, nat_tests)) (grind (arith, nat_tests)) in
    sym (decoded_by w m ∙ ap (λ v. read_fields table v f g w) o ∙ none)

pub returns-in_default : goal.returns-in_default
returns-in_default c =
    none_decoded c.args.word (omega arith) c.requires (omega arith) (omega arith) (omega arith)
