-- The words of the listing decode to its instructions: for the two lines in which the number stands by the laws of
-- words, for the others by computing.
use Rattle.std.proofs.Common.{◌≡◌, ℕ, ◌^◌, ◌<◌, List, [], ◌∷◌, ◌++◌, map, Some, refl, arith}
use Rattle.rv_isa.specs.declared.Op.TheVariants.{Add}
use Rattle.rv_isa.specs.declared.Instr.{Instr}
use Rattle.rv_isa.specs.declared.Instr.TheVariants.{Lui, OpImm}
use Rattle.rv_isa.specs.Split.{upper_part}
use Rattle.rv_isa.specs.Table.{decoded, read_by, table}
use Rattle.rv_isa.specs.Encoded.{encoded, IsFormed}
use Rattle.rv_build.specs.Assembly.{x0, ra, s0, s1, s2, below_zero, addi, bne, jal, placed}
use Rattle.rv_build.specs.Generated.{adding, allocating, instructions, left, lower_part, prepending, right}

-- the lines in which the number doesn't stand
abbrev other_lines : List (ℕ → Instr)
other_lines =
    (addi s0 x0 0 ∷ addi s1 x0 0 ∷ jal ra left ∷ jal ra right ∷ addi s2 s2 (below_zero 1) ∷ bne s2 x0 0x10110 ∷ [])
    ++ adding ++ prepending s0 ++ prepending s1 ++ allocating

abbrev others : List Instr
others = placed 0x10108 other_lines

others_decoded : map decoded (map encoded others) ≡ map Some others
unfolding decoded read_by table encoded
others_decoded = refl

abbrev upper_line : ℕ → Instr
upper_line n = Lui s2 (upper_part n)

abbrev lower_line : ℕ → Instr
lower_line n = OpImm Add s2 s2 (lower_part n)

upper_formed : (n : ℕ) → IsFormed (upper_line n)
upper_formed n = (omega arith, omega arith, omega arith)

lower_formed : (n : ℕ) → n < 2 ^ 32 → IsFormed (lower_line n)
lower_formed n l = (omega arith, omega arith, record { word = omega arith; sign = omega arith })

split_off : (n : ℕ) → instructions n ≡ upper_line n ∷ lower_line n ∷ others
unfolding instructions
split_off n = refl

pub all_decoded : ((i : Instr) → IsFormed i → decoded (encoded i) ≡ Some i) → (n : ℕ) → n < 2 ^ 32
    → map decoded (map encoded (instructions n)) ≡ map Some (instructions n)
all_decoded decodes n l =
    let first : decoded (encoded (upper_line n)) ≡ Some (upper_line n) = decodes (upper_line n) (upper_formed n) in
    let second : decoded (encoded (lower_line n)) ≡ Some (lower_line n) = decodes (lower_line n) (lower_formed n l) in
    rw (split_off n) (rw (first, second, others_decoded) refl)
