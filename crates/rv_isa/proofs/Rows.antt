-- Each row's words: the instruction that is read is formed, and its word is the word that was read.
use Rattle.std.proofs.Common.{◌≡◌, ℕ, ◌+◌, ◌*◌, ◌/◌, ◌%◌, ◌^◌, ◌<◌, Bool, true, false, List, [], ◌∷◌, refl, subst}
use Rattle.std.proofs.Common.{arith}
use Rattle.std.specs.Prelude.{if◌then◌else◌, Option, Some}
use Rattle.std.proofs.lemmas.Bool.Decides.{nat_tests}
use Rattle.rv_isa.specs.declared.Instr.{Instr}
use Rattle.rv_isa.specs.Words.{bits_at, rd, rs1, rs2, imm_i, imm_s, imm_b, imm_u, imm_j}
use Rattle.rv_isa.specs.Table.{Shape, Opcode, Funct3, Funct7, Whole, Row, table, decoded}
use Rattle.rv_isa.specs.Encoded.{encoded, IsFormed, IsExtended}
use Rattle.rv_isa.proofs.Fits.{field_test, read_fields, decoded_by}
use Rattle.rv_isa.proofs.Extended.{extended_13, extended_21, is_extended_12, is_extended_13, is_extended_21}
use Rattle.rv_isa.proofs.Forms.{r_again, i_again, s_again, b_again, u_again, j_again}

-- the word is that of the instruction, which is formed
pub record Reads (i : Instr) (w : ℕ) : Type 0 where
  pub word : encoded i ≡ w
  pub formed : IsFormed i

-- the fields of the word are the row's
abbrev pub Has : Shape → ℕ → Type 0
Has (Opcode o) w = w % 2 ^ 7 ≡ o
Has (Funct3 o f) w = (w % 2 ^ 7 ≡ o) × (w / 2 ^ 12 % 2 ^ 3 ≡ f)
Has (Funct7 o f g) w = (w % 2 ^ 7 ≡ o) × (w / 2 ^ 12 % 2 ^ 3 ≡ f) × (w / 2 ^ 25 ≡ g)
Has (Whole x) w = w ≡ x

has_fields : (s : Shape) (w : ℕ) → field_test s (w % 2 ^ 7) (w / 2 ^ 12 % 2 ^ 3) (w / 2 ^ 25) w ≡ true → Has s w
has_fields (Opcode o) w t = grind (arith, nat_tests)
has_fields (Funct3 o f) w t = (grind (arith, nat_tests), grind (arith, nat_tests))
has_fields (Funct7 o f g) w t = (grind (arith, nat_tests), grind (arith, nat_tests), grind (arith, nat_tests))
has_fields (Whole x) w t = grind (arith, nat_tests)

-- so at each word of each of these rows
abbrev pub AllRead : List Row → Type 0
AllRead [] = Unit {0}
AllRead (row ∷ rows) = ((w : ℕ) → w < 2 ^ 32 → Has row.shape w → Reads (row.read w) w) × AllRead rows

first_or_later :
    (b : Bool) (x : Instr) (rest : Option Instr) (i : Instr) (w : ℕ) → (b ≡ true → Reads x w) →
    (rest ≡ Some i → Reads i w) → (if b then Some x else rest) ≡ Some i → Reads i w
first_or_later true x rest i w here later e = let same : x ≡ i = cc in subst (λ v. Reads v w) same (here refl)
first_or_later false x rest i w here later e = later e

pub reads_among :
    (rows : List Row) (w : ℕ) → w < 2 ^ 32 → AllRead rows → (i : Instr) →
    read_fields rows (w % 2 ^ 7) (w / 2 ^ 12 % 2 ^ 3) (w / 2 ^ 25) w ≡ Some i → Reads i w
reads_among [] w m all i e = absurd (cc)
reads_among (row ∷ rows) w m all i e =
    first_or_later (field_test row.shape (w % 2 ^ 7) (w / 2 ^ 12 % 2 ^ 3) (w / 2 ^ 25) w) (row.read w)
    (read_fields rows (w % 2 ^ 7) (w / 2 ^ 12 % 2 ^ 3) (w / 2 ^ 25) w) i w
    (λ t. all.0 w m (has_fields row.shape w t))
    (λ r. reads_among rows w m all.1 i r)
    e

-- the ranges of the fields of a word, by format
r_ranges : (w : ℕ) → (rd w < 32) × (rs1 w < 32) × (rs2 w < 32)
r_ranges w = omega arith

i_ranges : (w : ℕ) → w < 2 ^ 32 → (rd w < 32) × (rs1 w < 32) × IsExtended 12 (imm_i w)
i_ranges w m = (omega arith, omega arith, is_extended_12 (w / 2 ^ 20) (omega arith))

s_ranges : (w : ℕ) → w < 2 ^ 32 → (Unit {0}) × (rs1 w < 32) × (rs2 w < 32) × IsExtended 12 (imm_s w)
s_ranges w m =
    (tt, omega arith, omega arith, is_extended_12 (w / 2 ^ 25 * 2 ^ 5 + bits_at 7 5 w) (omega arith))

b_ranges :
    (w : ℕ) → w < 2 ^ 32 → (rs1 w < 32) × (rs2 w < 32) × IsExtended 13 (imm_b w) × (imm_b w % 2 ≡ 0)
b_ranges w m =
    let x : ℕ = w / 2 ^ 31 * 2 ^ 12 + bits_at 7 1 w * 2 ^ 11 + bits_at 25 6 w * 2 ^ 5 + bits_at 8 4 w * 2 in
    let s : x < 2 ^ 13 = omega arith in
    let k = extended_13 x s in
    (omega arith, omega arith, is_extended_13 x s, omega (arith, k))

u_ranges : (w : ℕ) → w < 2 ^ 32 → (rd w < 32) × (imm_u w < 2 ^ 32) × (imm_u w % 2 ^ 12 ≡ 0)
u_ranges w m = omega arith

j_ranges : (w : ℕ) → w < 2 ^ 32 → (rd w < 32) × IsExtended 21 (imm_j w) × (imm_j w % 2 ≡ 0)
j_ranges w m =
    let x : ℕ = w / 2 ^ 31 * 2 ^ 20 + bits_at 12 8 w * 2 ^ 12 + bits_at 20 1 w * 2 ^ 11 + bits_at 21 10 w * 2 in
    let s : x < 2 ^ 21 = omega arith in
    let k = extended_21 x s in
    (omega arith, is_extended_21 x s, omega (arith, k))

-- the rows of the table, in its order
all_read : AllRead table
unfolding table encoded
all_read = (
  λ w m h. record { word = u_again 0x37 w m h; formed = u_ranges w m },
  (
    λ w m h. record { word = u_again 0x17 w m h; formed = u_ranges w m },
    (
      λ w m h. record { word = j_again 0x6f w m h; formed = j_ranges w m },
      (
        λ w m h. record { word = i_again 0x67 0 w m h.0 h.1; formed = i_ranges w m },
        (
          λ w m h. record { word = b_again 0x63 0 w m h.0 h.1; formed = b_ranges w m },
          (
            λ w m h. record { word = b_again 0x63 1 w m h.0 h.1; formed = b_ranges w m },
            (
              λ w m h. record { word = b_again 0x63 4 w m h.0 h.1; formed = b_ranges w m },
              (
                λ w m h. record { word = b_again 0x63 5 w m h.0 h.1; formed = b_ranges w m },
                (
                  λ w m h. record { word = b_again 0x63 6 w m h.0 h.1; formed = b_ranges w m },
                  (
                    λ w m h. record { word = b_again 0x63 7 w m h.0 h.1; formed = b_ranges w m },
                    (
                      λ w m h. record { word = i_again 0x03 0 w m h.0 h.1; formed = i_ranges w m },
                      (
                        λ w m h. record { word = i_again 0x03 1 w m h.0 h.1; formed = i_ranges w m },
                        (
                          λ w m h. record { word = i_again 0x03 2 w m h.0 h.1; formed = i_ranges w m },
                          (
                            λ w m h. record { word = i_again 0x03 4 w m h.0 h.1; formed = i_ranges w m },
                            (
                              λ w m h. record { word = i_again 0x03 5 w m h.0 h.1; formed = i_ranges w m },
                              (
                                λ w m h. record { word = s_again 0x23 0 w m h.0 h.1; formed = s_ranges w m },
                                (
                                  λ w m h. record { word = s_again 0x23 1 w m h.0 h.1; formed = s_ranges w m },
                                  (
                                    λ w m h. record { word = s_again 0x23 2 w m h.0 h.1; formed = s_ranges w m },
                                    (
                                      λ w m h. record { word = i_again 0x13 0 w m h.0 h.1; formed = i_ranges w m },
                                      (
                                        λ w m h. record { word = i_again 0x13 2 w m h.0 h.1; formed = i_ranges w m },
                                        (
                                          λ w m h. record { word = i_again 0x13 3 w m h.0 h.1; formed = i_ranges w m },
                                          (
                                            λ w m h. record {
                                              word = i_again 0x13 4 w m h.0 h.1;
                                              formed =
                                                  i_ranges w m;
                                            },
                                            (
                                              λ w m h. record
                                                  { word = i_again 0x13 6 w m h.0 h.1; formed = i_ranges w m },
                                              (
                                                λ w m h. record
                                                    { word = i_again 0x13 7 w m h.0 h.1; formed = i_ranges w m },
                                                (
                                                  λ w m h. record {
                                                    word = r_again 0x13 1 0x0 w m h.0 h.1 h.2;
                                                    formed =
                                                        r_ranges w;
                                                  },
                                                  (
                                                    λ w m h. record {
                                                      word = r_again 0x13 5 0x0 w m h.0 h.1 h.2;
                                                      formed =
                                                          r_ranges w;
                                                    },
                                                    (
                                                      λ w m h. record {
                                                        word = r_again 0x13 5 0x20 w m h.0 h.1 h.2;
                                                        formed =
                                                            r_ranges w;
                                                      },
                                                      (
                                                        λ w m h. record {
                                                          word = r_again 0x33 0 0x0 w m h.0 h.1 h.2;
                                                          formed =
                                                              r_ranges w;
                                                        },
                                                        (
                                                          λ w m h. record {
                                                            word = r_again 0x33 0 0x20 w m h.0 h.1 h.2;
                                                            formed =
                                                                r_ranges w;
                                                          },
                                                          (
                                                            λ w m h. record {
                                                              word = r_again 0x33 1 0x0 w m h.0 h.1 h.2;
                                                              formed =
                                                                  r_ranges w;
                                                            },
                                                            (
                                                              λ w m h. record {
                                                                word = r_again 0x33 2 0x0 w m h.0 h.1 h.2;
                                                                formed =
                                                                    r_ranges w;
                                                              },
                                                              (
                                                                λ w m h. record {
                                                                  word = r_again 0x33 3 0x0 w m h.0 h.1 h.2;
                                                                  formed = r_ranges w;
                                                                },
                                                                (
                                                                  λ w m h. record {
                                                                    word = r_again 0x33 4 0x0 w m h.0 h.1 h.2;
                                                                    formed = r_ranges w;
                                                                  },
                                                                  (
                                                                    λ w m h. record {
                                                                      word = r_again 0x33 5 0x0 w m h.0 h.1 h.2;
                                                                      formed = r_ranges w;
                                                                    },
                                                                    (
                                                                      λ w m h. record {
                                                                        word = r_again 0x33 5 0x20 w m h.0 h.1 h.2;
                                                                        formed = r_ranges w;
                                                                      },
                                                                      (
                                                                        λ w m h. record {
                                                                          word = r_again 0x33 6 0x0 w m h.0 h.1 h.2;
                                                                          formed = r_ranges w;
                                                                        },
                                                                        (
                                                                          λ w m h. record {
                                                                            word = r_again 0x33 7 0x0 w m h.0 h.1
                                                                                h.2;
                                                                            formed = r_ranges w;
                                                                          },
                                                                          (
                                                                            λ w m h. record {
                                                                              word = omega arith;
                                                                              formed =
                                                                                  omega arith;
                                                                            },
                                                                            (
                                                                              λ w m h. record
                                                                                  { word = omega arith; formed = tt },
                                                                              (
                                                                                λ w m h. record
                                                                                    { word = omega arith; formed = tt },
                                                                                (
                                                                                  λ w m h. record {
                                                                                    word = r_again 0x33 0 0x1 w m
                                                                                        h.0 h.1 h.2;
                                                                                    formed =
                                                                                        r_ranges w;
                                                                                  },
                                                                                  (
                                                                                    λ w m h. record {
                                                                                      word = r_again 0x33 1 0x1 w m
                                                                                          h.0 h.1 h.2;
                                                                                      formed =
                                                                                          r_ranges w;
                                                                                    },
                                                                                    (
                                                                                      λ w m h. record {
                                                                                        word = r_again 0x33 2 0x1 w
                                                                                            m h.0 h.1 h.2;
                                                                                        formed =
                                                                                            r_ranges w;
                                                                                      },
                                                                                      (
                                                                                        λ w m h. record {
                                                                                          word = r_again 0x33 3 0x1
                                                                                              w m h.0 h.1 h.2;
                                                                                          formed =
                                                                                              r_ranges w;
                                                                                        },
                                                                                        (
                                                                                          λ w m h. record {
                                                                                            word = r_again 0x33 4
                                                                                                0x1 w m h.0 h.1 h.2;
                                                                                            formed = r_ranges w;
                                                                                          },
                                                                                          (
                                                                                            λ w m h. record {
                                                                                              word = r_again 0x33 5
                                                                                                  0x1 w m h.0 h.1 h.2;
                                                                                              formed = r_ranges w;
                                                                                            },
                                                                                            (
                                                                                              λ w m h. record {
                                                                                                word = r_again 0x33
                                                                                                    6 0x1 w m
                                                                                                    h.0 h.1 h.2;
                                                                                                formed = r_ranges w;
                                                                                              },
                                                                                              (
                                                                                                λ w m h. record {
                                                                                                  word = r_again
                                                                                                      0x33 7 0x1 w m h.0
                                                                                                      h.1 h.2;
                                                                                                  formed =
                                                                                                      r_ranges w;
                                                                                                },
                                                                                                tt,
                                                                                              ),
                                                                                            ),
                                                                                          ),
                                                                                        ),
                                                                                      ),
                                                                                    ),
                                                                                  ),
                                                                                ),
                                                                              ),
                                                                            ),
                                                                          ),
                                                                        ),
                                                                      ),
                                                                    ),
                                                                  ),
                                                                ),
                                                              ),
                                                            ),
                                                          ),
                                                        ),
                                                      ),
                                                    ),
                                                  ),
                                                ),
                                              ),
                                            ),
                                          ),
                                        ),
                                      ),
                                    ),
                                  ),
                                ),
                              ),
                            ),
                          ),
                        ),
                      ),
                    ),
                  ),
                ),
              ),
            ),
          ),
        ),
      ),
    ),
  ),
)

-- a word that is an instruction is that instruction's word, and the instruction is formed
pub reads_decoded : (w : ℕ) → w < 2 ^ 32 → (i : Instr) → decoded w ≡ Some i → Reads i w
reads_decoded w m i e = reads_among table w m all_read i (rw (decoded_by w m) at e)
