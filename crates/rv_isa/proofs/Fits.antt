-- A word fits a row where its fields are the row's: the table by fields in place of masks.
use Rattle.std.proofs.Common.{◌≡◌, ℕ, ◌+◌, ◌*◌, ◌/◌, ◌%◌, ◌^◌, ◌<◌, Bool, true, List, [], ◌∷◌, refl, ◌∙◌, sym, ap}
use Rattle.std.proofs.Common.{arith}
use Rattle.std.specs.Prelude.{◌==◌, nat_lt, ◌&&◌, if◌then◌else◌, bit_and, Option, None, Some}
use Rattle.std.proofs.lemmas.Nat.{and_mask, and_block, shr_split}
use Rattle.std.proofs.lemmas.Bool.Decides.{nat_tests}
use Rattle.rv_isa.specs.declared.Instr.{Instr}
use Rattle.rv_isa.specs.Table.{Shape, Opcode, Funct3, Funct7, Whole, mask_of, match_of, Row, table, read_by, decoded}

-- the mask of opcode and funct3
low_masked : (w : ℕ) → bit_and w 0x707f ≡ w % 2 ^ 7 + w / 2 ^ 12 % 2 ^ 3 * 2 ^ 12
low_masked w =
    let split : w ≡ w / 2 ^ 12 * 2 ^ 12 + w % 2 ^ 12 = sym (shr_split w 12) in
    let cut : bit_and (w / 2 ^ 12 * 2 ^ 12 + w % 2 ^ 12) (7 * 2 ^ 12 + 0x7f)
    ≡ bit_and (w / 2 ^ 12) 7 * 2 ^ 12 + bit_and (w % 2 ^ 12) 0x7f =
    and_block 12 (w / 2 ^ 12) 7 (w % 2 ^ 12) 0x7f (omega arith) (omega arith) in
    let high : bit_and (w / 2 ^ 12) 7 ≡ w / 2 ^ 12 % 2 ^ 3 = and_mask (w / 2 ^ 12) 3 in
    let low : bit_and (w % 2 ^ 12) 0x7f ≡ w % 2 ^ 12 % 2 ^ 7 = and_mask (w % 2 ^ 12) 7 in
    ap (λ v. bit_and v 0x707f) split ∙ cut ∙ omega (arith, high, low)

-- the mask of opcode, funct3 and funct7
high_masked :
    (w : ℕ) → w < 2 ^ 32 → bit_and w 0xfe00707f ≡ w % 2 ^ 7 + w / 2 ^ 12 % 2 ^ 3 * 2 ^ 12 + w / 2 ^ 25 * 2 ^ 25
high_masked w m =
    let split : w ≡ w / 2 ^ 25 * 2 ^ 25 + w % 2 ^ 25 = sym (shr_split w 25) in
    let cut : bit_and (w / 2 ^ 25 * 2 ^ 25 + w % 2 ^ 25) (127 * 2 ^ 25 + 0x707f)
    ≡ bit_and (w / 2 ^ 25) 127 * 2 ^ 25 + bit_and (w % 2 ^ 25) 0x707f =
    and_block 25 (w / 2 ^ 25) 127 (w % 2 ^ 25) 0x707f (omega arith) (omega arith) in
    let high : bit_and (w / 2 ^ 25) 127 ≡ w / 2 ^ 25 % 2 ^ 7 = and_mask (w / 2 ^ 25) 7 in
    let low = low_masked (w % 2 ^ 25) in
    ap (λ v. bit_and v 0xfe00707f) split ∙ cut ∙ omega (arith, high, low)

-- whether a word with this opcode, funct3 and funct7 has the row's
abbrev pub field_test : Shape → (opcode funct3 funct7 word : ℕ) → Bool
field_test (Opcode o) opcode funct3 funct7 word = opcode == o
field_test (Funct3 o f) opcode funct3 funct7 word = (opcode == o) && (funct3 == f)
field_test (Funct7 o f g) opcode funct3 funct7 word = (opcode == o) && ((funct3 == f) && (funct7 == g))
field_test (Whole w) opcode funct3 funct7 word = (opcode == w % 2 ^ 7) && (word == w)

-- the row's fields fit their places
abbrev pub in_range : Shape → Bool
in_range (Opcode o) = nat_lt o (2 ^ 7)
in_range (Funct3 o f) = nat_lt o (2 ^ 7) && nat_lt f (2 ^ 3)
in_range (Funct7 o f g) = nat_lt o (2 ^ 7) && (nat_lt f (2 ^ 3) && nat_lt g (2 ^ 7))
in_range (Whole w) = nat_lt w (2 ^ 32)

abbrev pub all_in_range : List Row → Bool
all_in_range [] = true
all_in_range (row ∷ rows) = in_range row.shape && all_in_range rows

pub tests_agree :
    (s : Shape) (w : ℕ) → w < 2 ^ 32 → in_range s ≡ true →
    (bit_and w (mask_of s) == match_of s) ≡ field_test s (w % 2 ^ 7) (w / 2 ^ 12 % 2 ^ 3) (w / 2 ^ 25) w
tests_agree (Opcode o) w m r = let k : bit_and w 0x7f ≡ w % 2 ^ 7 = and_mask w 7 in grind (arith, nat_tests, k)
tests_agree (Funct3 o f) w m r = let k = low_masked w in grind (arith, nat_tests, k)
tests_agree (Funct7 o f g) w m r = let k = high_masked w m in grind (arith, nat_tests, k)
tests_agree (Whole x) w m r =
    let k : bit_and w 0xffffffff ≡ w % 2 ^ 32 = and_mask w 32 in grind (arith, nat_tests, k)

-- what the first of these rows with a word's fields says of it
abbrev pub read_fields : List Row → (opcode funct3 funct7 word : ℕ) → Option Instr
read_fields [] opcode funct3 funct7 word = None
read_fields (row ∷ rows) opcode funct3 funct7 word =
    if field_test row.shape opcode funct3 funct7 word then Some (row.read word)
    else read_fields rows opcode funct3 funct7 word

read_by-fields :
    (rows : List Row) (w : ℕ) → w < 2 ^ 32 → all_in_range rows ≡ true →
    read_by rows w ≡ read_fields rows (w % 2 ^ 7) (w / 2 ^ 12 % 2 ^ 3) (w / 2 ^ 25) w
unfolding read_by
read_by-fields [] w m r = refl
read_by-fields (row ∷ rows) w m r =
    let here = tests_agree row.shape w m (grind (arith, nat_tests)) in
    let more = read_by-fields rows w m (grind (arith, nat_tests)) in
    rw (here, more) refl

pub decoded_by :
    (w : ℕ) → w < 2 ^ 32 → decoded w ≡ read_fields table (w % 2 ^ 7) (w / 2 ^ 12 % 2 ^ 3) (w / 2 ^ 25) w
unfolding decoded table
decoded_by w m = read_by-fields table w m refl

pub ruleset rows = (decoded_by, nat_tests)
