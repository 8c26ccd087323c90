-- Rows whose fixed bits differ share no word, so the row that a word fits is the one that is read.
use Rattle.std.proofs.Common.{◌≡◌, ℕ, ◌+◌, ◌%◌, ◌<◌, ◌↔◌, zero, suc, min, length, Bool, true, false, List, [], ◌∷◌}
use Rattle.std.proofs.Common.{refl, sym, arith}
use Rattle.std.specs.Prelude.{◌==◌, ◌&&◌, not, if◌then◌else◌, bit_and, bit_xor, Option, None, Some, All, AllPairs}
use Rattle.std.specs.Prelude.{slice_index_or}
use Rattle.std.specs.Int.{bit_at}
use Rattle.std.proofs.lemmas.Bool.{eq-eqb}
use Rattle.std.proofs.lemmas.Bool.Decides.{nat_tests}
use Rattle.std.proofs.lemmas.Nat.Bits.{same_from_bits, bit_at_and, bit_at_xor, bit_at-zero, bit_at-lt}
use Rattle.std.proofs.lemmas.List.Elements.{All-cons}
use Rattle.std.proofs.lemmas.List.Kept.{AllPairs-cons}
use Rattle.rv_isa.specs.declared.Instr.{Instr}
use Rattle.rv_isa.specs.Table.{mask_of, match_of, Row, Fits, SharesNoWord, table, read_by, decoded}

-- the rows fix a bit in common, and differently
abbrev pub differ : Row → Row → Bool
differ row other =
    not (bit_and (bit_and (mask_of row.shape) (mask_of other.shape))
    (bit_xor (match_of row.shape) (match_of other.shape)) == 0)

abbrev pub differ_from_all : Row → List Row → Bool
differ_from_all row [] = true
differ_from_all row (other ∷ rows) = differ row other && differ_from_all row rows

abbrev pub all_differ : List Row → Bool
all_differ [] = true
all_differ (row ∷ rows) = differ_from_all row rows && all_differ rows

one_bit : (w m n : ℕ) → w < 2 → m < 2 → n < 2 → min (min m n) ((min w m + min w n) % 2) ≡ 0
one_bit w m n a b c = omega arith

-- what two masks leave of a word is the same at the bits that both see
same_bits : (w m n : ℕ) → bit_and (bit_and m n) (bit_xor (bit_and w m) (bit_and w n)) ≡ 0
same_bits w m n =
    same_from_bits _ 0
    (λ i. simp (bit_at_and, bit_at_xor, bit_at-zero)
    (one_bit (bit_at w i) (bit_at m i) (bit_at n i) (bit_at-lt w i) (bit_at-lt m i) (bit_at-lt n i)))

apart_by : (w m n a b : ℕ) → not (bit_and (bit_and m n) (bit_xor a b) == 0) ≡ true → bit_and w m ≡ a → bit_and w n ≡ b
    → ⊥
apart_by w m n a b d e f =
    let same : bit_and (bit_and m n) (bit_xor a b) ≡ 0 = rw (sym e, sym f) (same_bits w m n) in
    grind (arith, nat_tests)

shares_none : (row other : Row) → differ row other ≡ true → SharesNoWord row other
shares_none row other d word here there =
    apart_by word (mask_of row.shape) (mask_of other.shape) (match_of row.shape) (match_of other.shape) d here there

shares_none_of : (row : Row) (rows : List Row) → differ_from_all row rows ≡ true → All (SharesNoWord row) rows
shares_none_of row [] d = λ k e m. absurd (omega arith)
shares_none_of row (other ∷ rows) d =
    All-cons (SharesNoWord row) other rows (shares_none row other (grind (arith, nat_tests)))
    (shares_none_of row rows (grind (arith, nat_tests)))

pub all_share_none : (rows : List Row) → all_differ rows ≡ true → AllPairs SharesNoWord rows
all_share_none [] d = λ i j e m n. absurd (omega arith)
all_share_none (row ∷ rows) d =
    AllPairs-cons SharesNoWord row rows (shares_none_of row rows (grind (arith, nat_tests)))
    (all_share_none rows (grind (arith, nat_tests)))

pub table-shares_none : AllPairs SharesNoWord table
unfolding table
table-shares_none = all_share_none table refl

fits_not : (a b : ℕ) → ¬ (a ≡ b) → (a == b) ≡ false
fits_not a b n = grind (arith, nat_tests)

-- among rows that share no word, the one that the word fits is read
read_by-fits :
    (rows : List Row) (w : ℕ) → AllPairs SharesNoWord rows → (k : ℕ) (d : Row) → k < length rows →
    Fits (slice_index_or rows k d) w → read_by rows w ≡ Some ((slice_index_or rows k d).read w)
unfolding read_by
read_by-fits [] w apart k d m h = absurd (omega arith)
read_by-fits (row ∷ rows) w apart zero d m h =
    let here : (bit_and w (mask_of row.shape) == match_of row.shape) ≡ true = eq-eqb _ _ h in rw here refl
read_by-fits (row ∷ rows) w apart (suc k) d m h =
    let not_here : (bit_and w (mask_of row.shape) == match_of row.shape) ≡ false =
    fits_not _ _ (λ f. apart 0 (suc k) d (omega arith) m w f h) in
    let more =
    read_by-fits rows w (λ i j e l n. apart (suc i) (suc j) e (omega arith) (omega arith)) k d (omega arith) h in
    rw not_here more

pub decoded-fits : (w : ℕ) → All (λ row. Fits row w → decoded w ≡ Some (row.read w)) table
unfolding decoded
decoded-fits w = λ k d m h. read_by-fits table w table-shares_none k d m h

passed_over : (b : Bool) (i : Instr) (rest : Option Instr) → (if b then Some i else rest) ≡ None → (b ≡ false)
    × (rest ≡ None)
passed_over true i rest e = absurd (cc)
passed_over false i rest e = (refl, e)

test_fails : (a b : ℕ) → (a == b) ≡ false → ¬ (a ≡ b)
test_fails a b t e = grind (arith, nat_tests)

-- no row is read exactly where none fits
none_fits : (rows : List Row) (w : ℕ) → read_by rows w ≡ None → All (λ row. ¬ Fits row w) rows
unfolding read_by
none_fits [] w e = λ k d m. absurd (omega arith)
none_fits (row ∷ rows) w e =
    let over = passed_over (bit_and w (mask_of row.shape) == match_of row.shape) (row.read w) (read_by rows w) e in
    All-cons (λ r. ¬ Fits r w) row rows (test_fails _ _ over.0) (none_fits rows w over.1)

none_read : (rows : List Row) (w : ℕ) → All (λ row. ¬ Fits row w) rows → read_by rows w ≡ None
unfolding read_by
none_read [] w n = refl
none_read (row ∷ rows) w n =
    let not_here : (bit_and w (mask_of row.shape) == match_of row.shape) ≡ false =
    fits_not _ _ (n 0 row (omega arith)) in
    let more = none_read rows w (λ k d m. n (suc k) d (omega arith)) in
    rw not_here more

pub decoded-none : (w : ℕ) → (decoded w ≡ None) ↔ All (λ row. ¬ Fits row w) table
unfolding decoded
decoded-none w = (none_fits table w, none_read table w)
