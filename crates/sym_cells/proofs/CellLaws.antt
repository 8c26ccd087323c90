-- Laws of cells: which byte a store of a byte changes, and what it leaves of mixed cells.
use Rattle.std.proofs.Common.{◌≡◌, ◌≢◌, ℕ, zero, suc, ◌+◌, ◌/◌, ◌%◌, ◌<◌, Bool, true, false, cond, nat_eq, refl, ap}
use Rattle.std.proofs.Common.{ap₂, sym, ◌∙◌, arith}
use Rattle.std.proofs.lemmas.Bool.{eqb-true, eqb-false, eq-eqb, ne_eqb}
use Rattle.sym_cells.specs.declared.Mark.{Mark}
use Rattle.sym_cells.specs.declared.Mark.TheVariants.{Blank}
use Rattle.sym_cells.specs.Cells.{Cell, Bytes, Mixed, Cells, blank_cell, mark_in, put_in, mark_at, put_cell, put_mark}

abbrev pub is_mixed : Cell → Bool
is_mixed (Bytes m0 m1 m2 m3) = false
is_mixed (Mixed low) = true

four_bytes : (i : ℕ) (m m0 m1 m2 m3 : Mark) → is_mixed (put_in i m (Bytes m0 m1 m2 m3)) ≡ false
four_bytes i m m0 m1 m2 m3 = at (nat_eq i 0) (nat_eq i 1) (nat_eq i 2)
  where
    at : (p q r : Bool) → is_mixed (cond p (Bytes m m1 m2 m3) (cond q (Bytes m0 m m2 m3) (cond r (Bytes m0 m1 m m3)
        (Bytes m0 m1 m2 m)))) ≡ false
    at true q r = refl
    at false true r = refl
    at false false true = refl
    at false false false = refl

pub put_in_bytes : (i : ℕ) (m : Mark) (cell : Cell) → is_mixed (put_in i m cell) ≡ false
put_in_bytes i m (Bytes m0 m1 m2 m3) = four_bytes i m m0 m1 m2 m3
put_in_bytes i m (Mixed low) = four_bytes i m Blank Blank Blank Blank

-- of a mixed cell each byte is as unset as in a blank one
mixed_marks : (low j : ℕ) → mark_in (Mixed low) j ≡ mark_in blank_cell j
mixed_marks low j = at (nat_eq j 0) (nat_eq j 1) (nat_eq j 2)
  where
    at : (p q r : Bool) → Blank ≡ cond p Blank (cond q Blank (cond r Blank Blank))
    at true q r = refl
    at false true r = refl
    at false false true = refl
    at false false false = refl

here_of_four : (i : ℕ) (m m0 m1 m2 m3 : Mark) → i < 4 → mark_in (put_in i m (Bytes m0 m1 m2 m3)) i ≡ m
here_of_four zero m m0 m1 m2 m3 l = refl
here_of_four (suc zero) m m0 m1 m2 m3 l = refl
here_of_four (suc (suc zero)) m m0 m1 m2 m3 l = refl
here_of_four (suc (suc (suc zero))) m m0 m1 m2 m3 l = refl
here_of_four (suc (suc (suc (suc n)))) m m0 m1 m2 m3 l = absurd (omega arith)

-- the byte that was put is there
pub put_in_here : (i : ℕ) (m : Mark) (cell : Cell) → i < 4 → mark_in (put_in i m cell) i ≡ m
put_in_here i m (Bytes m0 m1 m2 m3) l = here_of_four i m m0 m1 m2 m3 l
put_in_here i m (Mixed low) l = here_of_four i m Blank Blank Blank Blank l

other_of_four : (i j : ℕ) (m m0 m1 m2 m3 : Mark) → i < 4 → j < 4 → j ≢ i
    → mark_in (put_in i m (Bytes m0 m1 m2 m3)) j ≡ mark_in (Bytes m0 m1 m2 m3) j
other_of_four zero zero m m0 m1 m2 m3 l k n = absurd (n refl)
other_of_four zero (suc zero) m m0 m1 m2 m3 l k n = refl
other_of_four zero (suc (suc zero)) m m0 m1 m2 m3 l k n = refl
other_of_four zero (suc (suc (suc zero))) m m0 m1 m2 m3 l k n = refl
other_of_four zero (suc (suc (suc (suc j)))) m m0 m1 m2 m3 l k n = absurd (omega arith)
other_of_four (suc zero) zero m m0 m1 m2 m3 l k n = refl
other_of_four (suc zero) (suc zero) m m0 m1 m2 m3 l k n = absurd (n refl)
other_of_four (suc zero) (suc (suc zero)) m m0 m1 m2 m3 l k n = refl
other_of_four (suc zero) (suc (suc (suc zero))) m m0 m1 m2 m3 l k n = refl
other_of_four (suc zero) (suc (suc (suc (suc j)))) m m0 m1 m2 m3 l k n = absurd (omega arith)
other_of_four (suc (suc zero)) zero m m0 m1 m2 m3 l k n = refl
other_of_four (suc (suc zero)) (suc zero) m m0 m1 m2 m3 l k n = refl
other_of_four (suc (suc zero)) (suc (suc zero)) m m0 m1 m2 m3 l k n = absurd (n refl)
other_of_four (suc (suc zero)) (suc (suc (suc zero))) m m0 m1 m2 m3 l k n = refl
other_of_four (suc (suc zero)) (suc (suc (suc (suc j)))) m m0 m1 m2 m3 l k n = absurd (omega arith)
other_of_four (suc (suc (suc zero))) zero m m0 m1 m2 m3 l k n = refl
other_of_four (suc (suc (suc zero))) (suc zero) m m0 m1 m2 m3 l k n = refl
other_of_four (suc (suc (suc zero))) (suc (suc zero)) m m0 m1 m2 m3 l k n = refl
other_of_four (suc (suc (suc zero))) (suc (suc (suc zero))) m m0 m1 m2 m3 l k n = absurd (n refl)
other_of_four (suc (suc (suc zero))) (suc (suc (suc (suc j)))) m m0 m1 m2 m3 l k n = absurd (omega arith)
other_of_four (suc (suc (suc (suc i)))) j m m0 m1 m2 m3 l k n = absurd (omega arith)

-- every other byte is what it was
pub put_in_other : (i j : ℕ) (m : Mark) (cell : Cell) → i < 4 → j < 4 → j ≢ i
    → mark_in (put_in i m cell) j ≡ mark_in cell j
put_in_other i j m (Bytes m0 m1 m2 m3) l k n = other_of_four i j m m0 m1 m2 m3 l k n
put_in_other i j m (Mixed low) l k n = other_of_four i j m Blank Blank Blank Blank l k n ∙ sym (mixed_marks low j)

pub put_cell_here : (k : ℕ) (cell : Cell) (cells : Cells) → put_cell k cell cells k ≡ cell
put_cell_here k cell cells = let same : nat_eq k k ≡ true = eq-eqb k k refl in rw same refl

pub put_cell_other : (k j : ℕ) (cell : Cell) (cells : Cells) → j ≢ k → put_cell k cell cells j ≡ cells j
put_cell_other k j cell cells n = let other : nat_eq j k ≡ false = ne_eqb j k n in rw other refl

-- the byte that was stored is at its offset
pub mark_here : (o : ℕ) (m : Mark) (cells : Cells) → mark_at (put_mark o m cells) o ≡ m
mark_here o m cells =
    let small : o % 4 < 4 = omega arith in
    rw (put_cell_here (o / 4) (put_in (o % 4) m (cells (o / 4))) cells) (put_in_here (o % 4) m (cells (o / 4)) small)

-- every other byte is what it was
pub mark_elsewhere : (o k : ℕ) (m : Mark) (cells : Cells) → k ≢ o → mark_at (put_mark o m cells) k ≡ mark_at cells k
mark_elsewhere o k m cells n = at (nat_eq (k / 4) (o / 4)) refl
  where
    at : (v : Bool) → nat_eq (k / 4) (o / 4) ≡ v
        → mark_in (cond v (put_in (o % 4) m (cells (o / 4))) (cells (k / 4))) (k % 4) ≡ mark_in (cells (k / 4)) (k % 4)
    at true e =
        let same : k / 4 ≡ o / 4 = eqb-true (k / 4) (o / 4) e in
        let apart : k % 4 ≢ o % 4 = omega arith in
        rw same (put_in_other (o % 4) (k % 4) m (cells (o / 4)) (omega arith) (omega arith) apart)
    at false e = refl

-- a mixed cell that is left was there before, and no byte was stored into it
pub mixed_left : (o k low : ℕ) (m : Mark) (cells : Cells) → put_mark o m cells k ≡ Mixed low
    → (k ≢ o / 4) × (cells k ≡ Mixed low)
mixed_left o k low m cells h = at (nat_eq k (o / 4)) refl h
  where
    at : (t : Bool) → nat_eq k (o / 4) ≡ t → cond t (put_in (o % 4) m (cells (o / 4))) (cells k) ≡ Mixed low
        → (k ≢ o / 4) × (cells k ≡ Mixed low)
    at true e h =
        let clash : true ≡ false = sym (ap is_mixed h) ∙ put_in_bytes (o % 4) m (cells (o / 4)) in
        absurd (cc)
    at false e h = (eqb-false k (o / 4) e, h)

-- the bytes of the cell at an aligned offset
pub marks_of_cell : (o i : ℕ) (cells : Cells) → o % 4 ≡ 0 → i < 4 → mark_at cells (o + i) ≡ mark_in (cells (o / 4)) i
marks_of_cell o i cells aligned small =
    let cell : (o + i) / 4 ≡ o / 4 = omega arith in
    let place : (o + i) % 4 ≡ i = omega arith in
    ap₂ (λ x y. mark_in (cells x) y) cell place
