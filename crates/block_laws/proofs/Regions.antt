-- The cells of a new block, and those of a moved one: its old cells with zero cells behind them.
use Rattle.std.proofs.Common.{◌≡◌, ◌⊎◌, ℕ, zero, suc, ◌+◌, ◌-◌, ◌*◌, ◌/◌, ◌%◌, ◌<◌, ◌≤◌, ◌==◌, cond, Bool, true, false}
use Rattle.std.proofs.Common.{List, ◌∷◌, length, take, drop, replicate, sym, ◌∙◌, subst, inl, inr, refl, ap, ap₂, arith}
use Rattle.std.specs.Prelude.{Option, Some, option_map, option_and_then, nat_lt}
use Rattle.std.proofs.lemmas.Bool.{cases_lt, and_from, and_parts, ltb-true, lt-ltb}
use Rattle.std.proofs.lemmas.List.{length-replicate, length-take, get_or-replicate, get_or_append_left}
use Rattle.std.proofs.lemmas.List.{get_or-append_right, get_or-take, get_or-drop, take_all}
use Rattle.machine_spec.specs.Memory.{Range, byte_of, all_from}
use Rattle.machine_spec.specs.Widths.{number_of}
use Rattle.flat_spec.specs.Stores.{bytes_from}
use Rattle.sym_value.specs.declared.Value.TheVariants.{Mix}
use Rattle.sym_value.specs.Standing.{Holds}
use Rattle.sym_cells.specs.declared.Mark.TheVariants.{Known}
use Rattle.sym_cells.specs.Cells.{Cell, Mixed, Cells, blank_cell, zero_cell, cell_in, mark_in, mark_at}
use Rattle.sym_cells.specs.Memory.{overlaid}
use Rattle.sym_cells.specs.Region.{MarkStands, Region}

-- each byte of a zero cell is zero
zero_mark : (i : ℕ) → mark_in zero_cell i ≡ Known 0
zero_mark i = by_test (i == 0) (i == 1) (i == 2)
  where
    by_test : (p q r : Bool) → cond p (Known 0) (cond q (Known 0) (cond r (Known 0) (Known 0))) ≡ Known 0
    by_test true q r = refl
    by_test false true r = refl
    by_test false false true = refl
    by_test false false false = refl

-- a byte that is zero stands for a byte of a zero cell
zero_stands : (back : ℕ → ℕ) (at : List ℕ) (cells : Cells) (o b : ℕ) → cells (o / 4) ≡ zero_cell → b ≡ 0
    → MarkStands back at (mark_at cells o) b
zero_stands back at cells o b cell is =
    subst (λ m. MarkStands back at m b) (sym (ap (λ c. mark_in c (o % 4)) cell ∙ zero_mark (o % 4))) is

-- offsets that are covered are below the limit, and the other way
each_below : (limit a n : ℕ) → all_from (λ o. nat_lt o limit) a n ≡ true → (i : ℕ) → i < n → a + i < limit
each_below limit a zero e i low = absurd (omega arith)
each_below limit a (suc n) e zero low =
    let first : a < limit =
    ltb-true a limit (and_parts (nat_lt a limit) (all_from (λ o. nat_lt o limit) (a + 1) n) e).0 in
    omega arith
each_below limit a (suc n) e (suc i) low =
    let rest : a + 1 + i < limit =
    each_below limit (a + 1) n (and_parts (nat_lt a limit) (all_from (λ o. nat_lt o limit) (a + 1) n) e).1 i
    (omega arith) in
    omega arith

all_below : (limit a n : ℕ) → a + n ≤ limit → all_from (λ o. nat_lt o limit) a n ≡ true
all_below limit a zero high = refl
all_below limit a (suc n) high =
    and_from _ _ (lt-ltb a limit (omega arith)) (all_below limit (a + 1) n (omega arith))

-- the bytes of two memories, which are the same from one address and from another on
bytes_same : (memory after : List Range) (from to n : ℕ)
    → ((i : ℕ) → i < n → byte_of after (to + i) ≡ byte_of memory (from + i))
    → bytes_from after to n ≡ bytes_from memory from n
bytes_same memory after from to zero same = refl
bytes_same memory after from to (suc n) same =
    let left : to ≡ to + 0 = omega arith in
    let right : from + 0 ≡ from = omega arith in
    ap₂ (λ (o : Option ℕ) (p : Option (List ℕ)). option_and_then (λ b. option_map (λ bs. b ∷ bs) p) o)
    (ap (byte_of after) left ∙ (same 0 (omega arith) ∙ ap (byte_of memory) right))
    (bytes_same memory after (from + 1) (to + 1) n (λ i low. later i (same (suc i) (omega arith))))
  where
    later : (i : ℕ) → byte_of after (to + suc i) ≡ byte_of memory (from + suc i)
        → byte_of after (to + 1 + i) ≡ byte_of memory (from + 1 + i)
    later i e =
        let left : to + 1 + i ≡ to + suc i = omega arith in
        let right : from + suc i ≡ from + 1 + i = omega arith in
        ap (byte_of after) left ∙ (e ∙ ap (byte_of memory) right)

-- the cells of a new block
new_cell : (n k : ℕ) → k < n → cell_in (replicate n zero_cell) k ≡ zero_cell
new_cell n k low = get_or-replicate n k zero_cell blank_cell low

pub new_stands : (back : ℕ → ℕ) (at : List ℕ) (memory : List Range) (base need : ℕ)
    → ((o : ℕ) → o < 16 * need → byte_of memory (base + o) ≡ Some 0)
    → Region back at memory base (λ o. nat_lt o (16 * need)) (cell_in (replicate (4 * need) zero_cell))
new_stands back at memory base need zeros = record {
  marks = λ o b reached there.
      let low : o < 16 * need = ltb-true o (16 * need) reached in
      let none : byte_of memory (base + o) ≡ Some 0 = zeros o low in
      let is : b ≡ 0 = cc in
      zero_stands back at (cell_in (replicate (4 * need) zero_cell)) o b (new_cell (4 * need) (o / 4) (omega arith)) is;
  mixes = λ k low bs reached mixed there.
      let fits : 4 * k + 3 < 16 * need = each_below (16 * need) (4 * k) 4 reached 3 (omega arith) in
      let cell : cell_in (replicate (4 * need) zero_cell) k ≡ zero_cell = new_cell (4 * need) k (omega arith) in
      absurd (cc);
}

-- the cells of a moved block
module _ (cells onto : List Cell) where
  old_cell : (k : ℕ) → k < length cells → k < length onto → cell_in (overlaid cells onto) k ≡ cell_in cells k
  old_cell k low fits =
      let long = length-take (length onto) cells in
      get_or_append_left (take (length onto) cells) (drop (length cells) onto) blank_cell k
      (omega (arith, long, low, fits))
      ∙ get_or-take (length onto) cells k blank_cell fits

  later_cell : (k : ℕ) → length cells ≤ k → k < length onto → cell_in (overlaid cells onto) k ≡ cell_in onto k
  later_cell k high fits =
      let whole : take (length onto) cells ≡ cells = take_all (length onto) cells (omega (arith, high, fits)) in
      let place : length cells + (k - length cells) ≡ k = omega (arith, high) in
      get_or-append_right (take (length onto) cells) (drop (length cells) onto) (length cells) k blank_cell
      (ap length whole) high
      ∙ (get_or-drop (length cells) onto (k - length cells) blank_cell ∙ ap (cell_in onto) place)

module _ (back : ℕ → ℕ) (at : List ℕ) (memory after : List Range) (from to need : ℕ) (cells : List Cell)
    (old : Region back at memory from (λ o. nat_lt o (4 * length cells)) (cell_in cells))
    (copied : (o : ℕ) → o < 4 * length cells → o < 16 * need → byte_of after (to + o) ≡ byte_of memory (from + o))
    (zeros : (o : ℕ) → 4 * length cells ≤ o → o < 16 * need → byte_of after (to + o) ≡ Some 0) where
  abbrev zero_cells : List Cell
  zero_cells = replicate (4 * need) zero_cell

  abbrev moved : Cells
  moved = cell_in (overlaid cells zero_cells)

  long : length zero_cells ≡ 4 * need
  long = length-replicate (4 * need) zero_cell

  old_there : (k : ℕ) → k < length cells → k < 4 * need → moved k ≡ cell_in cells k
  old_there k low fits = old_cell cells zero_cells k low (omega (arith, long, fits))

  zero_there : (k : ℕ) → length cells ≤ k → k < 4 * need → moved k ≡ zero_cell
  zero_there k high fits =
      later_cell cells zero_cells k high (omega (arith, long, fits)) ∙ new_cell (4 * need) k fits

  mark_there : (o b : ℕ) → o < 16 * need → byte_of after (to + o) ≡ Some b
      → (o < 4 * length cells) ⊎ (4 * length cells ≤ o) → MarkStands back at (mark_at moved o) b
  mark_there o b fits there (inl low) =
      subst (λ c. MarkStands back at (mark_in c (o % 4)) b) (sym (old_there (o / 4) (omega arith) (omega arith)))
      (old.marks o b (lt-ltb o (4 * length cells) low) (sym (copied o low fits) ∙ there))
  mark_there o b fits there (inr high) =
      let none : byte_of after (to + o) ≡ Some 0 = zeros o high fits in
      let is : b ≡ 0 = cc in
      zero_stands back at moved o b (zero_there (o / 4) (omega arith) (omega arith)) is

  mix_there : (k low : ℕ) (bs : List ℕ) → 4 * k + 3 < 16 * need → moved k ≡ Mixed low
      → bytes_from after (to + 4 * k) 4 ≡ Some bs → (k < length cells) ⊎ (length cells ≤ k)
      → Holds back at (Mix low) (number_of bs)
  mix_there k low bs fits mixed there (inl inside) =
      old.mixes k low bs (all_below (4 * length cells) (4 * k) 4 (omega arith))
      (sym (old_there k inside (omega arith)) ∙ mixed) (sym same ∙ there)
    where
      same : bytes_from after (to + 4 * k) 4 ≡ bytes_from memory (from + 4 * k) 4
      same = bytes_same memory after (from + 4 * k) (to + 4 * k) 4 (λ i less.
          let left : to + 4 * k + i ≡ to + (4 * k + i) = omega arith in
          let right : from + (4 * k + i) ≡ from + 4 * k + i = omega arith in
          ap (byte_of after) left ∙ (copied (4 * k + i) (omega arith) (omega arith) ∙ ap (byte_of memory) right))
  mix_there k low bs fits mixed there (inr past) =
      let cell : moved k ≡ zero_cell = zero_there k past (omega arith) in absurd (cc)

  pub moved_stands : Region back at after to (λ o. nat_lt o (16 * need)) moved
  moved_stands = record {
    marks = λ o b reached there.
        mark_there o b (ltb-true o (16 * need) reached) there (cases_lt o (4 * length cells));
    mixes = λ k low bs reached mixed there.
        mix_there k low bs (each_below (16 * need) (4 * k) 4 reached 3 (omega arith)) mixed there
        (cases_lt k (length cells));
  }
