-- Registers in 33 slots: what is read from them and written to them.
use Rattle.std.proofs.Common.{◌≡◌, ◌≢◌, ℕ, zero, suc, ◌+◌, ◌%◌, ◌<◌, List, [], ◌∷◌, length, refl, sym, ◌∙◌, arith, take, set}
use Rattle.std.proofs.Common.{get_or, get_or-set_same, get_or-set_other}
use Rattle.std.specs.Prelude.{slice_index, slice_set}
use Rattle.std.proofs.lemmas.Bool.{ne_eqb}
use Rattle.std.proofs.lemmas.List.{get_or-take, set_comm, take-set-le}
use Rattle.std.proofs.Math.Seq.{take-set-lt}
use Rattle.flat_spec.specs.Machine.{word_read}
use Rattle.flat_machine.specs.Slots.{registers_in}

first_again : (words : List ℕ) (v w : ℕ) → set (set words 0 v) 0 w ≡ set words 0 w
first_again [] v w = refl
first_again (x ∷ xs) v w = refl

pub slot_read : (slots : List ℕ) (r : ℕ) → slice_index slots 0 ≡ 0 → r < 32
    → slice_index slots r ≡ word_read (registers_in slots) r
slot_read slots zero first h = first
slot_read slots (suc r) first h =
    let other : suc r ≢ 0 = omega arith in
    rw (ne_eqb (suc r) 0 other)
    (sym (get_or-set_other (take 32 slots) 0 (suc r) (slice_index slots 32) 0 other ∙ get_or-take 32 slots (suc r) 0 h))

-- a register's slot but x0's is its own
own_slot : (r : ℕ) → suc r < 32 → (suc r + 31) % 32 + 1 ≡ suc r
own_slot r h = omega arith

pub slot_written : (slots : List ℕ) (r v : ℕ) → length slots ≡ 33 → r < 32
    → registers_in (set slots ((r + 31) % 32 + 1) v) ≡ slice_set (registers_in slots) r v
slot_written slots zero v long h =
    let last : get_or (set slots 32 v) 32 0 ≡ v = get_or-set_same slots 32 v 0 (omega (arith, long)) in
    rw (take-set-le 32 slots 32 v (omega arith), last) (sym (first_again (take 32 slots) (slice_index slots 32) v))
slot_written slots (suc r) v long h =
    let other : 32 ≢ suc r = omega arith in
    let apart : suc r ≢ 0 = omega arith in
    rw (
      own_slot r h,
      take-set-lt 32 slots (suc r) v h,
      get_or-set_other slots (suc r) 32 v 0 other,
    ) (set_comm (take 32 slots) (suc r) 0 v (slice_index slots 32) apart)

pub first_stays : (slots : List ℕ) (r v : ℕ) → slice_index slots 0 ≡ 0
    → slice_index (set slots ((r + 31) % 32 + 1) v) 0 ≡ 0
first_stays slots r v first =
    let other : 0 ≢ (r + 31) % 32 + 1 = omega arith in
    get_or-set_other slots ((r + 31) % 32 + 1) 0 v 0 other ∙ first
