-- The part of a match that speaks of registers, and that a register given on both machines keeps it.
use Rattle.std.proofs.Common.{◌≡◌, ◌≢◌, ℕ, ◌<◌, ◌^◌, List, Bool, true, false, cond, length, refl, sym, ◌∙◌, subst}
use Rattle.std.proofs.Common.{arith, length-set, get_or-set_same, get_or-set_other}
use Rattle.std.specs.Prelude.{nat_eq, slice_index, slice_index_or, slice_set}
use Rattle.std.proofs.lemmas.Bool.Decides.{nat_tests}
use Rattle.sym_value.specs.declared.Value.{Value}
use Rattle.sym_value.specs.declared.Value.TheVariants.{Num, Unset}
use Rattle.flat_spec.specs.Machine.{word_read}
use Rattle.sym_spec.specs.SymMachine.{value_read}
use Rattle.match_spec.specs.Stands.{Places, Holds}
use Rattle.match_spec.specs.Parts.{InRegisters}
use Rattle.simulation.proofs.Operations.{holds_num, holds_unset}

-- a register but x4 is given on both machines
pub put_register : (places : Places) (values : List Value) (words : List ℕ) (bits r : ℕ) (v : Value) (w : ℕ)
    → InRegisters places values words bits → r < 32 → r ≢ 4 → Holds places v w
    → InRegisters places (slice_set values r v) (slice_set words r w) bits
put_register places values words bits r v w h small other holds = record {
  holds = λ k low n. at k low n (nat_eq k 0) refl (nat_eq k r) refl;
  bits_small = h.bits_small;
  bits_there = let apart : 4 ≢ r = omega arith in get_or-set_other words r 4 w 0 apart ∙ h.bits_there;
  spare = let apart : 4 ≢ r = omega arith in get_or-set_other values r 4 v Unset apart ∙ h.spare;
  long = length-set words r w ∙ h.long;
  sym_long = length-set values r v ∙ h.sym_long;
}
  where
    at : (k : ℕ) → k < 32 → k ≢ 4 → (z : Bool) → nat_eq k 0 ≡ z → (s : Bool) → nat_eq k r ≡ s
        → Holds places (cond z (Num 0) (slice_index_or (slice_set values r v) k Unset))
        (cond z 0 (slice_index (slice_set words r w) k))
    at k low n true e s f = holds_num places 0 (omega arith)
    at k low n false e true f =
        let same : k ≡ r = grind (arith, nat_tests) in
        let inside : r < length words = omega (arith, h.long, small) in
        let sym_inside : r < length values = omega (arith, h.sym_long, small) in
        rw (same, get_or-set_same values r v Unset sym_inside, get_or-set_same words r w 0 inside) holds
    at k low n false e false f =
        let apart : k ≢ r = grind (arith, nat_tests) in
        let before : Holds places (cond false (Num 0) (slice_index_or values k Unset))
        (cond false 0 (slice_index words k)) =
        subst (λ t. Holds places (cond t (Num 0) (slice_index_or values k Unset)) (cond t 0 (slice_index words k))) e
        (h.holds k low n) in
        rw (get_or-set_other values r k v Unset apart, get_or-set_other words r k w 0 apart) before

-- whatever is written to x0 on the flat machine, and a register that is unset on the symbol machine
pub put_zero : (places : Places) (values : List Value) (words : List ℕ) (bits w : ℕ)
    → InRegisters places values words bits → InRegisters places values (slice_set words 0 w) bits
put_zero places values words bits w h = record {
  holds = λ k low n. at k low n (nat_eq k 0) refl;
  bits_small = h.bits_small;
  bits_there = let apart : 4 ≢ 0 = omega arith in get_or-set_other words 0 4 w 0 apart ∙ h.bits_there;
  spare = h.spare;
  long = length-set words 0 w ∙ h.long;
  sym_long = h.sym_long;
}
  where
    at : (k : ℕ) → k < 32 → k ≢ 4 → (z : Bool) → nat_eq k 0 ≡ z
        → Holds places (cond z (Num 0) (slice_index_or values k Unset)) (cond z 0 (slice_index (slice_set words 0 w) k))
    at k low n true e = holds_num places 0 (omega arith)
    at k low n false e =
        let apart : k ≢ 0 = grind (arith, nat_tests) in
        let before : Holds places (cond false (Num 0) (slice_index_or values k Unset))
        (cond false 0 (slice_index words k)) =
        subst (λ t. Holds places (cond t (Num 0) (slice_index_or values k Unset)) (cond t 0 (slice_index words k))) e
        (h.holds k low n) in
        rw (get_or-set_other words 0 k w 0 apart) before

pub put_unset : (places : Places) (values : List Value) (words : List ℕ) (bits r : ℕ)
    → InRegisters places values words bits → r < 32 → r ≢ 4 → InRegisters places (slice_set values r Unset) words bits
put_unset places values words bits r h small other = record {
  holds = λ k low n. at k low n (nat_eq k 0) refl (nat_eq k r) refl;
  bits_small = h.bits_small;
  bits_there = h.bits_there;
  spare = let apart : 4 ≢ r = omega arith in get_or-set_other values r 4 Unset Unset apart ∙ h.spare;
  long = h.long;
  sym_long = length-set values r Unset ∙ h.sym_long;
}
  where
    at : (k : ℕ) → k < 32 → k ≢ 4 → (z : Bool) → nat_eq k 0 ≡ z → (s : Bool) → nat_eq k r ≡ s
        → Holds places (cond z (Num 0) (slice_index_or (slice_set values r Unset) k Unset))
        (cond z 0 (slice_index words k))
    at k low n true e s f = holds_num places 0 (omega arith)
    at k low n false e true f =
        let same : k ≡ r = grind (arith, nat_tests) in
        let sym_inside : r < length values = omega (arith, h.sym_long, small) in
        let word : word_read words r < 2 ^ 32 = (h.holds r small other).small in
        let read : word_read words k ≡ slice_index words k = rw e refl in
        let fits : slice_index words r < 2 ^ 32 =
        subst (λ z. slice_index words z < 2 ^ 32) same
        (subst (λ z. z < 2 ^ 32) read (subst (λ z. word_read words z < 2 ^ 32) (sym same) word)) in
        rw (same, get_or-set_same values r Unset Unset sym_inside) (holds_unset places (slice_index words r) fits)
    at k low n false e false f =
        let apart : k ≢ r = grind (arith, nat_tests) in
        let before : Holds places (cond false (Num 0) (slice_index_or values k Unset))
        (cond false 0 (slice_index words k)) =
        subst (λ t. Holds places (cond t (Num 0) (slice_index_or values k Unset)) (cond t 0 (slice_index words k))) e
        (h.holds k low n) in
        rw (get_or-set_other values r k Unset Unset apart) before

-- a write to x0 is never read
pub zero_unread : (words : List ℕ) (w k : ℕ) → word_read (slice_set words 0 w) k ≡ word_read words k
zero_unread words w k = at (nat_eq k 0) refl
  where
    at : (z : Bool) → nat_eq k 0 ≡ z → cond (nat_eq k 0) 0 (slice_index (slice_set words 0 w) k) ≡ cond (nat_eq k 0) 0
        (slice_index words k)
    at true e = rw e refl
    at false e = let other : k ≢ 0 = grind (arith, nat_tests) in rw e (get_or-set_other words 0 k w 0 other)

-- x1 and x4 changed on the flat machine: x1 and the bits are given anew
pub changed_registers : (places : Places) (values : List Value) (words now : List ℕ) (bits one four : ℕ) (v : Value)
    → InRegisters places values words bits → length now ≡ 32 → word_read now 1 ≡ one → word_read now 4 ≡ four
    → ((k : ℕ) → k ≢ 1 → k ≢ 4 → word_read now k ≡ word_read words k) → Holds places v one
    → four < 2 ^ 32 → InRegisters places (slice_set values 1 v) now four
changed_registers places values words now bits one four v h long first there others holds fits = record {
  holds = λ k low n. at k low n (nat_eq k 1) refl;
  bits_small = fits;
  bits_there = there;
  spare = let apart : 4 ≢ 1 = omega arith in get_or-set_other values 1 4 v Unset apart ∙ h.spare;
  long = long;
  sym_long = length-set values 1 v ∙ h.sym_long;
}
  where
    same_value : (k : ℕ) → k ≢ 1 → value_read (slice_set values 1 v) k ≡ value_read values k
    same_value k apart = by_zero (nat_eq k 0)
      where
        by_zero : (z : Bool) → cond z (Num 0) (slice_index_or (slice_set values 1 v) k Unset) ≡ cond z (Num 0)
            (slice_index_or values k Unset)
        by_zero true = refl
        by_zero false = get_or-set_other values 1 k v Unset apart

    at : (k : ℕ) → k < 32 → k ≢ 4 → (s : Bool) → nat_eq k 1 ≡ s
        → Holds places (value_read (slice_set values 1 v) k) (word_read now k)
    at k low n true f =
        let same : k ≡ 1 = grind (arith, nat_tests) in
        let inside : 1 < length values = omega (arith, h.sym_long) in
        rw (same, get_or-set_same values 1 v Unset inside, first) holds
    at k low n false f =
        let apart : k ≢ 1 = grind (arith, nat_tests) in
        rw (same_value k apart, others k apart n) (h.holds k low n)
