-- The flat machine on its way through straight-line code that names x1 and x4 alone.
use Rattle.std.proofs.Common.{◌≡◌, ◌≢◌, ℕ, ◌+◌, ◌-◌, ◌%◌, ◌^◌, ◌<◌, List, length, ap, ◌∙◌, arith, length-set}
use Rattle.std.proofs.Common.{get_or-set_same, get_or-set_other}
use Rattle.std.specs.Prelude.{slice_set, slice_index}
use Rattle.rv_isa.specs.Split.{split_of}
use Rattle.rv_isa.specs.Encoded.{IsExtended}
use Rattle.rv_isa.specs.Addresses.{plus, minus}
use Rattle.machine_spec.specs.declared.Ending.TheVariants.{Running}
use Rattle.machine_spec.specs.Memory.{Range}
use Rattle.machine_spec.specs.Start.{behind}
use Rattle.flat_spec.specs.Machine.{Machine, gives}

-- registers that differ from others in x0, x1 and x4 alone, with what x1 and x4 hold
pub record Changed (words now : List ℕ) (one four : ℕ) : Type 0 where
  pub long : length now ≡ 32
  pub first : slice_index now 1 ≡ one
  pub bits : slice_index now 4 ≡ four
  pub others : (k : ℕ) → k ≢ 0 → k ≢ 1 → k ≢ 4 → slice_index now k ≡ slice_index words k

pub change_first : (words now : List ℕ) (one four v : ℕ) → Changed words now one four
    → Changed words (slice_set now 1 v) v four
change_first words now one four v h = record {
  long = length-set now 1 v ∙ h.long;
  first = let inside : 1 < length now = omega (arith, h.long) in get_or-set_same now 1 v 0 inside;
  bits = let apart : 4 ≢ 1 = omega arith in get_or-set_other now 1 4 v 0 apart ∙ h.bits;
  others = λ k z n m. get_or-set_other now 1 k v 0 n ∙ h.others k z n m;
}

pub change_bits : (words now : List ℕ) (one four v : ℕ) → Changed words now one four
    → Changed words (slice_set now 4 v) one v
change_bits words now one four v h = record {
  long = length-set now 4 v ∙ h.long;
  first = let apart : 1 ≢ 4 = omega arith in get_or-set_other now 4 1 v 0 apart ∙ h.first;
  bits = let inside : 4 < length now = omega (arith, h.long) in get_or-set_same now 4 v 0 inside;
  others = λ k z n m. get_or-set_other now 4 k v 0 m ∙ h.others k z n m;
}

pub change_zero : (words now : List ℕ) (one four v : ℕ) → Changed words now one four
    → Changed words (slice_set now 0 v) one four
change_zero words now one four v h = record {
  long = length-set now 0 v ∙ h.long;
  first = let apart : 1 ≢ 0 = omega arith in get_or-set_other now 0 1 v 0 apart ∙ h.first;
  bits = let apart : 4 ≢ 0 = omega arith in get_or-set_other now 0 4 v 0 apart ∙ h.bits;
  others = λ k z n m. get_or-set_other now 0 k v 0 z ∙ h.others k z n m;
}

-- a running machine at an address, with this memory
pub record OnWay (memory : List Range) (words : List ℕ) (one four pc : ℕ) (m : Machine) : Type 0 where
  pub memory_is : m.memory ≡ memory
  pub run : m.ending ≡ Running
  pub at : m.pc ≡ pc
  pub changed : Changed words m.registers one four

pub way_first : (memory : List Range) (words : List ℕ) (one four pc v : ℕ) (m : Machine)
    → OnWay memory words one four pc m
    → OnWay memory words v four (behind pc) (gives 1 v m)
way_first memory words one four pc v m h = record {
  memory_is = h.memory_is;
  run = h.run;
  at = ap behind h.at;
  changed = change_first words m.registers one four v h.changed;
}

pub way_bits : (memory : List Range) (words : List ℕ) (one four pc v : ℕ) (m : Machine)
    → OnWay memory words one four pc m
    → OnWay memory words one v (behind pc) (gives 4 v m)
way_bits memory words one four pc v m h = record {
  memory_is = h.memory_is;
  run = h.run;
  at = ap behind h.at;
  changed = change_bits words m.registers one four v h.changed;
}

-- the two parts of a distance
pub split_sum : (d : ℕ) → d < 2 ^ 32 → ((split_of d).0 + (split_of d).1) % 2 ^ 32 ≡ d
split_sum d small = omega arith

pub split_upper : (d : ℕ) → d < 2 ^ 32 → ((split_of d).0 < 2 ^ 32) × ((split_of d).0 % 2 ^ 12 ≡ 0)
split_upper d small = (omega arith, omega arith)

pub split_lower : (d : ℕ) → d < 2 ^ 32 → IsExtended 12 (split_of d).1
split_lower d small = record { word = omega arith; sign = omega arith }

-- where auipc and jalr go that were given the parts of the distance to a target
pub goes_there : (from target : ℕ) → from < 2 ^ 32 → target < 2 ^ 32
    → plus (plus from (split_of (minus target from)).0) (split_of (minus target from)).1 ≡ target
goes_there from target small low =
    let distance : minus target from < 2 ^ 32 = omega arith in
    let sum : ((split_of (minus target from)).0 + (split_of (minus target from)).1) % 2 ^ 32 ≡ minus target from =
    split_sum (minus target from) distance in
    let upper : ℕ = (split_of (minus target from)).0 in
    let lower : ℕ = (split_of (minus target from)).1 in
    parts from target upper lower small low sum
  where
    parts : (from target upper lower : ℕ) → from < 2 ^ 32 → target < 2 ^ 32
        → (upper + lower) % 2 ^ 32 ≡ (target + (2 ^ 32 - from)) % 2 ^ 32
        → ((from + upper) % 2 ^ 32 + lower) % 2 ^ 32 ≡ target
    parts from target upper lower small low sum = omega arith
