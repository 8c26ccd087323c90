-- The words of a stub call and go back as `Calls` and `Returns` say.
use Rattle.std.proofs.Common.{◌≡◌, ◌≢◌, ℕ, ◌-◌, ◌%◌, ◌^◌, ◌<◌, ◌≤◌, ◌==◌, Bool, true, false, List, nat_eq, refl, sym}
use Rattle.std.proofs.Common.{◌∙◌, subst, arith, min, max, if◌then◌else◌, w32}
use Rattle.std.specs.Prelude.{slice_index, bit_and, bit_or}
use Rattle.std.specs.Int.{bit_at}
use Rattle.std.proofs.lemmas.Bool.Decides.{nat_tests}
use Rattle.std.proofs.lemmas.Nat.Bits.{bit_at-pow_other, bit_at-pow_same, bit_at_and, bit_at_not, bit_at_or}
use Rattle.rv_isa.specs.declared.Op.TheVariants.{Add, Sll, Or, Xor, And}
use Rattle.rv_isa.specs.declared.Instr.TheVariants.{Auipc, OpImm, Reg}
use Rattle.rv_isa.specs.Split.{split_of}
use Rattle.rv_isa.specs.Addresses.{plus, minus}
use Rattle.new_file_spec.specs.Stubs.{stub_words}
use Rattle.machine_spec.specs.Memory.{Range}
use Rattle.flat_spec.specs.Machine.{Machine, register}
use Rattle.flat_spec.specs.Runs.{State, steps}
use Rattle.site_stubs.specs.StubRuns.{Calls, CallsFrom, ClearsBit, GoesBack, GoesTo, Returns, RunsAt, SetsBit, StandAt}
use Rattle.site_stubs.specs.StubRuns.{state_of}
use Rattle.site_stubs.proofs.Way.{change_first, change_zero, Changed, split_lower, split_upper, goes_there}
use Rattle.site_stubs.proofs.Turns.{EndsAt, IsFormed-add, IsFormed-ones, add_turn, and_turn, auipc_turn, bit_small}
use Rattle.site_stubs.proofs.Turns.{next_bits, next_first, next_jump, or_turn, shift_turn, xor_turn}

-- a machine that hasn't moved yet
starts : (m : Machine) (pc at : ℕ) (words : List ℕ) (input output : List ℕ) → RunsAt m pc at words
    → EndsAt m.memory m.registers (register m 1) (register m 4) pc input output 0 (state_of m input output)
unfolding steps
starts m pc at words input output h = record {
  machine = m;
  is = refl;
  way = record {
    memory_is = refl;
    run = h.ending;
    at = h.pc;
    changed = record { long = h.registers; first = refl; bits = refl; others = λ k z n x. refl };
  };
}

-- registers of which x0, x1 and x4 alone differ read alike but for x1 and x4
reads_alike : (words now : List ℕ) (one four k : ℕ) → Changed words now one four → k ≢ 1 → k ≢ 4
    → (if k == 0 then 0 else slice_index now k) ≡ (if k == 0 then 0 else slice_index words k)
reads_alike words now one four k h a b = decide (nat_eq k 0) refl
  where
    decide : (z : Bool) → nat_eq k 0 ≡ z → (if k == 0 then 0 else slice_index now k)
        ≡ (if k == 0 then 0 else slice_index words k)
    decide true e = rw e refl
    decide false e = let other : k ≢ 0 = grind (arith, nat_tests) in rw e (h.others k other a b)

-- the machine at the end of a way
ends : (m : Machine) (one bits pc count : ℕ) (input output : List ℕ) → one < 2 ^ 32
    → EndsAt m.memory m.registers one bits pc input output count (state_of m input output)
    → GoesTo count m input output pc bits
ends m one bits pc count input output small h = record {
  next = h.machine;
  run = h.is;
  ending = h.way.run;
  pc = h.way.at;
  memory = h.way.memory_is;
  registers = h.way.changed.long;
  bits = h.way.changed.bits;
  link_small = let same : slice_index h.machine.registers 1 ≡ one = h.way.changed.first in rw same small;
  others = λ k a b. reads_alike m.registers h.machine.registers one bits k h.way.changed a b;
}

-- what `|` and `&` do to one bit
max_one : (x n : ℕ) → x ≤ 1 → n ≡ 1 → max x n ≡ 1
max_one x n l e = grind arith

max_none : (x n : ℕ) → n ≡ 0 → max x n ≡ x
max_none x n e = grind arith

min_one : (x m n : ℕ) → m ≡ 1 - n → n ≡ 1 → min x m ≡ 0
min_one x m n h e = grind arith

min_none : (x m n : ℕ) → m ≡ 1 - n → n ≡ 0 → x ≤ 1 → min x m ≡ x
min_none x m n h e l = grind arith

bit_few : (x b : ℕ) → bit_at x b ≤ 1
bit_few x b = omega arith

-- one bit of a word is set
sets_one : (bit before : ℕ) → SetsBit bit before (bit_or before (2 ^ bit))
sets_one bit before b small = decide (nat_eq b bit) refl
  where
    decide : (t : Bool) → nat_eq b bit ≡ t → bit_at (bit_or before (2 ^ bit)) b
        ≡ (if b == bit then 1 else bit_at before b)
    decide true e =
        let same : b ≡ bit = grind (arith, nat_tests) in
        let one : bit_at (2 ^ bit) b ≡ 1 = rw same (bit_at-pow_same bit) in
        rw e (bit_at_or before (2 ^ bit) b ∙ max_one (bit_at before b) (bit_at (2 ^ bit) b) (bit_few before b) one)
    decide false e =
        let other : b ≢ bit = grind (arith, nat_tests) in
        let none : bit_at (2 ^ bit) b ≡ 0 = bit_at-pow_other bit b other in
        rw e (bit_at_or before (2 ^ bit) b ∙ max_none (bit_at before b) (bit_at (2 ^ bit) b) none)

-- and cleared
clears_one : (bit before : ℕ) → bit < 32 → ClearsBit bit before (bit_and before (2 ^ 32 - 1 - 2 ^ bit))
clears_one bit before low b small = decide (nat_eq b bit) refl
  where
    mask : bit_at (2 ^ 32 - 1 - 2 ^ bit) b ≡ 1 - bit_at (2 ^ bit) b
    mask = bit_at_not w32 (2 ^ bit) b (bit_small bit low) small

    decide : (t : Bool) → nat_eq b bit ≡ t → bit_at (bit_and before (2 ^ 32 - 1 - 2 ^ bit)) b
        ≡ (if b == bit then 0 else bit_at before b)
    decide true e =
        let same : b ≡ bit = grind (arith, nat_tests) in
        let one : bit_at (2 ^ bit) b ≡ 1 = rw same (bit_at-pow_same bit) in
        rw e (bit_at_and before (2 ^ 32 - 1 - 2 ^ bit) b
        ∙ min_one (bit_at before b) (bit_at (2 ^ 32 - 1 - 2 ^ bit) b) (bit_at (2 ^ bit) b) mask one)
    decide false e =
        let other : b ≢ bit = grind (arith, nat_tests) in
        let none : bit_at (2 ^ bit) b ≡ 0 = bit_at-pow_other bit b other in
        rw e (bit_at_and before (2 ^ 32 - 1 - 2 ^ bit) b
        ∙ min_none (bit_at before b) (bit_at (2 ^ 32 - 1 - 2 ^ bit) b) (bit_at (2 ^ bit) b) mask none
        (bit_few before b))

called : (m : Machine) (at bit target : ℕ) (input output : List ℕ)
    → EndsAt m.memory m.registers (plus at 20) (bit_or (register m 4) (2 ^ bit)) target input output 5
    (state_of m input output)
    → CallsFrom at bit target m input output
unfolding ends
called m at bit target input output h = record {
  reaches = ends m (plus at 20) (bit_or (register m 4) (2 ^ bit)) target 5 input output (omega arith) h;
  link = h.way.changed.first;
  one_bit = subst (SetsBit bit (register m 4)) (sym h.way.changed.bits) (sets_one bit (register m 4));
}

went_back : (m : Machine) (one bit back : ℕ) (input output : List ℕ) → bit < 32 → one < 2 ^ 32
    → EndsAt m.memory m.registers one (bit_and (register m 4) (2 ^ 32 - 1 - 2 ^ bit)) back input output 6
    (state_of m input output)
    → GoesBack bit back m input output
unfolding ends
went_back m one bit back input output small word h = record {
  reaches = ends m one (bit_and (register m 4) (2 ^ 32 - 1 - 2 ^ bit)) back 6 input output word h;
  one_bit = subst (ClearsBit bit (register m 4)) (sym h.way.changed.bits) (clears_one bit (register m 4) small);
}

distance_small : (target from : ℕ) → minus target from < 2 ^ 32
distance_small target from = omega arith

-- the first five words
pub calls : (at bit target back : ℕ) → at < 2 ^ 32 → bit < 32 → target < 2 ^ 32 → target % 4 ≡ 0
    → Calls at bit target (stub_words at bit target back)
calls at bit target back room small low aligned m input output h =
    let memory : List Range = m.memory in
    let words : List ℕ = m.registers in
    let four : ℕ = register m 4 in
    let from : State = state_of m input output in
    let there : StandAt memory at (stub_words at bit target back) = h.words in
    let zero : at ≡ plus at 0 = omega (arith, room) in
    let s0 : EndsAt memory words (register m 1) four (plus at 0) input output 0 from =
    subst (λ p. EndsAt memory words (register m 1) four p input output 0 from) zero
    (starts m at at (stub_words at bit target back) input output h) in
    let s1 : EndsAt memory words 1 four (plus at 4) input output 1 from =
    next_first memory words (register m 1) four at 0 1 input output 0 from (OpImm Add 1 0 1) s0
    (there 0 (omega arith)) IsFormed-add (λ n x. add_turn input n) in
    let s2 : EndsAt memory words (2 ^ bit) four (plus at 8) input output 2 from =
    next_first memory words 1 four at 4 (2 ^ bit) input output 1 from (OpImm Sll 1 1 bit) s1 (there 1 (omega arith))
    (omega arith, omega arith, small)
    (λ n x. shift_turn input n bit x.changed.first small) in
    let set : ℕ = bit_or four (2 ^ bit) in
    let s3 : EndsAt memory words (2 ^ bit) set (plus at 12) input output 3 from =
    next_bits memory words (2 ^ bit) four at 8 set input output 2 from (Reg Or 4 4 1) s2 (there 2 (omega arith))
    (omega arith, omega arith, omega arith)
    (λ n x. or_turn input n (2 ^ bit) four x.changed.first x.changed.bits) in
    let distance : ℕ = minus target (plus at 12) in
    let upper : ℕ = (split_of distance).0 in
    let lower : ℕ = (split_of distance).1 in
    let near : distance < 2 ^ 32 = distance_small target (plus at 12) in
    let s4 : EndsAt memory words (plus (plus at 12) upper) set (plus at 16) input output 4 from =
    next_first memory words (2 ^ bit) set at 12 (plus (plus at 12) upper) input output 3 from (Auipc 1 upper) s3
    (there 3 (omega arith))
    (omega arith, (split_upper distance near).0, (split_upper distance near).1)
    (λ n x. auipc_turn input n (plus at 12) upper x.at) in
    let s5 : EndsAt memory words (plus at 20) set target input output 5 from =
    next_jump memory words (plus (plus at 12) upper) set at 16 1 lower target input output 4 from s4
    (there 4 (omega arith))
    (omega arith, omega arith, split_lower distance near) (goes_there (plus at 12) target (omega arith) low) aligned
    (plus at 20)
    (change_first words s4.machine.registers (plus (plus at 12) upper) set (plus at 20) s4.way.changed) in
    called m at bit target input output s5

-- the last six
pub returns : (at bit target back : ℕ) → bit < 32 → back < 2 ^ 32 → back % 4 ≡ 0
    → Returns at bit back (stub_words at bit target back)
returns at bit target back small low aligned m input output h =
    let memory : List Range = m.memory in
    let words : List ℕ = m.registers in
    let four : ℕ = register m 4 in
    let from : State = state_of m input output in
    let there : StandAt memory at (stub_words at bit target back) = h.words in
    let s0 : EndsAt memory words (register m 1) four (plus at 20) input output 0 from =
    starts m (plus at 20) at (stub_words at bit target back) input output h in
    let s1 : EndsAt memory words 1 four (plus at 24) input output 1 from =
    next_first memory words (register m 1) four at 20 1 input output 0 from (OpImm Add 1 0 1) s0
    (there 5 (omega arith)) IsFormed-add (λ n x. add_turn input n) in
    let s2 : EndsAt memory words (2 ^ bit) four (plus at 28) input output 2 from =
    next_first memory words 1 four at 24 (2 ^ bit) input output 1 from (OpImm Sll 1 1 bit) s1 (there 6 (omega arith))
    (omega arith, omega arith, small)
    (λ n x. shift_turn input n bit x.changed.first small) in
    let mask : ℕ = 2 ^ 32 - 1 - 2 ^ bit in
    let s3 : EndsAt memory words mask four (plus at 32) input output 3 from =
    next_first memory words (2 ^ bit) four at 28 mask input output 2 from (OpImm Xor 1 1 (2 ^ 32 - 1)) s2
    (there 7 (omega arith)) IsFormed-ones
    (λ n x. xor_turn input n (2 ^ bit) x.changed.first (bit_small bit small)) in
    let cleared : ℕ = bit_and four mask in
    let s4 : EndsAt memory words mask cleared (plus at 36) input output 4 from =
    next_bits memory words mask four at 32 cleared input output 3 from (Reg And 4 4 1) s3 (there 8 (omega arith))
    (omega arith, omega arith, omega arith)
    (λ n x. and_turn input n mask four x.changed.first x.changed.bits) in
    let distance : ℕ = minus back (plus at 36) in
    let upper : ℕ = (split_of distance).0 in
    let lower : ℕ = (split_of distance).1 in
    let near : distance < 2 ^ 32 = distance_small back (plus at 36) in
    let s5 : EndsAt memory words (plus (plus at 36) upper) cleared (plus at 40) input output 5 from =
    next_first memory words mask cleared at 36 (plus (plus at 36) upper) input output 4 from (Auipc 1 upper) s4
    (there 9 (omega arith))
    (omega arith, (split_upper distance near).0, (split_upper distance near).1)
    (λ n x. auipc_turn input n (plus at 36) upper x.at) in
    let s6 : EndsAt memory words (plus (plus at 36) upper) cleared back input output 6 from =
    next_jump memory words (plus (plus at 36) upper) cleared at 40 0 lower back input output 5 from s5
    (there 10 (omega arith))
    (omega arith, omega arith, split_lower distance near) (goes_there (plus at 36) back (omega arith) low) aligned
    (plus (plus at 36) upper)
    (change_zero words s5.machine.registers (plus (plus at 36) upper) cleared (plus at 44) s5.way.changed) in
    went_back m (plus (plus at 36) upper) bit back input output small (omega arith) s6
