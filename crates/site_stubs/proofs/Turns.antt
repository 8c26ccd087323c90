-- The turns of a stub's instructions on the flat machine.
use Rattle.std.proofs.Common.{◌≡◌, ℕ, suc, ◌+◌, ◌-◌, ◌*◌, ◌/◌, ◌%◌, ◌^◌, ◌<◌, List, refl, ap, ◌∙◌, subst, arith}
use Rattle.std.proofs.Math.Pow.{pow-lt}
use Rattle.std.specs.Prelude.{Some, slice_set, bit_and, bit_or, bit_xor}
use lib.Bits.{xor_add_and, and_mask}
use Rattle.rv_isa.specs.declared.Op.TheVariants.{Add, Sll, Or, Xor, And}
use Rattle.rv_isa.specs.declared.Instr.{Instr}
use Rattle.rv_isa.specs.declared.Instr.TheVariants.{Auipc, Jalr, OpImm, Reg}
use Rattle.rv_isa.specs.Compute.{computed}
use Rattle.rv_isa.specs.Encoded.{encoded, IsFormed}
use Rattle.rv_isa.proofs.RoundTrip.{decoded-encoded}
use Rattle.rv_isa.specs.Addresses.{plus}
use Rattle.machine_spec.specs.Memory.{Range}
use Rattle.machine_spec.specs.Start.{behind}
use Rattle.flat_spec.specs.Stores.{fetched}
use Rattle.flat_spec.specs.Machine.{Machine, register, gives}
use Rattle.flat_spec.specs.Calls.{quiet}
use Rattle.flat_spec.specs.Turns.{turn, executes, acts}
use Rattle.flat_spec.specs.Runs.{State, step, steps}
use Rattle.site_stubs.specs.StubRuns.{state_of}
use Rattle.site_stubs.proofs.Steps.{next_step, step_quiet, turn_is}
use Rattle.site_stubs.proofs.Way.{Changed, OnWay, way_bits, way_first}

-- a turn of a formed instruction that stands at the pc
pub formed_turn : (memory : List Range) (words : List ℕ) (one four pc : ℕ) (input : List ℕ) (m : Machine) (i : Instr)
    → OnWay memory words one four pc m
    → fetched memory pc ≡ Some (encoded i) → IsFormed i → turn input m ≡ executes input (Some i) m
formed_turn memory words one four pc input m i h e formed =
    turn_is input m (encoded i) (Some i) h.run (rw (h.memory_is, h.at) e) (decoded-encoded i formed)

-- what the operations of a stub give
one_is : computed Add 0 1 ≡ 1
unfolding computed
one_is = refl

pub bit_small : (bit : ℕ) → bit < 32 → 2 ^ bit < 2 ^ 32
bit_small bit small = pow-lt small

pub shifted : (bit : ℕ) → bit < 32 → computed Sll 1 bit ≡ 2 ^ bit
unfolding computed
shifted bit small =
    let same : bit % 32 ≡ bit = omega arith in
    let low : 2 ^ bit < 2 ^ 32 = bit_small bit small in
    rw same (omega (arith, low))

pub inverted : (a : ℕ) → a < 2 ^ 32 → computed Xor a (2 ^ 32 - 1) ≡ 2 ^ 32 - 1 - a
unfolding computed
inverted a small =
    let mask : bit_and a (2 ^ 32 - 1) ≡ a % 2 ^ 32 = and_mask a 32 in
    let sum : bit_xor a (2 ^ 32 - 1) + bit_and a (2 ^ 32 - 1) * 2 ≡ a + (2 ^ 32 - 1) = xor_add_and a (2 ^ 32 - 1) in
    omega (arith, mask, sum, small)

-- each instruction of a stub, as what it gives
pub add_turn : (input : List ℕ) (m : Machine) → executes input (Some (OpImm Add 1 0 1)) m ≡ quiet input (gives 1 1 m)
unfolding acts computed
add_turn input m = refl

pub shift_turn : (input : List ℕ) (m : Machine) (bit : ℕ) → register m 1 ≡ 1 → bit < 32
    → executes input (Some (OpImm Sll 1 1 bit)) m ≡ quiet input (gives 1 (2 ^ bit) m)
unfolding acts
shift_turn input m bit e small = rw e (ap (λ v. quiet input (gives 1 v m)) (shifted bit small))

pub or_turn : (input : List ℕ) (m : Machine) (one four : ℕ) → register m 1 ≡ one → register m 4 ≡ four
    → executes input (Some (Reg Or 4 4 1)) m ≡ quiet input (gives 4 (bit_or four one) m)
unfolding acts computed
or_turn input m one four e f = rw (e, f) refl

pub xor_turn : (input : List ℕ) (m : Machine) (one : ℕ) → register m 1 ≡ one → one < 2 ^ 32
    → executes input (Some (OpImm Xor 1 1 (2 ^ 32 - 1))) m ≡ quiet input (gives 1 (2 ^ 32 - 1 - one) m)
unfolding acts
xor_turn input m one e small = rw e (ap (λ v. quiet input (gives 1 v m)) (inverted one small))

pub and_turn : (input : List ℕ) (m : Machine) (one four : ℕ) → register m 1 ≡ one → register m 4 ≡ four
    → executes input (Some (Reg And 4 4 1)) m ≡ quiet input (gives 4 (bit_and four one) m)
unfolding acts computed
and_turn input m one four e f = rw (e, f) refl

pub auipc_turn : (input : List ℕ) (m : Machine) (pc imm : ℕ) → m.pc ≡ pc
    → executes input (Some (Auipc 1 imm)) m ≡ quiet input (gives 1 (plus pc imm) m)
unfolding acts
auipc_turn input m pc imm e = ap (λ p. quiet input (gives 1 (plus p imm) m)) e

pub jalr_turn : (input : List ℕ) (m : Machine) (rd one imm target : ℕ) → register m 1 ≡ one
    → plus one imm / 2 * 2 ≡ target → target % 4 ≡ 0
    → executes input (Some (Jalr rd 1 imm)) m ≡ quiet input
    (record m { registers = slice_set m.registers rd (behind m.pc); pc = target })
unfolding acts
jalr_turn input m rd one imm target e t aligned = rw (e, t, aligned) refl

-- the end of a way: so many turns lead to a state_of machine there
pub record EndsAt (memory : List Range) (words : List ℕ) (one four pc : ℕ) (input output : List ℕ) (count : ℕ)
    (from : State) : Type 0 where
  pub machine : Machine
  pub is : steps count from ≡ state_of machine input output
  pub way : OnWay memory words one four pc machine

behind_plus : (at k : ℕ) → behind (plus at k) ≡ plus at (k + 4)
behind_plus at k = omega arith

-- one more turn on the way, which gives x1 or x4 a word
pub next_first : (memory : List Range) (words : List ℕ) (one four at k v : ℕ) (input output : List ℕ) (count : ℕ)
    (from : State) (i : Instr)
    → EndsAt memory words one four (plus at k) input output count from → fetched memory (plus at k) ≡ Some (encoded i)
    → IsFormed i
    → ((m : Machine) → OnWay memory words one four (plus at k) m
    → executes input (Some i) m ≡ quiet input (gives 1 v m))
    → EndsAt memory words v four (plus at (k + 4)) input output (suc count) from
next_first memory words one four at k v input output count from i h e formed does = record {
  machine = gives 1 v h.machine;
  is = next_step count from ∙ (ap step h.is ∙ step_quiet input output h.machine (gives 1 v h.machine)
      (formed_turn memory words one four (plus at k) input h.machine i h.way e formed ∙ does h.machine h.way));
  way = subst (λ p. OnWay memory words v four p (gives 1 v h.machine)) (behind_plus at k)
      (way_first memory words one four (plus at k) v h.machine h.way);
}

pub next_bits : (memory : List Range) (words : List ℕ) (one four at k v : ℕ) (input output : List ℕ) (count : ℕ)
    (from : State) (i : Instr)
    → EndsAt memory words one four (plus at k) input output count from → fetched memory (plus at k) ≡ Some (encoded i)
    → IsFormed i
    → ((m : Machine) → OnWay memory words one four (plus at k) m
    → executes input (Some i) m ≡ quiet input (gives 4 v m))
    → EndsAt memory words one v (plus at (k + 4)) input output (suc count) from
next_bits memory words one four at k v input output count from i h e formed does = record {
  machine = gives 4 v h.machine;
  is = next_step count from ∙ (ap step h.is ∙ step_quiet input output h.machine (gives 4 v h.machine)
      (formed_turn memory words one four (plus at k) input h.machine i h.way e formed ∙ does h.machine h.way));
  way = subst (λ p. OnWay memory words one v p (gives 4 v h.machine)) (behind_plus at k)
      (way_bits memory words one four (plus at k) v h.machine h.way);
}

-- one more turn, which goes through x1 to a target and gives x1 or x0 the address behind it
pub next_jump : (memory : List Range) (words : List ℕ) (one four at k rd lower target : ℕ) (input output : List ℕ)
    (count : ℕ) (from : State)
    → (h : EndsAt memory words one four (plus at k) input output count from)
    → fetched memory (plus at k) ≡ Some (encoded (Jalr rd 1 lower))
    → IsFormed (Jalr rd 1 lower) → plus one lower ≡ target → target % 4 ≡ 0 → (one' : ℕ)
    → Changed words (slice_set h.machine.registers rd (plus at (k + 4))) one' four
    → EndsAt memory words one' four target input output (suc count) from
next_jump memory words one four at k rd lower target input output count from h e formed there aligned one' changed =
    let to : plus one lower / 2 * 2 ≡ target = rw there (omega (arith, aligned)) in
    let next : Machine = record h.machine {
      registers = slice_set h.machine.registers rd (behind h.machine.pc);
      pc =
          target;
    } in
    let link : behind h.machine.pc ≡ plus at (k + 4) = ap behind h.way.at ∙ behind_plus at k in
    record {
      machine = next;
      is = next_step count from ∙ (ap step h.is ∙ step_quiet input output h.machine next
          (formed_turn memory words one four (plus at k) input h.machine (Jalr rd 1 lower) h.way e formed
          ∙ jalr_turn input h.machine rd one lower target h.way.changed.first to aligned));
      way = record {
        memory_is = h.way.memory_is;
        run = h.way.run;
        at = refl;
        changed = rw link changed;
      };
    }

pub IsFormed-add : IsFormed (OpImm Add 1 0 1)
IsFormed-add = (omega arith, omega arith, record { word = omega arith; sign = omega arith })

pub IsFormed-ones : IsFormed (OpImm Xor 1 1 (2 ^ 32 - 1))
IsFormed-ones = (omega arith, omega arith, record { word = omega arith; sign = omega arith })
