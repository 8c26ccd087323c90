-- Jumps on both machines from an address that no site line names, and jumps back to a return address
-- that is no chosen site's.
use Rattle.std.proofs.Common.{◌≡◌, ◌≢◌, ℕ, ◌+◌, ◌*◌, ◌/◌, ◌%◌, ◌<◌, ◌≤◌, List, Bool, true, false, cond, refl, sym, ◌∙◌}
use Rattle.std.proofs.Common.{arith}
use Rattle.std.specs.Prelude.{Option, Some, None, is_some, nat_eq, slice_set}
use Rattle.std.proofs.lemmas.Bool.Decides.{nat_tests}
use Rattle.elf_spec.specs.Code.{code_word}
use Rattle.plan_core.specs.declared.types.Plan.{Plan}
use Rattle.rv_isa.specs.Addresses.{plus}
use Rattle.site_spec.specs.Places.{text_at, text_room}
use Rattle.machine_spec.specs.declared.FaultKind.TheVariants.{F3}
use Rattle.machine_spec.specs.Start.{behind}
use Rattle.flat_spec.specs.Machine as flat
use Rattle.flat_spec.specs.Machine.{Machine, register}
use Rattle.sym_value.specs.declared.Value.TheVariants.{Num, Ret}
use Rattle.sym_spec.specs.SymMachine.{SymMachine, faults, links, calls_from, goes_to, jumps, goes_back, line_at}
use Rattle.sym_spec.specs.SymMachine.{set_bit, back_index}
use Rattle.sym_value.specs.Standing.{IsReturn}
use Rattle.match_spec.specs.Stands.{back_of, places_of}
use Rattle.match_spec.specs.Parts.{InRegisters}
use Rattle.match_spec.specs.Matches.{InStep}
use Rattle.match_spec.specs.Keeps.{IsNoFault}
use Rattle.simulation.specs.Ground.{Ground, IsUnchosen}
use Rattle.simulation.proofs.Backs.{back_small, back_same}
use Rattle.simulation.proofs.Operations.{holds_num, holds_ret}
use Rattle.simulation.proofs.Registers.{put_register, put_zero, put_unset}

-- behind a code word lies the next word
pub behind_code : (file : List ℕ) (plan : Plan) (new : List ℕ) (a w : ℕ) → Ground file plan new
    → code_word file a ≡ Some w → behind a ≡ a + 4
behind_code file plan new a w g e =
    let low : a + 4 ≤ text_at file = g.low_code a w e in
    let room : text_at file + text_room ≤ 0x7FF00000 = g.memory.low_text in
    omega (arith, low, room)

-- the registers after a link, on both machines
pub links_alike : (file : List ℕ) (plan : Plan) (new : List ℕ) (s : SymMachine) (m : Machine) (w r : ℕ)
    → Ground file plan new → InStep file plan new s m
    → code_word file s.pc ≡ Some w → IsUnchosen file plan s.pc → r < 32 → r ≢ 4
    → InRegisters (places_of file plan s.at) (links plan r s).registers (slice_set m.registers r (behind m.pc))
    (links plan r s).bits
links_alike file plan new s m w r g h code none small other = rw h.pc (at (nat_eq r 1) refl)
  where
    next : behind s.pc ≡ s.pc + 4
    next = behind_code file plan new s.pc w g code

    at : (t : Bool) → nat_eq r 1 ≡ t
        → InRegisters (places_of file plan s.at)
        (cond t (record s {
          registers = slice_set s.registers 1 (Ret (behind s.pc));
          bits =
              set_bit (line_at plan.sites s.pc) s.bits;
        })
        (record s { registers = slice_set s.registers r (Num (behind s.pc)) })).registers
        (slice_set m.registers r (behind s.pc))
        (cond t (record s {
          registers = slice_set s.registers 1 (Ret (behind s.pc));
          bits =
              set_bit (line_at plan.sites s.pc) s.bits;
        })
        (record s { registers = slice_set s.registers r (Num (behind s.pc)) })).bits
    at true e =
        let ra : r ≡ 1 = grind (arith, nat_tests) in
        let low : s.pc + 4 ≤ text_at file = g.low_code s.pc w code in
        let room : text_at file + text_room ≤ 0x7FF00000 = g.memory.low_text in
        let aligned : s.pc % 4 ≡ 0 = g.aligned s.pc w code in
        let is : IsReturn (s.pc + 4) = (omega (arith, low, room), omega (arith, aligned)) in
        rw (ra, none.none, next) (put_register (places_of file plan s.at) s.registers m.registers s.bits 1
        (Ret (s.pc + 4)) (s.pc + 4) h.registers (omega arith) (omega arith)
        (holds_ret (places_of file plan s.at) (s.pc + 4) (s.pc + 4) is (back_same file plan new s.pc g none)
        (omega (arith, low, room))))
    at false e = put_register (places_of file plan s.at) s.registers m.registers s.bits r (Num (behind s.pc))
        (behind s.pc) h.registers small other (holds_num (places_of file plan s.at) (behind s.pc) (omega arith))

-- the code word at a jump's target
pub target_aligned : (file : List ℕ) (plan : Plan) (new : List ℕ) (a : ℕ) → Ground file plan new
    → is_some (code_word file a) ≡ true → a % 4 ≡ 0
target_aligned file plan new a g e = at (code_word file a) refl e
  where
    at : (o : Option ℕ) → code_word file a ≡ o → is_some o ≡ true → a % 4 ≡ 0
    at (Some w) q e = g.aligned a w q
    at None q e = absurd (cc)

pub flat_jump : (r target : ℕ) (m : Machine) → target % 4 ≡ 0
    → flat.jumps r target m ≡ record m { registers = slice_set m.registers r (behind m.pc); pc = target }
flat_jump r target m e = rw e refl

-- an ending that is kept
links_ending : (plan : Plan) (r : ℕ) (s : SymMachine) → (links plan r s).ending ≡ s.ending
links_ending plan r s = at (nat_eq r 1)
  where
    at : (t : Bool) → (cond t (record s {
      registers = slice_set s.registers 1 (Ret (behind s.pc));
      bits = set_bit
          (line_at plan.sites s.pc) s.bits;
    })
        (record s { registers = slice_set s.registers r (Num (behind s.pc)) })).ending ≡ s.ending
    at true = refl
    at false = refl

links_memory : (plan : Plan) (r : ℕ) (s : SymMachine) → (links plan r s).memory ≡ s.memory
links_memory plan r s = at (nat_eq r 1)
  where
    at : (t : Bool) → (cond t (record s {
      registers = slice_set s.registers 1 (Ret (behind s.pc));
      bits = set_bit
          (line_at plan.sites s.pc) s.bits;
    })
        (record s { registers = slice_set s.registers r (Num (behind s.pc)) })).memory ≡ s.memory
    at true = refl
    at false = refl

links_layout : (plan : Plan) (r : ℕ) (s : SymMachine) → (links plan r s).layout ≡ s.layout
links_layout plan r s = at (nat_eq r 1)
  where
    at : (t : Bool) → (cond t (calls_from plan (behind s.pc) s)
        (record s { registers = slice_set s.registers r (Num (behind s.pc)) })).layout ≡ s.layout
    at true = refl
    at false = refl

links_at : (plan : Plan) (r : ℕ) (s : SymMachine) → (links plan r s).at ≡ s.at
links_at plan r s = by_test (nat_eq r 1)
  where
    by_test : (t : Bool) → (cond t (calls_from plan (behind s.pc) s)
        (record s { registers = slice_set s.registers r (Num (behind s.pc)) })).at ≡ s.at
    by_test true = refl
    by_test false = refl

-- a jump to a code word
pub jumps_alike : (file : List ℕ) (plan : Plan) (new : List ℕ) (s : SymMachine) (m : Machine) (w r target : ℕ)
    → Ground file plan new → InStep file plan new s m
    → code_word file s.pc ≡ Some w → IsUnchosen file plan s.pc → r < 32 → r ≢ 4
    → IsNoFault (jumps file plan r target s).ending
    → InStep file plan new (jumps file plan r target s) (flat.jumps r target m)
jumps_alike file plan new s m w r target g h code none small other safe = at (is_some (code_word file target)) refl safe
  where
    at : (t : Bool) → is_some (code_word file target) ≡ t
        → IsNoFault (cond t (record (links plan r s) { pc = target }) (faults F3 s)).ending
        → InStep file plan new (cond t (record (links plan r s) { pc = target }) (faults F3 s)) (flat.jumps r target m)
    at true e safe =
        rw (flat_jump r target m (target_aligned file plan new target g e)) (record {
          pc = refl;
          ending = h.ending ∙ sym (links_ending plan r s);
          registers = rw (links_at plan r s) (links_alike file plan new s m w r g h code none small other);
          memory = rw (links_at plan r s, links_memory plan r s) h.memory;
          heap = rw (links_at plan r s, links_layout plan r s, links_memory plan r s) h.heap;
        })
    at false e safe = absurd safe

-- a taken branch
pub branch_alike : (file : List ℕ) (plan : Plan) (new : List ℕ) (s : SymMachine) (m : Machine) (target : ℕ)
    → Ground file plan new → InStep file plan new s m
    → IsNoFault (goes_to file target s).ending → InStep file plan new (goes_to file target s) (flat.jumps 0 target m)
branch_alike file plan new s m target g h safe = at (is_some (code_word file target)) refl safe
  where
    at : (t : Bool) → is_some (code_word file target) ≡ t
        → IsNoFault (cond t (record s { pc = target }) (faults F3 s)).ending
        → InStep file plan new (cond t (record s { pc = target }) (faults F3 s)) (flat.jumps 0 target m)
    at true e safe =
        rw (flat_jump 0 target m (target_aligned file plan new target g e)) (record {
          pc = refl;
          ending = h.ending;
          registers = put_zero (places_of file plan s.at) s.registers m.registers s.bits (behind m.pc) h.registers;
          memory = h.memory;
          heap = h.heap;
        })
    at false e safe = absurd safe

-- a jump back to a return address goes to where the call comes back to in the new file
pub flat_back : (file : List ℕ) (plan : Plan) (new : List ℕ) (back : ℕ) (m : Machine) → Ground file plan new
    → IsReturn back
    → flat.jumps 0 (plus (back_of file plan back) 0 / 2 * 2) m
    ≡ record m { registers = slice_set m.registers 0 (behind m.pc); pc = back_of file plan back }
flat_back file plan new back m g h =
    let is : IsReturn (back_of file plan back) = back_small file plan new back g h in
    let target : plus (back_of file plan back) 0 / 2 * 2 ≡ back_of file plan back = omega (arith, is.0, is.1) in
    rw target (flat_jump 0 (back_of file plan back) m is.1)

-- and stays there where the call is no chosen site's
pub back_alike : (file : List ℕ) (plan : Plan) (new : List ℕ) (s : SymMachine) (m : Machine) (back : ℕ)
    → Ground file plan new → InStep file plan new s m
    → back_index file plan.sites back ≡ None
    → InStep file plan new (goes_back file plan back s)
    (record m { registers = slice_set m.registers 0 (behind m.pc); pc = back_of file plan back })
unfolding back_of
back_alike file plan new s m back g h none = rw none (record {
  pc = refl;
  ending = h.ending;
  registers = put_unset (places_of file plan s.at) s.registers (slice_set m.registers 0 (behind m.pc)) s.bits 1
      (put_zero (places_of file plan s.at) s.registers m.registers s.bits (behind m.pc) h.registers) (omega arith)
      (omega arith);
  memory = h.memory;
  heap = h.heap;
})
