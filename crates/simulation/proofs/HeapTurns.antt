-- A turn of a heap function is followed where its words have done the action: control then goes back
-- through ra, and for a chosen site through its stub.
use Rattle.std.proofs.Common.{◌≡◌, ℕ, ◌+◌, ◌%◌, List, Bool, true, false, cond, map, refl, ap, sym, ◌∙◌, subst, arith}
use Rattle.std.proofs.Common.{append-nil}
use Rattle.std.specs.Prelude.{Option, Some, None, is_some, slice_get, option_and_then}
use Rattle.elf_spec.specs.declared.HeapName.{HeapName}
use Rattle.elf_spec.specs.Code.{code_word}
use Rattle.plan_core.specs.declared.types.Plan.{Plan}
use Rattle.machine_spec.specs.declared.FaultKind.TheVariants.{F3}
use Rattle.flat_spec.specs.Machine.{Machine, register}
use Rattle.flat_spec.specs.Runs.{steps}
use Rattle.flat_spec.proofs.Runs.{more_steps}
use Rattle.sym_value.specs.declared.Value.{Value}
use Rattle.sym_value.specs.declared.Value.TheVariants.{Num, Ptr, Ret, Mix, Part, Unset}
use Rattle.sym_value.specs.Standing.{IsReturn}
use Rattle.sym_cells.specs.Memory.{life_of}
use Rattle.sym_spec.specs.SymMachine.{SymMachine, value_of, faults, goes_back, clear_bit, back_index}
use Rattle.sym_spec.specs.SymCalls.{quiet}
use Rattle.sym_spec.specs.HeapActions.{Outcome, outcome, answered, returns, returns_with, serves}
use Rattle.match_spec.specs.Stands.{back_of, places_of, Holds}
use Rattle.match_spec.specs.Parts.{InMemory, InHeap}
use Rattle.match_spec.specs.Matches.{InStep}
use Rattle.match_spec.specs.Keeps.{IsNoFault}
use Rattle.simulation.specs.Ground.{Ground}
use Rattle.simulation.specs.Actions.{Acts, ActsAt}
use Rattle.simulation.proofs.Backs.{back_small}
use Rattle.simulation.proofs.Operations.{holds_unset}
use Rattle.simulation.proofs.Registers.{put_unset, changed_registers}
use Rattle.simulation.proofs.Jumping.{target_aligned}
use Rattle.simulation.proofs.Following.{Follows, HeapFollows}
use Rattle.simulation.proofs.Entries.{entry_there}
use Rattle.simulation.proofs.HeapActs.{heap_acts}
use Rattle.simulation.proofs.StubPlaces.{stub_back, unchosen_back, cleared_small}
use Rattle.site_stubs.specs.StubRuns.{GoesTo, state_of}

-- the way back from a done action
pub action_follows : (file : List ℕ) (plan : Plan) (new : List ℕ) (s n : SymMachine) (m : Machine)
    (input output : List ℕ) → Ground file plan new → InStep file plan new s m
    → Acts file plan new n m input output → IsNoFault (returns file plan (value_of s 1) n s).ending
    → Follows file plan new (quiet input (returns file plan (value_of s 1) n s)) m input output
action_follows file plan new s n m input output g h done safe =
    by_value (value_of s 1) (h.registers.holds 1 (omega arith) (omega arith)) safe
  where
    by_code : (a : ℕ) → a ≡ register m 1 → (t : Bool)
        → IsNoFault (cond t (record n { pc = a }) (faults F3 s)).ending
        → Follows file plan new (quiet input (cond t (record n { pc = a }) (faults F3 s))) m input output
    by_code a same true safe = record {
      turns = done.turns;
      some = done.some;
      few = omega (arith, done.few);
      machine = done.machine;
      is = done.run ∙ ap (λ o. state_of done.machine input o) (sym (append-nil output));
      next = record {
        pc = done.pc ∙ sym same;
        ending = done.ending ∙ sym done.running;
        registers = done.registers;
        memory = done.memory;
        heap = done.heap;
      };
    }
    by_code a same false safe = absurd safe

    by_index : (back : ℕ) → back_of file plan back ≡ register m 1 → IsReturn back → (o : Option ℕ)
        → back_index file plan.sites back ≡ o → Follows file plan new (quiet input (goes_back file plan back n)) m
        input output
    by_index back stands is None e = rw e (record {
      turns = done.turns;
      some = done.some;
      few = omega (arith, done.few);
      machine = done.machine;
      is = done.run ∙ ap (λ o. state_of done.machine input o) (sym (append-nil output));
      next = record {
        pc = done.pc ∙ (sym stands ∙ unchosen_back file plan back e);
        ending = done.ending ∙ sym done.running;
        registers = put_unset (places_of file plan n.at) n.registers done.machine.registers n.bits 1 done.registers
            (omega arith) (omega arith);
        memory = done.memory;
        heap = done.heap;
      };
    })
    by_index back stands is (Some k) e =
        let bits : ℕ = clear_bit (option_and_then (slice_get plan.sites) (back_index file plan.sites back)) n.bits in
        let ends : GoesTo 6 done.machine input output back bits =
        stub_back file plan new (places_of file plan n.at) n.memory done.machine n.bits back k input output g
        done.memory done.ending (done.pc ∙ sym stands) done.registers.long done.registers.bits_there is e in
        record {
          turns = 6 + done.turns;
          some = omega arith;
          few = omega (arith, done.few);
          machine = ends.next;
          is = more_steps 6 done.turns (state_of m input output)
              ∙ (ap (steps 6) done.run ∙ (ends.run ∙ ap (λ o. state_of ends.next input o) (sym (append-nil output))));
          next = record {
            pc = ends.pc;
            ending = ends.ending ∙ sym done.running;
            registers = changed_registers (places_of file plan n.at) n.registers done.machine.registers
                ends.next.registers n.bits (register ends.next 1) bits Unset done.registers ends.registers refl
                ends.bits (λ j a b. ends.others j a b)
                (holds_unset (places_of file plan n.at) (register ends.next 1) ends.link_small)
                (cleared_small plan.sites (back_index file plan.sites back) n.bits done.registers.bits_small);
            memory = subst (λ x. InMemory file new (places_of file plan n.at) n.memory x) (sym ends.memory) done.memory;
            heap = subst (λ x. InHeap file plan n.layout n.at (map life_of n.memory.blocks) x) (sym ends.memory)
                done.heap;
          };
        }

    by_value : (v : Value) → Holds (places_of file plan s.at) v (register m 1)
        → IsNoFault (returns file plan v n s).ending
        → Follows file plan new (quiet input (returns file plan v n s)) m input output
    by_value (Num a) holds safe = by_code a holds.is.stands (is_some (code_word file a)) safe
    by_value (Ret back) holds safe = by_index back holds.is.stands holds.is.value (back_index file plan.sites back) refl
    by_value (Ptr b o) holds safe = absurd safe
    by_value (Mix l) holds safe = absurd safe
    by_value (Part p i) holds safe = absurd safe
    by_value Unset holds safe = absurd safe

-- where a heap function returns, ra is a multiple of 4
ra_even : (file : List ℕ) (plan : Plan) (new : List ℕ) (s n : SymMachine) (m : Machine) → Ground file plan new
    → InStep file plan new s m → IsNoFault (returns file plan (value_of s 1) n s).ending → register m 1 % 4 ≡ 0
ra_even file plan new s n m g h safe =
    by_value (value_of s 1) (h.registers.holds 1 (omega arith) (omega arith)) safe
  where
    by_code : (a : ℕ) → a ≡ register m 1 → (t : Bool) → is_some (code_word file a) ≡ t
        → IsNoFault (cond t (record n { pc = a }) (faults F3 s)).ending → register m 1 % 4 ≡ 0
    by_code a same true e safe = subst (λ x. x % 4 ≡ 0) same (target_aligned file plan new a g e)
    by_code a same false e safe = absurd safe

    by_value : (v : Value) → Holds (places_of file plan s.at) v (register m 1)
        → IsNoFault (returns file plan v n s).ending → register m 1 % 4 ≡ 0
    by_value (Num a) holds safe = by_code a holds.is.stands (is_some (code_word file a)) refl safe
    by_value (Ret back) holds safe =
        subst (λ x. x % 4 ≡ 0) holds.is.stands (back_small file plan new back g holds.is.value).1
    by_value (Ptr b o) holds safe = absurd safe
    by_value (Mix l) holds safe = absurd safe
    by_value (Part p i) holds safe = absurd safe
    by_value Unset holds safe = absurd safe

-- the turn of a heap function, where its words do what they must
pub heap_follows : (file : List ℕ) (plan : Plan) (new : List ℕ) → Ground file plan new
    → ((name : HeapName) → ActsAt file plan new name) → HeapFollows file plan new
unfolding serves
heap_follows file plan new g acts name s m input output h run there safe =
    by_outcome (outcome file plan name s) refl safe
  where
    by_outcome : (o : Option Outcome) → outcome file plan name s ≡ o
        → IsNoFault (returns_with file plan o s).ending
        → Follows file plan new (quiet input (returns_with file plan o s)) m input output
    by_outcome None e safe = absurd safe
    by_outcome (Some o) e safe =
        action_follows file plan new s (answered o) m input output g h
        (acts name s m o input output h run (entry_there file s.pc name there)
        (ra_even file plan new s (answered o) m g h safe) e) safe

-- all heap functions are followed
pub heap_turns : (file : List ℕ) (plan : Plan) (new : List ℕ) → Ground file plan new → HeapFollows file plan new
heap_turns file plan new g = heap_follows file plan new g (heap_acts file plan new g)
