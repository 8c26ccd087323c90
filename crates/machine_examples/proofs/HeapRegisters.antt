-- What a heap function leaves in the registers: its answer is in a0, a1 to a7 and t0 to t6 are unset, ra is
-- unset after a way back, and all others stay.
use Rattle.std.proofs.Common.{◌≡◌, refl}
use Rattle.std.specs.Prelude.{List, [], ◌∷◌}
use Rattle.sym_value.specs.declared.Value.{Value}
use Rattle.sym_value.specs.declared.Value.TheVariants.{Num, Ptr, Unset}
use Rattle.sym_spec.specs.SymMachine.{SymMachine}
use Rattle.sym_spec.specs.SymTurns.{turn}
use Rattle.machine_examples.proofs.HeapFiles.{heap_file}
use Rattle.machine_examples.proofs.HeapSetup.{heap_plan, before, called, called_with_block, heap_turn_opened}

abbrev after : SymMachine → List Value
after m = (turn heap_file heap_plan [] m).next.registers

abbrev leaves : (ra answer : Value) → List Value
leaves ra answer =
    Num 0 ∷ ra ∷ Num 2 ∷ Num 3 ∷ Num 4 ∷ Unset ∷ Unset ∷ Unset ∷ Num 8 ∷ Num 9 ∷ answer ∷ Unset ∷ Unset ∷ Unset
    ∷ Unset ∷ Unset ∷ Unset ∷ Unset ∷ Num 18 ∷ Num 19 ∷ Num 20 ∷ Num 21 ∷ Num 22 ∷ Num 23 ∷ Num 24 ∷ Num 25
    ∷ Num 26 ∷ Num 27 ∷ Unset ∷ Unset ∷ Unset ∷ Unset ∷ []

-- malloc answers the front of its block, and 0 where it is refused
pub malloc_grants : after (called 0x10118 (Num 24) (Num 5)) ≡ leaves Unset (Ptr 0 0)
unfolding heap_turn_opened
malloc_grants = refl

pub malloc_refused : after (called 0x10118 (Num 65) (Num 5)) ≡ leaves Unset (Num 0)
unfolding heap_turn_opened
malloc_refused = refl

-- through a number ra stays
pub malloc_to_number : after (before 0x10118 0 (Num 0x1010C) (Num 24) (Num 5)) ≡ leaves (Num 0x1010C) (Ptr 0 0)
unfolding heap_turn_opened
malloc_to_number = refl

pub calloc_grants : after (called 0x10120 (Num 3) (Num 8)) ≡ leaves Unset (Ptr 0 0)
unfolding heap_turn_opened
calloc_grants = refl

pub calloc_overflows : after (called 0x10120 (Num 65536) (Num 65536)) ≡ leaves Unset (Num 0)
unfolding heap_turn_opened
calloc_overflows = refl

pub realloc_moves : after (called_with_block 0x10128 (Ptr 0 0) (Num 32)) ≡ leaves Unset (Ptr 1 0)
unfolding heap_turn_opened
realloc_moves = refl

pub realloc_refused : after (called_with_block 0x10128 (Ptr 0 0) (Num 33)) ≡ leaves Unset (Num 0)
unfolding heap_turn_opened
realloc_refused = refl

-- free leaves a0 unset, also where it is given 0
pub free_releases : after (called_with_block 0x10130 (Ptr 0 0) (Num 5)) ≡ leaves Unset Unset
unfolding heap_turn_opened
free_releases = refl

pub free_of_zero : after (called 0x10130 (Num 0) (Num 5)) ≡ leaves Unset Unset
unfolding heap_turn_opened
free_of_zero = refl
