-- A heap function that was called from a chosen site: its block is placed under the site's bit, and the way back
-- clears that bit.
use Rattle.std.proofs.Common.{◌≡◌, refl}
use Rattle.std.specs.Prelude.{ℕ, [], ◌∷◌}
use Rattle.plan_core.specs.declared.types.Plan.{Plan}
use Rattle.place_spec.specs.Layout.{first_layout}
use Rattle.machine_spec.specs.declared.Ending.TheVariants.{Running, Exit}
use Rattle.sym_value.specs.declared.Value.{Value}
use Rattle.sym_value.specs.declared.Value.TheVariants.{Num, Ptr, Ret, Unset}
use Rattle.sym_spec.specs.SymMachine.{SymMachine, value_of}
use Rattle.sym_spec.specs.SymTurns.{turn}
use Rattle.sym_spec.specs.SymRuns.{SymState, steps}
use Rattle.machine_examples.proofs.HeapFiles.{heap_file}
use Rattle.machine_examples.proofs.HeapSetup.{heap_plan, no_site_plan, before, heap_turn_opened}
use Rattle.machine_examples.proofs.Setup.{sym_start}

-- the machine after malloc was asked under these bits, and after free was
abbrev asked : Plan → (bits : ℕ) → (ra size : Value) → SymMachine
asked plan bits ra size = (turn heap_file plan [] (before 0x10118 bits ra size Unset)).next

abbrev freed : (bits : ℕ) → (pointer : Value) → SymMachine
freed bits pointer = (turn heap_file heap_plan [] (before 0x10130 bits (Ret 0x1010C) pointer Unset)).next

-- the site's bit decides the place, which is in the chunk, and then it is cleared
pub placed_under_the_bit : (asked heap_plan 1 (Ret 0x1010C) (Num 24)).at ≡ 0x16110 ∷ []
unfolding heap_turn_opened
placed_under_the_bit = refl

pub bit_is_cleared : (asked heap_plan 1 (Ret 0x1010C) (Num 24)).bits ≡ 0
unfolding heap_turn_opened
bit_is_cleared = refl

pub other_bit_stays : (asked heap_plan 3 (Ret 0x1010C) (Num 24)).bits ≡ 2
unfolding heap_turn_opened
other_bit_stays = refl

-- a refused request and a free of 0 go back like any other
pub refused_goes_back : (asked heap_plan 1 (Ret 0x1010C) (Num 129)).bits ≡ 0
unfolding heap_turn_opened
refused_goes_back = refl

pub free_goes_back : (freed 1 (Num 0)).bits ≡ 0
unfolding heap_turn_opened
free_goes_back = refl

-- a way back to another site, a number in ra, a site that isn't chosen and a fault clear nothing
pub back_to_another_site : (asked heap_plan 1 (Ret 0x1013C) (Num 24)).bits ≡ 1
unfolding heap_turn_opened
back_to_another_site = refl

pub back_to_a_number : (asked heap_plan 1 (Num 0x1010C) (Num 24)).bits ≡ 1
unfolding heap_turn_opened
back_to_a_number = refl

pub site_without_bit : (asked no_site_plan 1 (Ret 0x1010C) (Num 24)).bits ≡ 1
unfolding heap_turn_opened
site_without_bit = refl

pub fault_keeps_the_bit : (freed 1 (Num 4)).bits ≡ 1
unfolding heap_turn_opened
fault_keeps_the_bit = refl

-- the whole program, from its start: it asks for 24 bytes through the site, and exits with 0
abbrev heap_start : SymState
heap_start = record (sym_start heap_file) {
  machine = record (sym_start heap_file).machine { layout = first_layout heap_plan.area };
}

abbrev runs : ℕ → SymState
runs n = steps heap_file heap_plan n heap_start

pub run_sets_the_bit : (runs 2).machine.bits ≡ 1
unfolding heap_turn_opened
run_sets_the_bit = refl

pub run_goes_to_malloc : (runs 2).machine.pc ≡ 0x10118
unfolding heap_turn_opened
run_goes_to_malloc = refl

pub run_clears_the_bit : (runs 3).machine.bits ≡ 0
unfolding heap_turn_opened
run_clears_the_bit = refl

pub run_comes_back : (runs 3).machine.pc ≡ 0x1010C
unfolding heap_turn_opened
run_comes_back = refl

pub run_gets_a_block : value_of (runs 3).machine 10 ≡ Ptr 0 0
unfolding heap_turn_opened
run_gets_a_block = refl

pub run_places : (runs 3).machine.at ≡ 0x16110 ∷ []
unfolding heap_turn_opened
run_places = refl

pub run_goes_on : (runs 5).machine.ending ≡ Running
unfolding heap_turn_opened
run_goes_on = refl

pub run_exits : (runs 6).machine.ending ≡ Exit 0
unfolding heap_turn_opened
run_exits = refl
