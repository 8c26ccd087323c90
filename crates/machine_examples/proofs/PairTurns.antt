-- The call of a pair site is one turn, chosen or not, and its second word can't be run by itself.
use Rattle.std.proofs.Common.{◌≡◌, refl}
use Rattle.std.specs.Prelude.{ℕ, [], true, Some, None}
use Rattle.plan_core.specs.declared.types.Plan.{Plan}
use Rattle.machine_spec.specs.declared.Ending.TheVariants.{Fault}
use Rattle.machine_spec.specs.declared.FaultKind.TheVariants.{F6}
use Rattle.site_spec.specs.Sites.{site_at}
use Rattle.sym_value.specs.declared.Value.TheVariants.{Num, Ret}
use Rattle.sym_spec.specs.SymMachine.{SymMachine}
use Rattle.sym_spec.specs.SymNotes.{empty_note, note}
use Rattle.sym_spec.specs.SymTurns.{turn}
use Rattle.machine_examples.proofs.HeapFiles.{heap_file}
use Rattle.machine_examples.proofs.HeapSetup.{heap_plan, no_site_plan, before, heap_turn_opened}

-- the site: auipc and jalr go to malloc, and come back behind both
pub site_of_the_pair : site_at heap_file 0x10104
    ≡ Some (record { addr = 0x10104; target = 0x10118; back = 0x1010C; pair = true; near = true })
unfolding heap_turn_opened
site_of_the_pair = refl

pub no_site_at_its_second_word : site_at heap_file 0x10108 ≡ None
unfolding heap_turn_opened
no_site_at_its_second_word = refl

-- a machine at an address, and after its turn; ra holds a number before
abbrev at : ℕ → SymMachine
at pc = before pc 2 (Num 1) (Num 24) (Num 11)

abbrev next : Plan → ℕ → SymMachine
next plan pc = (turn heap_file plan [] (at pc)).next

-- the turn goes to the target with the return address in ra, and sets the bit of a chosen site alone
pub chosen_pair : next heap_plan 0x10104 ≡ before 0x10118 3 (Ret 0x1010C) (Num 24) (Num 11)
unfolding heap_turn_opened
chosen_pair = refl

pub other_pair : next no_site_plan 0x10104 ≡ before 0x10118 2 (Ret 0x1010C) (Num 24) (Num 11)
unfolding heap_turn_opened
other_pair = refl

-- it is noted in both cases
pub chosen_is_noted : note heap_file heap_plan (at 0x10104) ≡ record empty_note { call = Some 0x10104 }
unfolding heap_turn_opened
chosen_is_noted = refl

pub other_is_noted : note heap_file no_site_plan (at 0x10104) ≡ record empty_note { call = Some 0x10104 }
unfolding heap_turn_opened
other_is_noted = refl

-- nothing can be run at its second word, nor at that of a heap function, behind the code, and between two words;
-- the fault changes nothing else
pub second_word : next heap_plan 0x10108 ≡ record (at 0x10108) { ending = Fault F6 0x10108 }
unfolding heap_turn_opened
second_word = refl

pub second_word_of_other_pair : next no_site_plan 0x10108 ≡ record (at 0x10108) { ending = Fault F6 0x10108 }
unfolding heap_turn_opened
second_word_of_other_pair = refl

pub second_word_of_malloc : next heap_plan 0x1011C ≡ record (at 0x1011C) { ending = Fault F6 0x1011C }
unfolding heap_turn_opened
second_word_of_malloc = refl

pub behind_the_code : next heap_plan 0x10148 ≡ record (at 0x10148) { ending = Fault F6 0x10148 }
unfolding heap_turn_opened
behind_the_code = refl

pub between_words : next heap_plan 0x10102 ≡ record (at 0x10102) { ending = Fault F6 0x10102 }
unfolding heap_turn_opened
between_words = refl
