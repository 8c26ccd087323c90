-- The new file of the program with heap functions on the flat machine: its first eight turns go by the stub to malloc,
-- with the site's bit set in x4, the size in a0, and the stub's sixth word to come back to in ra.
use Rattle.std.proofs.Common.{◌≡◌, refl}
use Rattle.std.specs.Prelude.{ℕ, ⊤, []}
use Rattle.flat_spec.specs.Machine.{Machine, register}
use Rattle.flat_spec.specs.Runs.{flat_run}
use Rattle.machine_examples.proofs.HeapFiles.{new_heap_file}
use Rattle.machine_examples.proofs.WholeRuns.{whole_run_opened}

abbrev ran : (n : ℕ) → Machine
ran n = (flat_run new_heap_file [] n).machine

pub goes_to_malloc : (ran 8).pc ≡ 0x10118
unfolding whole_run_opened
goes_to_malloc = refl

pub sets_the_bit : register (ran 8) 4 ≡ 1
unfolding whole_run_opened
sets_the_bit = refl

pub asks_for_the_size : register (ran 8) 10 ≡ 24
unfolding whole_run_opened
asks_for_the_size = refl

pub comes_back_to_the_stub : register (ran 8) 1 ≡ 0x11024
unfolding whole_run_opened
comes_back_to_the_stub = refl
