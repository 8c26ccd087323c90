-- What a heap function leaves of the blocks and of the area: a new block reads as zero, a moved one has the old
-- cells first, a released one is dead, and a refused request changes nothing.
use Rattle.std.proofs.Common.{◌≡◌, refl}
use Rattle.std.specs.Prelude.{ℕ, List, [], ◌∷◌, true, false, Some, None, replicate}
use Rattle.place_spec.specs.Layout.{idle_chunk}
use Rattle.sym_value.specs.declared.Value.TheVariants.{Num, Ptr, Ret, Unset}
use Rattle.sym_cells.specs.declared.Mark.TheVariants.{Known}
use Rattle.sym_cells.specs.Cells.{Cell, Bytes, blank_cell, zero_cell}
use Rattle.sym_cells.specs.Memory.{Block}
use Rattle.sym_spec.specs.SymMachine.{SymMachine}
use Rattle.sym_spec.specs.SymTurns.{turn}
use Rattle.machine_examples.proofs.HeapFiles.{heap_file}
use Rattle.machine_examples.proofs.HeapSetup.{heap_plan, before, one_block, called, called_with_block, with_block}
use Rattle.machine_examples.proofs.HeapSetup.{heap_turn_opened}
use Rattle.machine_examples.proofs.Setup.{small_start}

abbrev next : SymMachine → SymMachine
next m = (turn heap_file heap_plan [] m).next

abbrev living : List Cell → Block
living cells = record { cells = cells; lives = true }

abbrev dead : (cells : ℕ) → Block
dead n = record { cells = replicate n blank_cell; lives = false }

-- malloc of 24 bytes takes two granules, and of none takes one
pub new_block : (next (called 0x10118 (Num 24) Unset)).memory.blocks ≡ living (replicate 8 zero_cell) ∷ []
unfolding heap_turn_opened
new_block = refl

pub least_block : (next (called 0x10118 (Num 0) Unset)).memory.blocks ≡ living (replicate 4 zero_cell) ∷ []
unfolding heap_turn_opened
least_block = refl

-- at the front of the fallback, and in the chunk under the site's bit
pub in_the_fallback : (next (called 0x10118 (Num 24) Unset)).layout ≡ one_block
unfolding heap_turn_opened
in_the_fallback = refl

pub in_the_chunk : (next (before 0x10118 1 (Ret 0x1010C) (Num 24) Unset)).layout
    ≡ record {
      currents = Some 0 ∷ replicate 15 None;
      chunks = record { owner = Some 0; bump = 2; live = 1 } ∷ [];
      holes = record { start = 0; length = 4 } ∷ [];
      blocks = record { first = 4; granules = 2; group = Some 0 } ∷ [];
    }
unfolding heap_turn_opened
in_the_chunk = refl

-- a released block keeps its capacity and its address, and its granules are a hole again
pub released_block : (next (called_with_block 0x10130 (Ptr 0 0) Unset)).memory.blocks ≡ dead 8 ∷ []
unfolding heap_turn_opened
released_block = refl

pub released_address : (next (called_with_block 0x10130 (Ptr 0 0) Unset)).at ≡ 0x160D0 ∷ []
unfolding heap_turn_opened
released_address = refl

pub released_layout : (next (called_with_block 0x10130 (Ptr 0 0) Unset)).layout
    ≡ record {
      currents = replicate 16 None;
      chunks = idle_chunk ∷ [];
      holes = record { start = 0; length = 4 } ∷ [];
      blocks = [];
    }
unfolding heap_turn_opened
released_layout = refl

-- a machine that asks to move the block, whose first byte is 81
abbrev first_cell : Cell
first_cell = Bytes (Known 81) (Known 0) (Known 0) (Known 0)

abbrev moves : (bits size : ℕ) → SymMachine
moves bits size = record (with_block 0x10128 bits (Ret 0x1010C) (Ptr 0 0) (Num size)) {
  memory = record (small_start heap_file) { blocks = living (first_cell ∷ replicate 7 zero_cell) ∷ [] };
}

-- to as many granules, to less, and to more, which stand in the chunk
pub moved_block : (next (moves 0 32)).memory.blocks ≡ dead 8 ∷ living (first_cell ∷ replicate 7 zero_cell) ∷ []
unfolding heap_turn_opened
moved_block = refl

pub moved_layout : (next (moves 0 32)).layout
    ≡ record {
      currents = replicate 16 None;
      chunks = idle_chunk ∷ [];
      holes = record { start = 0; length = 2 } ∷ [];
      blocks = record { first = 2; granules = 2; group = None } ∷ [];
    }
unfolding heap_turn_opened
moved_layout = refl

pub less : (next (moves 0 16)).memory.blocks ≡ dead 8 ∷ living (first_cell ∷ replicate 3 zero_cell) ∷ []
unfolding heap_turn_opened
less = refl

pub more : (next (moves 1 64)).memory.blocks ≡ dead 8 ∷ living (first_cell ∷ replicate 15 zero_cell) ∷ []
unfolding heap_turn_opened
more = refl

pub more_stands : (next (moves 1 64)).at ≡ 0x160D0 ∷ 0x16110 ∷ []
unfolding heap_turn_opened
more_stands = refl

-- a refused move keeps the old block, and free of 0 keeps all
pub refused_move : (next (moves 0 33)).memory.blocks ≡ living (first_cell ∷ replicate 7 zero_cell) ∷ []
unfolding heap_turn_opened
refused_move = refl

pub refused_layout : (next (moves 0 33)).layout ≡ one_block
unfolding heap_turn_opened
refused_layout = refl

pub free_of_zero : (next (called_with_block 0x10130 (Num 0) Unset)).layout ≡ one_block
unfolding heap_turn_opened
free_of_zero = refl
