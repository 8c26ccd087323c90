-- The notes of turns of heap functions: the block that is granted, the block that is released and the way back,
-- and never a call or an access.
use Rattle.std.proofs.Common.{◌≡◌, refl}
use Rattle.std.specs.Prelude.{Some}
use Rattle.sym_value.specs.declared.Value.TheVariants.{Num, Ptr, Unset}
use Rattle.sym_spec.specs.declared.StepNote.{StepNote}
use Rattle.sym_spec.specs.SymMachine.{SymMachine}
use Rattle.sym_spec.specs.SymNotes.{empty_note, note}
use Rattle.machine_examples.proofs.HeapFiles.{heap_file}
use Rattle.machine_examples.proofs.HeapSetup.{heap_plan, before, with_block, called, called_with_block}
use Rattle.machine_examples.proofs.HeapSetup.{heap_turn_opened}

abbrev noted : SymMachine → StepNote
noted m = note heap_file heap_plan m

abbrev only_back : StepNote
only_back = record empty_note { back = Some 0x1010C }

-- malloc grants the first block, and the next one beside it
pub malloc_grants : noted (called 0x10118 (Num 24) Unset) ≡ record only_back { grant = Some 0 }
unfolding heap_turn_opened
malloc_grants = refl

pub malloc_grants_next : noted (called_with_block 0x10118 (Num 0) Unset) ≡ record only_back { grant = Some 1 }
unfolding heap_turn_opened
malloc_grants_next = refl

-- a number in ra is no way back
pub malloc_to_number : noted (before 0x10118 0 (Num 0x1010C) (Num 24) Unset) ≡ record empty_note { grant = Some 0 }
unfolding heap_turn_opened
malloc_to_number = refl

-- five granules find no room, and a refused request grants nothing
pub malloc_refused : noted (called 0x10118 (Num 65) Unset) ≡ only_back
unfolding heap_turn_opened
malloc_refused = refl

-- calloc, and a product of 2^32
pub calloc_grants : noted (called 0x10120 (Num 3) (Num 8)) ≡ record only_back { grant = Some 0 }
unfolding heap_turn_opened
calloc_grants = refl

pub calloc_overflows : noted (called 0x10120 (Num 65536) (Num 65536)) ≡ only_back
unfolding heap_turn_opened
calloc_overflows = refl

-- free of a block, and of 0
pub free_releases : noted (called_with_block 0x10130 (Ptr 0 0) Unset) ≡ record only_back { release = Some 0 }
unfolding heap_turn_opened
free_releases = refl

pub free_of_zero : noted (called_with_block 0x10130 (Num 0) Unset) ≡ only_back
unfolding heap_turn_opened
free_of_zero = refl

-- realloc grants a block and releases the old one; one that finds no room does neither; of 0 it only grants
pub realloc_moves : noted (called_with_block 0x10128 (Ptr 0 0) (Num 32))
    ≡ record only_back { grant = Some 1; release = Some 0 }
unfolding heap_turn_opened
realloc_moves = refl

pub realloc_refused : noted (called_with_block 0x10128 (Ptr 0 0) (Num 33)) ≡ only_back
unfolding heap_turn_opened
realloc_refused = refl

pub realloc_of_zero : noted (called_with_block 0x10128 (Num 0) (Num 32)) ≡ record only_back { grant = Some 1 }
unfolding heap_turn_opened
realloc_of_zero = refl

-- a bad argument and a bad return address fault, and have no part
pub bad_argument : noted (called_with_block 0x10130 (Ptr 0 16) Unset) ≡ empty_note
unfolding heap_turn_opened
bad_argument = refl

pub bad_return : noted (with_block 0x10130 0 Unset (Ptr 0 0) Unset) ≡ empty_note
unfolding heap_turn_opened
bad_return = refl
