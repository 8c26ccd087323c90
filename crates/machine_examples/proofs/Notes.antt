-- The notes of single turns of the symbol machine on the second program, with a block of 16 bytes.
use Rattle.std.proofs.Common.{◌≡◌, refl}
use Rattle.std.specs.Prelude.{ℕ, ⊤, [], ◌∷◌, Some, replicate, slice_set}
use Rattle.machine_spec.specs.declared.Ending.TheVariants.{Running}
use Rattle.sym_value.specs.declared.Value.{Value}
use Rattle.sym_value.specs.declared.Value.TheVariants.{Num, Ptr, Ret, Unset}
use Rattle.sym_cells.specs.Memory.{granted}
use Rattle.sym_spec.specs.declared.StepNote.{StepNote}
use Rattle.sym_spec.specs.SymMachine.{SymMachine}
use Rattle.sym_spec.specs.SymNotes.{empty_note, note}
use Rattle.machine_examples.proofs.Files.{p3}
use Rattle.place_spec.specs.Layout.{first_layout}
use Rattle.machine_examples.proofs.Setup.{small_start, empty_area, empty_plan}
use Rattle.machine_examples.proofs.SymRuns.{sym_run_opened}

unfoldable note_opened : ⊤
unfolding sym_run_opened granted note
note_opened = tt

-- a machine at an address, with values in ra, sp, a0, a1, a2 and a7
abbrev at : ℕ → Value → Value → Value → Value → Value → Value → SymMachine
at pc ra sp first buffer count number = record {
  memory = granted 1 (small_start p3);
  layout = first_layout empty_area;
  at = 0x16090 ∷ [];
  registers = slice_set (slice_set (slice_set
      (slice_set (slice_set (slice_set (replicate 32 (Num 0)) 1 ra) 2 sp) 10 first) 11
      buffer) 12 count) 17 number;
  pc = pc;
  bits = 0;
  ending = Running;
}

abbrev accesses : ℕ → ℕ → StepNote
accesses b n = record empty_note { access = Some (record { block = b; width = n }) }

-- the call at a site has the site's address, also where no plan names it
pub site_is_called : note p3 empty_plan (at 0x10100 Unset Unset Unset Unset Unset Unset)
    ≡ record empty_note { call = Some 0x10100 }
unfolding note_opened
site_is_called = refl

-- a jump through a return address has it
pub goes_back : note p3 empty_plan (at 0x1012c (Ret 0x10104) Unset Unset Unset Unset Unset)
    ≡ record empty_note { back = Some 0x10104 }
unfolding note_opened
goes_back = refl

pub jump_by_number : note p3 empty_plan (at 0x1012c (Num 0x10104) Unset Unset Unset Unset Unset) ≡ empty_note
unfolding note_opened
jump_by_number = refl

-- a store of a byte to a block, to plain memory, and outside the block, which faults
pub store_accesses : note p3 empty_plan (at 0x10114 Unset (Ptr 0 16) Unset Unset Unset Unset) ≡ accesses 0 1
unfolding note_opened
store_accesses = refl

pub plain_store : note p3 empty_plan (at 0x10114 Unset (Num 0x7FFFFF00) Unset Unset Unset Unset) ≡ empty_note
unfolding note_opened
plain_store = refl

pub fault_accesses_nothing : note p3 empty_plan (at 0x10114 Unset (Ptr 0 0) Unset Unset Unset Unset) ≡ empty_note
unfolding note_opened
fault_accesses_nothing = refl

-- a buffer of three bytes in the block, an empty one, and one that faults
pub buffer_accesses : note p3 empty_plan (at 0x10128 Unset Unset (Num 1) (Ptr 0 4) (Num 3) (Num 64)) ≡ accesses 0 3
unfolding note_opened
buffer_accesses = refl

pub empty_buffer : note p3 empty_plan (at 0x10128 Unset Unset (Num 1) (Ptr 0 4) (Num 0) (Num 64)) ≡ empty_note
unfolding note_opened
empty_buffer = refl

pub read_accesses : note p3 empty_plan (at 0x10128 Unset Unset (Num 0) (Ptr 0 4) (Num 12) (Num 63)) ≡ accesses 0 12
unfolding note_opened
read_accesses = refl

pub buffer_out : note p3 empty_plan (at 0x10128 Unset Unset (Num 0) (Ptr 0 4) (Num 13) (Num 63)) ≡ empty_note
unfolding note_opened
buffer_out = refl
