-- Branches that are undecided, faults of heap functions and illegal ends, each as a whole turn.
use Rattle.std.proofs.Common.{◌≡◌, refl}
use Rattle.std.specs.Prelude.{ℕ, [], ◌∷◌, slice_set}
use Rattle.rv_isa.specs.declared.Instr.TheVariants.{Branch}
use Rattle.rv_isa.specs.declared.Cond.TheVariants.{Eq, Ne}
use Rattle.machine_spec.specs.Start.{start_registers}
use Rattle.machine_spec.specs.declared.Ending.{Ending}
use Rattle.machine_spec.specs.declared.Ending.TheVariants.{Running, Illegal, Fault}
use Rattle.machine_spec.specs.declared.FaultKind.TheVariants.{F2, F3, F5, F6}
use Rattle.flat_spec.specs.Machine.{Machine}
use Rattle.flat_spec.specs.Turns as flat
use Rattle.sym_value.specs.declared.Value.{Value}
use Rattle.sym_value.specs.declared.Value.TheVariants.{Num, Ptr, Ret, Unset}
use Rattle.sym_cells.specs.Memory.{granted}
use Rattle.sym_spec.specs.SymMachine.{SymMachine}
use Rattle.sym_spec.specs.SymTurns.{turn, acts}
use Rattle.machine_examples.proofs.HeapFiles.{heap_file}
use Rattle.machine_examples.proofs.HeapSetup.{heap_plan, before, with_block, called_with_block, heap_turn_opened}
use Rattle.machine_examples.proofs.Runs.{run_opened}
use Rattle.machine_examples.proofs.Setup.{small_start, small_memory}

abbrev next : SymMachine → SymMachine
next m = (turn heap_file heap_plan [] m).next

-- a machine at the branch where s0 and a0 are equal, with values in s0 and a0 and two blocks of 16 bytes
abbrev compares : Value → Value → SymMachine
compares left right = record (before 0x1013C 0 Unset right Unset) {
  memory = granted 1 (granted 1 (small_start heap_file));
  at = 0x160D0 ∷ 0x160E0 ∷ [];
  registers = slice_set (before 0x1013C 0 Unset right Unset).registers 8 left;
}

-- the end of one block and the front of another may be one address, which isn't decided
pub end_and_front : (next (compares (Ptr 0 16) (Ptr 1 0))).ending ≡ Fault F2 0x1013C
unfolding heap_turn_opened
end_and_front = refl

pub unset_operand : (next (compares (Ptr 0 0) Unset)).ending ≡ Fault F2 0x1013C
unfolding heap_turn_opened
unset_operand = refl

-- inside two blocks they differ, and in one block the offsets decide
pub inside_both : (next (compares (Ptr 0 12) (Ptr 1 0))).pc ≡ 0x10140
unfolding heap_turn_opened
inside_both = refl

pub same_block : (next (compares (Ptr 0 16) (Ptr 0 16))).pc ≡ 0x10138
unfolding heap_turn_opened
same_block = refl

-- a branch that is taken needs a code word as its target, and one that isn't taken doesn't
pub taken_out_of_code : (acts heap_file heap_plan (Branch Eq 0 0 0x800) (compares Unset Unset)).ending
    ≡ Fault F3 0x1013C
unfolding heap_turn_opened
taken_out_of_code = refl

pub not_taken : (acts heap_file heap_plan (Branch Ne 0 0 0x800) (compares Unset Unset)).pc ≡ 0x10140
unfolding heap_turn_opened
not_taken = refl

-- a bad argument comes before a bad return address, and a block is released only where both are good; each fault
-- leaves the machine as it was
pub argument_before_return : next (with_block 0x10130 1 Unset (Ptr 0 16) Unset)
    ≡ record (with_block 0x10130 1 Unset (Ptr 0 16) Unset) { ending = Fault F5 0x10130 }
unfolding heap_turn_opened
argument_before_return = refl

pub then_the_return : next (with_block 0x10130 1 Unset (Ptr 0 0) Unset)
    ≡ record (with_block 0x10130 1 Unset (Ptr 0 0) Unset) { ending = Fault F3 0x10130 }
unfolding heap_turn_opened
then_the_return = refl

pub no_code_word_in_ra : next (with_block 0x10130 1 (Num 0x10148) (Ptr 0 0) Unset)
    ≡ record (with_block 0x10130 1 (Num 0x10148) (Ptr 0 0) Unset) { ending = Fault F3 0x10130 }
unfolding heap_turn_opened
no_code_word_in_ra = refl

pub size_of_a_pointer : (next (called_with_block 0x10118 (Ptr 0 0) Unset)).ending ≡ Fault F5 0x10118
unfolding heap_turn_opened
size_of_a_pointer = refl

-- ebreak and a word without an instruction end a run on both machines, and change nothing else
pub ebreak_is_illegal : next (before 0x10140 1 (Ret 0x1010C) Unset Unset)
    ≡ record (before 0x10140 1 (Ret 0x1010C) Unset Unset) { ending = Illegal 0x10140 }
unfolding heap_turn_opened
ebreak_is_illegal = refl

pub no_instruction_is_illegal : next (before 0x10144 1 (Ret 0x1010C) Unset Unset)
    ≡ record (before 0x10144 1 (Ret 0x1010C) Unset Unset) { ending = Illegal 0x10144 }
unfolding heap_turn_opened
no_instruction_is_illegal = refl

abbrev flat_at : (pc : ℕ) → Ending → Machine
flat_at pc ending =
    record { memory = small_memory heap_file; registers = start_registers; pc = pc; ending = ending }

pub flat_ebreak : (flat.turn [] (flat_at 0x10140 Running)).next ≡ flat_at 0x10140 (Illegal 0x10140)
unfolding run_opened
flat_ebreak = refl

pub flat_no_instruction : (flat.turn [] (flat_at 0x10144 Running)).next ≡ flat_at 0x10144 (Illegal 0x10144)
unfolding run_opened
flat_no_instruction = refl

pub flat_no_code : (flat.turn [] (flat_at 0x20000 Running)).next ≡ flat_at 0x20000 (Fault F6 0x20000)
unfolding run_opened
flat_no_code = refl

-- an ended machine stays as it is
pub ended_stays : next (record (before 0x10104 1 Unset Unset Unset) { ending = Illegal 0x10140 })
    ≡ record (before 0x10104 1 Unset Unset Unset) { ending = Illegal 0x10140 }
unfolding heap_turn_opened
ended_stays = refl
