-- The flat machine between two turns, and the ways in which an instruction changes it.
use Rattle.std.specs.Prelude.{ℕ, ◌%◌, ◌==◌, List, Option, Some, None, if◌then◌else◌, slice_index, slice_set}
use Rattle.machine_spec.specs.Memory.{Range, memory_of}
use Rattle.machine_spec.specs.Start.{start_registers, behind}
use Rattle.elf_spec.specs.Records.{e_entry}
use Rattle.machine_spec.specs.declared.Ending.{Ending}
use Rattle.machine_spec.specs.declared.Ending.TheVariants.{Running, Fault}
use Rattle.machine_spec.specs.declared.FaultKind.{FaultKind}
use Rattle.machine_spec.specs.declared.FaultKind.TheVariants.{F1, F3}

-- it has 32 registers
pub record Machine : Type 0 where
  pub memory : List Range
  pub registers : List ℕ
  pub pc : ℕ
  pub ending : Ending

-- what a register reads: x0 reads 0, whatever was written to it
abbrev pub word_read : List ℕ → ℕ → ℕ
word_read words r = if r == 0 then 0 else slice_index words r

abbrev pub register : Machine → ℕ → ℕ
register m r = word_read m.registers r

-- goes on to the next instruction, with a word in a register
abbrev pub gives : ℕ → ℕ → Machine → Machine
gives r v m = record m { registers = slice_set m.registers r v; pc = behind m.pc }

-- goes on to the next instruction
abbrev pub passes : Machine → Machine
passes m = record m { pc = behind m.pc }

-- ends, and changes nothing else
abbrev pub ends : Ending → Machine → Machine
ends ending m = record m { ending = ending }

abbrev pub faults : FaultKind → Machine → Machine
faults kind m = ends (Fault kind m.pc) m

-- goes to a target, with the address behind the instruction in a register
abbrev pub jumps : ℕ → ℕ → Machine → Machine
jumps r target m =
    if target % 4 == 0 then record m { registers = slice_set m.registers r (behind m.pc); pc = target }
    else faults F3 m

abbrev pub loads : ℕ → Option ℕ → Machine → Machine
loads r (Some v) m = gives r v m
loads r None m = faults F1 m

abbrev pub stores : Option (List Range) → Machine → Machine
stores (Some memory) m = record m { memory = memory; pc = behind m.pc }
stores None m = faults F1 m

-- the machine that is about to run a file
unfoldable pub start : List ℕ → Machine
start file = record { memory = memory_of file; registers = start_registers; pc = e_entry file; ending = Running }
