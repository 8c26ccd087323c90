-- Turns that neither read, write nor end, with the memory, the registers and the pc apart.
use Rattle.std.specs.Prelude.{◌≡◌, ℕ, List, Option, Some, None}
use Rattle.rv_isa.specs.declared.Instr.{Instr}
use Rattle.machine_spec.specs.declared.Ending.TheVariants.{Running}
use Rattle.machine_spec.specs.Memory.{Range}
use Rattle.flat_spec.specs.Machine.{Machine}
use Rattle.flat_spec.specs.Calls.{quiet}
use Rattle.flat_spec.specs.Turns.{executes, turn}

-- a machine that runs
abbrev pub running_at : List Range → List ℕ → ℕ → Machine
running_at memory registers pc = record { memory = memory; registers = registers; pc = pc; ending = Running }

-- what stands after a turn of a machine that runs, by the address to which the turn leads, whatever the input; or it
-- isn't taken, and nothing changes
abbrev pub Takes : Option ℕ → Machine → List Range → List ℕ → Type 0
Takes (Some next) old memory registers =
    (input : List ℕ) → turn input old ≡ quiet input (running_at memory registers next)
Takes None old memory registers = (memory ≡ old.memory) × (registers ≡ old.registers)

-- the same, of the turn of an instruction
abbrev pub Acts : Option ℕ → Instr → Machine → List Range → List ℕ → Type 0
Acts (Some next) i old memory registers =
    (input : List ℕ) → executes input (Some i) old ≡ quiet input (running_at memory registers next)
Acts None i old memory registers = (memory ≡ old.memory) × (registers ≡ old.registers)

-- and of one after which the machine is known
abbrev pub Goes : Option ℕ → Machine → Machine → List Range → List ℕ → Type 0
Goes (Some next) after old memory registers = after ≡ running_at memory registers next
Goes None after old memory registers = (memory ≡ old.memory) × (registers ≡ old.registers)
