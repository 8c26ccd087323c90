-- When a state of the flat machine, which runs a new file, matches a state of the symbol machine,
-- which runs the file's source under its plan.
use Rattle.std.specs.Prelude.{◌≡◌, ℕ, List, map}
use Rattle.plan_core.specs.declared.types.Plan.{Plan}
use Rattle.flat_spec.specs.Machine.{Machine}
use Rattle.flat_spec.specs.Runs.{State}
use Rattle.sym_cells.specs.Memory.{life_of}
use Rattle.sym_spec.specs.SymMachine.{SymMachine}
use Rattle.sym_spec.specs.SymRuns.{SymState}
use Rattle.match_spec.specs.Stands.{places_of}
use Rattle.match_spec.specs.Parts.{InRegisters, InMemory, InHeap}

-- the two machines are at the same place and have ended alike, and their registers, memory and heap match
pub record InStep (file : List ℕ) (plan : Plan) (new : List ℕ) (s : SymMachine) (m : Machine) : Type 0 where
  pub pc : m.pc ≡ s.pc
  pub ending : m.ending ≡ s.ending
  pub registers : InRegisters (places_of file plan s.at) s.registers m.registers s.bits
  pub memory : InMemory file new (places_of file plan s.at) s.memory m.memory
  pub heap : InHeap file plan s.layout s.at (map life_of s.memory.blocks) m.memory

-- and the same input and output
pub record Matches (file : List ℕ) (plan : Plan) (new : List ℕ) (s : SymState) (f : State) : Type 0 where
  pub machines : InStep file plan new s.machine f.machine
  pub input : f.input ≡ s.input
  pub output : f.output ≡ s.output
