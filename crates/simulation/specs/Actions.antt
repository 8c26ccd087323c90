-- The one interface between a function's words and a turn of its action: what the words must have done on
-- the flat machine so that the turn is matched. Each action is an instance of it.
use Rattle.std.specs.Prelude.{◌≡◌, ℕ, ◌+◌, ◌%◌, ◌<◌, ◌≤◌, List, map, Some}
use Rattle.elf_spec.specs.declared.HeapName.{HeapName}
use Rattle.elf_spec.specs.Heap.{heap_entry}
use Rattle.plan_core.specs.declared.types.Plan.{Plan}
use Rattle.machine_spec.specs.declared.Ending.TheVariants.{Running}
use Rattle.flat_spec.specs.Machine.{Machine, register}
use Rattle.flat_spec.specs.Runs.{steps}
use Rattle.heap_spec.specs.Service.{turn_bound}
use Rattle.sym_cells.specs.Memory.{life_of}
use Rattle.sym_spec.specs.SymMachine.{SymMachine}
use Rattle.sym_spec.specs.HeapActions.{Outcome, answered, outcome}
use Rattle.match_spec.specs.Stands.{places_of}
use Rattle.match_spec.specs.Parts.{InRegisters, InMemory, InHeap}
use Rattle.match_spec.specs.Matches.{InStep}
use Rattle.site_stubs.specs.StubRuns.{state_of}

-- so many turns lead from a machine to one that runs at its ra, whose registers, memory and heap match the
-- symbol machine with the action done. Six turns are left for the way back through a stub.
pub record Acts (file : List ℕ) (plan : Plan) (new : List ℕ) (s : SymMachine) (m : Machine)
    (input output : List ℕ) : Type 0 where
  pub turns : ℕ
  pub some : 0 < turns
  pub few : turns + 6 ≤ turn_bound plan.area
  pub machine : Machine
  pub run : steps turns (state_of m input output) ≡ state_of machine input output
  pub running : s.ending ≡ Running
  pub ending : machine.ending ≡ Running
  pub pc : machine.pc ≡ register m 1
  pub registers : InRegisters (places_of file plan s.at) s.registers machine.registers s.bits
  pub memory : InMemory file new (places_of file plan s.at) s.memory machine.memory
  pub heap : InHeap file plan s.layout s.at (map life_of s.memory.blocks) machine.memory

-- the words at the entry of a function do its action, wherever the machines are in step there
abbrev pub ActsAt : List ℕ → Plan → List ℕ → HeapName → Type 0
ActsAt file plan new name =
    (s : SymMachine) (m : Machine) (o : Outcome) (input output : List ℕ) → InStep file plan new s m
    → s.ending ≡ Running → heap_entry file name ≡ Some s.pc → register m 1 % 4 ≡ 0
    → outcome file plan name s ≡ Some o → Acts file plan new (answered o) m input output
