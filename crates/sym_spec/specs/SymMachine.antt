-- The symbol machine between two turns, and the ways in which a step changes it.
use Rattle.std.specs.Prelude.{ℕ, ◌-◌, ◌^◌, ◌==◌, List, [], Bool, false, Option, Some, None, is_some, find, position}
use Rattle.std.specs.Prelude.{map, if◌then◌else◌, slice_get, slice_index_or, slice_set, bit_and, bit_or}
use Rattle.std.specs.Prelude.{option_and_then}
use Rattle.elf_spec.specs.Code.{code_word}
use Rattle.elf_spec.specs.Memory.{image_end}
use Rattle.elf_spec.specs.Records.{e_entry, segments_of}
use Rattle.plan_core.specs.declared.types.Plan.{Plan}
use Rattle.plan_core.specs.declared.types.PlanLine.{PlanLine}
use Rattle.place_spec.specs.Layout.{Layout, first_layout}
use Rattle.site_spec.specs.declared.Site.{Site}
use Rattle.site_spec.specs.Sites.{site_at}
use Rattle.machine_spec.specs.declared.Ending.{Ending}
use Rattle.machine_spec.specs.declared.Ending.TheVariants.{Running, Fault}
use Rattle.machine_spec.specs.declared.FaultKind.{FaultKind}
use Rattle.machine_spec.specs.declared.FaultKind.TheVariants.{F1, F3}
use Rattle.machine_spec.specs.Start.{start_registers, behind}
use Rattle.sym_value.specs.declared.Value.{Value}
use Rattle.sym_value.specs.declared.Value.TheVariants.{Num, Ret, Unset}
use Rattle.sym_value.specs.Places.{Lives}
use Rattle.sym_cells.specs.Memory.{Memory, live_of}
use Rattle.sym_spec.specs.StartMemory.{start_memory}

-- it has 32 registers, the bits of the chosen sites, the layout of the heap, and the address that each
-- block got, by the blocks' names, which stays when the block dies
pub record SymMachine : Type 0 where
  pub memory : Memory
  pub layout : Layout
  pub at : List ℕ
  pub registers : List Value
  pub pc : ℕ
  pub bits : ℕ
  pub ending : Ending

-- the blocks so far and the image's end, as values see them
abbrev pub lives_of : List ℕ → SymMachine → Lives
lives_of file m = live_of (image_end (segments_of file)) m.memory

-- what a register reads: x0 reads 0, whatever was written to it
abbrev pub value_read : List Value → ℕ → Value
value_read values r = if r == 0 then Num 0 else slice_index_or values r Unset

abbrev pub value_of : SymMachine → ℕ → Value
value_of m r = value_read m.registers r

-- goes on to the next instruction, with a value in a register
abbrev pub gives : ℕ → Value → SymMachine → SymMachine
gives r v m = record m { registers = slice_set m.registers r v; pc = behind m.pc }

-- goes on to the next instruction
abbrev pub passes : SymMachine → SymMachine
passes m = record m { pc = behind m.pc }

-- ends, and changes nothing else
abbrev pub ends : Ending → SymMachine → SymMachine
ends ending m = record m { ending = ending }

abbrev pub faults : FaultKind → SymMachine → SymMachine
faults kind m = ends (Fault kind m.pc) m

abbrev pub loads : ℕ → Option Value → SymMachine → SymMachine
loads r (Some v) m = gives r v m
loads r None m = faults F1 m

abbrev pub stores : Option Memory → SymMachine → SymMachine
stores (Some memory) m = record m { memory = memory; pc = behind m.pc }
stores None m = faults F1 m

-- the site line of a call at an address
abbrev pub line_at : List PlanLine → ℕ → Option PlanLine
line_at lines a = find (λ line. line.addr == a) lines

-- which site line's call comes back to an address
abbrev pub is_back : ℕ → Option Site → Bool
is_back a (Some s) = s.back == a
is_back a None = false

unfoldable pub back_index : List ℕ → List PlanLine → ℕ → Option ℕ
back_index file lines a = position (λ line. is_back a (site_at file line.addr)) lines

-- bits with the bit of a chosen site set, and cleared
abbrev pub set_bit : Option PlanLine → ℕ → ℕ
set_bit (Some line) bits = bit_or bits (2 ^ line.bit)
set_bit None bits = bits

abbrev pub clear_bit : Option PlanLine → ℕ → ℕ
clear_bit (Some line) bits = bit_and bits (2 ^ 32 - 1 - 2 ^ line.bit)
clear_bit None bits = bits

-- a jump to a target, which must be a code word
abbrev pub goes_to : List ℕ → ℕ → SymMachine → SymMachine
goes_to file target m = if is_some (code_word file target) then record m { pc = target } else faults F3 m

-- a call that links ra (x1): it sets the bit of a chosen site
abbrev pub calls_from : Plan → ℕ → SymMachine → SymMachine
calls_from plan back m = record m {
  registers = slice_set m.registers 1 (Ret back);
  bits = set_bit (line_at plan.sites m.pc) m.bits;
}

-- what a jump links: ra gets a return address, another register a word
abbrev pub links : Plan → ℕ → SymMachine → SymMachine
links plan r m =
    if r == 1 then calls_from plan (behind m.pc) m
    else record m { registers = slice_set m.registers r (Num (behind m.pc)) }

abbrev pub jumps : List ℕ → Plan → ℕ → ℕ → SymMachine → SymMachine
jumps file plan r target m =
    if is_some (code_word file target) then record (links plan r m) { pc = target } else faults F3 m

-- goes back to a return address: ra is unset, and the bit of the chosen site that called is cleared
abbrev pub goes_back : List ℕ → Plan → ℕ → SymMachine → SymMachine
goes_back file plan back m = record m {
  registers = slice_set m.registers 1 Unset;
  pc = back;
  bits = clear_bit (option_and_then (slice_get plan.sites) (back_index file plan.sites back)) m.bits;
}

-- the machine that is about to run a file under a plan
unfoldable pub start : List ℕ → Plan → SymMachine
start file plan = record {
  memory = start_memory file;
  layout = first_layout plan.area;
  at = [];
  registers = map (λ w. Num w) start_registers;
  pc = e_entry file;
  bits = 0;
  ending = Running;
}
