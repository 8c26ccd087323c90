-- The program with heap functions on the symbol machine: its plans, and the machine before a turn. Its image
-- ends below 0x11000, so the tables of its new file stand at 0x16000 and the area at 0x160d0.
use Rattle.std.specs.Prelude.{ℕ, ⊤, [], ◌∷◌, true, None, replicate}
use Rattle.plan_core.specs.declared.types.Plan.{Plan}
use Rattle.place_spec.specs.Layout.{Layout, first_layout, idle_chunk}
use Rattle.place_spec.specs.Place.{spot_of, granule_of, taken}
use Rattle.place_spec.specs.Release.{freed}
use Rattle.machine_spec.specs.declared.Ending.TheVariants.{Running}
use Rattle.sym_value.specs.declared.Value.{Value}
use Rattle.sym_value.specs.declared.Value.TheVariants.{Num, Ret}
use Rattle.sym_cells.specs.Cells.{zero_cell}
use Rattle.sym_cells.specs.Memory.{granted, dropped, copied}
use Rattle.sym_spec.specs.SymMachine.{SymMachine}
use Rattle.sym_spec.specs.HeapActions.{outcome, serves}
use Rattle.sym_spec.specs.SymNotes.{note}
use Rattle.machine_examples.proofs.HeapFiles.{heap_file}
use Rattle.machine_examples.proofs.Setup.{small_start}
use Rattle.machine_examples.proofs.SymRuns.{sym_run_opened}

-- what a proof unfolds to compute a turn of a heap function, and its note
unfoldable pub heap_turn_opened : ⊤
unfolding sym_run_opened outcome serves granted dropped copied spot_of granule_of taken freed note
heap_turn_opened = tt

-- the pair site has bit 0, and a row gives that bit group 0; a chunk of 4 granules behind a fallback of 4
abbrev pub heap_plan : Plan
heap_plan = record {
  sites = record { bit = 0; addr = 0x10104 } ∷ [];
  rows = record { group = 0; mask = 1 } ∷ [];
  area = record { chunks = 1; log_chunk = 2; fallback = 4 };
}

abbrev pub no_site_plan : Plan
no_site_plan = record { sites = []; rows = []; area = record { chunks = 1; log_chunk = 2; fallback = 4 } }

-- a machine with values in ra, a0 and a1, whose other registers hold their own numbers; there is no block
abbrev pub before : (pc bits : ℕ) → (ra first second : Value) → SymMachine
before pc bits ra first second = record {
  memory = small_start heap_file;
  layout = first_layout heap_plan.area;
  at = [];
  registers = Num 0 ∷ ra ∷ Num 2 ∷ Num 3 ∷ Num 4 ∷ Num 5 ∷ Num 6 ∷ Num 7 ∷ Num 8 ∷ Num 9 ∷ first ∷ second
      ∷ Num 12 ∷ Num 13 ∷ Num 14 ∷ Num 15 ∷ Num 16 ∷ Num 17 ∷ Num 18 ∷ Num 19 ∷ Num 20 ∷ Num 21 ∷ Num 22
      ∷ Num 23 ∷ Num 24 ∷ Num 25 ∷ Num 26 ∷ Num 27 ∷ Num 28 ∷ Num 29 ∷ Num 30 ∷ Num 31 ∷ [];
  pc = pc;
  bits = bits;
  ending = Running;
}

-- the layout with a block of two granules at the front of the fallback
abbrev pub one_block : Layout
one_block = record {
  currents = replicate 16 None;
  chunks = idle_chunk ∷ [];
  holes = record { start = 2; length = 2 } ∷ [];
  blocks = record { first = 0; granules = 2; group = None } ∷ [];
}

-- the same machine with that block, of 32 zero bytes
abbrev pub with_block : (pc bits : ℕ) → (ra first second : Value) → SymMachine
with_block pc bits ra first second = record (before pc bits ra first second) {
  memory = record (small_start heap_file) { blocks = record { cells = replicate 8 zero_cell; lives = true } ∷ [] };
  layout = one_block;
  at = 0x160D0 ∷ [];
}

-- the same machines where the pair site called: ra holds its return address
abbrev pub called : (pc : ℕ) → (first second : Value) → SymMachine
called pc first second = before pc 0 (Ret 0x1010C) first second

abbrev pub called_with_block : (pc : ℕ) → (first second : Value) → SymMachine
called_with_block pc first second = with_block pc 0 (Ret 0x1010C) first second
