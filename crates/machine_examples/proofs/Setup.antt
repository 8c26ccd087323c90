-- Both machines at their start with a stack of 512 bytes in place of the whole one, and two plans.
use Rattle.std.specs.Prelude.{ℕ, ◌+◌, ◌*◌, List, [], ◌∷◌, ◌++◌, true, false, map, filter, replicate, if◌then◌else◌}
use Rattle.elf_spec.specs.Memory.{is_loaded}
use Rattle.elf_spec.specs.Records.{segments_of, e_entry}
use Rattle.plan_core.specs.declared.types.Area.{Area}
use Rattle.plan_core.specs.declared.types.Plan.{Plan}
use Rattle.place_spec.specs.Layout.{first_layout}
use Rattle.machine_spec.specs.declared.Ending.TheVariants.{Running}
use Rattle.machine_spec.specs.Memory.{Range, range_of, byte_of}
use Rattle.machine_spec.specs.Start.{start_registers}
use Rattle.flat_spec.specs.Runs.{State}
use Rattle.sym_value.specs.declared.Value.TheVariants.{Num}
use Rattle.sym_cells.specs.declared.Mark.{Mark}
use Rattle.sym_cells.specs.declared.Mark.TheVariants.{Blank}
use Rattle.sym_cells.specs.Cells.{Bytes, Cell}
use Rattle.sym_cells.specs.Memory.{Memory}
use Rattle.sym_spec.specs.Plain.{is_plain}
use Rattle.sym_spec.specs.StartMemory.{mark_of, segment_span, span_over}
use Rattle.sym_spec.specs.SymRuns.{SymState}

-- the top 512 bytes of the stack: the first sp, 0x7FFFFF00, is in their middle
abbrev pub small_stack : Range
small_stack = record { start = 0x7FFFFE00; writable = true; executable = false; bytes = replicate 512 0 }

-- the memory with which a file starts, with the small stack
abbrev pub small_memory : List ℕ → List Range
small_memory file = map (range_of file) (filter is_loaded (segments_of file)) ++ small_stack ∷ []

-- the flat machine that is about to run a file without input
abbrev pub flat_start : List ℕ → State
flat_start file = record {
  machine = record { memory = small_memory file; registers = start_registers; pc = e_entry file; ending = Running };
  input = [];
  output = [];
}

-- the memory of the symbol machine at the start: every plain byte of that memory is known
abbrev pub small_mark : List ℕ → ℕ → Mark
small_mark file a = if is_plain file a then mark_of (byte_of (small_memory file) a) else Blank

abbrev pub small_cell : List ℕ → ℕ → Cell
small_cell file k =
    Bytes (small_mark file (4 * k)) (small_mark file (4 * k + 1)) (small_mark file (4 * k + 2))
    (small_mark file (4 * k + 3))

abbrev pub small_start : List ℕ → Memory
small_start file = record {
  plain = map (segment_span (small_cell file)) (filter is_loaded (segments_of file))
      ++ span_over (small_cell file) 0x7FFFFE00 512 ∷ [];
  blocks = [];
}

-- the area without chunks and without a fallback
abbrev pub empty_area : Area
empty_area = record { chunks = 0; log_chunk = 0; fallback = 0 }

-- the symbol machine that is about to run a file without input
abbrev pub sym_start : List ℕ → SymState
sym_start file = record {
  machine = record {
    memory = small_start file;
    layout = first_layout empty_area;
    at = [];
    registers = map (λ w. Num w) start_registers;
    pc = e_entry file;
    bits = 0;
    ending = Running;
  };
  input = [];
  output = [];
}

-- the plan without sites
abbrev pub empty_plan : Plan
empty_plan = record { sites = []; rows = []; area = empty_area }

-- the plan with the site at 0x10100, whose bit is 0
abbrev pub plan_p3 : Plan
plan_p3 = record {
  sites = record { bit = 0; addr = 0x10100 } ∷ [];
  rows = [];
  area = empty_area;
}
