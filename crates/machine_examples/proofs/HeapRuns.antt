-- Runs of programs that take blocks, from their starts: where their blocks stand.
use Rattle.std.proofs.Common.{◌≡◌, refl}
use Rattle.std.specs.Prelude.{ℕ, ⊤, List, [], ◌∷◌}
use Rattle.plan_core.specs.declared.types.Plan.{Plan}
use Rattle.place_spec.specs.Layout.{first_layout}
use Rattle.machine_spec.specs.declared.Ending.TheVariants.{Running, Exit}
use Rattle.sym_spec.specs.SymMachine.{SymMachine}
use Rattle.sym_spec.specs.SymRuns.{SymState, steps, sym_run}
use Rattle.machine_examples.proofs.HeapSetup.{heap_turn_opened}
use Rattle.machine_examples.proofs.NestedFiles.{nested_file, reentrant_file}
use Rattle.machine_examples.proofs.Setup.{sym_start}
use Rattle.machine_examples.proofs.WholeSymRuns.{whole_sym_run_opened}

-- what a proof unfolds to compute such a run
unfoldable pub heap_run_opened : ⊤
unfolding whole_sym_run_opened heap_turn_opened
heap_run_opened = tt

-- the site 0x1012c has bit 0, and a row gives that bit group 0; a chunk of 4 granules behind a fallback of 4
abbrev pub nested_plan : Plan
nested_plan = record {
  sites = record { bit = 0; addr = 0x1012C } ∷ [];
  rows = record { group = 0; mask = 1 } ∷ [];
  area = record { chunks = 1; log_chunk = 2; fallback = 4 };
}

-- that program with the small stack, and its machine after n turns
abbrev nested_start : SymState
nested_start = record (sym_start nested_file) {
  machine = record (sym_start nested_file).machine { layout = first_layout nested_plan.area };
}

abbrev nested : (n : ℕ) → SymMachine
nested n = (steps nested_file nested_plan n nested_start).machine

-- the plan of a fallback of one granule, and the machine of the other program under it after n turns
abbrev granule_plan : Plan
granule_plan = record { sites = []; rows = []; area = record { chunks = 0; log_chunk = 0; fallback = 1 } }

abbrev reentrant : (n : ℕ) → SymMachine
reentrant n = (sym_run reentrant_file granule_plan [] n).machine

-- the function that calls itself: its second block is placed under the bit of the inner call; the way back from the
-- innermost call clears the bit, so that the other blocks are in the fallback
pub nested_is_inside : (nested 16).bits ≡ 1
unfolding heap_run_opened
nested_is_inside = refl

pub nested_asks_outside : (nested 26).bits ≡ 0
unfolding heap_run_opened
nested_asks_outside = refl

pub nested_runs : (nested 38).ending ≡ Running
unfolding heap_run_opened
nested_runs = refl

pub nested_exits : (nested 39).ending ≡ Exit 0
unfolding heap_run_opened
nested_exits = refl

pub nested_places : (nested 39).at ≡ 0x160D0 ∷ 0x16110 ∷ 0x160E0 ∷ 0x160F0 ∷ []
unfolding heap_run_opened
nested_places = refl

-- the reentrant form has its argument in a1; the area without chunks begins behind smaller tables
pub reentrant_exits : (reentrant 7).ending ≡ Exit 0
unfolding heap_run_opened
reentrant_exits = refl

pub reentrant_place : (reentrant 7).at ≡ 0x16090 ∷ []
unfolding heap_run_opened
reentrant_place = refl
