-- Where blocks of two groups stand in the area of the default options, whose tables are at 0x16000: those of each group
-- in a chunk of its own, one behind the other. So stand the nodes of two lists that take turns.
use Rattle.std.proofs.Common.{◌≡◌, refl}
use Rattle.std.specs.Prelude.{ℕ, List, [], ◌∷◌}
use Rattle.plan_core.specs.declared.types.Area.{Area}
use Rattle.plan_core.specs.declared.types.Row.{Row}
use Rattle.place_spec.specs.Layout.{Layout, first_layout}
use Rattle.heap_spec.specs.Requests.{placed_for, address_or_zero, layout_then}
use Rattle.machine_examples.proofs.HeapSetup.{heap_turn_opened}

abbrev default_area : Area
default_area = record { chunks = 64; log_chunk = 8; fallback = 65536 }

abbrev rows : List Row
rows = record { group = 0; mask = 1 } ∷ record { group = 1; mask = 2 } ∷ []

-- the addresses that requests for 8 bytes under these bits are answered, one after the other
abbrev answers : (bits : List ℕ) → Layout → List ℕ
answers [] layout = []
answers (bits ∷ more) layout =
    address_or_zero default_area 0x16000 (placed_for rows default_area layout 8 bits)
    ∷ answers more (layout_then layout (placed_for rows default_area layout 8 bits))

pub nodes_stand_together : answers (1 ∷ 2 ∷ 1 ∷ 2 ∷ 1 ∷ 2 ∷ []) (first_layout default_area)
    ≡ 0x1B6480 ∷ 0x1B7480 ∷ 0x1B6490 ∷ 0x1B7490 ∷ 0x1B64A0 ∷ 0x1B74A0 ∷ []
unfolding heap_turn_opened
nodes_stand_together = refl
