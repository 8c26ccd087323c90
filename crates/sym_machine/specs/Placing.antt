-- Where blocks stand, as the memory of a program keeps them, and what is done for the heap functions.
use Rattle.std.specs.Prelude.{◌≡◌, ℕ, ◌≤◌, List, [], ◌∷◌, ◌++◌, Bool, true, length, slice_get, slice_index}
use Rattle.plan_core.specs.declared.types.Plan.{Plan}
use Rattle.plan_core.specs.Plan.{granules}
use Rattle.place_spec.specs.Layout.{address_of}
use Rattle.place_spec.specs.Place.{Placed}
use Rattle.place_spec.specs.Release.{released}
use Rattle.place_model.specs.Heap.{Heap, LivesAt}
use Rattle.site_spec.specs.Places.{data_at}
use Rattle.heap_spec.specs.Requests.{granule_at}
use Rattle.sym_value.specs.declared.Value.TheVariants.{Unset}
use Rattle.sym_cells.specs.Memory.{Memory, granted, dropped}
use Rattle.sym_memory.specs.Kept.{is_alive}
use Rattle.sym_spec.specs.SymMachine.{SymMachine}
use Rattle.sym_spec.specs.HeapActions.{Outcome, base, answers, grants, moves, releases}
use Rattle.sym_machine.specs.declared.requests.Acted.{Acted}
use Rattle.sym_machine.specs.declared.requests.Request.{Request}
use Rattle.sym_machine.specs.declared.requests.Request.TheVariants.{Grant, Move, Release, Nothing}
use Rattle.sym_machine.specs.Reached.{HeldMemory}

-- a block lives
abbrev pub block_lives : Memory → (block : ℕ) → Bool
block_lives m b = is_alive (slice_get m.blocks b)

-- each living block stands where the layout has a block, and no two stand at one address
pub record HasPlaces (file : List ℕ) (plan : Plan) (heap : Heap) (memory : Memory) (at : List ℕ) : Type 0 where
  pub rows : heap.rows ≡ plan.rows
  pub area : heap.area ≡ plan.area
  pub base_is : heap.base ≡ base file plan
  pub small : granules plan.area ≤ 1048576
  pub one_each : length at ≡ length memory.blocks
  pub stand : (b : ℕ) → block_lives memory b ≡ true → LivesAt heap (slice_index at b)
  pub apart : (b c : ℕ) → block_lives memory b ≡ true → block_lives memory c ≡ true
      → slice_index at b ≡ slice_index at c → b ≡ c

-- one more block of so many granules, where it was placed
abbrev pub with_placed : (need : ℕ) → Placed → HeldMemory → HeldMemory
with_placed need p h = record h {
  memory = granted need h.memory;
  layout = p.after;
  at = h.at ++ address_of (base h.file h.plan) p.granule ∷ [];
}

-- a block is released
abbrev pub without : (block : ℕ) → HeldMemory → HeldMemory
without b h = record h {
  memory = dropped b h.memory;
  layout = released h.plan.area h.layout (granule_at h.plan.area (data_at h.file) (slice_index h.at b));
}

-- a machine with this memory
abbrev pub machine_with : HeldMemory → SymMachine → SymMachine
machine_with h m = record m { memory = h.memory; layout = h.layout; at = h.at }

-- what a request leads to
abbrev pub outcome_of : List ℕ → Plan → Request → SymMachine → Outcome
outcome_of file plan (Grant size) m = grants file plan size m
outcome_of file plan (Move b size) m = moves file plan b size m
outcome_of file plan (Release b) m = releases file plan b m
outcome_of file plan Nothing m = answers Unset m

-- what was done, with the machine after it
abbrev pub outcome_with : Acted → SymMachine → Outcome
outcome_with acted m =
    record { machine = m; answer = acted.answer; grant = acted.grant; release = acted.release }

-- the block that is moved or released lives
abbrev pub NamesLiving : Request → Memory → Type 0
NamesLiving (Grant size) m = Unit {0}
NamesLiving (Move b size) m = block_lives m b ≡ true
NamesLiving (Release b) m = block_lives m b ≡ true
NamesLiving Nothing m = Unit {0}
