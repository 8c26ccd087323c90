-- A heap under a plan, and the addresses in it.
use Rattle.std.specs.Prelude.{◌≡◌, ℕ, ◌-◌, ◌/◌, List, Any, Option, option_map}
use Rattle.std.specs.Option.{option_map_or}
use Rattle.plan_core.specs.declared.types.Area.{Area}
use Rattle.plan_core.specs.declared.types.Row.{Row}
use Rattle.place_spec.specs.Layout.{Layout, address_of}
use Rattle.place_spec.specs.Place.{Placed, placed}
use Rattle.place_spec.specs.Release.{released, moved}

-- the rows and the area of its plan, the address at which the area begins, and what stands where
pub record Heap : Type 0 where
  pub rows : List Row
  pub area : Area
  pub base : ℕ
  pub layout : Layout

-- the granule at an address
abbrev pub granule_at : Heap → (addr : ℕ) → ℕ
granule_at heap addr = (addr - heap.base) / 16

-- a live block begins at an address
abbrev pub LivesAt : Heap → (addr : ℕ) → Type 0
LivesAt heap addr = Any (λ b. addr ≡ address_of heap.base b.first) heap.layout.blocks

-- the address at which a block was placed
abbrev pub address_in : Heap → Option Placed → Option ℕ
address_in heap p = option_map (λ q. address_of heap.base q.granule) p

-- a block that is asked for under the bits; none where it is refused
abbrev pub placed_in_heap : Heap → (need bits : ℕ) → Option Placed
placed_in_heap heap need bits = placed heap.rows heap.area heap.layout need bits

-- the block at an address, moved; none where the placing is refused
abbrev pub moved_in_heap : Heap → (addr need bits : ℕ) → Option Placed
moved_in_heap heap addr need bits = moved heap.rows heap.area heap.layout (granule_at heap addr) need bits

-- the heap with the layout after a block was placed; the same where it was refused
abbrev pub heap_after : Heap → Option Placed → Heap
heap_after heap p = record heap { layout = option_map_or (λ q. q.after) p heap.layout }

-- the heap after the release of the block at an address
abbrev pub heap_without : Heap → (addr : ℕ) → Heap
heap_without heap addr = record heap { layout = released heap.area heap.layout (granule_at heap addr) }
