-- What the heap functions are asked for, and what they answer: a placed block or none, and the layout
-- after it. Arguments are words, and sizes are counted in whole numbers.
use Rattle.std.specs.Prelude.{◌≡◌, ℕ, ◌-◌, ◌/◌, ◌^◌, ◌⊎◌, nat_lt, List, Any, Option, Some, None, if◌then◌else◌}
use Rattle.std.specs.Option.{option_map_or}
use Rattle.plan_core.specs.declared.types.Area.{Area}
use Rattle.plan_core.specs.declared.types.Row.{Row}
use Rattle.place_spec.specs.Layout.{Layout, granules_for, address_of}
use Rattle.place_spec.specs.Place.{Placed, placed}
use Rattle.heap_spec.specs.Places.{base_of}

-- the four heap functions; each has a plain form and a reentrant one
pub data Call : Type 0 where
  Malloc : Call
  Calloc : Call
  Realloc : Call
  Free : Call

-- the arguments of a plain form begin in a0 (x10), those of a reentrant one in a1 (x11), behind the
-- pointer that they don't look at
pub data Form : Type 0 where
  Plain : Form
  Reentrant : Form

abbrev pub argument_of : Form → ℕ
argument_of Plain = 10
argument_of Reentrant = 11

-- the granule at an address of the area
abbrev pub granule_at : Area → (data_at address : ℕ) → ℕ
granule_at area data_at address = (address - base_of area data_at) / 16

-- a pointer that can be moved or released: 0, or the first address of a live block
abbrev pub IsPointer : Area → (data_at : ℕ) → Layout → ℕ → Type 0
IsPointer area data_at layout p = (p ≡ 0) ⊎ Any (λ b. p ≡ address_of (base_of area data_at) b.first) layout.blocks

-- good first arguments
abbrev pub IsGood : Area → (data_at : ℕ) → Layout → Call → ℕ → Type 0
IsGood area data_at layout Malloc p = Unit {0}
IsGood area data_at layout Calloc p = Unit {0}
IsGood area data_at layout Realloc p = IsPointer area data_at layout p
IsGood area data_at layout Free p = IsPointer area data_at layout p

-- the block that is placed for a size under the bits; a size that is no word is refused
abbrev pub placed_for : List Row → Area → Layout → (size bits : ℕ) → Option Placed
placed_for rows area layout size bits = if nat_lt size (2 ^ 32) then placed rows area layout
    (granules_for size) bits else None

-- the address of a placed block, and 0 where it is refused
abbrev pub address_or_zero : Area → (data_at : ℕ) → Option Placed → ℕ
address_or_zero area data_at (Some p) = address_of (base_of area data_at) p.granule
address_or_zero area data_at None = 0

-- the layout after it, which is the same where it is refused
abbrev pub layout_then : Layout → Option Placed → Layout
layout_then layout found = option_map_or (λ p. p.after) found layout
