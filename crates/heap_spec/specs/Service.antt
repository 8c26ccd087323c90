-- What the heap's words do on the flat machine: at each of eight entries they serve one request, and
-- return to ra.
use Rattle.std.specs.Prelude.{◌≡◌, ℕ, ◌+◌, ◌-◌, ◌*◌, ◌%◌, ◌^◌, ◌<◌, ◌≤◌, ◌⊎◌, ◌==◌, min, List, Bool, true, false, All}
use Rattle.std.specs.Prelude.{Option, Some, None, length, map, slice_index, unwrap_or, nat_le, ◌&&◌, ◌||◌}
use Rattle.rv_isa.specs.declared.Width.TheVariants.{Word}
use Rattle.plan_core.specs.declared.types.Area.{Area}
use Rattle.plan_core.specs.declared.types.Row.{Row}
use Rattle.plan_core.specs.Plan.{granules}
use Rattle.machine_spec.specs.declared.Ending.TheVariants.{Running}
use Rattle.machine_spec.specs.Memory.{Range, shape_of, range_at, byte_of}
use Rattle.flat_spec.specs.Stores.{loaded}
use Rattle.flat_spec.specs.Machine.{Machine, register}
use Rattle.flat_spec.specs.Runs.{steps}
use Rattle.place_spec.specs.Layout.{Block, Layout, granules_for, address_of}
use Rattle.place_spec.specs.Place.{Placed}
use Rattle.place_spec.specs.Release.{block_at, released, moved}
use Rattle.place_spec.specs.Sound.{Sound}
use Rattle.heap_spec.specs.Places.{tables_end, base_of, area_end}
use Rattle.heap_spec.specs.Tables.{Spells}
use Rattle.heap_spec.specs.Requests.{Call, Malloc, Calloc, Realloc, Free, Form, Plain, Reentrant, argument_of}
use Rattle.heap_spec.specs.Requests.{granule_at, IsGood, placed_for, address_or_zero, layout_then}

-- the most turns for one heap request, with those that lead to its entry and back
abbrev pub turn_bound : Area → ℕ
turn_bound area = 16384 + 256 * granules area

-- where the words stand in a new text
abbrev pub words_at : (text_at : ℕ) → ℕ
words_at text_at = text_at + 0x600

-- the rows and the area of a plan, and the places of its new text and its tables
pub record Suits (rows : List Row) (area : Area) (text_at data_at : ℕ) : Type 0 where
  pub few_rows : length rows ≤ 64
  pub groups : All (λ row. row.group < 16) rows
  pub masks : All (λ row. row.mask < 2 ^ 32) rows
  pub log_chunk : area.log_chunk ≤ 20
  pub chunks : area.chunks ≤ 256
  pub granules : granules area ≤ 1048576
  pub page : text_at % 4096 ≡ 0
  pub tables : data_at ≡ text_at + 0x5000
  pub below_stack : area_end area data_at ≤ 0x7FF00000

-- a machine has 32 registers, each with a word, and its memory holds bytes
pub record IsMachine (m : Machine) : Type 0 where
  pub long : length m.registers ≡ 32
  pub words : (r : ℕ) → r < 32 → register m r < 2 ^ 32
  pub bytes : (a b : ℕ) → byte_of m.memory a ≡ Some b → b < 256

-- the addresses from one on and below another lie in one range
pub record LiesIn (memory : List Range) (from to : ℕ) : Type 0 where
  pub range : Range
  pub there : (a : ℕ) → from ≤ a → a < to → range_at memory a ≡ Some range

-- words stand in memory from an address on, in a range with flag X and without flag W
pub record HoldsCode (memory : List Range) (at : ℕ) (words : List ℕ) : Type 0 where
  pub lies : LiesIn memory at (at + 4 * length words)
  pub executable : lies.range.executable ≡ true
  pub writable : lies.range.writable ≡ false
  pub stand : (k : ℕ) → k < length words → loaded memory Word (at + 4 * k) ≡ Some (slice_index words k)

-- the tables and the area stand in a range with flag W
pub record HoldsData (memory : List Range) (from to : ℕ) : Type 0 where
  pub lies : LiesIn memory from to
  pub writable : lies.range.writable ≡ true

-- the words of memory, by their addresses
abbrev pub words_of : List Range → ℕ → ℕ
words_of memory a = unwrap_or (loaded memory Word a) 0

-- a machine that runs at an entry of the words, with tables that spell a sound layout; ra (x1) is a
-- multiple of 4, and x4 is the bits
pub record IsReady (area : Area) (text_at data_at : ℕ) (words : List ℕ) (entry : ℕ) (layout : Layout)
    (m : Machine) : Type 0 where
  pub machine : IsMachine m
  pub running : m.ending ≡ Running
  pub pc : m.pc ≡ entry
  pub ra : register m 1 % 4 ≡ 0
  pub code : HoldsCode m.memory (words_at text_at) words
  pub tables : HoldsData m.memory data_at (area_end area data_at)
  pub spells : Spells area data_at (words_of m.memory) layout
  pub sound : Sound area layout

-- the registers that a request may change: t0 to t2 (x5 to x7), a0 to a7 (x10 to x17) and t3 to t6 (x28
-- to x31)
abbrev pub may_change : ℕ → Bool
may_change r = (nat_le 5 r && nat_le r 7) || ((nat_le 10 r && nat_le r 17) || (nat_le 28 r && nat_le r 31))

-- an address is one of a block's bytes
abbrev pub IsInBlock : Area → (data_at : ℕ) → Block → ℕ → Type 0
IsInBlock area data_at b a =
    (address_of (base_of area data_at) b.first ≤ a) × (a < address_of (base_of area data_at) (b.first + b.granules))

-- an address is neither one of the tables' nor one of the area's
abbrev pub IsOutside : Area → (data_at : ℕ) → ℕ → Type 0
IsOutside area data_at a =
    (a < data_at) ⊎ ((tables_end area data_at ≤ a) × (a < base_of area data_at)) ⊎ (area_end area data_at ≤ a)

-- a request was served: within the bound, less 8 turns, the machine runs at ra, and its tables spell the
-- layout after the request
pub record IsServed (area : Area) (data_at : ℕ) (before after : Layout) (m : Machine) (input output : List ℕ)
    (Answers : Machine → Type 0) : Type 0 where
  pub end : Machine
  pub count : ℕ
  pub some : 0 < count
  pub within : count + 8 ≤ turn_bound area
  -- its input and output are as before
  pub run : steps count
      (record { machine = m; input = input; output = output })
      ≡ record { machine = end; input = input; output = output }
  pub machine : IsMachine end
  pub running : end.ending ≡ Running
  pub pc : end.pc ≡ register m 1
  pub answers : Answers end
  pub spells : Spells area data_at (words_of end.memory) after
  -- so are all other registers, all bytes outside tables and area, and those of each block that lives on
  pub registers : (r : ℕ) → may_change r ≡ false → register end r ≡ register m r
  pub shape : map shape_of end.memory ≡ map shape_of m.memory
  pub outside : (a : ℕ) → IsOutside area data_at a → byte_of end.memory a ≡ byte_of m.memory a
  pub blocks : All (λ b. block_at before b.first ≡ Some b → (a : ℕ) → IsInBlock area data_at b a
      → byte_of end.memory a ≡ byte_of m.memory a) after.blocks

-- n bytes from an address on are zero
abbrev pub IsZero : List Range → (from n : ℕ) → Type 0
IsZero memory from n = (i : ℕ) → i < n → byte_of memory (from + i) ≡ Some 0

-- n bytes from an address on are those that stood from another on before
abbrev pub IsCopy : (before after : List Range) → (from to n : ℕ) → Type 0
IsCopy before after from to n = (i : ℕ) → i < n → byte_of after (to + i) ≡ byte_of before (from + i)

-- a granted block reads as zero
abbrev pub IsZeroBlock : Area → (data_at need : ℕ) → Option Placed → List Range → Type 0
IsZeroBlock area data_at need (Some p) memory = IsZero memory (address_of (base_of area data_at) p.granule) (16 * need)
IsZeroBlock area data_at need None memory = Unit {0}

-- the answer to a request for a block, in a0
pub record IsGranted (area : Area) (data_at need : ℕ) (found : Option Placed) (end : Machine) : Type 0 where
  pub address : register end 10 ≡ address_or_zero area data_at found
  pub zero : IsZeroBlock area data_at need found end.memory

-- a granted block has the bytes of the lesser capacity of the old one first, and then reads as zero
abbrev pub IsMovedBlock : Area → (data_at need : ℕ) → (old : Block) → (before : List Range) → Option Placed
    → (after : List Range) → Type 0
IsMovedBlock area data_at need old before (Some p) after =
    IsCopy before after (address_of (base_of area data_at) old.first) (address_of (base_of area data_at) p.granule)
    (16 * min old.granules need)
    × IsZero after (address_of (base_of area data_at) (p.granule + min old.granules need)) (16 * (need - old.granules))
IsMovedBlock area data_at need old before None after = Unit {0}

-- the answer to a request to move a block, in a0
pub record IsMoved (area : Area) (data_at need : ℕ) (old : Option Block) (before : List Range) (found : Option Placed)
    (end : Machine) : Type 0 where
  pub address : register end 10 ≡ address_or_zero area data_at found
  pub bytes : (b : Block) → old ≡ Some b → IsMovedBlock area data_at need b before found end.memory

abbrev pub AnyAnswer : Machine → Type 0
AnyAnswer end = Unit {0}

-- what each request leads to
module _ (rows : List Row) (area : Area) (data_at : ℕ) (layout : Layout) (m : Machine) (input output : List ℕ) where
  abbrev pub Grants : (size : ℕ) → Type 0
  Grants size =
      let found : Option Placed = placed_for rows area layout size (register m 4) in
      IsServed area data_at layout (layout_then layout found) m input output
      (IsGranted area data_at (granules_for size) found)

  abbrev pub Moves : (granule size : ℕ) → Type 0
  Moves granule size =
      let found : Option Placed = moved rows area layout granule (granules_for size) (register m 4) in
      IsServed area data_at layout (layout_then layout found) m input output
      (IsMoved area data_at (granules_for size) (block_at layout granule) m.memory found)

  abbrev pub Releases : (granule : ℕ) → Type 0
  Releases granule = IsServed area data_at layout (released area layout granule) m input output AnyAnswer

  abbrev pub Nothing : Type 0
  Nothing = IsServed area data_at layout layout m input output AnyAnswer

  -- the arguments are in a register and the one behind it: malloc has a size, calloc a number and a size,
  -- realloc a pointer and a size, and free a pointer; a pointer is 0 or a block's address
  abbrev pub Reallocates : (is_zero : Bool) → (argument : ℕ) → Type 0
  Reallocates true a = Grants (register m (a + 1))
  Reallocates false a = Moves (granule_at area data_at (register m a)) (register m (a + 1))

  abbrev pub Frees : (is_zero : Bool) → (argument : ℕ) → Type 0
  Frees true a = Nothing
  Frees false a = Releases (granule_at area data_at (register m a))

  abbrev pub Serves : Call → (argument : ℕ) → Type 0
  Serves Malloc a = Grants (register m a)
  Serves Calloc a = Grants (register m a * register m (a + 1))
  Serves Realloc a = Reallocates (register m a == 0) a
  Serves Free a = Frees (register m a == 0) a

-- the entry of a call serves it, from every state that is ready there with good arguments
abbrev pub ServesAt : List Row → Area → (text_at data_at : ℕ) → (words : List ℕ) → Call → Form → (entry : ℕ) → Type 0
ServesAt rows area text_at data_at words call form entry =
    (layout : Layout) (m : Machine) (input output : List ℕ) → IsReady area text_at data_at words entry layout m
    → IsGood area data_at layout call (register m (argument_of form))
    → Serves rows area data_at layout m input output call (argument_of form)

-- where the eight entries are
pub record Entries : Type 0 where
  pub malloc : ℕ
  pub calloc : ℕ
  pub realloc : ℕ
  pub free : ℕ
  pub malloc_r : ℕ
  pub calloc_r : ℕ
  pub realloc_r : ℕ
  pub free_r : ℕ

-- the heap's words serve every request
pub record ServesHeap (rows : List Row) (area : Area) (text_at data_at : ℕ) (words : List ℕ)
    (at : Entries) : Type 0 where
  pub malloc : ServesAt rows area text_at data_at words Malloc Plain at.malloc
  pub calloc : ServesAt rows area text_at data_at words Calloc Plain at.calloc
  pub realloc : ServesAt rows area text_at data_at words Realloc Plain at.realloc
  pub free : ServesAt rows area text_at data_at words Free Plain at.free
  pub malloc_r : ServesAt rows area text_at data_at words Malloc Reentrant at.malloc_r
  pub calloc_r : ServesAt rows area text_at data_at words Calloc Reentrant at.calloc_r
  pub realloc_r : ServesAt rows area text_at data_at words Realloc Reentrant at.realloc_r
  pub free_r : ServesAt rows area text_at data_at words Free Reentrant at.free_r
