-- The parts of a match: registers, memory and the heap.
use Rattle.std.specs.Prelude.{length, ◌≡◌, ◌≢◌, ℕ, ◌+◌, ◌*◌, ◌%◌, ◌<◌, ◌≤◌, ◌^◌, List, true, false, All, Any, map, Some}
use Rattle.std.specs.Prelude.{slice_get, slice_index}
use Rattle.elf_spec.specs.declared.HeapName.{HeapName}
use Rattle.elf_spec.specs.Memory.{image_end}
use Rattle.elf_spec.specs.Records.{segments_of}
use Rattle.elf_spec.specs.Heap.{heap_entry}
use Rattle.plan_core.specs.declared.types.Area.{Area}
use Rattle.plan_core.specs.declared.types.Plan.{Plan}
use Rattle.place_spec.specs.Layout.{Block, Layout, address_of}
use Rattle.place_spec.specs.Sound.{Sound}
use Rattle.heap_spec.specs.Places.{base_of, area_end}
use Rattle.heap_spec.specs.Service.{words_of}
use Rattle.heap_spec.specs.Tables.{Spells}
use Rattle.machine_spec.specs.Memory.{Range, shape_of, memory_of, byte_of}
use Rattle.site_spec.specs.Places.{text_at, data_at, text_room}
use Rattle.flat_spec.specs.Machine.{word_read}
use Rattle.sym_value.specs.declared.Value.{Value}
use Rattle.sym_value.specs.declared.Value.TheVariants.{Num}
use Rattle.sym_value.specs.declared.live.Life.{Life}
use Rattle.sym_cells.specs.Memory.{Memory}
use Rattle.sym_cells.specs.Region.{InBlock, Laid, MemoryStands}
use Rattle.sym_spec.specs.Plain.{is_plain, is_plain_store, is_code_byte}
use Rattle.sym_spec.specs.SymMachine.{value_read}
use Rattle.sym_spec.specs.HeapActions.{base}
use Rattle.match_spec.specs.Stands.{Places, Holds}

pub record InRegisters (places : Places) (values : List Value) (words : List ℕ) (bits : ℕ) : Type 0 where
  -- every register but x4 stands for its value, and x4 is the bits; all are words
  pub holds : (r : ℕ) → r < 32 → r ≢ 4 → Holds places (value_read values r) (word_read words r)
  pub bits_there : word_read words 4 ≡ bits
  pub bits_small : bits < 2 ^ 32
  -- the symbol machine never writes x4
  pub spare : value_read values 4 ≡ Num 0
  -- both have 32 registers
  pub long : length words ≡ 32
  pub sym_long : length values ≡ 32

pub record InMemory (file new : List ℕ) (places : Places) (m : Memory) (memory : List Range) : Type 0 where
  -- the bytes of plain memory and of each living block stand for its cells
  pub stands : MemoryStands places.back places.blocks (is_plain file) memory m
  -- plain memory and the blocks lie where they may
  pub laid : Laid places.blocks (image_end (segments_of file)) (is_plain file) (is_plain_store file) memory m
  -- living blocks have no byte of the code, and lie above the new text
  pub block_data : (a : ℕ) → InBlock places.blocks m a → is_code_byte file a ≡ false
  pub block_apart : (a : ℕ) → InBlock places.blocks m a → text_at file + text_room ≤ a
  -- every byte is below 256
  pub small : (a b : ℕ) → byte_of memory a ≡ Some b → b < 256
  -- memory has the new file's ranges and flags, and its bytes in the code and in the new text
  pub shape : map shape_of memory ≡ map shape_of (memory_of new)
  pub code : (a : ℕ) → is_code_byte file a ≡ true → byte_of memory a ≡ byte_of (memory_of new) a
  pub text : (a : ℕ) → text_at file ≤ a → a < text_at file + text_room → byte_of memory a ≡ byte_of (memory_of new) a

-- the living block of this name is the layout's block: how large it is and where it stands
pub record IsBlock (base : ℕ) (at : List ℕ) (lives : List Life) (name : ℕ) (b : Block) : Type 0 where
  pub life : slice_get lives name ≡ Some (record { capacity = 16 * b.granules; lives = true })
  pub address : slice_index at name ≡ address_of base b.first

-- a live block of the layout is a living block of some name
pub record IsNamed (base : ℕ) (at : List ℕ) (lives : List Life) (b : Block) : Type 0 where
  pub name : ℕ
  pub is : IsBlock base at lives name b

-- a block, living or dead, stands at a multiple of 16, with all its bytes in the area
pub record IsInside (area : Area) (data_at : ℕ) (address : ℕ) (k : Life) : Type 0 where
  pub aligned : address % 16 ≡ 0
  pub low : base_of area data_at ≤ address
  pub high : address + k.capacity ≤ area_end area data_at

-- the layout's live blocks are the living blocks of symbol memory, by the addresses of all blocks and by
-- the blocks as values see them
pub record BlocksMatch (file : List ℕ) (plan : Plan) (layout : Layout) (at : List ℕ) (lives : List Life) : Type 0 where
  -- the layout is sound, and its live blocks are the living blocks, each at its address
  pub sound : Sound plan.area layout
  pub named : All (IsNamed (base file plan) at lives) layout.blocks
  pub placed : (name : ℕ) (k : Life) → slice_get lives name ≡ Some k → k.lives ≡ true
      → Any (IsBlock (base file plan) at lives name) layout.blocks
  -- each block, living or dead, has an address
  pub addresses : length at ≡ length lives
  pub inside : (name : ℕ) (k : Life) → slice_get lives name ≡ Some k
      → IsInside plan.area (data_at file) (slice_index at name) k

pub record InHeap (file : List ℕ) (plan : Plan) (layout : Layout) (at : List ℕ) (lives : List Life)
    (memory : List Range) : Type 0 where
  -- if the executable has a heap function, the tables spell the layout
  pub spells : (name : HeapName) (e : ℕ) → heap_entry file name ≡ Some e
      → Spells plan.area (data_at file) (words_of memory) layout
  pub blocks : BlocksMatch file plan layout at lives
