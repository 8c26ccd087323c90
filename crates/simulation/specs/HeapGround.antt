-- What the simulation supposes of a source with heap functions: where their words stand in the new file,
-- and that they serve every request. Nothing else is known of these words.
use Rattle.std.specs.Prelude.{◌≡◌, ℕ, ◌+◌, ◌*◌, ◌<◌, ◌≤◌, List, true, Some, length, slice_get, is_some}
use Rattle.elf_spec.specs.declared.HeapName.{HeapName}
use Rattle.elf_spec.specs.Heap.{heap_entry}
use Rattle.elf_spec.specs.Code.{code_word}
use Rattle.plan_core.specs.declared.types.Plan.{Plan}
use Rattle.place_spec.specs.Layout.{first_layout}
use Rattle.site_spec.specs.Places.{text_at, data_at}
use Rattle.machine_spec.specs.Memory.{memory_of}
use Rattle.flat_spec.specs.Stores.{fetched}
use Rattle.heap_spec.specs.Places.{area_end}
use Rattle.heap_spec.specs.Tables.{Spells}
use Rattle.heap_spec.specs.Service.{Suits, HoldsCode, HoldsData, Entries, ServesHeap, words_at, words_of}
use Rattle.heap_spec.specs.Functions.{entry_of, IsWord}
use Rattle.new_file_spec.specs.Rewritten.{heap_jump}

pub record HeapGround (file : List ℕ) (plan : Plan) (new : List ℕ) : Type 0 where
  pub words : List ℕ
  pub at : Entries
  -- the words serve every request of the plan's rows and area
  pub suits : Suits plan.rows plan.area (text_at file) (data_at file)
  pub serves : ServesHeap plan.rows plan.area (text_at file) (data_at file) words at
  -- they stand in the new text, and the area ends below the stack
  pub room : words_at (text_at file) + 4 * length words ≤ data_at file
  pub below_stack : area_end plan.area (data_at file) < 0x7FF00000
  pub code : HoldsCode (memory_of new) (words_at (text_at file)) words
  pub holds_data : HoldsData (memory_of new) (data_at file) (area_end plan.area (data_at file))
  -- at the start the tables spell the first layout
  pub tables : Spells plan.area (data_at file) (words_of (memory_of new)) (first_layout plan.area)
  -- both words at the entry of a function are code, and go to one of the words
  pub entry : (name : HeapName) (e : ℕ) → heap_entry file name ≡ Some e
      → (is_some (code_word file e) ≡ true) × (is_some (code_word file (e + 4)) ≡ true)
  pub reached : (name : HeapName) (e : ℕ) → heap_entry file name ≡ Some e
      → IsWord (text_at file) words (entry_of at name)
  pub jump : (name : HeapName) (e i w : ℕ) → heap_entry file name ≡ Some e
      → slice_get (heap_jump (entry_of at name) e) i ≡ Some w → fetched (memory_of new) (e + 4 * i) ≡ Some w
