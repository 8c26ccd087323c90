-- What a turn does to the heap and to the bits, in the words of its note.
use Rattle.std.specs.Prelude.{◌≡◌, ◌≤◌, ◌⊎◌, ℕ, ◌*◌, List, [], ◌∷◌, ◌++◌, true, false, Option, Some, None, length, map}
use Rattle.std.specs.Prelude.{option_and_then, slice_get, slice_set}
use Rattle.plan_core.specs.declared.types.Plan.{Plan}
use Rattle.plan_core.specs.declared.types.PlanLine.{PlanLine}
use Rattle.place_spec.specs.Layout.{Layout, address_of}
use Rattle.place_spec.specs.Place.{Placed, placed}
use Rattle.place_spec.specs.Release.{released}
use Rattle.sym_value.specs.declared.live.Life.{Life}
use Rattle.sym_cells.specs.Memory.{life_of}
use Rattle.sym_spec.specs.declared.StepNote.{StepNote}
use Rattle.sym_spec.specs.SymMachine.{SymMachine, line_at, back_index, set_bit, clear_bit}
use Rattle.sym_spec.specs.HeapActions.{base, granule_in}

-- the heap: its layout, the address that each block got, and the blocks as values see them
pub record Heap : Type 0 where
  pub layout : Layout
  pub at : List ℕ
  pub lives : List Life

abbrev pub heap_of : SymMachine → Heap
heap_of m = record { layout = m.layout; at = m.at; lives = map life_of m.memory.blocks }

-- a block that lives, of so many granules
abbrev pub new_life : (granules : ℕ) → Life
new_life granules = record { capacity = 16 * granules; lives = true }

-- the heap with one more block, where it was placed
abbrev pub with_block : List ℕ → Plan → (need : ℕ) → Placed → Heap → Heap
with_block file plan need p h = record {
  layout = p.after;
  at = h.at ++ address_of (base file plan) p.granule ∷ [];
  lives = h.lives ++ new_life need ∷ [];
}

-- a turn from this machine grants a block, which was placed by the plan's rows over the bits
pub record IsGranted (file : List ℕ) (plan : Plan) (m : SymMachine) (block : ℕ) (after : Heap) : Type 0 where
  pub need : ℕ
  pub some : 1 ≤ need
  pub place : Placed
  pub placed_there : placed plan.rows plan.area m.layout need m.bits ≡ Some place
  pub named : block ≡ length m.memory.blocks
  pub after_is : after ≡ with_block file plan need place (heap_of m)

abbrev pub AfterGrant : List ℕ → Plan → SymMachine → Option ℕ → (after : Heap) → Type 0
AfterGrant file plan m (Some block) after = IsGranted file plan m block after
AfterGrant file plan m None after = after ≡ heap_of m

-- the heap without the block of a name, which stood at a granule
abbrev pub without_block : Plan → (block granule : ℕ) → Life → Heap → Heap
without_block plan block granule life h = record h {
  layout = released plan.area h.layout granule;
  lives = slice_set h.lives block (record life { lives = false });
}

-- a turn from this machine releases a block, which lived, behind its grant
pub record IsReleased (file : List ℕ) (plan : Plan) (m : SymMachine) (block : ℕ) (before after : Heap) : Type 0 where
  pub life : Life
  pub there : slice_get (heap_of m).lives block ≡ Some life
  pub lived : life.lives ≡ true
  pub after_is : after ≡ without_block plan block (granule_in file plan block m) life before

abbrev pub AfterRelease : List ℕ → Plan → SymMachine → Option ℕ → (before after : Heap) → Type 0
AfterRelease file plan m (Some block) before after = IsReleased file plan m block before after
AfterRelease file plan m None before after = after ≡ before

-- a turn with this note grants and releases what the note says, in this order, and does nothing else to the heap
pub record ServesHeap (file : List ℕ) (plan : Plan) (m : SymMachine) (note : StepNote)
    (next : SymMachine) : Type 0 where
  pub between : Heap
  pub grants : AfterGrant file plan m note.grant between
  pub releases : AfterRelease file plan m note.release between (heap_of next)

-- the bits after a turn with this note: the call of a chosen site sets its bit, a jump back to the return address of a
-- chosen site clears it, and nothing else changes them
abbrev pub set_by : List PlanLine → (call : Option ℕ) → (bits : ℕ) → ℕ
set_by lines (Some a) bits = set_bit (line_at lines a) bits
set_by lines None bits = bits

abbrev pub cleared_by : List ℕ → List PlanLine → (back : Option ℕ) → (bits : ℕ) → ℕ
cleared_by file lines (Some a) bits = clear_bit (option_and_then (slice_get lines) (back_index file lines a)) bits
cleared_by file lines None bits = bits

abbrev pub bits_after : List ℕ → List PlanLine → StepNote → (bits : ℕ) → ℕ
bits_after file lines note bits = cleared_by file lines note.back (set_by lines note.call bits)

-- a turn with this note sets and clears these bits, and doesn't both call and go back
pub record SetsBits (file : List ℕ) (plan : Plan) (m : SymMachine) (note : StepNote) (next : SymMachine) : Type 0 where
  pub bits : next.bits ≡ bits_after file plan.sites note m.bits
  pub alone : (note.call ≡ None) ⊎ (note.back ≡ None)
