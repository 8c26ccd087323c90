-- Blocks that are placed and released, in memory, in the layout and among the addresses.
use Rattle.std.proofs.Common.{◌≡◌, ◌≢◌, ℕ, true, List, [], ◌∷◌, ◌++◌, length, refl, ap, sym, ◌∙◌, subst, arith}
use Rattle.std.specs.Prelude.{Bool, false, Option, Some, None, IsTrue, IsSome, ◌↔◌, get_or, slice_index, slice_set}
use Rattle.std.specs.Option.{option_map_or}
use Rattle.std.proofs.lemmas.List.{get_or_read}
use Rattle.plan_core.specs.declared.types.Plan.{Plan}
use Rattle.place_spec.specs.Layout.{address_of}
use Rattle.place_spec.specs.Place.{Placed, placed}
use Rattle.place_model.specs.Heap.{Heap, LivesAt, address_in, placed_in_heap, heap_after, heap_without}
use Rattle.sym_cells.specs.Memory.{Memory, granted, dropped}
use Rattle.sym_spec.specs.HeapActions.{base}
use Rattle.sym_machine.specs.Reached.{HeldMemory}
use Rattle.sym_machine.specs.Placing.{block_lives, HasPlaces, with_placed, without}
use Rattle.sym_machine.proofs.Lives.{named, set_last, grant_keeps, drop_keeps}

-- what contracts see of a memory
abbrev pub held_of : List ℕ → Plan → Memory → Heap → List ℕ → HeldMemory
held_of file plan memory heap at =
    record { file = file; plan = plan; memory = memory; layout = heap.layout; at = at }

-- where a block of so many granules would be placed
abbrev pub placed_with : HeldMemory → (need bits : ℕ) → Option Placed
placed_with h need bits = placed h.plan.rows h.plan.area h.layout need bits

none_of : (r : Option Placed) → (IsSome r → ⊥) → r ≡ None
none_of None h = refl
none_of (Some p) h = absurd (h refl)

module _ (file : List ℕ) (plan : Plan) (heap : Heap) (memory : Memory) (at : List ℕ)
    (h : HasPlaces file plan heap memory at) where
  pub placed_is : (need bits : ℕ) → placed plan.rows plan.area heap.layout need bits ≡ placed_in_heap heap need bits
  placed_is need bits = rw (h.rows, h.area) refl

  placed_as : (old : HeldMemory) (need bits : ℕ) → held_of file plan memory heap at ≡ old
      → placed_with old need bits ≡ placed_in_heap heap need bits
  placed_as old need bits v = sym (ap (λ (x : HeldMemory). placed_with x need bits) v) ∙ placed_is need bits

  -- whether a block fits
  pub has_room : (old : HeldMemory) (need bits : ℕ) (t : Bool) → held_of file plan memory heap at ≡ old
      → (IsTrue t ↔ IsSome (placed_in_heap heap need bits)) → t ≡ true → IsSome (placed_with old need bits)
  has_room old need bits t v fits e = subst (λ r. IsSome r) (sym (placed_as old need bits v)) (fits.0 e)

  pub no_room : (old : HeldMemory) (need bits : ℕ) (t : Bool) → held_of file plan memory heap at ≡ old
      → (IsTrue t ↔ IsSome (placed_in_heap heap need bits)) → t ≡ false → placed_with old need bits ≡ None
  no_room old need bits t v fits e =
      placed_as old need bits v ∙ none_of (placed_in_heap heap need bits) (λ s. (let u : t ≡ true = fits.1 s in cc))

  -- the address of a living block
  pub address_of_block : (b a : ℕ) → block_lives memory b ≡ true → a ≡ get_or at b a → a ≡ slice_index at b
  address_of_block b a lives e = get_or_read at b a (omega (arith, h.one_each, named memory b lives)) e 0

  address_is : (need bits addr : ℕ) (p : Placed) → placed_in_heap heap need bits ≡ Some p
      → Some addr ≡ address_in heap (placed_in_heap heap need bits) → addr ≡ address_of (base file plan) p.granule
  address_is need bits addr p e a =
      let here : Some addr ≡ Some (address_of heap.base p.granule) = a ∙ ap (address_in heap) e in
      let there : address_of heap.base p.granule ≡ address_of (base file plan) p.granule =
      ap (λ b. address_of b p.granule) h.base_is in
      cc

  -- one more block
  pub added : (after : Heap) (now : Memory) (at' : List ℕ) (need bits addr block : ℕ) (p : Placed)
      → placed plan.rows plan.area heap.layout need bits ≡ Some p
      → after ≡ heap_after heap (placed_in_heap heap need bits)
      → Some addr ≡ address_in heap (placed_in_heap heap need bits) → block ≡ length memory.blocks
      → now ≡ granted need memory → at' ≡ slice_set (at ++ 0 ∷ []) block addr
      → held_of file plan now after at' ≡ with_placed need p (held_of file plan memory heap at)
  added after now at' need bits addr block p e a d n m s =
      let here : placed_in_heap heap need bits ≡ Some p = sym (placed_is need bits) ∙ e in
      let layout : after.layout ≡ p.after =
      ap (λ x. x.layout) a ∙ ap (λ q. option_map_or (λ q. q.after) q heap.layout) here in
      let last : at' ≡ at ++ address_of (base file plan) p.granule ∷ [] =
      s ∙ set_last at 0 addr block (n ∙ sym h.one_each) ∙ ap (λ x. at ++ x ∷ []) (address_is need bits addr p here d) in
      rw (layout, last, m) refl

  pub added_keeps : (after : Heap) (now : Memory) (at' : List ℕ) (need bits addr block : ℕ)
      → after ≡ heap_after heap (placed_in_heap heap need bits) → block ≡ length memory.blocks
      → now ≡ granted need memory → at' ≡ slice_set (at ++ 0 ∷ []) block addr → LivesAt after addr
      → (LivesAt heap addr → ⊥) → ((a : ℕ) → LivesAt heap a → LivesAt after a) → HasPlaces file plan after now at'
  added_keeps after now at' need bits addr block a n m s new free others =
      let last : at' ≡ at ++ addr ∷ [] = s ∙ set_last at 0 addr block (n ∙ sym h.one_each) in
      rw (last, m) (grant_keeps file plan heap after memory at need addr h free (ap (λ x. x.rows) a)
      (ap (λ x. x.area) a) (ap (λ x. x.base) a) new others)

  -- one block less
  pub lost : (after : Heap) (now : Memory) (b : ℕ) → after ≡ heap_without heap (slice_index at b)
      → now ≡ dropped b memory
      → held_of file plan now after at ≡ without b (held_of file plan memory heap at)
  lost after now b a m = rw (a, m) (rw (h.area, h.base_is) refl)

  pub lost_keeps : (after : Heap) (now : Memory) (b : ℕ) → block_lives memory b ≡ true
      → after ≡ heap_without heap (slice_index at b) → now ≡ dropped b memory
      → ((a : ℕ) → a ≢ slice_index at b → LivesAt heap a → LivesAt after a) → HasPlaces file plan after now at
  lost_keeps after now b lives a m others =
      rw m (drop_keeps file plan heap after memory at b h lives (ap (λ x. x.rows) a) (ap (λ x. x.area) a)
      (ap (λ x. x.base) a) others)
