-- Memory after a heap request, by what the request kept and by the heap after it.
use Rattle.std.proofs.Common.{◌≡◌, ◌≢◌, ◌⊎◌, ℕ, ◌+◌, ◌/◌, ◌%◌, ◌<◌, ◌≤◌, List, Bool, true, false, length, map, refl, ap}
use Rattle.std.proofs.Common.{sym, ◌∙◌, subst, arith, inl, inr, get_or}
use Rattle.std.specs.Prelude.{Some, slice_get, slice_index}
use Rattle.std.proofs.lemmas.Bool.{cases_lt}
use Rattle.std.proofs.lemmas.List.{get_or_past}
use Rattle.std.proofs.lemmas.Option.{slice_get-get_or}
use Rattle.plan_core.specs.declared.types.Plan.{Plan}
use Rattle.site_spec.specs.Places.{text_at, data_at, text_room}
use Rattle.machine_spec.specs.Memory.{Range, shape_of, byte_of}
use Rattle.flat_spec.specs.Stores.{allows_store}
use Rattle.flat_spec.proofs.Memories.{same_there, same_writable}
use Rattle.place_spec.specs.Layout.{Layout}
use Rattle.heap_spec.specs.Places.{base_of, area_end}
use Rattle.heap_spec.specs.Service.{HoldsData}
use Rattle.sym_value.specs.declared.live.Life.{Life}
use Rattle.sym_cells.specs.Memory.{Block, Memory, has_cell, cell_at, life_of}
use Rattle.sym_cells.specs.Cells.{cell_in}
use Rattle.sym_cells.specs.Region.{InBlock, Region, is_offset}
use Rattle.sym_spec.specs.Plain.{is_plain, is_code_byte}
use Rattle.sym_spec.specs.SymMachine.{SymMachine}
use Rattle.match_spec.specs.Stands.{back_of, places_of}
use Rattle.match_spec.specs.Parts.{InMemory, BlocksMatch, IsInside}
use Rattle.simulation.specs.Ground.{Ground}
use Rattle.simulation.specs.HeapGround.{HeapGround}
use Rattle.simulation.proofs.Ready.{tables_stand}

-- memory after a request: with the same ranges, and the same bytes outside the tables and the area
pub record KeptOutside (file : List ℕ) (plan : Plan) (before after : List Range) : Type 0 where
  pub shape : map shape_of after ≡ map shape_of before
  pub outside : (a : ℕ) → (a < data_at file) ⊎ (area_end plan.area (data_at file) ≤ a)
      → byte_of after a ≡ byte_of before a
  pub small : (a b : ℕ) → byte_of after a ≡ Some b → b < 256

-- living blocks share no byte
abbrev pub AreApart : List ℕ → List Life → Type 0
AreApart at lives =
    (b c : ℕ) (k l : Life) → b ≢ c → slice_get lives b ≡ Some k → slice_get lives c ≡ Some l
    → k.lives ≡ true → l.lives ≡ true
    → (slice_index at b + k.capacity ≤ slice_index at c) ⊎ (slice_index at c + l.capacity ≤ slice_index at b)

-- plain bytes are outside
plain_outside : (file : List ℕ) (plan : Plan) (new : List ℕ) (a : ℕ) → Ground file plan new
    → HeapGround file plan new → is_plain file a ≡ true → (a < data_at file) ⊎ (area_end plan.area (data_at file) ≤ a)
plain_outside file plan new a g heap plain = by_side (g.memory.plain_apart a plain)
  where
    below : area_end plan.area (data_at file) < 0x7FF00000
    below = heap.below_stack

    by_side : (a < text_at file) ⊎ (0x7FF00000 ≤ a) → (a < data_at file) ⊎ (area_end plan.area (data_at file) ≤ a)
    by_side (inl l) = inl (omega (arith, l))
    by_side (inr r) = inr (omega (arith, r, below))

pub plain_kept : (file : List ℕ) (plan : Plan) (new : List ℕ) (s : SymMachine) (before after : List Range)
    → Ground file plan new → HeapGround file plan new → KeptOutside file plan before after
    → InMemory file new (places_of file plan s.at) s.memory before
    → Region (back_of file plan) s.at after 0 (is_plain file) (cell_at s.memory.plain)
plain_kept file plan new s before after g heap kept h =
    g.laws.same_region (back_of file plan) s.at before after 0 (is_plain file) (cell_at s.memory.plain)
    (λ a plain. subst (λ x. byte_of after x ≡ byte_of before x) (let first : a ≡ 0 + a = omega arith in first)
    (kept.outside a (plain_outside file plan new a g heap plain)))
    h.stands.plain_stands

-- each address of a block is a multiple of 16; behind the list it is 0
aligned_at : (file : List ℕ) (plan : Plan) (layout : Layout) (at : List ℕ) (lives : List Life) (b : ℕ)
    → BlocksMatch file plan layout at lives → slice_index at b % 16 ≡ 0
aligned_at file plan layout at lives b h = by_place (cases_lt b (length lives))
  where
    by_place : (b < length lives) ⊎ (length lives ≤ b) → slice_index at b % 16 ≡ 0
    by_place (inl low) = (h.inside b (get_or lives b (record { capacity = 0; lives = true }))
        (slice_get-get_or lives b (record { capacity = 0; lives = true }) low)).aligned
    by_place (inr high) =
        let long : length at ≤ b = omega (arith, h.addresses, high) in
        rw (get_or_past at b 0 long) refl

pub memory_after : (file : List ℕ) (plan : Plan) (new : List ℕ) (s : SymMachine) (before after : List Range)
    (layout : Layout) (at : List ℕ) (n : Memory) → Ground file plan new → HeapGround file plan new
    → KeptOutside file plan before after → InMemory file new (places_of file plan s.at) s.memory before
    → n.plain ≡ s.memory.plain
    → Region (back_of file plan) at after 0 (is_plain file) (cell_at n.plain)
    → ((b : ℕ) (k : Block) → slice_get n.blocks b ≡ Some k → k.lives ≡ true
    → Region (back_of file plan) at after (slice_index at b) (is_offset k) (cell_in k.cells))
    → BlocksMatch file plan layout at (map life_of n.blocks) → AreApart at (map life_of n.blocks)
    → InMemory file new (places_of file plan at) n after
memory_after file plan new s before after layout at n g heap kept h same plain blocks k apart = record {
  stands = record { plain_stands = plain; blocks_stand = blocks };
  laid = record {
    placed = record {
      aligned = λ b. aligned_at file plan layout at (map life_of n.blocks) b k;
      each = λ b life e.
          let i : IsInside plan.area (data_at file) (slice_index at b) life = k.inside b life e in
          let low : base_of plan.area (data_at file) ≤ slice_index at b = i.low in
          let high : slice_index at b + life.capacity ≤ area_end plan.area (data_at file) = i.high in
          let below : area_end plan.area (data_at file) < 0x7FF00000 = heap.below_stack in
          record { low = omega (arith, low); high = omega (arith, high, below) };
      apart = apart;
    };
    covered = λ a p. subst (λ spans. has_cell (a / 4) spans ≡ true) (sym same) (h.laid.covered a p);
    stores = h.laid.stores;
    there = λ a p. same_there after before a kept.shape ∙ h.laid.there a p;
    writable = λ a p. same_writable after before a kept.shape ∙ h.laid.writable a p;
    block_writable = λ b o life e lives small.
        let i : IsInside plan.area (data_at file) (slice_index at b) life = k.inside b life e in
        let low : base_of plan.area (data_at file) ≤ slice_index at b = i.low in
        let high : slice_index at b + life.capacity ≤ area_end plan.area (data_at file) = i.high in
        let holds_data : HoldsData before (data_at file) (area_end plan.area (data_at file)) =
        tables_stand file plan new s before heap h in
        same_writable after before (slice_index at b + o) kept.shape
        ∙ (ap allows_store (holds_data.lies.there (slice_index at b + o) (omega (arith, low))
        (omega (arith, high, small))) ∙ holds_data.writable);
    plain_apart = λ a b life p e lives.
        let i : IsInside plan.area (data_at file) (slice_index at b) life = k.inside b life e in
        beside a (slice_index at b) life.capacity i.low i.high (g.memory.plain_apart a p);
  };
  block_data = λ a block. no_code a block (is_code_byte file a) refl;
  block_apart = λ a block. data_below a block;
  small = kept.small;
  shape = kept.shape ∙ h.shape;
  code = λ a c.
      let below : a < text_at file = g.memory.code_below a c in
      kept.outside a (inl (omega (arith, below))) ∙ h.code a c;
  text = λ a low high. kept.outside a (inl high) ∙ h.text a low high;
}
  where
    below : area_end plan.area (data_at file) < 0x7FF00000
    below = heap.below_stack

    beside : (a start size : ℕ) → base_of plan.area (data_at file) ≤ start
        → start + size ≤ area_end plan.area (data_at file) → (a < text_at file) ⊎ (0x7FF00000 ≤ a)
        → (a < start) ⊎ (start + size ≤ a)
    beside a start size low high (inl l) = inl (omega (arith, low, l))
    beside a start size low high (inr r) = inr (omega (arith, high, r, below))

    data_below : (a : ℕ) → InBlock at n a → text_at file + text_room ≤ a
    data_below a block =
        let i : IsInside plan.area (data_at file) (slice_index at block.block) block.life =
        k.inside block.block block.life block.is in
        let low : base_of plan.area (data_at file) ≤ slice_index at block.block = i.low in
        let from : slice_index at block.block ≤ a = block.low in
        omega (arith, low, from)

    no_code : (a : ℕ) → InBlock at n a → (t : Bool) → is_code_byte file a ≡ t → is_code_byte file a ≡ false
    no_code a block true e =
        let high : text_at file + text_room ≤ a = data_below a block in
        let low : a < text_at file = g.memory.code_below a e in
        absurd (omega (arith, high, low))
    no_code a block false e = e
