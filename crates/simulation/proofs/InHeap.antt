-- The part of a match that speaks of the heap: at the start, and that stores keep it.
use Rattle.std.proofs.Common.{◌≡◌, ◌⊎◌, ℕ, ◌+◌, ◌%◌, ◌<◌, ◌≤◌, List, [], length, map, refl, ap, sym, subst, arith, inl}
use Rattle.std.proofs.Common.{inr}
use Rattle.std.specs.Prelude.{unwrap_or, slice_index}
use Rattle.rv_isa.specs.declared.Width.TheVariants.{Word}
use Rattle.plan_core.specs.declared.types.Plan.{Plan}
use Rattle.place_spec.specs.Layout.{Layout, first_layout}
use Rattle.site_spec.specs.Places.{text_at, data_at}
use Rattle.machine_spec.specs.Memory.{Range, memory_of, byte_of}
use Rattle.flat_spec.specs.Stores.{loaded, put_bytes}
use Rattle.flat_spec.proofs.Pieces.{bytes_from_same, put_bytes_elsewhere}
use Rattle.heap_spec.specs.Places.{tables_end, base_of, area_end}
use Rattle.heap_spec.specs.Service.{words_of}
use Rattle.sym_cells.specs.Memory.{Memory, life_of}
use Rattle.sym_spec.specs.StartMemory.{start_memory}
use Rattle.match_spec.specs.Stands.{places_of}
use Rattle.match_spec.specs.Parts.{InMemory, InHeap, IsInside}
use Rattle.simulation.specs.Ground.{Ground}
use Rattle.simulation.specs.HeapGround.{HeapGround}
use Rattle.simulation.proofs.InMemory.{IsReached, outside}
use Rattle.simulation.proofs.Starting.{no_life}

-- a word depends on its bytes alone
pub loaded_same : (m n : List Range) (a : ℕ) → ((k : ℕ) → a ≤ k → k < a + 4 → byte_of m k ≡ byte_of n k)
    → loaded m Word a ≡ loaded n Word a
unfolding loaded
loaded_same m n a h = rw (bytes_from_same m n a 4 h) refl

pub words_same : (m n : List Range) (a : ℕ) → ((k : ℕ) → a ≤ k → k < a + 4 → byte_of m k ≡ byte_of n k)
    → words_of m a ≡ words_of n a
words_same m n a h = ap (λ o. unwrap_or o 0) (loaded_same m n a h)

-- at the start there are no blocks, and the tables spell the first layout
no_blocks : (file : List ℕ) → length (map life_of (start_memory file).blocks) ≡ 0
unfolding start_memory
no_blocks file = refl

pub heap_start : (file : List ℕ) (plan : Plan) (new : List ℕ) → Ground file plan new
    → InHeap file plan (first_layout plan.area) [] (map life_of (start_memory file).blocks) (memory_of new)
heap_start file plan new g = record {
  spells = λ name e there. (g.heap name e there).tables;
  blocks = record {
    sound = g.laws.first_sound plan.area;
    named = λ k d small. absurd (omega arith);
    placed = λ name k e lives. absurd (no_life file name k e);
    addresses = sym (no_blocks file);
    inside = λ name k e. absurd (no_life file name k e);
  };
}

-- where a store may go there are no tables
no_table : (file : List ℕ) (plan : Plan) (new : List ℕ) (layout : Layout) (at : List ℕ) (m : Memory)
    (memory : List Range) (x : ℕ) → Ground file plan new → HeapGround file plan new
    → InMemory file new (places_of file plan at) m memory
    → InHeap file plan layout at (map life_of m.blocks) memory → IsReached file (places_of file plan at) m x
    → data_at file ≤ x → x < tables_end plan.area (data_at file) → ⊥
no_table file plan new layout at m memory x g heap h k (inl store) low high =
    apart (g.memory.plain_apart x (h.laid.stores x store))
  where
    below : area_end plan.area (data_at file) < 0x7FF00000
    below = heap.below_stack

    apart : (x < text_at file) ⊎ (0x7FF00000 ≤ x) → ⊥
    apart (inl l) = absurd (omega (arith, l, low))
    apart (inr r) = absurd (omega (arith, r, high, below))
no_table file plan new layout at m memory x g heap h k (inr block) low high =
    let inside : IsInside plan.area (data_at file) (slice_index at block.block) block.life =
    k.blocks.inside block.block block.life block.is in
    let base : base_of plan.area (data_at file) ≤ slice_index at block.block = inside.low in
    let from : slice_index at block.block ≤ x = block.low in
    absurd (omega (arith, base, from, high))

-- bytes that go where a store may go, after which all blocks live as before
pub puts_heap : (file : List ℕ) (plan : Plan) (new : List ℕ) (layout : Layout) (at : List ℕ) (m n : Memory)
    (memory : List Range) (a : ℕ) (bs : List ℕ) → Ground file plan new
    → InMemory file new (places_of file plan at) m memory
    → InHeap file plan layout at (map life_of m.blocks) memory → map life_of n.blocks ≡ map life_of m.blocks
    → ((x : ℕ) → a ≤ x → x < a + length bs → IsReached file (places_of file plan at) m x)
    → InHeap file plan layout at (map life_of n.blocks) (put_bytes memory a bs)
puts_heap file plan new layout at m n memory a bs g h k lives went =
    subst (λ ls. InHeap file plan layout at ls (put_bytes memory a bs)) (sym lives) (record {
      spells = λ name e there.
          let text : text_at file % 4 ≡ 0 = g.aligned_text in
          g.laws.tables plan.area layout (data_at file) (words_of memory) (words_of (put_bytes memory a bs))
          k.blocks.sound (omega (arith, text)) (λ w even low high. words_same (put_bytes memory a bs) memory w
          (λ x l t. put_bytes_elsewhere memory a bs x (outside x a (length bs) (λ p q.
          no_table file plan new layout at m memory x g (g.heap name e there) h k (went x p q)
          (omega (arith, low, l)) (in_table w x even high t)))))
          (k.spells name e there);
      blocks = k.blocks;
    })
  where
    text : text_at file % 4 ≡ 0
    text = g.aligned_text

    in_table : (w x : ℕ) → w % 4 ≡ 0 → w < tables_end plan.area (data_at file) → x < w + 4
        → x < tables_end plan.area (data_at file)
    in_table w x even high t = omega (arith, text, even, high, t)
