use Rattle.std.proofs.Common.{◌+◌, ap, ◌∙◌}
use Rattle.heap_spec.specs.Places.{base_of}
use Rattle.site_spec.specs.Places.{text_room}
use Rattle.sym_spec.specs.StartMemory.{start_memory}
use Rattle.place_model.specs.Heap.{Heap}
use Rattle.sym_cells.specs.Memory.{Memory}
use Rattle.sym_machine.proofs.Lives.{none_placed}
use Rattle.sym_machine.proofs.reached.memory_of.Goals as goal

pub invariant_of-result : goal.invariant_of-result
unfolding start_memory
invariant_of-result c = (
  record {
    plain = c.in_ok-held.ensures.plain;
    storable = c.in_ok-held.ensures.storable;
    end_is = c.in_ok-held.ensures.end;
  },
  rw c.new-3.ensures.items (none_placed c.args.image.now c.args.plan.now c.in_ok-places.places c.in_ok-held.held.memory
      (ap (λ (m : Memory). m.blocks) c.in_ok-held.ensures.memory)
      (ap (λ (h : Heap). h.rows) c.in_ok-places.ensures.layout)
      (ap (λ (h : Heap). h.area) c.in_ok-places.ensures.layout)
      (ap (λ (h : Heap). h.base) c.in_ok-places.ensures.layout ∙ c.area_base.ensures.base
      ∙ ap (λ t. base_of c.args.plan.now.area (t + text_room)) c.text_at.ensures.exact) c.requires.area),
)
