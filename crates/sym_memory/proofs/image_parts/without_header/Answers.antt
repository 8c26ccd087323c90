use Rattle.std.proofs.Common.{slice_index_or, ap, ap₂, sym, ◌∙◌}
use Rattle.std.specs.Prelude.{◌&&◌, not}
use Rattle.elf_spec.specs.declared.Segment.{Segment}
use Rattle.sym_spec.specs.Plain.{is_header_byte}
use Rattle.sym_memory.specs.Parts.{allowed, is_outside}
use Rattle.sym_memory.proofs.ImageLaws.{not_more, header_is}
use Rattle.sym_memory.proofs.image_parts.without_header.Goals as goal

abbrev none : Segment
none = record { kind = 0; offset = 0; vaddr = 0; paddr = 0; file_size = 0; mem_size = 0; flags = 0; align = 0 }

pub loop-segment-preserved : goal.loop-segment-preserved
loop-segment-preserved c = λ access a.
    let s : Segment = slice_index_or c.args.segments.now c.loop-segment.segment-index none in
    not_more (is_header_byte a) c.args.segments.now c.loop-segment.segment-index none
    (allowed access c.args.parts.items a)
    _ _ (is_outside s.vaddr c.header_end.result a)
    c.loop-segment-test.true (c.loop-segment.invariant access a)
    (c.in_ok-rest.ensures access a
    ∙ ap (λ xs. allowed access xs a && is_outside s.vaddr c.header_end.result a) c.deref.ensures.value)
    (ap (λ e. is_outside s.vaddr e a) c.header_end.ensures ∙ ap not (sym (header_is a s)))
