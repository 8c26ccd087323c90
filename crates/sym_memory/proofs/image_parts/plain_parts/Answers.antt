use Rattle.std.proofs.Common.{ap, ◌∙◌}
use Rattle.elf_read.specs.declared.elf_file.Elf.{Elf}
use Rattle.sym_memory.specs.declared.parts.Access.TheVariants.{Load, Store}
use Rattle.sym_memory.proofs.ImageLaws.{plain_of, storable_of}
use Rattle.sym_memory.proofs.image_parts.plain_parts.Goals as goal

pub returns-clause-plain : goal.returns-clause-plain
returns-clause-plain c = λ a.
    plain_of c.args.image.now a c.as_slice-segments.result.now c.as_slice.result.now c.stack_part.result _ _ _ _
    (c.as_slice-segments.ensures ∙ ap (λ (e : Elf). e.segments) c.elf.ensures.read.fields)
    (c.as_slice.ensures ∙ c.execs.ensures) c.stack_part.ensures
    (c.in_ok-loaded.ensures Load a) (c.in_ok-behind_header.ensures Load a) (c.in_ok-parts.ensures Load a)
    (c.in_ok-add.ensures Load a)

pub returns-clause-storable : goal.returns-clause-storable
returns-clause-storable c = λ a.
    storable_of c.args.image.now a c.as_slice-segments.result.now c.as_slice.result.now c.stack_part.result _ _ _ _
    (c.as_slice-segments.ensures ∙ ap (λ (e : Elf). e.segments) c.elf.ensures.read.fields)
    (c.as_slice.ensures ∙ c.execs.ensures) c.stack_part.ensures
    (c.in_ok-loaded.ensures Store a) (c.in_ok-behind_header.ensures Store a) (c.in_ok-parts.ensures Store a)
    (c.in_ok-add.ensures Store a)
