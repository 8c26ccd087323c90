use Rattle.std.proofs.Common.{ap, ◌∙◌}
use Rattle.std.proofs.Math.Path.{fun_ext}
use Rattle.elf_spec.specs.Memory.{image_end}
use Rattle.machine_spec.specs.Memory.{memory_of}
use Rattle.elf_read.specs.declared.elf_file.Elf.{Elf}
use Rattle.sym_memory.specs.Kept.{HeldBlocks}
use Rattle.sym_memory.specs.Held.{HeldPlain}
use Rattle.sym_memory.specs.Parts.{is_plain_in, is_storable_in}
use Rattle.sym_memory.proofs.StartLaws.{memory_is}
use Rattle.sym_memory.proofs.memory.SymMemory.new.Goals as goal

pub returns-clause-memory : goal.returns-clause-memory
returns-clause-memory c =
    memory_is c.args.image.now c.in_ok-parts.parts.items c.deref.result.now c.in_ok-memory.memory
    c.as_slice-segments.result.now _ c.new-plain.result c.new-blocks.result _
    (fun_ext c.in_ok-parts.ensures.plain) c.deref.ensures.value (c.in_ok-memory.ensures ∙ ap memory_of c.file.ensures)
    (c.as_slice-segments.ensures ∙ ap (λ (e : Elf). e.segments) c.elf-elf.ensures.read.fields)
    c.in_ok-spans.ensures c.new-plain.ensures c.new-blocks.ensures

pub returns-clause-plain : goal.returns-clause-plain
returns-clause-plain c =
    ap (λ (p : HeldPlain). is_plain_in p.parts) c.new-plain.ensures ∙ fun_ext c.in_ok-parts.ensures.plain

pub returns-clause-storable : goal.returns-clause-storable
returns-clause-storable c =
    ap (λ (p : HeldPlain). is_storable_in p.parts) c.new-plain.ensures ∙ fun_ext c.in_ok-parts.ensures.storable

pub returns-clause-end : goal.returns-clause-end
returns-clause-end c =
    ap (λ (b : HeldBlocks). b.end) c.new-blocks.ensures ∙ c.image_end-end.ensures
    ∙ ap image_end (c.as_slice-segments.ensures ∙ ap (λ (e : Elf). e.segments) c.elf-elf.ensures.read.fields)
