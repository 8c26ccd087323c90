-- The parts are added in their order.
use Rattle.std.proofs.Common.{◌≡◌, length, refl, rules}
use Rattle.elf_spec.specs.Records.{e_phnum, e_shnum, sections_of}
use Rattle.exec_image.proofs.Headers.{count_sections, count_segments}
use Rattle.exec_image.proofs.Shares.{all_described}
use Rattle.exec_image.proofs.descriptions.description_list.Goals as goal

pub returns : goal.returns
returns c =
    let n : length c.args.elf.now.segments ≡ e_phnum c.args.file.now =
    count_segments c.args.elf.now c.args.file.now c.requires in
    let m : length c.args.elf.now.sections ≡ e_shnum c.args.file.now =
    count_sections c.args.elf.now c.args.file.now c.requires in
    let e : c.args.elf.now.sections ≡ sections_of c.args.file.now = rw c.requires.fields refl in
    rw (
      c.in_ok-push_kept.ensures,
      c.in_ok-push_section-2.ensures,
      c.in_ok-push_section.ensures,
      c.in_ok-push_part-3.ensures,
      c.in_ok-push_part-2.ensures,
      c.in_ok-push_part.ensures,
      c.new-list.ensures.items,
      c.as_slice-segments.ensures,
      c.as_slice-sections.ensures,
      n,
      m,
      e,
      c.requires.fields,
    ) (all_described c.args.file.now c.symbols-table.result c.strings.result (search rules) (search rules))
