-- The parts of the sections that are left are missing.
use Rattle.std.proofs.Common.{◌≡◌, ◌++◌, drop, filter, map}
use Rattle.elf_spec.specs.Relocations.{is_kept_rela}
use Rattle.exec_image.specs.Parts.{parts_of}
use Rattle.exec_image.proofs.descriptions.push_kept.Given as goal

abbrev pub invariant-loop-s : goal.invariant-loop-s
invariant-loop-s l =
    l.list.items ++ parts_of (map (λ s. (s.offset, s.size))
    (filter (is_kept_rela l.sections) (drop l.s-index l.sections)))
    ≡ l.initial.list.items ++ parts_of (map (λ s. (s.offset, s.size)) (filter (is_kept_rela l.sections) l.sections))
