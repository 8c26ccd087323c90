use Rattle.std.proofs.Common.{◌≡◌, ◌++◌, take, flat_map}
use Rattle.rv_build.specs.RecordBytes.{section_bytes}
use Rattle.rv_build.proofs.sections.push_sections.Given as goal

-- the headers so far have been added
abbrev pub invariant-loop-section : goal.invariant-loop-section
invariant-loop-section l = l.out.items ≡ l.fn.out.items ++ flat_map section_bytes (take l.section-index l.sections)
