use Rattle.std.proofs.Common.{◌≡◌, ◌++◌, take}
use Rattle.std.specs.List.{flat_map}
use Rattle.elf_spec.specs.Heap.{heap_entry}
use Rattle.image_summary.specs.Summary.{heap_line}
use Rattle.image_summary.proofs.lines.write_names.Given as goal

abbrev pub invariant-loop-name : goal.invariant-loop-name
invariant-loop-name l =
    l.out.items ≡ l.fn.out.items ++ flat_map (λ name. heap_line name (heap_entry l.image name)) (take l.name-index l.names)
