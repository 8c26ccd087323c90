-- The patches so far, and those of the functions that are left, are all.
use Rattle.std.proofs.Common.{◌≡◌, ◌++◌, drop}
use Rattle.std.specs.Prelude.{flat_map}
use Rattle.elf_spec.specs.Heap.{heap_entry}
use Rattle.heap_spec.specs.Functions.{entry_of}
use Rattle.heap_code.specs.Images.{entries_in}
use Rattle.new_file_spec.specs.Rewritten.{heap_patch}
use Rattle.rewriter.proofs.entries.push_functions.Given as goal

abbrev pub invariant-loop-name : goal.invariant-loop-name
invariant-loop-name l = record {
  done : l.patches.items
      ++ flat_map (λ name. heap_patch l.image (entry_of (entries_in l.heap) name) (heap_entry l.image name))
      (drop l.name-index l.names)
      ≡ l.fn.patches.items
      ++ flat_map (λ name. heap_patch l.image (entry_of (entries_in l.heap) name) (heap_entry l.image name)) l.names;
}
