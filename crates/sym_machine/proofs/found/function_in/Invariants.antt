use Rattle.std.proofs.Common.{◌≡◌, drop, find}
use Rattle.elf_spec.specs.Heap.{heap_entry}
use Rattle.sym_spec.specs.HeapActions.{is_entry}
use Rattle.sym_machine.proofs.found.function_in.Given as goal

abbrev pub invariant-loop-name : goal.invariant-loop-name
invariant-loop-name l =
    find (λ name. is_entry l.addr (heap_entry l.image name)) (drop l.name-index l.names)
    ≡ find (λ name. is_entry l.addr (heap_entry l.image name)) l.names
