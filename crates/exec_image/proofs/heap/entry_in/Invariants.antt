-- No entry so far has the name.
use Rattle.std.proofs.Common.{◌≡◌, ℕ, ◌<◌, get_or}
use Rattle.exec_image.specs.declared.heap.HeapEntry.{HeapEntry}
use Rattle.exec_image.proofs.heap.entry_in.Given as goal

abbrev pub invariant-loop-entry : goal.invariant-loop-entry
invariant-loop-entry l = (k : ℕ) (d : HeapEntry) → k < l.entry-index → (get_or l.heap k d).name ≡ l.name → ⊥
