-- No byte behind the end so far is zero.
use Rattle.std.proofs.Common.{◌≡◌, ℕ, ◌+◌, ◌<◌, ◌≤◌}
use Rattle.elf_spec.specs.Fields.{byte_at}
use Rattle.elf_read.proofs.names.names_end.Given as goal

abbrev pub invariant-loop-end : goal.invariant-loop-end
invariant-loop-end l = record {
  within : l.end ≤ l.strings.size;
  last : (k : ℕ) → l.end ≤ k → k < l.strings.size → byte_at l.file (l.strings.offset + k) ≡ 0 → ⊥;
}

abbrev pub decreases-loop-end : goal.decreases-loop-end
decreases-loop-end l = l.end
