-- The lengths from the place on are known.
use Rattle.std.proofs.Common.{◌≡◌, ℕ, ◌+◌, ◌<◌, ◌≤◌, get_or, length}
use Rattle.elf_spec.specs.Tables.{name_len_at}
use Rattle.elf_read.proofs.names.name_lengths.Given as goal

abbrev pub invariant-loop-i : goal.invariant-loop-i
invariant-loop-i l = record {
  size : length l.lengths.items ≡ l.end;
  inside : l.i ≤ l.end;
  short : l.length + l.i ≤ l.end;
  now : l.i < l.end → l.length ≡ name_len_at l.file (l.strings.offset + l.i);
  each : (k : ℕ) → l.i ≤ k → k < l.end → get_or l.lengths.items k 0 ≡ name_len_at l.file (l.strings.offset + k);
}

abbrev pub decreases-loop-i : goal.decreases-loop-i
decreases-loop-i l = l.i
