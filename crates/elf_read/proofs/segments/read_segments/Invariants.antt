-- The headers so far are read.
use Rattle.std.proofs.Common.{◌≡◌, length}
use Rattle.elf_spec.specs.Records.{entries, segment_at}
use Rattle.elf_read.proofs.segments.read_segments.Given as goal

abbrev pub invariant-loop-i : goal.invariant-loop-i
invariant-loop-i l = (l.list ≡ entries (segment_at l.file) 32 l.at l.i) × (length l.list ≡ l.i)
