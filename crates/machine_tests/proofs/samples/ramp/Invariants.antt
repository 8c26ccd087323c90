use Rattle.std.proofs.Common.{◌≡◌, [], length}
use Rattle.machine_tests.proofs.samples.ramp.Given as goal

-- a word has been added in each turn, and nothing else
abbrev pub invariant-loop-k : goal.invariant-loop-k
invariant-loop-k l = (length l.builder.words ≡ l.k) × (l.builder.symbols ≡ []) × (l.builder.relocs ≡ [])
