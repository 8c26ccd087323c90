use Rattle.std.proofs.Common.{◌≡◌, [], take}
use Rattle.heap_tests.proofs.programs.begin.Given as goal

-- the words so far have been added
abbrev pub invariant-loop-word : goal.invariant-loop-word
invariant-loop-word l = l.builder ≡ record { words = take l.word-index l.code; symbols = []; relocs = [] }
