use Rattle.std.proofs.Common.{◌≡◌, ◌≤◌, [], length, take}
use Rattle.machine_tests.proofs.samples.file.Given as goal

-- the words so far have been added, of at most 64
abbrev pub invariant-loop-word : goal.invariant-loop-word
invariant-loop-word l =
    (l.builder ≡ record { words = take l.word-index l.words; symbols = []; relocs = [] }) × (length l.words ≤ 64)
