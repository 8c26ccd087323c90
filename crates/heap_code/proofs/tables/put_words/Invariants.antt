use Rattle.std.proofs.Common.{◌≡◌, ◌++◌, replicate}
use Rattle.heap_code.specs.Words.{bytes_of}
use Rattle.heap_code.proofs.tables.put_words.Given as goal

-- what is written and what is left are all
abbrev pub invariant-loop-left : goal.invariant-loop-left
invariant-loop-left l = l.bytes.items ++ bytes_of (replicate l.left l.fn.word)
    ≡ l.initial.bytes.items ++ bytes_of (replicate l.fn.count l.fn.word)

abbrev pub decreases-loop-left : goal.decreases-loop-left
decreases-loop-left l = l.left
