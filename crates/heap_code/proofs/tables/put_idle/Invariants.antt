use Rattle.std.proofs.Common.{◌≡◌, ◌++◌}
use Rattle.heap_spec.specs.Tables.{idle_rows}
use Rattle.heap_code.specs.Words.{bytes_of}
use Rattle.heap_code.proofs.tables.put_idle.Given as goal

-- what is written and what is left are all
abbrev pub invariant-loop-left : goal.invariant-loop-left
invariant-loop-left l = l.bytes.items ++ bytes_of (idle_rows l.left)
    ≡ l.initial.bytes.items ++ bytes_of (idle_rows l.fn.chunks)

abbrev pub decreases-loop-left : goal.decreases-loop-left
decreases-loop-left l = l.left
