use Rattle.std.proofs.Common.{◌≡◌, ◌-◌, suc, ap, ◌∙◌, arith}
use Rattle.machine_spec.specs.Widths.{low_bytes}
use Rattle.heap_spec.specs.Tables.{none_word, idle_rows}
use Rattle.heap_code.specs.Words.{bytes_of}
use Rattle.heap_code.proofs.Lists.{four_more}
use Rattle.heap_code.proofs.tables.put_idle.Goals as goal

pub loop-left-preserved : goal.loop-left-preserved
loop-left-preserved c =
    let left : c.loop-left.left ≡ suc (c.loop-left.left - 1) =
    (let some = c.loop-left-test.true in omega (arith, some)) in
    four_more c.loop-left.bytes.items c.put_word.new.bytes.items c.put_word-in-loop-left.new.bytes.items
    c.put_word-in-loop-left-2.new.bytes.items c.put_word-in-loop-left-3.new.bytes.items
    (low_bytes 4 none_word) (low_bytes 4 0) (low_bytes 4 0) (low_bytes 4 0)
    (bytes_of (idle_rows (c.loop-left.left - 1))) (bytes_of (idle_rows c.loop-left.left))
    c.in_ok-put_word.ensures c.in_ok-put_word-2.ensures c.in_ok-put_word-3.ensures c.in_ok-put_word-4.ensures
    (ap (λ n. bytes_of (idle_rows n)) left) ∙ c.loop-left.invariant
