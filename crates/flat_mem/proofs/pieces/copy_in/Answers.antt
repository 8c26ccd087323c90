use Rattle.std.proofs.Common.{◌+◌, ◌-◌, ◌≤◌, ◌%◌, ◌∙◌, ap, arith, take, drop}
use Rattle.flat_mem.proofs.Parts.{copied_more}
use Rattle.flat_mem.proofs.pieces.copy_in.Goals as goal

pub loop-done-preserved : goal.loop-done-preserved
loop-done-preserved c =
    let count : c.count_in_page-count.result ≤ 4096 - (c.args.addr + c.loop-done.done) % 4096 = omega arith in
    record {
      inside = omega arith;
      copied = copied_more c.args.directory.now c.args.bytes.now c.loop-done.into c.write.new.bytes c.part.result.now
          c.args.addr c.loop-done.done c.count_in_page-count.result c.requires.directs c.loop-done.invariant.copied
          (omega (arith, count)) (omega arith)
          (c.part.ensures ∙ ap (λ p. take c.count_in_page-count.result (drop p c.args.bytes.now)) c.place_in.ensures)
          c.write.ensures;
    }
