use Rattle.std.proofs.Common.{◌-◌, ◌≤◌, ◌∙◌, arith}
use Rattle.flat_mem.specs.Areas.{byte_in}
use Rattle.flat_mem.proofs.Parts.{filled_more}
use Rattle.flat_mem.proofs.pieces.fill_in.Goals as goal
use Rattle.flat_mem.proofs.pieces.fill_in.Goals.{then-left-lt4096, else-left-lt4096}

pub loop-done-preserved : goal.loop-done-preserved
loop-done-preserved c =
    let few : c.if-left-lt4096.count ≤ 4096 =
    elim c.if-left-lt4096.branch [ then-left-lt4096 w ↦ omega arith | else-left-lt4096 w ↦ omega arith ] in
    let less : c.if-left-lt4096.count ≤ c.args.size - c.loop-done.done =
    elim c.if-left-lt4096.branch [ then-left-lt4096 w ↦ omega arith | else-left-lt4096 w ↦ omega arith ] in
    record {
      inside = omega (arith, less);
      long = c.put_in.ensures.long ∙ c.loop-done.invariant.long;
      stored = λ k. filled_more c.args.directory.now c.loop-done.bytes c.put_in.new.bytes
          (byte_in c.args.directory.now c.args.bytes.now) c.args.addr c.loop-done.done c.if-left-lt4096.count
          c.args.byte k (c.loop-done.invariant.stored k) few (c.put_in.ensures.bytes k);
    }
