use Rattle.std.proofs.Common.{◌≡◌, ◌+◌, ◌++◌, ◌-◌, ◌≤◌, ◌%◌, ◌∙◌, sym, ap, arith, length, take, drop}
use Rattle.std.proofs.Math.Seq.{take-add}
use Rattle.std.proofs.lemmas.List.{length-take-le, length-drop}
use Rattle.flat_mem.specs.Areas.{byte_in, over, written}
use Rattle.flat_mem.proofs.Parts.{stored_more}
use Rattle.flat_mem.proofs.pieces.put_in.Goals as goal

pub loop-done-preserved : goal.loop-done-preserved
loop-done-preserved c =
    let count : c.count_in_page-count.result ≤ 4096 - (c.args.addr + c.loop-done.done) % 4096 = omega arith in
    let rest : c.loop-done.done + c.count_in_page-count.result ≤ length c.args.piece.now = omega arith in
    let part : length c.part.result.now ≡ c.count_in_page-count.result =
    ap length c.part.ensures ∙ length-take-le c.count_in_page-count.result (drop c.loop-done.done c.args.piece.now)
    (omega (arith, rest, length-drop c.loop-done.done c.args.piece.now)) in
    record {
      inside = omega arith;
      long = omega arith;
      stored = λ k. stored_more c.args.directory.now c.loop-done.bytes c.write.new.bytes c.part.result.now
          (take c.loop-done.done c.args.piece.now) (byte_in c.args.directory.now c.args.bytes.now) c.args.addr
          c.loop-done.done k (rw c.loop-done.invariant.long c.requires.directs)
          (length-take-le c.loop-done.done c.args.piece.now (omega arith)) (c.loop-done.invariant.stored k)
          (c.requires.there (c.args.addr + c.loop-done.done) (omega arith) (omega arith))
          (omega (arith, count, part))
          (c.write.ensures ∙ ap (λ p. written c.loop-done.bytes p c.part.result.now) c.place_in.ensures)
          ∙ ap (λ xs. over (byte_in c.args.directory.now c.args.bytes.now) c.args.addr xs k)
          (ap (λ ys. take c.loop-done.done c.args.piece.now ++ ys) c.part.ensures
          ∙ sym (take-add c.loop-done.done c.count_in_page-count.result c.args.piece.now));
    }
