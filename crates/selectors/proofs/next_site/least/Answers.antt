use Rattle.std.proofs.Common.{◌∙◌, sym, refl, get_or}
use Rattle.selectors.proofs.Choices.{least_skip, least_more}
use Rattle.selectors.proofs.next_site.least.Goals as goal
use Rattle.selectors.proofs.next_site.least.Goals.{then-not-contains, else-not-contains}

pub loop-i-preserved : goal.loop-i-preserved
loop-i-preserved c left counts =
    let own = c.args.own.now in
    let chosen = c.args.chosen.now in
    let i = c.loop-i.i in
    let before = c.loop-i.invariant left counts in
    elim c.if-not-contains.branch [
      | then-not-contains w ↦ rw (w.best-is, w.first-best.ensures)
          (least_more left own chosen i c.loop-i.best record
          { site = get_or own i 0; left = get_or c.args.counts.now i 0 }
          c.loop-i-test.true refl (counts i c.loop-i-test.true)
          (sym c.contains.ensures.value ∙ w.if-not-contains.true) before)
      | else-not-contains w ↦ rw w.best-is
          (least_skip left own chosen i c.loop-i.best c.loop-i-test.true
          (sym c.contains.ensures.value ∙ w.if-not-contains.false) before)
    ]
