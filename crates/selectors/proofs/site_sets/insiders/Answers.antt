use Rattle.std.proofs.Common.{◌≡◌, ◌∙◌, sym, ap}
use Rattle.selectors.specs.Sets.{is_in}
use Rattle.selectors.proofs.Searching.{one_more, none_more}
use Rattle.selectors.proofs.site_sets.insiders.Goals as goal
use Rattle.selectors.proofs.site_sets.insiders.Goals.{then-contains+in_ok-push, else-contains}

pub loop-context-preserved : goal.loop-context-preserved
loop-context-preserved c =
    let group = c.args.group.now in
    let n = c.loop-context.context in
    let is : c.contains.result ≡ is_in group n = c.contains.ensures.value ∙ ap (λ xs. is_in xs n) c.as_slice.ensures in
    elim c.if-contains.branch [
      | then-contains+in_ok-push w ↦ rw (w.inside-is, w.in_ok-push.ensures.items, c.loop-context.invariant)
          (sym (one_more (is_in group) n (sym is ∙ w.if-contains.true)))
      | else-contains w ↦ rw (w.inside-is, c.loop-context.invariant) (sym (none_more (is_in group) n (sym is ∙
          w.if-contains.false)))
    ]
