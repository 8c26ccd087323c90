use Rattle.std.proofs.Common.{◌∙◌, sym, ap, not}
use Rattle.selectors.specs.Sets.{is_in_any}
use Rattle.selectors.proofs.Searching.{one_more, none_more}
use Rattle.selectors.proofs.site_sets.outsiders.Goals as goal
use Rattle.selectors.proofs.site_sets.outsiders.Goals.{then-not-is_grouped+in_ok-push, else-not-is_grouped}

pub loop-context-preserved : goal.loop-context-preserved
loop-context-preserved c =
    let groups = c.args.groups.now in
    let n = c.loop-context.context in
    elim c.if-not-is_grouped.branch [
      | then-not-is_grouped+in_ok-push w ↦ rw (w.outside-is, w.in_ok-push.ensures.items, c.loop-context.invariant)
          (sym (one_more (λ d. not (is_in_any groups d)) n (ap not (sym c.is_grouped.ensures ∙
          w.if-not-is_grouped.true))))
      | else-not-is_grouped w ↦ rw (w.outside-is, c.loop-context.invariant)
          (sym (none_more (λ d. not (is_in_any groups d)) n (ap not (sym c.is_grouped.ensures ∙
          w.if-not-is_grouped.false))))
    ]
