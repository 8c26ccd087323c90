use Rattle.std.proofs.Common.{◌∙◌, sym, count_by, inl}
use Rattle.selectors.specs.Sets.{holds_in}
use Rattle.selectors.proofs.Choices.{tells_is, next_of}
use Rattle.selectors.proofs.next_site.next.Goals as goal

pub returns-then-tells : goal.returns-then-tells
returns-then-tells c outside member are same =
    inl (tells_is (holds_in c.args.sets.now) outside member c.args.own.now same c.args.chosen.now c.args.rivals.now are
    (sym c.tells.ensures ∙ c.if-tells.true))

pub returns : goal.returns
returns c outside member are same = rw c.added.ensures
    (next_of (holds_in c.args.sets.now) outside member c.args.own.now same c.args.chosen.now c.args.rivals.now are
    c.least.result
    (c.least.ensures (λ s. count_by (λ d. holds_in c.args.sets.now d s) c.args.rivals.now)
    (rw c.as_slice.ensures.value c.in_ok-counts.ensures.each))
    (sym c.tells.ensures ∙ c.if-tells.false))
