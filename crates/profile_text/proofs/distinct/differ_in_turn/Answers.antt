use Rattle.std.proofs.Common.{◌≡◌, ◌+◌, ◌-◌, get_or, ap, sym, ◌∙◌, arith}
use Rattle.profile_text.proofs.DistinctLaws.{all_differ, some_same}
use Rattle.profile_text.proofs.distinct.differ_in_turn.Goals as goal

pub returns-then-numbers-at : goal.returns-then-numbers-at
returns-then-numbers-at c =
    let place : c.loop-at.at - 1 + 1 ≡ c.loop-at.at = omega arith in
    sym (some_same c.args.numbers.now (c.loop-at.at - 1) (omega arith) (c.if-numbers-at.true
    ∙ ap (λ i. get_or c.args.numbers.now i 0) (sym place)))

pub returns : goal.returns
returns c = sym (all_differ c.args.numbers.now (λ k inside is. c.loop-at.invariant k (omega arith) is))
