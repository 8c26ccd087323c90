use Rattle.std.proofs.Common.{◌≡◌, ◌++◌, ap, ◌∙◌}
use Rattle.profile_text.specs.Distinct.{differ_in_turn}
use Rattle.profile_text.proofs.DistinctLaws.{by_sorted}
use Rattle.profile_text.proofs.distinct.are_distinct.Goals as goal

pub returns : goal.returns
returns c =
    let copied : c.extend_from_slice.new.self.items ≡ c.args.numbers.now =
    c.in_ok-extend_from_slice.ensures.items ∙ ap (λ xs. xs ++ c.args.numbers.now) c.new-sorted.ensures.items in
    let moved = rw copied at c.sort_unstable.ensures.permutation in
    c.differ_in_turn.ensures ∙ (ap differ_in_turn c.deref.ensures.value
    ∙ by_sorted c.args.numbers.now c.sort_unstable.new.self.items moved c.sort_unstable.ensures.sorted)
