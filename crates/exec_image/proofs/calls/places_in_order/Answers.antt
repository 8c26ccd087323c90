-- Sorting moves the places.
use Rattle.std.proofs.Common.{◌∙◌, sym, ap, ◌==◌}
use Rattle.std.specs.List.{list_any}
use Rattle.std.proofs.lemmas.List.Sorted.{IsNonDecreasingBy-from_sort, list_any-IsPermutation}
use Rattle.exec_image.specs.Calls.{is_kind}
use Rattle.exec_image.proofs.Finding.{any_of_kept}
use Rattle.exec_image.proofs.calls.places_in_order.Goals as goal

pub returns-clause-rise : goal.returns-clause-rise
returns-clause-rise c = IsNonDecreasingBy-from_sort (λ p. p) _ c.sort_unstable.ensures.sorted

pub returns-clause-all : goal.returns-clause-all
returns-clause-all c = λ a.
    sym (list_any-IsPermutation (λ p. p == a) _ _ c.sort_unstable.ensures.permutation)
    ∙ ap (list_any (λ p. p == a)) c.in_ok-list.ensures
    ∙ any_of_kept (is_kind c.args.low c.args.high) (λ r. r.place) (λ p. p == a) c.args.relocs.now
