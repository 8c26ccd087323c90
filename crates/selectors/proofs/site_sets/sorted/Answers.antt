use Rattle.std.proofs.Common.{◌≡◌, [], ◌∙◌, subst, take, get_or}
use Rattle.std.specs.List.Sorted.{IsPermutation}
use Rattle.std.proofs.lemmas.List.{take_more, get_or_read}
use Rattle.std.proofs.lemmas.List.Sorted.{IsNonDecreasingBy-from_sort}
use Rattle.selectors.proofs.Searching.{sets_push}
use Rattle.selectors.proofs.site_sets.sorted.Goals as goal

pub loop-context-preserved : goal.loop-context-preserved
loop-context-preserved c =
    let contexts = c.args.contexts.now in
    let i = c.loop-context.context-index in
    let at : c.context-item.result ≡ get_or contexts i [] =
    get_or_read contexts i c.context-item.result c.loop-context-test.true c.context-item.is [] in
    let moved = subst (λ xs. IsPermutation xs c.sort.new.self.items) (c.in_ok-sites.ensures.items ∙ c.as_slice.ensures
    ∙ at)
    c.in_ok-sort.ensures.permutation in
    rw (c.in_ok-push.ensures.items, c.from.ensures, take_more contexts i [] c.loop-context-test.true)
    (sets_push (take i contexts) c.loop-context.sets.items
    (get_or contexts i []) c.sort.new.self.items c.loop-context.invariant
    moved (λ j k le h. IsNonDecreasingBy-from_sort
    (λ n. n) c.sort.new.self.items c.in_ok-sort.ensures.sorted j k 0 le h))
