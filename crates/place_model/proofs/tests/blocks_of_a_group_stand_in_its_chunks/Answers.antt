use Rattle.std.proofs.Common.{sym, subst}
use Rattle.place_model.specs.Heap.{LivesAt}
use Rattle.place_model.proofs.tests.blocks_of_a_group_stand_in_its_chunks.Goals as goal

pub release-requires : goal.release-requires
release-requires g c =
    let some = c.in-Some-Some in c.place-2.ensures.others some.first some.ensures.lives

pub move_to-requires-clause-block : goal.move_to-requires-clause-block
move_to-requires-clause-block g c =
    let some = c.in-Some-Some in
    c.place-4.ensures.others some.second (c.place-3.ensures.others some.second
    (c.release.ensures.others some.second
    (λ e. some.ensures'.apart (subst (λ a. LivesAt c.place.new.self a) (sym e) some.ensures.lives))
    some.ensures'.lives))
