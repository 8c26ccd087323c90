use Rattle.std.proofs.Common.{sym, subst}
use Rattle.place_model.specs.Heap.{LivesAt}
use Rattle.place_model.proofs.tests.releases_join_holes.Goals as goal

pub release-requires : goal.release-requires
release-requires g c =
    let some = c.in-Some-Some-Some in
    c.place-3.ensures.others some.first (c.place-2.ensures.others some.first some.ensures.lives)

pub release-requires-2 : goal.release-requires-2
release-requires-2 g c =
    let some = c.in-Some-Some-Some in
    let first_lives = c.place-2.ensures.others some.first some.ensures.lives in
    c.release.ensures.others some.third
    (λ e. some.ensures''.apart (subst (λ a. LivesAt c.place-2.new.self a) (sym e) first_lives)) some.ensures''.lives

pub release-requires-3 : goal.release-requires-3
release-requires-3 g c =
    let some = c.in-Some-Some-Some in
    let second_lives = c.place-3.ensures.others some.second some.ensures'.lives in
    c.release-2.ensures.others some.second
    (λ e. some.ensures''.apart (subst (λ a. LivesAt c.place-2.new.self a) e some.ensures'.lives))
    (c.release.ensures.others some.second
    (λ e. some.ensures'.apart (subst (λ a. LivesAt c.place.new.self a) (sym e) some.ensures.lives)) second_lives)
