use Rattle.std.proofs.Common.{◌≡◌, true, false, sym, ◌∙◌}
use Rattle.affinity.specs.Links.{none_or_from}
use Rattle.affinity.proofs.Between.{notes_tell}
use Rattle.affinity.proofs.grants.Grants.are_co_allocatable.Goals as goal

pub returns-then-is_at_least : goal.returns-then-is_at_least
returns-then-is_at_least c =
    let told =
    notes_tell c.self.inside.notes.items c.self.inside.lasts.items c.args.b c.args.c
    c.min-first.result c.max-second.result
    c.index.result.now c.index-2.result.now c.self.invariant
    (rw (← c.self.view_is) at c.requires.first) (rw (← c.self.view_is) at c.requires.second)
    c.min-first.ensures c.max-second.ensures c.index.ensures c.index-2.ensures in
    let passed : none_or_from c.index.result.now.next c.max-second.result ≡ true = sym c.is_at_least.ensures
    ∙ c.if-is_at_least.true in
    rw (← c.self.view_is) (c.is_at_most.ensures ∙ (rw passed at told))

pub returns-else-is_at_least : goal.returns-else-is_at_least
returns-else-is_at_least c =
    let told =
    notes_tell c.self.inside.notes.items c.self.inside.lasts.items c.args.b c.args.c
    c.min-first.result c.max-second.result
    c.index.result.now c.index-2.result.now c.self.invariant
    (rw (← c.self.view_is) at c.requires.first) (rw (← c.self.view_is) at c.requires.second)
    c.min-first.ensures c.max-second.ensures c.index.ensures c.index-2.ensures in
    let failed : none_or_from c.index.result.now.next c.max-second.result ≡ false = sym c.is_at_least.ensures
    ∙ c.if-is_at_least.false in
    rw (← c.self.view_is) (c.if-is_at_least.false ∙ (rw failed at told))
