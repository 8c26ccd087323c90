use Rattle.std.proofs.Common.{rules, ◌≡◌, ◌≤◌, ◌++◌, ◌∷◌, [], length, refl}
use Rattle.affinity.specs.Linked.{contexts_in}
use Rattle.affinity.specs.Links.{with_last}
use Rattle.affinity.proofs.Linking.{noted, linked_more, contexts_more, count_more}
use Rattle.affinity.proofs.grants.Grants.add.Goals as goal

dense : (c : goal.After-push_reserved) → c.args.context ≤ length c.self.inside.lasts.items
dense c = let d = rw (← c.self.view_is) at c.requires.dense in d

number_is : (c : goal.After-push_reserved) → c.len-number.result ≡ length c.self.inside.notes.items
number_is c = search rules

notes_are : (c : goal.After-push_reserved) → c.push_reserved.new.self.items
    ≡ noted c.args.context c.self.inside.notes.items c.self.inside.lasts.items
notes_are c =
    rw (
      c.push_reserved.ensures.items,
      c.link_before.ensures.notes,
      c.take_last-before.ensures.before,
      c.reserve.ensures.items,
      c.reserve-2.ensures.items,
      number_is c,
    ) refl

lasts_are : (c : goal.After-push_reserved) → c.take_last-before.new.lasts.items
    ≡ with_last c.args.context (length c.self.inside.notes.items) c.self.inside.lasts.items
lasts_are c = rw (c.take_last-before.ensures.lasts, c.reserve-2.ensures.items, number_is c) refl

pub invariant_of-self-2 : goal.invariant_of-self-2
invariant_of-self-2 c =
    rw (notes_are c, lasts_are c)
    (linked_more c.args.context c.self.inside.notes.items c.self.inside.lasts.items c.self.invariant (dense c))

pub returns-clause-ok : goal.returns-clause-ok
returns-clause-ok c =
    let contexts : contexts_in c.push_reserved.new.self.items
    ≡ contexts_in c.self.inside.notes.items ++ (c.args.context ∷ []) =
    rw (notes_are c) (contexts_more c.args.context c.self.inside.notes.items c.self.inside.lasts.items c.self.invariant
    (dense c)) in
    let count : length c.take_last-before.new.lasts.items ≡ _ =
    rw (lasts_are c) (count_more c.args.context (length c.self.inside.notes.items) c.self.inside.lasts.items) in
    rw (← c.self.view_is, contexts, count) refl
