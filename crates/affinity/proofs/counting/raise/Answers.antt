use Rattle.std.proofs.Common.{◌≡◌, ◌<◌, ◌+◌, sym}
use Rattle.std.specs.Map.{set_value}
use Rattle.indexmap.specs.IndexMap.{insert_entry, spare}
use Rattle.affinity.specs.State.{same_pair}
use Rattle.affinity.proofs.Comparisons.{after}
use Rattle.affinity.proofs.Tables.{raised, added, set_counted, insert_counted}
use Rattle.affinity.proofs.counting.raise.Goals as goal

pub returns-in-Some-clause-weights : goal.returns-in-Some-clause-weights
returns-in-Some-clause-weights c = λ low high.
    let e : (c.get_mut.follows.lender (c.in-Some.weight.now + 1)).entries
    ≡ set_value (same_pair c.args.pair) c.args.weights.now.entries (c.in-Some.weight.now + 1) =
    (c.get_mut.follows.holds (c.in-Some.weight.now + 1)).0 in
    rw e (raised c.args.pair (record { low = low; high = high }) c.in-Some.weight.now c.args.weights.now.entries
    (sym c.in-Some.ensures.value))

pub returns-in-Some-clause-counted : goal.returns-in-Some-clause-counted
returns-in-Some-clause-counted c = λ all.
    let e : (c.get_mut.follows.lender (c.in-Some.weight.now + 1)).entries
    ≡ set_value (same_pair c.args.pair) c.args.weights.now.entries (c.in-Some.weight.now + 1) =
    (c.get_mut.follows.holds (c.in-Some.weight.now + 1)).0 in
    rw e (set_counted c.args.pair c.in-Some.weight.now c.args.weights.now.entries all)

-- the entries after a new pair was inserted
inserted : (c : goal.After-insert) → c.insert.new.self.entries
    ≡ insert_entry same_pair c.args.weights.now.entries c.args.pair 1
inserted c =
    let room : 0 < spare c.get_mut.follows.lender-at-none = rw c.get_mut.follows.holds-at-none c.requires.room in
    let is = after c.insert.result _ (c.insert.ensures.succeeds room) c.insert.ensures.entries in
    rw c.get_mut.follows.holds-at-none at is

pub returns-clause-weights : goal.returns-clause-weights
returns-clause-weights c = λ low high.
    rw (inserted c) (added c.args.pair (record { low = low; high = high }) c.args.weights.now.entries
    (sym c.in_default.ensures.value))

pub returns-clause-counted : goal.returns-clause-counted
returns-clause-counted c = λ all. rw (inserted c) (insert_counted c.args.pair c.args.weights.now.entries all)
