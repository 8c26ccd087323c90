use Rattle.std.proofs.Common.{rules, ◌≡◌, ◌<◌, length, get_or, Some, None, ap, sym, ◌∙◌, arith}
use Rattle.std.proofs.lemmas.List.{get_or_read}
use Rattle.affinity.specs.declared.entries.Entry.{Entry}
use Rattle.affinity.specs.Weights.{block_at}
use Rattle.affinity.proofs.Newest.{block_known, last_of, has_last, newest}
use Rattle.affinity.proofs.ring.Ring.is_newest.Goals as goal

-- the block that the entry has
block_is : (c : goal.After-row_known-1) → c.index.result.now.block ≡ block_at c.self.inside.entries.items c.args.at
block_is c =
    let inside = rw (← c.self.view_is) at c.requires.inside in
    ap (λ (e : Entry). e.block)
    (get_or_read c.self.inside.entries.items c.args.at c.index.result.now inside c.index.ensures
    (record { block = 0; width = 0 }))

pub index-requires-2 : goal.index-requires-2
index-requires-2 c =
    let f = rw (← c.self.view_is) at c.requires.follows in
    let inside = rw (← c.self.view_is) at c.requires.inside in
    let known : block_at c.self.inside.entries.items c.args.at < length c.self.inside.lasts.items =
    block_known f.0 _ f.1 f.2 c.args.at inside in
    omega (arith, known, block_is c, c.self.inside.lasts.ok)

pub returns-in-Some : goal.returns-in-Some
returns-in-Some c =
    let f = rw (← c.self.view_is) at c.requires.follows in
    let inside = rw (← c.self.view_is) at c.requires.inside in
    let block : c.index.result.now.block ≡ block_at c.self.inside.entries.items c.args.at =
    ap (λ (e : Entry). e.block)
    (get_or_read c.self.inside.entries.items c.args.at c.index.result.now inside c.index.ensures
    (record { block = 0; width = 0 })) in
    let read : get_or c.self.inside.lasts.items (block_at c.self.inside.entries.items c.args.at) c.index-2.result.now
    ≡ Some c.in-Some.number =
    ap (λ b. get_or c.self.inside.lasts.items b c.index-2.result.now) (sym block)
    ∙ (sym c.index-2.ensures ∙ c.in-Some.is) in
    let last = last_of f.0 _ f.1 f.2 c.args.at c.index-2.result.now inside in
    let long : c.len.result ≡ length c.self.inside.entries.items = search rules in
    rw (← c.self.view_is, long) (newest f.0 _ f.1 f.2 c.args.at c.in-Some.number inside (rw read at last))

pub returns-in-None : goal.returns-in-None
returns-in-None c =
    let f = rw (← c.self.view_is) at c.requires.follows in
    let inside = rw (← c.self.view_is) at c.requires.inside in
    let block : c.index.result.now.block ≡ block_at c.self.inside.entries.items c.args.at =
    ap (λ (e : Entry). e.block)
    (get_or_read c.self.inside.entries.items c.args.at c.index.result.now inside c.index.ensures
    (record { block = 0; width = 0 })) in
    let read : get_or c.self.inside.lasts.items (block_at c.self.inside.entries.items c.args.at) c.index-2.result.now
    ≡ None =
    ap (λ b. get_or c.self.inside.lasts.items b c.index-2.result.now) (sym block)
    ∙ (sym c.index-2.ensures ∙ c.in-None.is) in
    let last = last_of f.0 _ f.1 f.2 c.args.at c.index-2.result.now inside in
    absurd (has_last f.0 _ f.1 f.2 c.args.at inside (rw read at last))
