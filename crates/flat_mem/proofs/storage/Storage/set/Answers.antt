use Rattle.std.proofs.Common.{◌∙◌, sym, [], ◌∷◌, ◌≡◌, ap, length}
use Rattle.std.specs.Vec.{with_items}
use Rattle.std.proofs.lemmas.List.{with_items_is}
use Rattle.flat_mem.specs.declared.area.Access.TheVariants.{Store}
use Rattle.flat_mem.specs.Areas.{byte_in, ranges}
use Rattle.flat_mem.proofs.Readings.{all_there, piece_stored}
use Rattle.flat_mem.proofs.storage.Storage.set.Goals as goal

pub put_in-requires-clause-there : goal.put_in-requires-clause-there
put_in-requires-clause-there c =
    rw c.deref.ensures.value (all_there c.self.inside.areas.items c.self.inside.directory.items
    c.self.inside.bytes.items c.self.inside.rights.items Store c.args.addr 1 c.self.invariant
    (sym (rw (← c.self.view_is) at c.if-not-allows.ensures)))

pub returns-clause-memory : goal.returns-clause-memory
returns-clause-memory c =
    let refilled : (with_items c.self.inside.bytes c.put_in.new.bytes).items ≡ c.put_in.new.bytes =
    with_items_is c.self.inside.bytes c.put_in.new.bytes (c.put_in.ensures.long ∙ ap length c.deref_mut.ensures.value
    ∙ sym c.self.inside.bytes.ok.0) in
    rw (← c.self.view_is) (ap (λ bs. ranges (byte_in c.self.inside.directory.items bs) c.self.inside.areas.items)
    refilled ∙ piece_stored c.self.inside.areas.items c.self.inside.directory.items c.deref.result.now
    c.self.inside.bytes.items c.deref_mut.result.now c.put_in.new.bytes c.args.addr (c.args.byte ∷ [])
    c.self.invariant.apart c.deref.ensures.value c.deref_mut.ensures.value c.put_in.ensures.bytes)
