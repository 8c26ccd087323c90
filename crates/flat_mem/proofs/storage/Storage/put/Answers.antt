use Rattle.std.proofs.Common.{◌≡◌, ◌+◌, ◌<◌, ◌∙◌, sym, arith, length, ap}
use Rattle.std.specs.Vec.{with_items}
use Rattle.std.proofs.lemmas.List.{with_items_is}
use Rattle.flat_mem.specs.declared.area.Access.TheVariants.{Store}
use Rattle.flat_mem.specs.Areas.{byte_in, ranges}
use Rattle.flat_mem.proofs.Readings.{all_there, all_end, piece_stored, some_there}
use Rattle.flat_mem.proofs.storage.Storage.put.Goals as goal

pub overflow_add-addr : goal.overflow_add-addr
overflow_add-addr c =
    let some : 0 < length c.args.bytes.now = some_there (length c.args.bytes.now) c.if-is_empty.ensures in
    omega (
      arith,
      some,
      all_end c.self.inside.areas.items c.self.inside.directory.items c.self.inside.bytes.items
          c.self.inside.rights.items Store (c.args.addr + c.args.from) (length c.args.bytes.now) c.self.invariant
          (rw (← c.self.view_is) at c.requires) some,
    )

pub put_in-requires-clause-end : goal.put_in-requires-clause-end
put_in-requires-clause-end c =
    all_end c.self.inside.areas.items c.self.inside.directory.items c.self.inside.bytes.items
    c.self.inside.rights.items Store (c.args.addr + c.args.from) (length c.args.bytes.now) c.self.invariant
    (rw (← c.self.view_is) at c.requires) (some_there (length c.args.bytes.now) c.if-is_empty.ensures)

pub put_in-requires-clause-there : goal.put_in-requires-clause-there
put_in-requires-clause-there c =
    rw c.deref.ensures.value (all_there c.self.inside.areas.items c.self.inside.directory.items
    c.self.inside.bytes.items c.self.inside.rights.items Store (c.args.addr + c.args.from)
    (length c.args.bytes.now) c.self.invariant (rw (← c.self.view_is) at c.requires))

pub returns : goal.returns
returns c =
    let refilled : (with_items c.self.inside.bytes c.put_in.new.bytes).items ≡ c.put_in.new.bytes =
    with_items_is c.self.inside.bytes c.put_in.new.bytes (c.put_in.ensures.long ∙ ap length c.deref_mut.ensures.value
    ∙ sym c.self.inside.bytes.ok.0) in
    rw (← c.self.view_is) (ap (λ bs. ranges (byte_in c.self.inside.directory.items bs) c.self.inside.areas.items)
    refilled ∙ piece_stored c.self.inside.areas.items c.self.inside.directory.items c.deref.result.now
    c.self.inside.bytes.items c.deref_mut.result.now c.put_in.new.bytes (c.args.addr + c.args.from)
    c.args.bytes.now c.self.invariant.apart c.deref.ensures.value c.deref_mut.ensures.value
    c.put_in.ensures.bytes)
