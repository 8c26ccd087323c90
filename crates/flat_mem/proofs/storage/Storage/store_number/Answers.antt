use Rattle.std.proofs.Common.{◌≡◌, ◌%◌, ◌∙◌, sym, ap, true, false, refl, length}
use Rattle.std.specs.Vec.{with_items}
use Rattle.std.proofs.lemmas.List.{with_items_is}
use Rattle.std.specs.Prelude.{Some}
use Rattle.machine_spec.specs.Widths.{size_of}
use Rattle.flat_mem.specs.Areas.{byte_in, place, ranges}
use Rattle.flat_mem.proofs.Numbers.{stored_unaligned, stored_when}
use Rattle.flat_mem.proofs.Readings.{number_stored}
use Rattle.flat_mem.proofs.storage.Storage.store_number.Goals as goal

pub returns-then-addr-size_of-ne0 : goal.returns-then-addr-size_of-ne0
returns-then-addr-size_of-ne0 c = (
  stored_unaligned c.args.self.now c.args.width c.args.addr c.args.value (rw c.size_of.ensures at
      c.if-addr-size_of-ne0.true),
  refl,
)

pub returns-then-not-allows : goal.returns-then-not-allows
returns-then-not-allows c = (
  stored_when c.args.self.now c.args.width c.args.addr c.args.value false (rw c.size_of.ensures at
      c.if-addr-size_of-ne0.false) (sym c.if-not-allows.ensures),
  refl,
)

pub returns : goal.returns
returns c =
    let aligned : c.args.addr % size_of c.args.width ≡ 0 = rw c.size_of.ensures at c.if-addr-size_of-ne0.false in
    let refilled : (with_items c.self.inside.bytes c.write_number.new.bytes).items ≡ c.write_number.new.bytes =
    with_items_is c.self.inside.bytes c.write_number.new.bytes (c.write_number.auto.bytes
    ∙ ap length c.deref_mut.ensures.value ∙ sym c.self.inside.bytes.ok.0) in
    stored_when c.args.self.now c.args.width c.args.addr c.args.value true aligned (sym c.if-not-allows.ensures)
    ∙ ap (λ m. Some m) (sym (rw (← c.self.view_is) (ap (λ bs. ranges (byte_in
    c.self.inside.directory.items bs) c.self.inside.areas.items) refilled ∙ number_stored c.self.inside.areas.items
    c.self.inside.directory.items c.self.inside.bytes.items c.self.inside.rights.items c.args.width c.args.addr
    c.args.value c.place_in-place.result c.deref_mut.result.now c.write_number.new.bytes c.self.invariant aligned
    (sym (rw (← c.self.view_is) at c.if-not-allows.ensures)) c.deref_mut.ensures.value
    (c.place_in-place.ensures ∙ ap (λ d. place d c.args.addr) c.deref.ensures.value) c.write_number.ensures)))
