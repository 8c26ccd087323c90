use Rattle.std.proofs.Common.{true, false, ◌∙◌, sym, ap}
use Rattle.rv_isa.specs.declared.Width.TheVariants.{Word}
use Rattle.flat_mem.specs.declared.area.Access.TheVariants.{Fetch}
use Rattle.flat_mem.specs.Areas.{place}
use Rattle.flat_mem.proofs.Numbers.{fetched_unaligned, fetched_when}
use Rattle.flat_mem.proofs.Readings.{number_is}
use Rattle.flat_mem.proofs.storage.Storage.fetch.Goals as goal

pub returns-then-addr-ne0 : goal.returns-then-addr-ne0
returns-then-addr-ne0 c = sym (fetched_unaligned c.args.self.now c.args.addr c.if-addr-ne0.true)

pub returns-then-not-allows : goal.returns-then-not-allows
returns-then-not-allows c =
    sym (fetched_when c.args.self.now c.args.addr false c.if-addr-ne0.false (sym c.if-not-allows.ensures))

pub returns : goal.returns
returns c =
    sym (fetched_when c.args.self.now c.args.addr true c.if-addr-ne0.false (sym c.if-not-allows.ensures)
    ∙ rw (← c.self.view_is) (number_is c.self.inside.areas.items c.self.inside.directory.items
    c.self.inside.bytes.items c.self.inside.rights.items Fetch Word c.args.addr c.place_in-place.result
    c.number_at.result c.deref-2.result.now c.self.invariant c.if-addr-ne0.false
    (sym (rw (← c.self.view_is) at c.if-not-allows.ensures)) c.deref-2.ensures.value
    (c.place_in-place.ensures ∙ ap (λ d. place d c.args.addr) c.deref.ensures.value) c.number_at.ensures.is))
