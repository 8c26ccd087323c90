use Rattle.std.proofs.Common.{◌≡◌, ◌%◌, ◌∙◌, sym, ap}
use Rattle.std.specs.Prelude.{Some, option_map}
use Rattle.machine_spec.specs.Widths.{loaded_as, number_of, size_of}
use Rattle.flat_spec.specs.Stores.{bytes_from}
use Rattle.flat_mem.specs.declared.area.Access.TheVariants.{Load}
use Rattle.flat_mem.specs.Areas.{place}
use Rattle.flat_mem.proofs.Numbers.{loaded_unaligned, loaded_when, no_bytes}
use Rattle.flat_mem.proofs.Readings.{number_is}
use Rattle.flat_mem.proofs.storage.Storage.load_number.Goals as goal

pub returns-then-addr-size_of-ne0 : goal.returns-then-addr-size_of-ne0
returns-then-addr-size_of-ne0 c =
    sym (loaded_unaligned c.args.self.now c.args.width c.args.addr (rw c.size_of.ensures at c.if-addr-size_of-ne0.true))

pub returns-then-not-allows : goal.returns-then-not-allows
returns-then-not-allows c =
    sym (loaded_when c.args.self.now c.args.width c.args.addr (rw c.size_of.ensures at c.if-addr-size_of-ne0.false)
    ∙ ap (λ o. option_map (λ n. loaded_as c.args.width n) (option_map number_of o))
    (no_bytes c.ranges_say_what_may_be_accessed.ensures.bytes c.args.self.now c.args.addr (size_of c.args.width)
    (sym c.if-not-allows.ensures)))

pub returns : goal.returns
returns c =
    let aligned : c.args.addr % size_of c.args.width ≡ 0 = rw c.size_of.ensures at c.if-addr-size_of-ne0.false in
    let is : option_map number_of (bytes_from c.args.self.now c.args.addr (size_of c.args.width))
    ≡ Some c.number_at-number.result =
    rw (← c.self.view_is) (number_is c.self.inside.areas.items c.self.inside.directory.items
    c.self.inside.bytes.items c.self.inside.rights.items Load c.args.width c.args.addr c.place_in.result
    c.number_at-number.result c.deref.result.now c.self.invariant aligned
    (sym (rw (← c.self.view_is) at c.if-not-allows.ensures)) c.deref.ensures.value
    (c.place_in.ensures ∙ ap (λ d. place d c.args.addr) c.deref-2.ensures.value) c.number_at-number.ensures.is) in
    ap (λ v. Some v) c.loaded_as.ensures
    ∙ sym (loaded_when c.args.self.now c.args.width c.args.addr aligned
    ∙ ap (option_map (λ n. loaded_as c.args.width n)) is)
