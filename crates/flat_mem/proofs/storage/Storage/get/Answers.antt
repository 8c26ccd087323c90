use Rattle.std.proofs.Common.{◌≡◌, ◌<◌, ◌∙◌, sym, ap, get_or, length, arith}
use Rattle.std.specs.Prelude.{Some}
use Rattle.std.proofs.lemmas.List.{get_or_default}
use Rattle.machine_spec.specs.Memory.{byte_of}
use Rattle.flat_mem.specs.declared.area.Access.TheVariants.{Load}
use Rattle.flat_mem.specs.Areas.{place}
use Rattle.flat_mem.proofs.Pages.{place_end}
use Rattle.flat_mem.proofs.Readings.{byte_is, no_byte_is}
use Rattle.flat_mem.proofs.storage.Storage.get.Goals as goal

pub returns-then-not-allows : goal.returns-then-not-allows
returns-then-not-allows c =
    sym (no_byte_is c.ranges_say_what_may_be_accessed.ensures.bytes c.args.self.now c.args.addr
    (sym c.if-not-allows.ensures))

pub returns : goal.returns
returns c =
    let there : c.place_in.result ≡ place c.self.inside.directory.items c.args.addr =
    c.place_in.ensures ∙ ap (λ d. place d c.args.addr) c.deref.ensures.value in
    let inside : c.place_in.result < length c.self.inside.bytes.items =
    omega (
      arith,
      there,
      place_end c.self.inside.directory.items c.self.inside.bytes.items c.args.addr 1
          c.self.invariant.directs (omega arith),
    ) in
    let byte : c.index.result.now
    ≡ get_or c.self.inside.bytes.items (place c.self.inside.directory.items c.args.addr) 0 =
    c.index.ensures ∙ get_or_default c.self.inside.bytes.items c.place_in.result c.index.result.now 0 inside
    ∙ ap (λ i. get_or c.self.inside.bytes.items i 0) there in
    let is : byte_of c.args.self.now c.args.addr
    ≡ Some (get_or c.self.inside.bytes.items (place c.self.inside.directory.items c.args.addr) 0) =
    rw (← c.self.view_is) (byte_is c.self.inside.areas.items c.self.inside.directory.items
    c.self.inside.bytes.items c.self.inside.rights.items Load c.args.addr c.self.invariant
    (sym (rw (← c.self.view_is) at c.if-not-allows.ensures))) in
    ap (λ b. Some b) byte ∙ sym is
