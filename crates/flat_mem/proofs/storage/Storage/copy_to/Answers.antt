use Rattle.std.proofs.Common.{◌≡◌, ◌+◌, ◌<◌, ◌∙◌, sym, ap, arith, length, map, true}
use Rattle.std.specs.Prelude.{Some}
use Rattle.std.specs.List.{range_with_len}
use Rattle.machine_spec.specs.Memory.{all_from, range_at}
use Rattle.flat_spec.specs.Stores.{bytes_from}
use Rattle.flat_mem.specs.declared.area.Access.TheVariants.{Load}
use Rattle.flat_mem.specs.Areas.{allows, byte_in}
use Rattle.flat_mem.proofs.Numbers.{bytes_are, bytes_there}
use Rattle.flat_mem.proofs.Readings.{all_end, some_there}
use Rattle.flat_mem.proofs.storage.Storage.copy_to.Goals as goal

pub overflow_add-addr : goal.overflow_add-addr
overflow_add-addr c =
    let some : 0 < length c.args.into.now = some_there (length c.args.into.now) c.if-is_empty.ensures in
    let all : all_from (λ k. allows Load (range_at c.args.self.now k)) (c.args.addr + c.args.from)
    (length c.args.into.now) ≡ true =
    sym (bytes_there c.ranges_say_what_may_be_accessed.ensures.bytes c.args.self.now (c.args.addr + c.args.from)
    (length c.args.into.now)) ∙ c.requires in
    omega (
      arith,
      some,
      all_end c.self.inside.areas.items c.self.inside.directory.items c.self.inside.bytes.items
          c.self.inside.rights.items Load (c.args.addr + c.args.from) (length c.args.into.now) c.self.invariant
          (rw (← c.self.view_is) at all) some,
    )

pub copy_in-requires-clause-end : goal.copy_in-requires-clause-end
copy_in-requires-clause-end c =
    let all : all_from (λ k. allows Load (range_at c.args.self.now k)) (c.args.addr + c.args.from)
    (length c.args.into.now) ≡ true =
    sym (bytes_there c.ranges_say_what_may_be_accessed.ensures.bytes c.args.self.now (c.args.addr + c.args.from)
    (length c.args.into.now)) ∙ c.requires in
    all_end c.self.inside.areas.items c.self.inside.directory.items c.self.inside.bytes.items
    c.self.inside.rights.items Load (c.args.addr + c.args.from) (length c.args.into.now) c.self.invariant
    (rw (← c.self.view_is) at all) (some_there (length c.args.into.now) c.if-is_empty.ensures)

pub returns : goal.returns
returns c =
    let all : all_from (λ k. allows Load (range_at c.args.self.now k)) (c.args.addr + c.args.from)
    (length c.args.into.now) ≡ true =
    sym (bytes_there c.ranges_say_what_may_be_accessed.ensures.bytes c.args.self.now (c.args.addr + c.args.from)
    (length c.args.into.now)) ∙ c.requires in
    let are : bytes_from c.args.self.now (c.args.addr + c.args.from) (length c.args.into.now)
    ≡ Some (map (byte_in c.self.inside.directory.items c.self.inside.bytes.items)
    (range_with_len (c.args.addr + c.args.from) (length c.args.into.now))) =
    rw (← c.self.view_is) (bytes_are (byte_in c.self.inside.directory.items c.self.inside.bytes.items) Load
    c.self.inside.areas.items (c.args.addr + c.args.from) (length c.args.into.now) (rw (← c.self.view_is) at all)) in
    are ∙ ap (λ bs. Some bs) (sym (c.copy_in.ensures
    ∙ ap (λ d. map (byte_in d c.deref-2.result.now) (range_with_len (c.args.addr + c.args.from)
    (length c.args.into.now))) c.deref.ensures.value
    ∙ ap (λ bs. map (byte_in c.self.inside.directory.items bs) (range_with_len (c.args.addr + c.args.from)
    (length c.args.into.now))) c.deref-2.ensures.value))
