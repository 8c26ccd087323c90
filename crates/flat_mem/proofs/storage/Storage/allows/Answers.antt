use Rattle.std.proofs.Common.{◌≡◌, ◌+◌, ◌%◌, ◌≤◌, ◌∙◌, ap, drop, map, take}
use Rattle.std.specs.List.{range_with_len}
use Rattle.machine_spec.specs.Widths.{number_of, size_of}
use Rattle.flat_mem.specs.Areas.{byte_in, place}
use Rattle.flat_mem.proofs.Numbers.{number_allows, rights_direct, number_in_page}
use Rattle.flat_mem.proofs.Pages.{part_is}
use Rattle.flat_mem.proofs.storage.Storage.allows.Goals as goal

pub returns : goal.returns
returns c =
    let page : c.args.addr % 4096 + size_of c.args.width ≤ 4096 = number_in_page c.args.width c.args.addr c.requires in
    let part : c.number_at.result ≡ number_of (map (byte_in c.self.inside.directory.items c.self.inside.rights.items)
    (range_with_len c.args.addr (size_of c.args.width))) = c.number_at.ensures.is
    ∙ ap (λ bs. number_of (take (size_of c.args.width) (drop c.place_in.result bs))) c.deref.ensures.value
    ∙ ap (λ p. number_of (take (size_of c.args.width) (drop p c.self.inside.rights.items))) (c.place_in.ensures
    ∙ ap (λ d. place d c.args.addr) c.deref-2.ensures.value)
    ∙ ap number_of (part_is c.self.inside.directory.items c.self.inside.rights.items c.args.addr (size_of c.args.width)
    (rights_direct c.self.inside.areas.items c.self.inside.directory.items c.self.inside.bytes.items
    c.self.inside.rights.items c.self.invariant) page) in
    rw (← c.self.view_is, part, c.flags-wanted.ensures) (number_allows c.self.inside.areas.items
    c.self.inside.directory.items c.self.inside.bytes.items c.self.inside.rights.items c.args.access c.args.addr
    (size_of c.args.width)
    c.self.invariant)
