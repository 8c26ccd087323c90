use Rattle.std.proofs.Common.{◌≡◌, ◌*◌, ◌/◌, ◌≤◌, ◌∙◌, ◌++◌, ◌∷◌, [], sym, ap, arith, length, replicate}
use Rattle.std.specs.Prelude.{Some}
use Rattle.std.specs.Vec.{with_items}
use Rattle.std.proofs.lemmas.List.{with_items_is}
use Rattle.flat_mem.specs.Areas.{rights_of, IsBuilt}
use Rattle.flat_mem.proofs.Grown.{added_is, built_more, ranges_more, resized_is, IsAdded}
use Rattle.flat_mem.proofs.Puts.{over_moved}
use Rattle.flat_mem.proofs.loading.add.Goals as goal

directory_is : (c : goal.In_ok-push)
    → (with_items c.args.memory.now.directory c.give_pages-pages.new.directory).items ≡ c.give_pages-pages.new.directory
directory_is c = with_items_is c.args.memory.now.directory c.give_pages-pages.new.directory
    (c.give_pages-pages.ensures.directs.long
    ∙ sym (c.args.memory.now.directory.ok.0 ∙ c.requires.whole.built.paged.directs.long))

bytes_are : (c : goal.In_ok-push)
    → (with_items c.resize.new.self c.put_in.new.bytes).items ≡ c.put_in.new.bytes
bytes_are c = with_items_is c.resize.new.self c.put_in.new.bytes
    (c.put_in.ensures.long ∙ ap length c.deref_mut-3.ensures.value ∙ sym c.resize.new.self.ok.0)

rights_are : (c : goal.In_ok-push)
    → (with_items c.resize-2.new.self c.fill_in.new.bytes).items ≡ c.fill_in.new.bytes
rights_are c = with_items_is c.resize-2.new.self c.fill_in.new.bytes
    (c.fill_in.ensures.long ∙ ap length c.deref_mut-2.ensures.value ∙ sym c.resize-2.new.self.ok.0)

adds : (c : goal.In_ok-push) → IsAdded c.args.area c.args.part.now c.args.memory.now.directory.items
    c.give_pages-pages.new.directory c.args.memory.now.bytes.items c.args.memory.now.rights.items
    c.put_in.new.bytes c.fill_in.new.bytes
adds c =
    let few : c.len.result ≡ length c.args.memory.now.bytes.items = c.len.ensures ∙ c.args.memory.now.bytes.ok.0 in
    let some : length c.args.memory.now.bytes.items ≤ c.give_pages-pages.result * 4096 =
    omega (arith, few, c.requires.whole.pages, c.give_pages-pages.ensures.more.0) in
    added_is c.args.memory.now.areas.items c.args.area c.args.part.now c.args.memory.now.directory.items
    c.give_pages-pages.new.directory c.args.memory.now.bytes.items c.args.memory.now.rights.items
    c.resize.new.self.items c.resize-2.new.self.items c.put_in.new.bytes c.fill_in.new.bytes
    c.give_pages-pages.result c.requires.whole.built c.requires.whole.pages c.give_pages-pages.ensures.directs
    (omega (arith, few, c.give_pages-pages.ensures.more.0))
    (rw c.deref_mut.ensures.value at c.give_pages-pages.ensures.kept)
    (rw (c.deref_mut.ensures.value, few) at c.give_pages-pages.ensures.fresh)
    c.give_pages-pages.ensures.there
    (resized_is c.args.memory.now.bytes.items c.resize.new.self.items (c.give_pages-pages.result * 4096)
    c.args.memory.now.bytes.len c.args.memory.now.bytes.ok.0 some c.in_ok-resize.ensures.items)
    (resized_is c.args.memory.now.rights.items c.resize-2.new.self.items (c.give_pages-pages.result * 4096)
    c.args.memory.now.rights.len c.args.memory.now.rights.ok.0
    (omega (arith, some, c.requires.whole.built.paged.same)) c.in_ok-resize-2.ensures.items)
    (c.put_in.ensures.long ∙ ap length c.deref_mut-3.ensures.value)
    (c.fill_in.ensures.long ∙ ap length c.deref_mut-2.ensures.value)
    (over_moved c.give_pages-pages.new.directory c.deref-2.result.now c.resize.new.self.items
    c.deref_mut-3.result.now c.put_in.new.bytes c.args.area.start c.args.part.now
    (c.deref-2.ensures.value ∙ directory_is c) c.deref_mut-3.ensures.value c.put_in.ensures.bytes)
    (over_moved c.give_pages-pages.new.directory c.deref.result.now c.resize-2.new.self.items
    c.deref_mut-2.result.now c.fill_in.new.bytes c.args.area.start
    (replicate c.args.area.size (rights_of (Some c.args.area)))
    (c.deref.ensures.value ∙ directory_is c) c.deref_mut-2.ensures.value
    (rw c.rights.ensures at c.fill_in.ensures.bytes))
    c.requires.fits

pub returns-clause-whole : goal.returns-clause-whole
returns-clause-whole c =
    let built : IsBuilt (c.args.memory.now.areas.items ++ c.args.area ∷ []) c.give_pages-pages.new.directory
    c.put_in.new.bytes c.fill_in.new.bytes =
    built_more c.args.memory.now.areas.items c.args.area c.args.part.now c.args.memory.now.directory.items
    c.give_pages-pages.new.directory c.args.memory.now.bytes.items c.args.memory.now.rights.items
    c.put_in.new.bytes c.fill_in.new.bytes c.requires.whole.built c.requires.apart (adds c) in
    let long : length c.put_in.new.bytes ≡ c.give_pages-pages.result * 4096 =
    c.put_in.ensures.long ∙ ap length c.deref_mut-3.ensures.value
    ∙ sym c.resize.new.self.ok.0 ∙ c.in_ok-resize.ensures.len in
    let whole : length c.put_in.new.bytes / 4096 * 4096 ≡ length c.put_in.new.bytes = omega (arith, long) in
    record {
      built = rw (c.in_ok-push.ensures.items, directory_is c, bytes_are c, rights_are c) built;
      pages = rw (bytes_are c) whole;
    }

pub returns-clause-ranges : goal.returns-clause-ranges
returns-clause-ranges c =
    rw (c.in_ok-push.ensures.items, directory_is c, bytes_are c) (ranges_more c.args.memory.now.areas.items
    c.args.area c.args.part.now c.args.memory.now.directory.items c.give_pages-pages.new.directory
    c.args.memory.now.bytes.items c.args.memory.now.rights.items c.put_in.new.bytes c.fill_in.new.bytes
    c.requires.whole.built c.requires.apart (adds c))
