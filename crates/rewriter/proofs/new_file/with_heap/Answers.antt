-- The new file is made of the plan's parts and of the heap's words.
use Rattle.std.proofs.Common.{◌≡◌, ◌+◌, ◌<◌, sym, subst}
use Rattle.std.specs.List.{All}
use Rattle.elf_spec.specs.NewFile.{new_file}
use Rattle.site_spec.specs.Places.{text_at}
use Rattle.heap_spec.specs.Service.{ServesHeap, Suits}
use Rattle.heap_code.specs.Images.{Holds, entries_in}
use Rattle.elf_write.specs.NewMemory.{NewMemory}
use Rattle.new_file_laws.specs.Parts.{AreParts}
use Rattle.rewriter.proofs.NewFiles.{made_patches, made_segments, of_parts, reached_in, with_heap_is}
use Rattle.rewriter.proofs.new_file.with_heap.Goals as goal

pub build-requires : goal.build-requires
build-requires c =
    subst (λ a. Suits c.args.plan.now.rows c.args.plan.now.area a (a + 20480)) (sym c.text_at-text_at.ensures.exact)
    (c.fitting_plans_suit_the_heap.ensures c.args.image.now c.args.plan.now c.elf-elf.ensures.facts c.requires.fits)

pub written-requires-clause-parts : goal.written-requires-clause-parts
written-requires-clause-parts c =
    let at = entries_in c.in_ok-heap.heap in
    let patches = made_patches c.args.image.now c.args.plan.now at c.deref.result.now c.in_ok-patches.patches.items _
    c.deref.ensures.value c.in_ok-push_entries.ensures c.in_ok-patches.ensures in
    let segments = made_segments c.args.image.now c.args.plan.now c.in_ok-heap.heap.words _ c.text_at-text_at.result
    c.in_ok-text.text c.data_segment-data.result c.text_at-text_at.ensures.exact c.as_slice.ensures
    c.in_ok-text.ensures c.data_segment-data.ensures in
    of_parts (AreParts c.args.image.now) _ _ _ _ (sym patches) (sym segments)
    (c.parts_fit_the_file.ensures.heap c.args.image.now c.args.plan.now c.in_ok-heap.heap.words at
    c.elf-elf.ensures.facts c.requires.fits c.in_ok-heap.ensures.few)

pub returns-clause-is : goal.returns-clause-is
returns-clause-is c =
    let at = entries_in c.in_ok-heap.heap in
    let patches = made_patches c.args.image.now c.args.plan.now at c.deref.result.now c.in_ok-patches.patches.items _
    c.deref.ensures.value c.in_ok-push_entries.ensures c.in_ok-patches.ensures in
    let segments = made_segments c.args.image.now c.args.plan.now c.in_ok-heap.heap.words _ c.text_at-text_at.result
    c.in_ok-text.text c.data_segment-data.result c.text_at-text_at.ensures.exact c.as_slice.ensures
    c.in_ok-text.ensures c.data_segment-data.ensures in
    with_heap_is c.args.image.now c.args.plan.now c.in_ok-new.new.items c.in_ok-heap.heap.words at c.requires.some
    c.in_ok-heap.ensures.few
    (subst (λ a. Holds a c.in_ok-heap.heap.words at) c.text_at-text_at.ensures.exact c.in_ok-heap.ensures.inside)
    (of_parts (λ p s. c.in_ok-new.new.items ≡ new_file c.args.image.now p s) _ _ _ _ patches segments
    c.in_ok-new.ensures.is)

pub returns-clause-keeps : goal.returns-clause-keeps
returns-clause-keeps c =
    let at = entries_in c.in_ok-heap.heap in
    let patches = made_patches c.args.image.now c.args.plan.now at c.deref.result.now c.in_ok-patches.patches.items _
    c.deref.ensures.value c.in_ok-push_entries.ensures c.in_ok-patches.ensures in
    let segments = made_segments c.args.image.now c.args.plan.now c.in_ok-heap.heap.words _ c.text_at-text_at.result
    c.in_ok-text.text c.data_segment-data.result c.text_at-text_at.ensures.exact c.as_slice.ensures
    c.in_ok-text.ensures c.data_segment-data.ensures in
    let holds = subst (λ a. Holds a c.in_ok-heap.heap.words at) c.text_at-text_at.ensures.exact
    c.in_ok-heap.ensures.inside in
    let bytes : All (λ b. b < 256) c.args.image.now = rw c.file.ensures at c.are_bytes.ensures in
    c.new_files_keep_behaviour.ensures.heap c.args.image.now c.args.plan.now c.in_ok-new.new.items
    c.in_ok-heap.heap.words at c.elf-elf.ensures.facts bytes c.in_ok-new.ensures.bytes c.requires.fits
    c.in_ok-heap.ensures.few (λ name e there. reached_in (text_at c.args.image.now) c.in_ok-heap.heap.words at holds
    name)
    (subst (λ a. ServesHeap c.args.plan.now.rows c.args.plan.now.area a (a + 20480) c.in_ok-heap.heap.words at)
    c.text_at-text_at.ensures.exact c.in_ok-heap.ensures.serves)
    (of_parts (λ p s. NewMemory c.args.image.now p s c.in_ok-new.new.items) _ _ _ _ patches segments
    c.in_ok-new.ensures.memory)
    c.in_ok-new.ensures.entry
