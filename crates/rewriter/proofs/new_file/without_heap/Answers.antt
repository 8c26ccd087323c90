-- The new file is made of the plan's parts.
use Rattle.std.proofs.Common.{◌≡◌, ◌<◌, [], ◌∷◌, ap, sym, ◌∙◌}
use Rattle.std.specs.List.{All}
use Rattle.elf_spec.specs.NewFile.{new_file}
use Rattle.new_file_spec.specs.Rewritten.{patches_for, segments_for}
use Rattle.elf_write.specs.NewMemory.{NewMemory}
use Rattle.new_file_laws.specs.Parts.{AreParts}
use Rattle.rewriter.proofs.NewFiles.{none_given, of_parts, without_heap_is}
use Rattle.rewriter.proofs.new_file.without_heap.Goals as goal

pub written-requires-clause-parts : goal.written-requires-clause-parts
written-requires-clause-parts c =
    of_parts (AreParts c.args.image.now) _ _ _ _ (sym (c.deref.ensures.value ∙ c.in_ok-patches.ensures))
    (sym (ap (λ s. s ∷ []) c.in_ok-text.ensures))
    (c.parts_fit_the_file.ensures.sites c.args.image.now c.args.plan.now c.elf-elf.ensures.facts c.requires.fits)

pub returns-clause-is : goal.returns-clause-is
returns-clause-is c =
    without_heap_is c.args.image.now c.args.plan.now c.in_ok-new.new.items
    (c.files_without_entries_have_no_heap_function.ensures c.args.image.now) c.requires.none
    (of_parts (λ p s. c.in_ok-new.new.items ≡ new_file c.args.image.now p s) _
    (patches_for c.args.image.now c.args.plan.now) _ (segments_for c.args.image.now c.args.plan.now)
    (c.deref.ensures.value ∙ c.in_ok-patches.ensures) (ap (λ s. s ∷ []) c.in_ok-text.ensures)
    c.in_ok-new.ensures.is)

pub returns-clause-keeps : goal.returns-clause-keeps
returns-clause-keeps c =
    let bytes : All (λ b. b < 256) c.args.image.now = rw c.file.ensures at c.are_bytes.ensures in
    c.new_files_keep_behaviour.ensures.sites c.args.image.now c.args.plan.now c.in_ok-new.new.items
    c.elf-elf.ensures.facts bytes c.in_ok-new.ensures.bytes (none_given c.args.image.now c.requires.none)
    c.requires.fits
    (of_parts (λ p s. NewMemory c.args.image.now p s c.in_ok-new.new.items) _
    (patches_for c.args.image.now c.args.plan.now) _ (segments_for c.args.image.now c.args.plan.now)
    (c.deref.ensures.value ∙ c.in_ok-patches.ensures) (ap (λ s. s ∷ []) c.in_ok-text.ensures)
    c.in_ok-new.ensures.memory)
    c.in_ok-new.ensures.entry
