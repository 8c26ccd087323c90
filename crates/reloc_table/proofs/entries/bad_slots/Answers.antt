-- Sorting moves the slots.
use Rattle.std.proofs.Common.{◌∙◌, sym, ap, ◌==◌, ◌&&◌}
use Rattle.std.specs.List.{list_any}
use Rattle.std.proofs.lemmas.List.Sorted.{IsNonDecreasingBy-from_sort, list_any-IsPermutation}
use Rattle.reloc_table.specs.Slots.{is_bad_at}
use Rattle.reloc_table.proofs.BadEntries.{at_one}
use Rattle.reloc_table.proofs.Once.{slots_inside}
use Rattle.reloc_table.proofs.ListTests.{any_filter}
use Rattle.reloc_table.proofs.entries.bad_slots.Goals as goal

pub find_bad-requires : goal.find_bad-requires
find_bad-requires c = slots_inside _ c.args.tables.now c.args.slots.now c.requires.short c.requires.inside
    c.requires.slots

pub returns : goal.returns
returns c =
    record {
      rise = IsNonDecreasingBy-from_sort (λ p. p) _ c.sort_unstable.ensures.sorted;
      exact = λ a.
          sym (list_any-IsPermutation (λ b. b == a) _ _ c.sort_unstable.ensures.permutation)
          ∙ ap (list_any (λ b. b == a)) c.in_ok-bad.ensures
          ∙ any_filter (is_bad_at c.args.file.now c.args.symbols) (λ b. b == a) c.args.slots.now
          ∙ at_one (is_bad_at c.args.file.now c.args.symbols) a c.args.slots.now
          ∙ ap (λ b. is_bad_at c.args.file.now c.args.symbols a && b) (c.requires.slots a);
    }
