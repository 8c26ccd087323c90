-- Sorting moves the tables.
use Rattle.std.proofs.Common.{◌≡◌, ◌∙◌, sym, ap, ◌==◌, List, rules}
use Rattle.std.specs.List.{list_any}
use Rattle.std.specs.List.Sorted.{IsNonDecreasingBy}
use Rattle.std.proofs.lemmas.List.Sorted.{IsNonDecreasingBy-from_sort_by_key, list_any-IsPermutation}
use Rattle.reloc_table.specs.declared.slots.EntryTable.{EntryTable}
use Rattle.reloc_table.specs.Slots.{covered, is_slot_of, slot_at}
use Rattle.reloc_table.proofs.Covered.{covered_slots}
use Rattle.reloc_table.proofs.slots.slots_of.Goals as goal

pub returns : goal.returns
returns c =
    let ts : List EntryTable = c.sort_unstable_by_key.new.self.items in
    let up : IsNonDecreasingBy (λ t. slot_at t.offset) ts =
    IsNonDecreasingBy-from_sort_by_key (λ t. slot_at t.offset) _ c.sort_unstable_by_key.ensures.sorted
    (λ a r q k. search rules) in
    let same : c.in_ok-list.list.items ≡ covered 0 ts = search rules in
    λ a.
    ap (list_any (λ b. b == a)) same
    ∙ covered_slots a ts up
    ∙ sym (list_any-IsPermutation (is_slot_of a) _ _ c.sort_unstable_by_key.ensures.permutation)
    ∙ ap (list_any (is_slot_of a)) c.in_ok-sorted.ensures.items
