-- The places at which the entries of tables stand in a file. Each file offset has a slot, numbered so
-- that the entries of a table, which are 12 bytes apart, have slots one after the other: first by the
-- offset modulo 12, then by the offset.
use Rattle.std.specs.Prelude.{◌≡◌, ℕ, zero, suc, ◌+◌, ◌-◌, ◌*◌, ◌/◌, ◌%◌, ◌==◌, ◌&&◌, ◌≤◌, Bool, List, [], ◌∷◌, ◌++◌}
use Rattle.std.specs.Prelude.{map, filter, flat_map, max, nat_le, nat_lt}
use Rattle.std.specs.List.{list_any}
use Rattle.std.specs.List.Sorted.{IsNonDecreasing}
use Rattle.elf_spec.specs.declared.Reloc.{Reloc}
use Rattle.elf_spec.specs.declared.Section.{Section}
use Rattle.elf_spec.specs.Records.{entries, reloc_at}
use Rattle.elf_spec.specs.Relocations.{is_kept_rela}
use Rattle.reloc_table.specs.declared.slots.EntryTable.{EntryTable}
use Rattle.reloc_table.specs.Checks.{is_bad}

abbrev pub slot_at : ℕ → ℕ
slot_at offset = offset % 12 * 4294967296 + offset / 12

abbrev pub offset_of : ℕ → ℕ
offset_of slot = slot % 4294967296 * 12 + slot / 4294967296

abbrev pub entry_in : List ℕ → ℕ → Reloc
entry_in file slot = reloc_at file (offset_of slot)

abbrev pub end_slot : EntryTable → ℕ
end_slot t = slot_at t.offset + t.count

-- the slot is that of an entry of the table
abbrev pub is_slot_of : ℕ → EntryTable → Bool
is_slot_of slot t = nat_le (slot_at t.offset) slot && nat_lt slot (end_slot t)

-- the kept entries of sections, and those of tables, in order
abbrev pub table_of : Section → EntryTable
table_of s = record { offset = s.offset; count = s.size / 12 }

abbrev pub tables_of : List Section → List EntryTable
tables_of sections = map table_of (filter (is_kept_rela sections) sections)

abbrev pub entries_of : List ℕ → List EntryTable → List Reloc
entries_of file tables = flat_map (λ t. entries (reloc_at file) 12 t.offset t.count) tables

abbrev pub IsTableInside : ℕ → EntryTable → Type 0
IsTableInside bytes t = t.offset + 12 * t.count ≤ bytes

abbrev pub IsSlotInside : ℕ → ℕ → Type 0
IsSlotInside bytes slot = offset_of slot + 12 ≤ bytes

-- so many numbers from one on
abbrev pub numbers : ℕ → ℕ → List ℕ
numbers from zero = []
numbers from (suc n) = numbers from n ++ (from + n) ∷ []

-- the slots of tables from one on, where the tables are in order of their first slots
abbrev pub covered : ℕ → List EntryTable → List ℕ
covered at [] = []
covered at (t ∷ ts) = numbers (max at (slot_at t.offset)) (end_slot t - max at (slot_at t.offset))
    ++ covered (max at (end_slot t)) ts

-- numbers that are the slots of tables
abbrev pub AreSlots : List EntryTable → List ℕ → Type 0
AreSlots tables slots = (a : ℕ) → list_any (λ b. b == a) slots ≡ list_any (is_slot_of a) tables

abbrev pub is_bad_at : List ℕ → ℕ → ℕ → Bool
is_bad_at file symbols slot = is_bad symbols (entry_in file slot)

-- the slots of the entries of tables that are refused, in order
pub record AreBad (file : List ℕ) (symbols : ℕ) (tables : List EntryTable) (bad : List ℕ) : Type 0 where
  pub rise : IsNonDecreasing bad
  pub exact : (a : ℕ) → list_any (λ b. b == a) bad ≡ (is_bad_at file symbols a && list_any (is_slot_of a) tables)
