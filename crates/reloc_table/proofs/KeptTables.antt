-- The tables of the kept sections of a file.
use Rattle.std.proofs.Common.{◌≡◌, ℕ, ◌+◌, ◌/◌, ◌<◌, ◌≤◌, ◌==◌, ◌&&◌, Bool, true, false, not, List, [], ◌∷◌, ◌++◌, map}
use Rattle.std.proofs.Common.{filter, flat_map, get_or, length, refl, ap, ◌∙◌, arith}
use Rattle.std.specs.List.{All, list_any, slice_get}
use Rattle.std.proofs.lemmas.Bool.Decides.{nat_tests}
use Rattle.std.proofs.lemmas.List.Elements.{All-cons, All-head, All-nil, All-tail}
use Rattle.elf_spec.specs.declared.Section.{Section}
use Rattle.elf_spec.specs.Records.{entries, reloc_at}
use Rattle.elf_spec.specs.Relocations.{is_alloc, is_at, is_kept_rela}
use Rattle.elf_spec.specs.Fields.{is_set}
use Rattle.elf_spec.specs.Tables.{symtab_index}
use Rattle.elf_read.specs.Readable.{IsSectionInside}
use Rattle.std.proofs.lemmas.List.Folds.{list_any_at}
use Rattle.reloc_table.specs.Slots.{AreBad, IsTableInside, entries_of, is_bad_at, is_slot_of, table_of, tables_of}
use Rattle.reloc_table.proofs.ListTests.{any_filter, any_map}

and_left : (a b : Bool) → (a && b) ≡ true → a ≡ true
and_left true b h = refl
and_left false b h = absurd (cc)

kept_kind : (k : ℕ) (b c d : Bool) → (k == 4 && b && c && d) ≡ true → k ≡ 4
kept_kind k b c d h =
    let e : (k == 4) ≡ true = and_left (k == 4) b (and_left (k == 4 && b) c (and_left (k == 4 && b && c) d h)) in
    grind (arith, nat_tests)

table_inside : (bytes : ℕ) (all : List Section) (s : Section) → IsSectionInside bytes s → is_kept_rela all s ≡ true
    → IsTableInside bytes (table_of s)
table_inside bytes all s h e =
    let k : s.kind ≡ 4 = kept_kind s.kind (not (is_set 2 s.flags)) (is_at (symtab_index all) s.link)
    (is_alloc (slice_get all s.info)) e in
    let l : s.offset + s.size ≤ bytes = h (λ z. omega (arith, k, z)) (λ z. omega (arith, k, z)) in
    omega (arith, l)

from_kept : (bytes : ℕ) (all ss : List Section) → All (IsSectionInside bytes) ss
    → All (IsTableInside bytes) (map table_of (filter (is_kept_rela all) ss))
from_kept bytes all [] h = All-nil (IsTableInside bytes)
from_kept bytes all (s ∷ ss) h = decide (is_kept_rela all s) refl
    (from_kept bytes all ss (All-tail (IsSectionInside bytes) s ss h))
  where
    decide : (b : Bool) → is_kept_rela all s ≡ b → All (IsTableInside bytes)
        (map table_of (filter (is_kept_rela all) ss))
        → All (IsTableInside bytes) (map table_of (filter (is_kept_rela all) (s ∷ ss)))
    decide true e ih =
        rw e (All-cons (IsTableInside bytes) (table_of s) (map table_of (filter (is_kept_rela all) ss))
        (table_inside bytes all s (All-head (IsSectionInside bytes) s ss h) e) ih)
    decide false e ih = rw e ih

pub tables_inside : (bytes : ℕ) (sections : List Section) → All (IsSectionInside bytes) sections
    → All (IsTableInside bytes) (tables_of sections)
tables_inside bytes sections h = from_kept bytes sections sections h

-- the slots of a kept section are slots of its table
pub in_tables : (sections : List Section) (k : ℕ) (d : Section) (a : ℕ) → k < length sections
    → is_kept_rela sections (get_or sections k d) ≡ true
    → is_slot_of a (table_of (get_or sections k d)) ≡ true → list_any (is_slot_of a) (tables_of sections) ≡ true
in_tables sections k d a l e h =
    any_map table_of (is_slot_of a) (filter (is_kept_rela sections) sections)
    ∙ any_filter (is_kept_rela sections) (λ s. is_slot_of a (table_of s)) sections
    ∙ list_any_at (λ s. is_kept_rela sections s && is_slot_of a (table_of s)) sections k d l (rw (e, h) refl)

-- among the slots of a kept section, those of refused entries are the bad ones
pub bad_among : (file : List ℕ) (symbols : ℕ) (bad : List ℕ) (sections : List Section) (k : ℕ) (d : Section)
    → AreBad file symbols (tables_of sections) bad
    → k < length sections → is_kept_rela sections (get_or sections k d) ≡ true
    → (a : ℕ) → is_slot_of a (table_of (get_or sections k d)) ≡ true
    → list_any (λ b. b == a) bad ≡ is_bad_at file symbols a
bad_among file symbols bad sections k d h l e a m =
    h.exact a ∙ ap (λ b. is_bad_at file symbols a && b) (in_tables sections k d a l e m)
    ∙ kept (is_bad_at file symbols a)
  where
    kept : (b : Bool) → (b && true) ≡ b
    kept true = refl
    kept false = refl

pub all_entries : (file : List ℕ) (sections : List Section)
    → entries_of file (tables_of sections) ≡ flat_map (λ s. entries (reloc_at file) 12 s.offset (s.size / 12))
    (filter (is_kept_rela sections) sections)
all_entries file sections = flat (filter (is_kept_rela sections) sections)
  where
    flat : (ss : List Section) → entries_of file (map table_of ss)
        ≡ flat_map (λ s. entries (reloc_at file) 12 s.offset (s.size / 12)) ss
    flat [] = refl
    flat (s ∷ ss) = ap (λ rest. entries (reloc_at file) 12 s.offset (s.size / 12) ++ rest) (flat ss)
