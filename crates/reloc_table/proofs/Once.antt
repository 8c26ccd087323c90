-- The entries at the slots of tables are those of the tables.
use Rattle.std.proofs.Common.{◌≡◌, ℕ, zero, suc, ◌+◌, ◌-◌, ◌*◌, ◌<◌, ◌≤◌, ◌^◌, ◌==◌, ◌&&◌, ◌||◌, Bool, true, false}
use Rattle.std.proofs.Common.{List, [], ◌∷◌, map, get_or, length, nat_eq, nat_le, nat_lt, refl, sym, ◌∙◌, arith}
use Rattle.std.specs.List.{All, list_any}
use Rattle.std.proofs.lemmas.Bool.Decides.{nat_tests}
use Rattle.std.proofs.lemmas.List.Folds.{Any-from_list_any, list_any-append, list_any_at}
use Rattle.elf_spec.specs.declared.Reloc.{Reloc}
use Rattle.elf_spec.specs.Records.{entries, reloc_at}
use Rattle.reloc_table.proofs.ListTests.{any_flat, any_map}
use Rattle.reloc_table.specs.declared.slots.EntryTable.{EntryTable}
use Rattle.reloc_table.specs.Slots.{AreSlots, IsSlotInside, IsTableInside, entries_of, entry_in, is_slot_of, offset_of}
use Rattle.reloc_table.specs.Slots.{slot_at}

or_right : (b : Bool) → (b || true) ≡ true
or_right true = refl
or_right false = refl

in_entries : {A : Type 0} (e : ℕ → A) (p : A → Bool) (size at n k : ℕ) → k < n → p (e (at + size * k)) ≡ true
    → list_any p (entries e size at n) ≡ true
in_entries e p size at zero k l h = absurd (omega arith)
in_entries e p size at (suc n) k l h =
    list_any-append p (entries e size at n) (e (at + size * n) ∷ [])
    ∙ decide (nat_eq k n) refl (λ g. in_entries e p size at n k g h)
  where
    decide : (b : Bool) → nat_eq k n ≡ b → (k < n → list_any p (entries e size at n) ≡ true)
        → (list_any p (entries e size at n) || (p (e (at + size * n)) || false)) ≡ true
    decide true f ih =
        let g : k ≡ n = grind (arith, nat_tests) in
        let h' : p (e (at + size * n)) ≡ true = rw g at h in
        rw h' (or_right (list_any p (entries e size at n)))
    decide false f ih =
        let g : k < n = below k n l f in
        rw (ih g) refl
      where
        below : (k n : ℕ) → k < suc n → nat_eq k n ≡ false → k < n
        below k n l f = grind (arith, nat_tests)

of_entries : {A : Type 0} (e : ℕ → A) (p : A → Bool) (size at n : ℕ) → list_any p (entries e size at n) ≡ true → (k : ℕ)
    × (k < n) × (p (e (at + size * k)) ≡ true)
of_entries e p size at zero h = absurd (cc)
of_entries e p size at (suc n) h =
    decide (list_any p (entries e size at n)) refl (sym (list_any-append p (entries e size at n)
    (e (at + size * n) ∷ [])) ∙ h) (of_entries e p size at n)
  where
    last : (b : Bool) → (b || false) ≡ true → b ≡ true
    last true h = refl
    last false h = absurd (cc)

    decide : (b : Bool) → list_any p (entries e size at n) ≡ b
        → (list_any p (entries e size at n) || (p (e (at + size * n)) || false)) ≡ true
        → (list_any p (entries e size at n) ≡ true → (k : ℕ) × (k < n) × (p (e (at + size * k)) ≡ true))
        → (k : ℕ) × (k < suc n) × (p (e (at + size * k)) ≡ true)
    decide true f g ih = let (k, l, m) = ih f in (k, omega (arith, l), m)
    decide false f g ih =
        let g' : (p (e (at + size * n)) || false) ≡ true = rw f at g in
        (n, omega arith, last (p (e (at + size * n))) g')

-- the slots of a table's entries
pub slot_offset : (offset count slot bytes : ℕ) → bytes < 2 ^ 32 → offset + 12 * count ≤ bytes
    → (nat_le (slot_at offset) slot && nat_lt slot (slot_at offset + count)) ≡ true
    → (slot - slot_at offset < count) × (offset_of slot ≡ offset + 12 * (slot - slot_at offset))
slot_offset offset count slot bytes s i h =
    let l : slot_at offset ≤ slot = grind (arith, nat_tests) in
    let u : slot < slot_at offset + count = grind (arith, nat_tests) in
    (omega (arith, l, u), omega (arith, l, u, s, i))

pub slot_in : (offset count k bytes : ℕ) → bytes < 2 ^ 32 → offset + 12 * count ≤ bytes → k < count
    → ((nat_le (slot_at offset) (slot_at offset + k) && nat_lt (slot_at offset + k) (slot_at offset + count)) ≡ true)
    × (offset_of (slot_at offset + k) ≡ offset + 12 * k)
slot_in offset count k bytes s i l = (within (slot_at offset) k count l, omega (arith, s, i, l))
  where
    within : (a k n : ℕ) → k < n → (nat_le a (a + k) && nat_lt (a + k) (a + n)) ≡ true
    within a k n l = grind (arith, nat_tests)

same_number : (a b : ℕ) → (b == a) ≡ true → b ≡ a
same_number a b h = grind (arith, nat_tests)

pub itself : (a : ℕ) → (a == a) ≡ true
itself a = grind (arith, nat_tests)

pub slots_inside : (bytes : ℕ) (tables : List EntryTable) (slots : List ℕ) → bytes < 2 ^ 32
    → All (IsTableInside bytes) tables → AreSlots tables slots
    → All (IsSlotInside bytes) slots
slots_inside bytes tables slots s i h = λ k d l.
    let a : ℕ = get_or slots k d in
    let m : list_any (is_slot_of a) tables ≡ true = sym (h a) ∙ list_any_at (λ b. b == a) slots k d l (itself a) in
    let (j, t, n, g, u) = Any-from_list_any (is_slot_of a) tables m in
    let w : IsTableInside bytes t = rw g at (i j t n) in
    let (x, y) = slot_offset t.offset t.count a bytes s w u in
    room t.offset t.count (a - slot_at t.offset) (offset_of a) x y w
  where
    room : (o n k at : ℕ) → k < n → at ≡ o + 12 * k → o + 12 * n ≤ bytes → at + 12 ≤ bytes
    room o n k at x y w = omega (arith, x, y, w)

either_way : (b c : Bool) → (b ≡ true → c ≡ true) → (c ≡ true → b ≡ true) → b ≡ c
either_way true c h k = sym (h refl)
either_way false true h k = k refl
either_way false false h k = refl

-- a test passes for an entry at some slot exactly where it passes for an entry of some table
pub once_same : (file : List ℕ) (tables : List EntryTable) (slots : List ℕ) → length file < 2 ^ 32
    → All (IsTableInside (length file)) tables
    → AreSlots tables slots → (p : Reloc → Bool) → list_any p (map (entry_in file) slots)
    ≡ list_any p (entries_of file tables)
once_same file tables slots s i h p = either_way (list_any p (map (entry_in file) slots))
    (list_any p (entries_of file tables)) there back
  where
    there : list_any p (map (entry_in file) slots) ≡ true → list_any p (entries_of file tables) ≡ true
    there e =
        let e' : list_any (λ a. p (entry_in file a)) slots ≡ true = sym (any_map (entry_in file) p slots) ∙ e in
        let (k, a, l, f, q) = Any-from_list_any (λ a. p (entry_in file a)) slots e' in
        let m : list_any (is_slot_of a) tables ≡ true =
        sym (h a) ∙ list_any_at (λ b. b == a) slots k a l (rw f (itself a)) in
        let (j, t, n, g, u) = Any-from_list_any (is_slot_of a) tables m in
        let w : IsTableInside (length file) t = rw g at (i j t n) in
        let (x, y) = slot_offset t.offset t.count a (length file) s w u in
        let q' : p (reloc_at file (t.offset + 12 * (a - slot_at t.offset))) ≡ true = rw (sym y) q in
        let v : list_any p (entries (reloc_at file) 12 t.offset t.count) ≡ true =
        in_entries (reloc_at file) p 12 t.offset t.count (a - slot_at t.offset) x q' in
        any_flat (λ t. entries (reloc_at file) 12 t.offset t.count) p tables
        ∙ list_any_at (λ t. list_any p (entries (reloc_at file) 12 t.offset t.count)) tables j t n (rw g v)

    back : list_any p (entries_of file tables) ≡ true → list_any p (map (entry_in file) slots) ≡ true
    back e =
        let e' : list_any (λ t. list_any p (entries (reloc_at file) 12 t.offset t.count)) tables ≡ true =
        sym (any_flat (λ t. entries (reloc_at file) 12 t.offset t.count) p tables) ∙ e in
        let (j, t, n, g, v) = Any-from_list_any (λ t. list_any p (entries (reloc_at file) 12 t.offset t.count)) tables
        e' in
        let w : IsTableInside (length file) t = rw g at (i j t n) in
        let (k, l, q) = of_entries (reloc_at file) p 12 t.offset t.count v in
        let (x, y) = slot_in t.offset t.count k (length file) s w l in
        let a : ℕ = slot_at t.offset + k in
        let m : list_any (λ b. b == a) slots ≡ true = h a ∙ list_any_at (is_slot_of a) tables j t n (rw g x) in
        let (o, b, r, f, z) = Any-from_list_any (λ b. b == a) slots m in
        let same : b ≡ a = same_number a b z in
        let q' : p (entry_in file b) ≡ true = rw (same, y) q in
        any_map (entry_in file) p slots ∙ list_any_at (λ a. p (entry_in file a)) slots o b r (rw f q')
