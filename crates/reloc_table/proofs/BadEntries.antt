-- Which entries of a section are refused, by the slots of those that are.
use Rattle.std.proofs.Common.{◌≡◌, ℕ, ◌+◌, ◌-◌, ◌*◌, ◌/◌, ◌<◌, ◌≤◌, ◌^◌, ◌==◌, ◌&&◌, ◌||◌, Bool, true, false}
use Rattle.std.proofs.Common.{List, [], ◌∷◌, length, nat_le, nat_lt, refl, sym, ap, ◌∙◌, arith, Option, Some, None}
use Rattle.std.specs.List.{list_any}
use Rattle.std.proofs.lemmas.Bool.Decides.{nat_tests}
use Rattle.elf_spec.specs.declared.Reloc.{Reloc}
use Rattle.elf_spec.specs.declared.Section.{Section}
use Rattle.elf_spec.specs.Records.{reloc_at}
use Rattle.first_check.proofs.Checks.{first_hit, none_first}
use Rattle.first_check.specs.First.{◌or_else◌, first_of, when}
use Rattle.reloc_table.specs.declared.refusals.RelocRefusal.{RelocRefusal}
use Rattle.reloc_table.specs.declared.refusals.RelocRefusal.TheVariants.{SymbolOut, Tls, Compressed}
use Rattle.reloc_table.specs.Checks.{is_bad, is_compressed, is_symbol_out, is_tls}
use Rattle.reloc_table.specs.Refusals.{entry_refusal, section_refusal}
use Rattle.reloc_table.specs.Slots.{entry_in, is_bad_at, is_slot_of, slot_at, table_of}
use Rattle.reloc_table.proofs.Once.{slot_in, slot_offset}

-- a test at one number
pub at_one : (q : ℕ → Bool) (a : ℕ) (xs : List ℕ) → list_any (λ x. q x && (x == a)) xs
    ≡ (q a && list_any (λ x. x == a) xs)
at_one q a [] = none (q a)
  where
    none : (b : Bool) → false ≡ (b && false)
    none true = refl
    none false = refl
at_one q a (x ∷ xs) = decide (x == a) refl (at_one q a xs)
  where
    here : (b c : Bool) → (b || (b && c)) ≡ b
    here true c = refl
    here false c = refl

    there : (b c d : Bool) → c ≡ d → ((b && false) || c) ≡ d
    there true c d e = e
    there false c d e = e

    yes : (b : Bool) → (b && true) ≡ b
    yes true = refl
    yes false = refl

    decide : (b : Bool) → (x == a) ≡ b → list_any (λ x. q x && (x == a)) xs ≡ (q a && list_any (λ x. x == a) xs)
        → list_any (λ x. q x && (x == a)) (x ∷ xs) ≡ (q a && list_any (λ x. x == a) (x ∷ xs))
    decide true e ih =
        let f : x ≡ a = grind (arith, nat_tests) in
        rw (e, ih, f, yes (q a)) (here (q a) (list_any (λ x. x == a) xs))
    decide false e ih = rw e (there (q x) (list_any (λ x. q x && (x == a)) xs) _ ih)

chosen : {A : Type 0} (a b c : Bool) (x y z : A) → (a || (b || c)) ≡ true → (w : A)
    × ((when a x or_else (when b y or_else when c z)) ≡ Some w)
chosen true b c x y z h = (x, refl)
chosen false true c x y z h = (y, refl)
chosen false false true x y z h = (z, refl)
chosen false false false x y z h = absurd (cc)

unchosen : {A : Type 0} (a b c : Bool) (x y z : A) → (a || (b || c)) ≡ false
    → (when a x or_else (when b y or_else when c z)) ≡ None
unchosen true b c x y z h = absurd (cc)
unchosen false true c x y z h = absurd (cc)
unchosen false false true x y z h = absurd (cc)
unchosen false false false x y z h = refl

refused : (symbols section entry : ℕ) (r : Reloc) → is_bad symbols r ≡ true → (why : RelocRefusal)
    × (entry_refusal symbols section entry r ≡ Some why)
unfolding entry_refusal
refused symbols section entry r h =
    chosen (is_symbol_out symbols r) (is_tls r) (is_compressed r) (SymbolOut section entry) (Tls r.place)
    (Compressed r.place) h

passes : (symbols section entry : ℕ) (r : Reloc) → is_bad symbols r ≡ false
    → entry_refusal symbols section entry r ≡ None
unfolding entry_refusal
passes symbols section entry r h =
    unchosen (is_symbol_out symbols r) (is_tls r) (is_compressed r) (SymbolOut section entry) (Tls r.place)
    (Compressed r.place) h

abbrev pub MarksSection : List ℕ → ℕ → List ℕ → Section → Type 0
MarksSection file symbols bad s = (a : ℕ) → is_slot_of a (table_of s) ≡ true
    → list_any (λ b. b == a) bad ≡ is_bad_at file symbols a

whole : (offset size bytes : ℕ) → offset + size ≤ bytes → offset + 12 * (size / 12) ≤ bytes
whole offset size bytes h = omega (arith, h)

-- no entry below one is refused whose slots are not marked
none_below : (file : List ℕ) (symbols section n : ℕ) (bad : List ℕ) (s : Section) → s.offset + s.size ≤ length file
    → length file < 2 ^ 32
    → MarksSection file symbols bad s → n ≤ s.size / 12 → ((b : ℕ) → slot_at s.offset ≤ b → b < slot_at s.offset + n
    → list_any (λ c. c == b) bad ≡ false)
    → first_of (λ k. entry_refusal symbols section k (reloc_at file (s.offset + 12 * k))) n ≡ None
none_below file symbols section n bad s i short h m free =
    none_first (λ k. entry_refusal symbols section k (reloc_at file (s.offset + 12 * k))) n (λ k l.
    let (x, y) = slot_in s.offset (s.size / 12) k (length file) short (whole s.offset s.size (length file) i)
    (omega (arith, l, m)) in
    let g : is_bad_at file symbols (slot_at s.offset + k) ≡ false = sym (h (slot_at s.offset + k) x)
    ∙ free (slot_at s.offset + k) (omega arith) (omega (arith, l)) in
    passes symbols section k (reloc_at file (s.offset + 12 * k)) (rw y at g))

pub section_none : (file : List ℕ) (symbols section : ℕ) (bad : List ℕ) (s : Section) → s.offset + s.size ≤ length file
    → length file < 2 ^ 32
    → MarksSection file symbols bad s → ((b : ℕ) → slot_at s.offset ≤ b → b < slot_at s.offset + s.size / 12
    → list_any (λ c. c == b) bad ≡ false)
    → section_refusal file symbols section s ≡ None
unfolding section_refusal
section_none file symbols section bad s i short h free = none_below file symbols section (s.size / 12) bad s i short h
    (omega arith) free

pub section_hit : (file : List ℕ) (symbols section : ℕ) (bad : List ℕ) (s : Section) (slot : ℕ)
    → s.offset + s.size ≤ length file → length file < 2 ^ 32
    → MarksSection file symbols bad s → slot_at s.offset ≤ slot → slot < slot_at s.offset + s.size / 12
    → list_any (λ b. b == slot) bad ≡ true
    → ((b : ℕ) → slot_at s.offset ≤ b → b < slot → list_any (λ c. c == b) bad ≡ false)
    → entry_refusal symbols section (slot - slot_at s.offset) (entry_in file slot)
    ≡ section_refusal file symbols section s
unfolding section_refusal
section_hit file symbols section bad s slot i short h lo hi marked free =
    let k : ℕ = slot - slot_at s.offset in
    let f : ℕ → Option RelocRefusal = λ k. entry_refusal symbols section k (reloc_at file (s.offset + 12 * k)) in
    let inside : is_slot_of slot (table_of s) ≡ true = within (slot_at s.offset) slot (slot_at s.offset + s.size / 12)
    lo hi in
    let (x, y) = slot_offset s.offset (s.size / 12) slot (length file) short (whole s.offset s.size (length file) i)
    inside in
    let g : is_bad_at file symbols slot ≡ true = sym (h slot inside) ∙ marked in
    let (why, e) = refused symbols section k (entry_in file slot) g in
    let e' : f k ≡ Some why = ap (λ o. entry_refusal symbols section k (reloc_at file o)) (sym y) ∙ e in
    let none : first_of f k ≡ None =
    none_below file symbols section k bad s i short h (omega (arith, x)) (λ b l u. free b l (omega (arith, u, lo))) in
    e ∙ sym (first_hit f k (s.size / 12) why none e' x)
  where
    within : (a b c : ℕ) → a ≤ b → b < c → (nat_le a b && nat_lt b c) ≡ true
    within a b c l m = grind (arith, nat_tests)
