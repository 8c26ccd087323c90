-- What passed checks of the sections say of the symbol table and its strings.
use Rattle.std.proofs.Common.{◌≡◌, ◌≢◌, ℕ, ◌+◌, ◌<◌, ◌≤◌, Bool, true, false, not, ◌&&◌, ◌||◌, List}
use Rattle.std.proofs.Common.{length, get_or, nat_eq, nat_lt, refl, sym, ◌∙◌, subst, arith, inl, inr, Option, Some}
use Rattle.std.proofs.Common.{None, ◌%◌}
use Rattle.std.specs.List.{find, slice_get}
use Rattle.std.proofs.lemmas.Bool.{cases_lt}
use Rattle.std.proofs.lemmas.Bool.Decides.{nat_tests}
use Rattle.std.proofs.lemmas.List.Quantifiers.{position-Some}
use Rattle.std.proofs.lemmas.Option.{slice_get-get_or, slice_get_past}
use Rattle.elf_spec.specs.declared.Section.{Section}
use Rattle.elf_spec.specs.Relocations.{is_at}
use Rattle.elf_spec.specs.Tables.{is_symtab, strings_of, symtab_index}
use Rattle.first_check.proofs.Checks.{not_when}
use Rattle.first_check.proofs.Items.{item_passes}
use Rattle.elf_read.specs.declared.refusals.ElfRefusal.TheVariants.{SectionOut}
use Rattle.elf_read.specs.Checks.{is_bad_table, is_strtab, leaves_file}
use Rattle.elf_read.specs.Refusals.{section_out, section_refusal}
use Rattle.elf_read.specs.Symbols.{IsTables}
use Rattle.elf_read.proofs.Finds.{find_is, find_none, none_passes}

abbrev is_bad : ℕ → List Section → ℕ → Section → Bool
is_bad bytes all i s = leaves_file bytes s || (is_at (symtab_index all) i && is_bad_table all s)

-- each section passes where none is refused
good : (bytes : ℕ) (ss : List Section) → section_out bytes ss ≡ None → (k : ℕ) (d : Section) → k < length ss
    → is_bad bytes ss k (get_or ss k d) ≡ false
unfolding section_out
good bytes ss h k d l =
    not_when (is_bad bytes ss k (get_or ss k d)) (SectionOut k) (item_passes (section_refusal bytes ss) ss h k d l)

pub none_found : (ss : List Section) → symtab_index ss ≡ None → find is_symtab ss ≡ None
none_found ss h = find_none is_symtab ss (none_passes is_symtab ss h)

or_false : (a b : Bool) → (a || b) ≡ false → (a ≡ false) × (b ≡ false)
or_false true b h = absurd (cc)
or_false false b h = (refl, h)

inside : (k o n bytes : ℕ) → (not (nat_eq k 0) && (not (nat_eq k 8) && nat_lt bytes (o + n))) ≡ false → k ≢ 0 → k ≢ 8
    → o + n ≤ bytes
inside k o n bytes h a b = grind (arith, nat_tests)

not_false : (b : Bool) → not b ≡ false → b ≡ true
not_false true h = refl
not_false false h = absurd (cc)

-- the section at a place leaves the file not
pub stays : (bytes : ℕ) (ss : List Section) (i : ℕ) (d : Section) → section_out bytes ss ≡ None → i < length ss
    → leaves_file bytes (get_or ss i d) ≡ false
stays bytes ss i d h l = (or_false (leaves_file bytes (get_or ss i d)) _ (good bytes ss h i d l)).0

-- the symbol table's link names a string table
link_is : (bytes : ℕ) (ss : List Section) (i : ℕ) (d : Section) → section_out bytes ss ≡ None → symtab_index ss ≡ Some i
    → is_strtab (slice_get ss (get_or ss i d).link) ≡ true
link_is bytes ss i d h e =
    let p : (i < length ss) × (is_symtab (get_or ss i d) ≡ true)
    × ((k : ℕ) → k < i → is_symtab (get_or ss k d) ≡ false) = position-Some is_symtab ss i d e in
    let t : nat_eq i i ≡ true = grind (arith, nat_tests) in
    let b : (is_at (symtab_index ss) i && is_bad_table ss (get_or ss i d)) ≡ false =
    (or_false (leaves_file bytes (get_or ss i d)) _ (good bytes ss h i d p.0)).1 in
    let f : is_bad_table ss (get_or ss i d) ≡ false = rw (e, t) at b in
    not_false _ (or_false (not (nat_eq ((get_or ss i d).size % 16) 0)) _
    (or_false (not (nat_eq (get_or ss i d).entry_size 16)) _ f).1).1

strtab_inside : (ss : List Section) (i : ℕ) → is_strtab (slice_get ss i) ≡ true → i < length ss
strtab_inside ss i h = elim (cases_lt i (length ss)) [
  | inl l ↦ l
  | inr g ↦ absurd (let q : false ≡ true = rw (slice_get_past ss i g) at h in cc)
]

pub linked : (bytes : ℕ) (ss : List Section) (i : ℕ) (d : Section) → section_out bytes ss ≡ None
    → symtab_index ss ≡ Some i
    → (get_or ss i d).link < length ss
linked bytes ss i d h e = strtab_inside ss (get_or ss i d).link (link_is bytes ss i d h e)

pub tables_are : (bytes : ℕ) (ss : List Section) (i : ℕ) (d e : Section) → section_out bytes ss ≡ None
    → symtab_index ss ≡ Some i
    → IsTables bytes ss record { symbols = get_or ss i d; strings = get_or ss (get_or ss i d).link e }
tables_are bytes ss i d e h at =
    let t : Section = get_or ss i d in
    let p : (i < length ss) × (is_symtab t ≡ true) × ((k : ℕ) → k < i → is_symtab (get_or ss k d) ≡ false) =
    position-Some is_symtab ss i d at in
    let l : t.link < length ss = linked bytes ss i d h at in
    let s : slice_get ss t.link ≡ Some (get_or ss t.link e) = slice_get-get_or ss t.link e l in
    let k : is_strtab (Some (get_or ss t.link e)) ≡ true = rw s at (link_is bytes ss i d h at) in
    record {
      symbols = find_is is_symtab ss i at ∙ slice_get-get_or ss i d p.0;
      strings = s;
      symbols_inside = inside t.kind t.offset t.size bytes (stays bytes ss i d h p.0) (two t.kind p.1).0
          (two t.kind p.1).1;
      strings_inside = inside (get_or ss t.link e).kind (get_or ss t.link e).offset (get_or ss t.link e).size bytes
          (stays bytes ss t.link e h l)
          (three _ k).0 (three _ k).1;
    }
  where
    two : (k : ℕ) → nat_eq k 2 ≡ true → (k ≢ 0) × (k ≢ 8)
    two k h = let e : k ≡ 2 = grind (arith, nat_tests) in (λ z. omega arith, λ z. omega arith)

    three : (k : ℕ) → nat_eq k 3 ≡ true → (k ≢ 0) × (k ≢ 8)
    three k h = let e : k ≡ 3 = grind (arith, nat_tests) in (λ z. omega arith, λ z. omega arith)

some_is : {A : Type 0} (x y : A) (o : Option A) → o ≡ Some x → o ≡ Some y → x ≡ y
some_is x y o h g = cc

-- the symbol table that is found lies in the file
pub symbols_inside : (bytes : ℕ) (ss : List Section) (t : Section) → section_out bytes ss ≡ None
    → find is_symtab ss ≡ Some t
    → t.offset + t.size ≤ bytes
symbols_inside bytes ss t h f = decide (symtab_index ss) refl
  where
    decide : (o : Option ℕ) → symtab_index ss ≡ o → t.offset + t.size ≤ bytes
    decide None e = absurd (let q : None ≡ Some t = sym (none_found ss e) ∙ f in cc)
    decide (Some i) e =
        let tables : IsTables bytes ss _ = tables_are bytes ss i t t h e in
        let same : get_or ss i t ≡ t = some_is (get_or ss i t) t (find is_symtab ss) tables.symbols f in
        subst (λ (x : Section). x.offset + x.size ≤ bytes) same tables.symbols_inside

-- and so do its strings
pub strings_inside : (bytes : ℕ) (ss : List Section) (s : Section) → section_out bytes ss ≡ None
    → strings_of ss (find is_symtab ss) ≡ Some s
    → s.offset + s.size ≤ bytes
strings_inside bytes ss s h f = decide (symtab_index ss) refl
  where
    decide : (o : Option ℕ) → symtab_index ss ≡ o → s.offset + s.size ≤ bytes
    decide None e = absurd (let q : strings_of ss None ≡ Some s =
        subst (λ o. strings_of ss o ≡ Some s) (none_found ss e) f in cc)
    decide (Some i) e =
        let t : Section = get_or ss i s in
        let tables : IsTables bytes ss _ = tables_are bytes ss i s s h e in
        let g : strings_of ss (Some t) ≡ Some s = subst (λ o. strings_of ss o ≡ Some s) tables.symbols f in
        let same : get_or ss t.link s ≡ s = some_is (get_or ss t.link s) s (strings_of ss (Some t)) tables.strings g in
        subst (λ (x : Section). x.offset + x.size ≤ bytes) same tables.strings_inside
