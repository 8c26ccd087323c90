-- A new file of a readable file is readable where its tables are kept and its program headers pass.
use Rattle.std.proofs.Common.{◌≡◌, ℕ, zero, suc, ◌+◌, ◌-◌, ◌*◌, ◌/◌, ◌<◌, ◌≤◌, ◌==◌, Bool, false, not, ◌&&◌, ◌||◌}
use Rattle.std.proofs.Common.{if◌then◌else◌, List, [], ◌∷◌, length, take, nat_eq, nat_lt, refl, sym, ap, ◌∙◌}
use Rattle.std.proofs.Common.{subst, arith, inl, inr, Option, Some, None}
use Rattle.std.specs.Prelude.{find, bytes_eq, bit_and}
use Rattle.std.specs.List.{All, list_any}
use Rattle.std.specs.Option.{option_map, option_or}
use Rattle.std.proofs.lemmas.Bool.Decides.{nat_tests}
use Rattle.elf_spec.specs.declared.Patch.{Patch}
use Rattle.elf_spec.specs.declared.NewSegment.{NewSegment}
use Rattle.elf_spec.specs.declared.Section.{Section}
use Rattle.elf_spec.specs.Fields.{byte_at, word_at}
use Rattle.elf_spec.specs.NewFile.{contents, table_end, up16, up4096}
use Rattle.elf_spec.specs.Records.{e_flags, e_machine, e_phentsize, e_phnum, e_phoff, e_shentsize, e_shnum, e_shoff}
use Rattle.elf_spec.specs.Records.{e_type, e_version, sections_of, segments_of}
use Rattle.elf_spec.specs.Relocations.{is_at}
use Rattle.elf_spec.specs.Tables.{is_symtab, strings_of, symtab_index}
use Rattle.elf_read.specs.declared.refusals.ElfRefusal.TheVariants.{NotElf, WrongClass, WrongOrder, WrongVersion}
use Rattle.elf_read.specs.declared.refusals.ElfRefusal.TheVariants.{NotExec, NotRiscv, Flags, TableOut}
use Rattle.elf_read.specs.declared.refusals.ElfRefusal.TheVariants.{SectionOut, NameOut}
use Rattle.elf_read.specs.declared.refusals.Table.TheVariants.{Program, Section as SectionTable}
use Rattle.elf_read.specs.Checks.{is_bad_table, is_name_out, is_program_table_out}
use Rattle.elf_read.specs.Checks.{is_section_table_out, is_table_out, leaves_file}
use Rattle.elf_read.specs.Elf.{IsReadable}
use Rattle.elf_read.specs.Readable.{ReadableFacts}
use Rattle.first_check.specs.First.{first_below, first_from, when}
use Rattle.first_check.proofs.Checks.{both_none, none_both, not_when, when_not}
use Rattle.first_check.proofs.Items.{from_join}
use Rattle.elf_read.specs.Refusals.{header_refusal, kind_refusal, name_out, name_out_in, not_elf}
use Rattle.elf_read.specs.Refusals.{bad_flags, not_exec, not_riscv, section_refusal, section_out, section_table_out}
use Rattle.elf_read.specs.Refusals.{segment_kind, segment_out, segment_overlap, too_large, too_many, wrong_class}
use Rattle.elf_read.specs.Refusals.{wrong_order, wrong_version, program_table_out}
use Rattle.elf_write.specs.Ends.{new_length}
use Rattle.elf_write.specs.Kept.{AllTables, AreFieldsAlone, AreTablesUnpatched, DoHeadersPass}
use Rattle.elf_write.specs.Layout.{IsBeside, IsKept, NewLayout, added_headers}
use Rattle.elf_write.proofs.Headers.{length-contents}
use Rattle.elf_write.proofs.LayoutLaw.{header_kept}

-- the checks of the header over the fields that they read
abbrev magic_number : List ℕ
magic_number = 0x7f ∷ 0x45 ∷ 0x4c ∷ 0x46 ∷ []

magic : (m n : ℕ) (b c : Bool) → not (not (nat_lt m 52) && b) ≡ false → m ≤ n → b ≡ c
    → not (not (nat_lt n 52) && c) ≡ false
magic m n b c h l e = subst (λ x. not (not (nat_lt n 52) && x) ≡ false) e (grind (arith, nat_tests))

table_in : (bytes size offset entry count : ℕ) → entry ≡ size → offset + size * count ≤ bytes
    → is_table_out bytes size offset entry count ≡ false
table_in bytes size offset entry count e h = grind (arith, nat_tests)

entry_size_is : (bytes size offset entry count : ℕ) → is_table_out bytes size offset entry count ≡ false → 0 < count
    → entry ≡ size
entry_size_is bytes size offset entry count h l = grind (arith, nat_tests)

table_stays : (m n size offset entry count : ℕ) → is_table_out m size offset entry count ≡ false → m ≤ n
    → is_table_out n size offset entry count ≡ false
table_stays m n size offset entry count h l = grind (arith, nat_tests)

header_new : (old : List ℕ) (ps : List Patch) (ss : List NewSegment) (new : List ℕ) → NewLayout old ps ss new
    → header_refusal old ≡ None → 52 ≤ length old
    → All (λ p. 52 ≤ p.offset) ps → 0 < e_phnum old → e_phnum old + length ss ≤ 100 → header_refusal new ≡ None
unfolding header_refusal
header_new old ps ss new l h long w some few =
    let kept : (i : ℕ) → i < 52 → IsBeside 28 4 i → IsBeside 44 2 i
    → IsKept (length old) ps i = header_kept old ps long w in
    let first : take 4 new ≡ take 4 old = l.kept_parts 0 4 (λ k m. kept (0 + k) (omega arith) (inl (omega arith))
    (inl (omega arith))) in
    let class_same : byte_at new 4 ≡ byte_at old 4 = l.kept 4
    (kept 4 (omega arith) (inl (omega arith)) (inl (omega arith))) in
    let order_same : byte_at new 5 ≡ byte_at old 5 = l.kept 5
    (kept 5 (omega arith) (inl (omega arith)) (inl (omega arith))) in
    let version_byte : byte_at new 6 ≡ byte_at old 6 = l.kept 6
    (kept 6 (omega arith) (inl (omega arith)) (inl (omega arith))) in
    let type_same : e_type new ≡ e_type old = l.kept_halves 16
    (kept 16 (omega arith) (inl (omega arith)) (inl (omega arith)))
    (kept 17 (omega arith) (inl (omega arith)) (inl (omega arith))) in
    let machine_same : e_machine new ≡ e_machine old = l.kept_halves 18
    (kept 18 (omega arith) (inl (omega arith)) (inl (omega arith)))
    (kept 19 (omega arith) (inl (omega arith)) (inl (omega arith))) in
    let version_word : e_version new ≡ e_version old = l.kept_words 20
    (λ k m. kept (20 + k) (omega arith) (inl (omega arith)) (inl (omega arith))) in
    let shoff : e_shoff new ≡ e_shoff old = l.kept_words 32 (λ k m. kept (32 + k) (omega arith) (inr (omega arith))
    (inl (omega arith))) in
    let flags_same : e_flags new ≡ e_flags old = l.kept_words 36
    (λ k m. kept (36 + k) (omega arith) (inr (omega arith)) (inl (omega arith))) in
    let phentsize : e_phentsize new ≡ e_phentsize old = l.kept_halves 42
    (kept 42 (omega arith) (inr (omega arith)) (inl (omega arith)))
    (kept 43 (omega arith) (inr (omega arith)) (inl (omega arith))) in
    let shentsize : e_shentsize new ≡ e_shentsize old = l.kept_halves 46
    (kept 46 (omega arith) (inr (omega arith)) (inr (omega arith)))
    (kept 47 (omega arith) (inr (omega arith)) (inr (omega arith))) in
    let shnum : e_shnum new ≡ e_shnum old = l.kept_halves 48
    (kept 48 (omega arith) (inr (omega arith)) (inr (omega arith)))
    (kept 49 (omega arith) (inr (omega arith)) (inr (omega arith))) in
    let phoff : e_phoff new ≡ up16 (length old) = l.phoff in
    let phnum : e_phnum new ≡ e_phnum old + length ss = l.phnum in
    let long_new : length new ≡ new_length old ss = l.length_is in
    let end : table_end old ss + length (contents (table_end old ss) ss) ≡ new_length old ss =
    length-contents ss (table_end old ss) in
    let (a, h1) = none_both (not_elf old) _ h in
    let (b, h2) = none_both (wrong_class old) _ h1 in
    let (c, h3) = none_both (wrong_order old) _ h2 in
    let (d, h4) = none_both (wrong_version old) _ h3 in
    let (e, h5) = none_both (not_exec old) _ h4 in
    let (f, h6) = none_both (not_riscv old) _ h5 in
    let (g, h7) = none_both (bad_flags old) _ h6 in
    let (i, h8) = none_both (program_table_out old) _ h7 in
    let (j, k) = none_both (section_table_out old) (too_many old) h8 in
    let size : e_phentsize old ≡ 32 = entry_size_is (length old) 32 (e_phoff old) (e_phentsize old) (e_phnum old)
    (not_when (is_program_table_out old) (TableOut Program) i) some in
    let table : is_table_out (length new) 32 (e_phoff new) (e_phentsize new) (e_phnum new) ≡ false =
    table_in (length new) 32 (e_phoff new) (e_phentsize new) (e_phnum new) (phentsize ∙ size) (omega arith) in
    let sections : is_table_out (length new) 40 (e_shoff old) (e_shentsize old) (e_shnum old) ≡ false =
    table_stays (length old) (length new) 40 (e_shoff old) (e_shentsize old) (e_shnum old)
    (not_when (is_section_table_out old) (TableOut SectionTable) j) l.longer in
    let count : nat_lt 100 (e_phnum new) ≡ false = grind (arith, nat_tests) in
    both_none (not_elf new) _ (when_not _ NotElf (magic (length old) (length new) (bytes_eq (take 4 old) magic_number)
    (bytes_eq (take 4 new) magic_number) (not_when _ NotElf a) l.longer
    (ap (λ x. bytes_eq x magic_number) (sym first))))
    (both_none (wrong_class new) _ (subst (λ x. when (not (x == 1)) (WrongClass x) ≡ None) (sym class_same) b)
    (both_none (wrong_order new) _ (subst (λ x. when (not (x == 1)) (WrongOrder x) ≡ None) (sym order_same) c)
    (both_none (wrong_version new) _ (subst (λ x. when (not ((x == 1) && (e_version new == 1))) WrongVersion ≡ None)
    (sym version_byte) (subst (λ x. when (not ((byte_at old 6 == 1) && (x == 1))) WrongVersion ≡ None)
    (sym version_word) d))
    (both_none (not_exec new) _ (subst (λ x. when (not (x == 2)) (NotExec x) ≡ None) (sym type_same) e)
    (both_none (not_riscv new) _ (subst (λ x. when (not (x == 243)) (NotRiscv x) ≡ None) (sym machine_same) f)
    (both_none (bad_flags new) _ (subst (λ x. when (not (bit_and x 15 == 0)) (Flags x) ≡ None) (sym flags_same) g)
    (both_none (program_table_out new) _ (when_not _ (TableOut Program) table)
    (both_none (section_table_out new) (too_many new) (when_not _ (TableOut SectionTable)
    (rw (shoff, shentsize, shnum) sections)) (when_not _ _ count)))))))))

-- no kind of an added header is refused
kinds_added : (ss : List NewSegment) (end j : ℕ) → first_from kind_refusal j (added_headers end ss) ≡ None
kinds_added [] end j = refl
kinds_added (s ∷ ss) end j = kinds_added ss (up4096 end + length s.bytes) (j + 1)

-- what lies in a file lies in a longer one
leaves_less : (k o z m n : ℕ) (x : Bool) → m ≤ n → ((not (nat_eq k 0) && (not (nat_eq k 8) && nat_lt m (o + z))) || x)
    ≡ false → ((not (nat_eq k 0) && (not (nat_eq k 8) && nat_lt n (o + z))) || x) ≡ false
leaves_less k o z m n x l h = grind (arith, nat_tests)

sections_longer : (m n : ℕ) (all : List Section) (i : ℕ) (ss : List Section) → m ≤ n
    → first_from (section_refusal m all) i ss ≡ None → first_from (section_refusal n all) i ss ≡ None
sections_longer m n all i [] l h = refl
sections_longer m n all i (s ∷ ss) l h =
    let (here, rest) = none_both (section_refusal m all i s) (first_from (section_refusal m all) (i + 1) ss) h in
    both_none (section_refusal n all i s) (first_from (section_refusal n all) (i + 1) ss)
    (when_not (leaves_file n s || (is_at (symtab_index all) i && is_bad_table all s)) (SectionOut i)
    (leaves_less s.kind s.offset s.size m n _ l
    (not_when (leaves_file m s || (is_at (symtab_index all) i && is_bad_table all s)) (SectionOut i) here)))
    (sections_longer m n all (i + 1) ss l rest)

-- equal tests have equal first numbers
below_same : (p q : ℕ → Bool) (n : ℕ) → ((i : ℕ) → i < n → p i ≡ q i) → first_below p n ≡ first_below q n
below_same p q zero h = refl
below_same p q (suc n) h =
    let first : first_below p n ≡ first_below q n = below_same p q n (λ i l. h i (omega arith)) in
    let last : p n ≡ q n = h n (omega arith) in
    ap (λ o. option_or o (if p n then Some n else None)) first
    ∙ ap (λ b. option_or (first_below q n) (if b then Some n else None)) last

-- each of the n bytes from an offset on is kept
abbrev IsKeptPart : List ℕ → List Patch → ℕ → ℕ → Type 0
IsKeptPart file patches at n = (k : ℕ) → k < n → IsKept (length file) patches (at + k)

-- the tables lie in the file
tables_inside : (old : List ℕ) → ReadableFacts old → AllTables (λ at n. (k : ℕ) → k < n → at + k < length old) old
tables_inside old facts = record {
  sections = λ k l. let w : e_shoff old + 40 * e_shnum old ≤ length old = facts.section_table (omega arith) in
      omega arith;
  symbols = λ t e k l. let w : t.offset + t.size ≤ length old = facts.symbols t e in omega arith;
  strings = λ s e k l. let w : s.offset + s.size ≤ length old = facts.strings s e in omega arith;
}

tables_kept : (old : List ℕ) (ps : List Patch) → AllTables (λ at n. (k : ℕ) → k < n → at + k < length old) old
    → AreTablesUnpatched old ps → AreFieldsAlone old → AllTables (IsKeptPart old ps) old
tables_kept old ps inside beside alone = record {
  sections = λ k l. record {
    inside = inside.sections k l;
    no_phoff = (alone.sections k l).0;
    no_phnum =
        (alone.sections k l).1;
    no_patch = beside.sections k l;
  };
  symbols = λ t e k l. record {
    inside = inside.symbols t e k l;
    no_phoff = (alone.symbols t e k l).0;
    no_phnum =
        (alone.symbols t e k l).1;
    no_patch = beside.symbols t e k l;
  };
  strings = λ s e k l. record {
    inside = inside.strings s e k l;
    no_phoff = (alone.strings s e k l).0;
    no_phnum =
        (alone.strings s e k l).1;
    no_patch = beside.strings s e k l;
  };
}

-- names that are kept read the same
name_same : (old : List ℕ) (ps : List Patch) (ss : List NewSegment) (new : List ℕ) → NewLayout old ps ss new
    → (s : Section) → IsKeptPart old ps s.offset s.size
    → (w : ℕ) → is_name_out new s w ≡ is_name_out old s w
name_same old ps ss new l s kept w =
    ap (λ bs. not (w == 0) && not (list_any (λ b. b == 0) bs)) (l.kept_parts (s.offset + w) (s.size - w) (λ k m.
    let e : s.offset + (w + k) ≡ s.offset + w + k = omega arith in
    subst (IsKept (length old) ps) e (kept (w + k) (omega arith))))

names_new : (old : List ℕ) (ps : List Patch) (ss : List NewSegment) (new : List ℕ) → NewLayout old ps ss new
    → (table strings : Option Section)
    → ((t : Section) → table ≡ Some t → IsKeptPart old ps t.offset t.size)
    → ((s : Section) → strings ≡ Some s → IsKeptPart old ps s.offset s.size)
    → name_out_in old table strings ≡ None → name_out_in new table strings ≡ None
names_new old ps ss new l None strings tk sk h = refl
names_new old ps ss new l (Some t) None tk sk h = refl
names_new old ps ss new l (Some t) (Some s) tk sk h =
    ap (option_map NameOut) (below_same (λ i. is_name_out new s (word_at new (t.offset + 16 * i)))
    (λ i. is_name_out old s (word_at old (t.offset + 16 * i))) (t.size / 16) (λ i m.
    ap (is_name_out new s) (l.kept_words (t.offset + 16 * i) (λ k n.
    let e : t.offset + (16 * i + k) ≡ t.offset + 16 * i + k = omega arith in
    subst (IsKept (length old) ps) e (tk t refl (16 * i + k) (omega arith))))
    ∙ name_same old ps ss new l s (sk s refl) (word_at old (t.offset + 16 * i))))
    ∙ h

names_kept : (old : List ℕ) (ps : List Patch) (ss : List NewSegment) (new : List ℕ) → NewLayout old ps ss new
    → AllTables (IsKeptPart old ps) old → name_out old (sections_of old) ≡ None
    → name_out new (sections_of old) ≡ None
unfolding name_out
names_kept old ps ss new l kept h = names_new old ps ss new l (find is_symtab (sections_of old))
    (strings_of (sections_of old) (find is_symtab (sections_of old))) kept.symbols kept.strings h

pub readable_new : (old : List ℕ) (ps : List Patch) (ss : List NewSegment) (new : List ℕ) → NewLayout old ps ss new
    → IsReadable old → ReadableFacts old
    → All (λ p. 52 ≤ p.offset) ps → e_phnum old + length ss ≤ 100 → AreTablesUnpatched old ps → AreFieldsAlone old
    → DoHeadersPass old ss → IsReadable new
unfolding segment_kind section_out
readable_new old ps ss new l h facts w few beside alone pass =
    let (a, h1) = none_both (header_refusal old) _ h in
    let (b, h2) = none_both (segment_kind (segments_of old)) _ h1 in
    let (c, h3) = none_both (segment_out (length old) (segments_of old)) _ h2 in
    let (d, h4) = none_both (segment_overlap (segments_of old)) _ h3 in
    let (e, h5) = none_both (too_large (segments_of old)) _ h4 in
    let (f, g) = none_both (section_out (length old) (sections_of old)) (name_out old (sections_of old)) h5 in
    let kept : AllTables (IsKeptPart old ps) old = tables_kept old ps (tables_inside old facts) beside alone in
    let same : sections_of new ≡ sections_of old = l.sections w kept.sections in
    both_none (header_refusal new) _ (header_new old ps ss new l a facts.long w pass.some few)
    (both_none (segment_kind (segments_of new)) _ (ap (first_from kind_refusal 0) l.headers
    ∙ from_join kind_refusal 0 (segments_of old) (added_headers (table_end old ss) ss) b
    (kinds_added ss (table_end old ss) (0 + length (segments_of old))))
    (both_none (segment_out (length new) (segments_of new)) _
    (ap (λ n. segment_out n (segments_of new)) l.length_is
    ∙ (ap (segment_out (new_length old ss)) l.headers ∙ pass.inside))
    (both_none (segment_overlap (segments_of new)) _ (ap segment_overlap l.headers ∙ pass.apart)
    (both_none (too_large (segments_of new)) _ (ap too_large l.headers ∙ pass.small)
    (both_none (section_out (length new) (sections_of new)) (name_out new (sections_of new))
    (ap (section_out (length new)) same ∙ sections_longer (length old) (length new) (sections_of old) 0
    (sections_of old) l.longer f)
    (ap (name_out new) same ∙ names_kept old ps ss new l kept g))))))

pub none_overlaps : (old : List ℕ) → IsReadable old → segment_overlap (segments_of old) ≡ None
none_overlaps old h =
    let (a, h1) = none_both (header_refusal old) _ h in
    let (b, h2) = none_both (segment_kind (segments_of old)) _ h1 in
    let (c, h3) = none_both (segment_out (length old) (segments_of old)) _ h2 in
    (none_both (segment_overlap (segments_of old)) _ h3).0
