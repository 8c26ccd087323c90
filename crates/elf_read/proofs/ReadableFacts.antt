-- What the passed checks say of a readable file.
use Rattle.std.proofs.Common.{◌≡◌, ◌≢◌, ℕ, zero, suc, ◌+◌, ◌-◌, ◌*◌, ◌/◌, ◌^◌, ◌<◌, ◌≤◌, Bool, true, false, not, ◌&&◌}
use Rattle.std.proofs.Common.{◌||◌, List, [], ◌∷◌, length, take, drop, nat_eq, nat_lt, refl, arith, Option, Some, None}
use Rattle.std.proofs.Common.{length-drop, length-take}
use Rattle.std.specs.List.{All, find, list_any, prefix_len}
use Rattle.std.proofs.lemmas.Bool.Decides.{nat_tests}
use Rattle.std.proofs.lemmas.List.Elements.{All-nil, All-weaker}
use Rattle.std.proofs.lemmas.List.Sums.{prefix_len-le-length}
use Rattle.first_check.proofs.Below.{below_none}
use Rattle.first_check.proofs.Checks.{none_both, not_when}
use Rattle.elf_read.specs.declared.refusals.ElfRefusal.TheVariants.{NameOut, NotElf, TableOut}
use Rattle.elf_read.specs.declared.refusals.Table.TheVariants.{Program, Section as SectionTable}
use Rattle.elf_spec.specs.declared.Segment.{Segment}
use Rattle.elf_spec.specs.declared.Section.{Section}
use Rattle.elf_spec.specs.declared.Symbol.{Symbol}
use Rattle.elf_spec.specs.Fields.{word_at}
use Rattle.elf_spec.specs.Records.{section_at, segment_at, e_phentsize, e_phnum, e_phoff, e_shentsize, e_shnum, e_shoff}
use Rattle.elf_spec.specs.Records.{sections_of, segments_of}
use Rattle.elf_spec.specs.Tables.{is_symtab, strings_of, symbol_at, symbols_in, symbols_of}
use Rattle.elf_read.specs.Checks.{has_header, is_ended, is_name_out, is_program_table_out, is_section_table_out}
use Rattle.elf_read.specs.Checks.{is_segment_out}
use Rattle.elf_read.specs.Elf.{IsReadable}
use Rattle.elf_read.specs.Readable.{IsLoadedInside, ReadableFacts}
use Rattle.elf_read.specs.Refusals.{header_refusal, memory_size, name_out, name_out_in, not_elf, bad_flags}
use Rattle.elf_read.specs.Refusals.{not_exec, not_riscv, wrong_class, wrong_order, wrong_version, program_table_out}
use Rattle.elf_read.specs.Refusals.{section_out, section_table_out, segment_kind, segment_out, segment_overlap}
use Rattle.elf_read.specs.Refusals.{too_large, too_many}
use Rattle.elf_read.proofs.Entries.{all_entries, length-entries}
use Rattle.elf_read.proofs.Sizes.{all_in, apart_pairs, not_some}
use Rattle.elf_read.proofs.TablesInside.{stays, strings_inside, symbols_inside}

record Headed (file : List ℕ) : Type 0 where
  long : 52 ≤ length file
  segments : is_program_table_out file ≡ false
  sections : is_section_table_out file ≡ false
  few : e_phnum file ≤ 100

headed : (file : List ℕ) → header_refusal file ≡ None → Headed file
unfolding header_refusal
headed file h =
    let (a, h1) = none_both (not_elf file) _ h in
    let (b, h2) = none_both (wrong_class file) _ h1 in
    let (c, h3) = none_both (wrong_order file) _ h2 in
    let (d, h4) = none_both (wrong_version file) _ h3 in
    let (e, h5) = none_both (not_exec file) _ h4 in
    let (f, h6) = none_both (not_riscv file) _ h5 in
    let (g, h7) = none_both (bad_flags file) _ h6 in
    let (i, h8) = none_both (program_table_out file) _ h7 in
    let (j, k) = none_both (section_table_out file) (too_many file) h8 in
    record {
      long = whole (length file) _ (not_when (not (has_header file)) NotElf a);
      segments = not_when (is_program_table_out file) (TableOut Program) i;
      sections = not_when (is_section_table_out file) (TableOut SectionTable) j;
      few = let l : nat_lt 100 (e_phnum file) ≡ false = not_when _ _ k in grind (arith, nat_tests);
    }
  where
    whole : (n : ℕ) (b : Bool) → not (not (nat_lt n 52) && b) ≡ false → 52 ≤ n
    whole n b h = grind (arith, nat_tests)

inside : (k m f o v bytes b : ℕ) → ((nat_eq k 1 && nat_lt 0 m) &&
    (nat_lt m f || (nat_lt bytes (o + f) || nat_lt b (v + m)))) ≡ false
    → (nat_eq k 1 && nat_lt 0 m) ≡ true → (f ≤ m) × (o + f ≤ bytes) × (v + m ≤ b)
inside k m f o v bytes b h l = (grind (arith, nat_tests), grind (arith, nat_tests), grind (arith, nat_tests))

loaded_inside : (bytes : ℕ) (s : Segment) → is_segment_out bytes s ≡ false → IsLoadedInside bytes s
loaded_inside bytes s h l =
    let p : (s.file_size ≤ s.mem_size) × (s.offset + s.file_size ≤ bytes) × (s.vaddr + s.mem_size ≤ 0x7ff00000) =
    inside s.kind s.mem_size s.file_size s.offset s.vaddr bytes 0x7ff00000 h l in
    record { fits = p.0; file = p.1; memory = p.2 }

section_inside : (k o n bytes : ℕ) → (not (nat_eq k 0) && (not (nat_eq k 8) && nat_lt bytes (o + n))) ≡ false → k ≢ 0
    → k ≢ 8 → o + n ≤ bytes
section_inside k o n bytes h a b = grind (arith, nat_tests)

table_inside : (bytes size offset entry count n : ℕ) → (not (nat_eq count 0) &&
    (not (nat_eq entry size) || nat_lt bytes (offset + n))) ≡ false
    → 0 < count → offset + n ≤ bytes
table_inside bytes size offset entry count n h l = grind (arith, nat_tests)

-- a name that ends in the strings begins inside the file
some_bytes : (p : ℕ → Bool) (xs : List ℕ) → list_any p xs ≡ true → 0 < length xs
some_bytes p [] h = absurd (cc)
some_bytes p (x ∷ xs) h = omega arith

begins : (file : List ℕ) (strings : Section) (name : ℕ) → is_ended file strings name ≡ true
    → strings.offset + name < length file
begins file strings name h =
    let n : 0 < length (take (strings.size - name) (drop (strings.offset + name) file)) = some_bytes _ _ h in
    omega (
      arith,
      n,
      length-take (strings.size - name) (drop (strings.offset + name) file),
      length-drop
          (strings.offset + name) file,
    )

is_named : (name : ℕ) (b : Bool) → (not (nat_eq name 0) && not b) ≡ false → nat_eq name 0 ≡ false → b ≡ true
is_named name true h e = refl
is_named name false h e = absurd (let q : true ≡ false = rw e at h in cc)

name_inside : (file : List ℕ) (strings : Section) (at : ℕ) (b : Bool) → nat_eq (word_at file at) 0 ≡ b
    → is_name_out file strings (word_at file at) ≡ false
    → (symbol_at file strings at).name_at + (symbol_at file strings at).name_len ≤ length file
unfolding symbol_at
name_inside file strings at true e h = rw e (omega arith)
name_inside file strings at false e h =
    let l : strings.offset + word_at file at < length file =
    begins file strings (word_at file at) (is_named (word_at file at) _ h e) in
    let m : ℕ = strings.offset + word_at file at in
    let n : prefix_len (λ x. not (nat_eq x 0)) (drop m file) ≤ length (drop m file) =
    prefix_len-le-length (λ x. not (nat_eq x 0)) (drop m file) in
    rw e (omega (arith, l, n, length-drop m file))

names_in : (file : List ℕ) (table strings : Option Section) → name_out_in file table strings ≡ None
    → All (λ s. s.name_at + s.name_len ≤ length file) (symbols_in file table strings)
names_in file None strings h = All-nil (λ s. s.name_at + s.name_len ≤ length file)
names_in file (Some t) None h = All-nil (λ s. s.name_at + s.name_len ≤ length file)
names_in file (Some t) (Some strings) h =
    all_entries (λ (s : Symbol). s.name_at + s.name_len ≤ length file) (symbol_at file strings) 16 t.offset
    (t.size / 16) (λ i l.
    let p : ℕ → Bool = λ j. is_name_out file strings (word_at file (t.offset + 16 * j)) in
    name_inside file strings (t.offset + 16 * i) _ refl (below_none p (t.size / 16) (not_some NameOut _ h) i l))

names_inside : (file : List ℕ) → name_out file (sections_of file) ≡ None
    → All (λ s. s.name_at + s.name_len ≤ length file) (symbols_of file)
unfolding name_out
names_inside file h = names_in file (find is_symtab (sections_of file))
    (strings_of (sections_of file) (find is_symtab (sections_of file))) h

pub readable_facts : (file : List ℕ) → IsReadable file → ReadableFacts file
unfolding too_large
readable_facts file h =
    let (a, h1) = none_both (header_refusal file) _ h in
    let (b, h2) = none_both (segment_kind (segments_of file)) _ h1 in
    let (c, h3) = none_both (segment_out (length file) (segments_of file)) _ h2 in
    let (d, h4) = none_both (segment_overlap (segments_of file)) _ h3 in
    let (e, h5) = none_both (too_large (segments_of file)) _ h4 in
    let (f, g) = none_both (section_out (length file) (sections_of file)) (name_out file (sections_of file)) h5 in
    let header : Headed file = headed file a in
    record {
      long = header.long;
      few = header.few;
      segment_count = length-entries (segment_at file) 32 (e_phoff file) (e_phnum file);
      section_count = length-entries (section_at file) 40 (e_shoff file) (e_shnum file);
      segment_table = table_inside (length file) 32 (e_phoff file) (e_phentsize file) (e_phnum file) (32 * e_phnum file)
          header.segments;
      section_table = table_inside (length file) 40 (e_shoff file) (e_shentsize file) (e_shnum file) (40 * e_shnum file)
          header.sections;
      segments = All-weaker (λ s. is_segment_out (length file) s ≡ false) (IsLoadedInside (length file))
          (loaded_inside (length file)) (segments_of file)
          (all_in (length file) (segments_of file) c);
      apart = apart_pairs (segments_of file) d;
      memory = let l : nat_lt 134217728 (memory_size (segments_of file)) ≡ false = not_when _ _ e in
          grind (arith, nat_tests);
      sections = λ i s l. section_inside _ _ _ (length file) (stays (length file) (sections_of file) i s f l);
      symbols = λ t e. symbols_inside (length file) (sections_of file) t f e;
      strings = λ s e. strings_inside (length file) (sections_of file) s f e;
      names = names_inside file g;
    }

few_of : (n at bytes : ℕ) → bytes < 2 ^ 32 → (0 < n → at + 40 * n ≤ bytes) → n < 2 ^ 32
few_of zero at bytes s t = omega arith
few_of (suc n) at bytes s t = let h : at + 40 * suc n ≤ bytes = t (omega arith) in omega arith

-- the section headers of a file of fewer than 2^32 bytes are fewer than that
pub few_sections : (sections : List Section) (file : List ℕ) → ReadableFacts file → length file < 2 ^ 32
    → sections ≡ sections_of file
    → length sections < 2 ^ 32
few_sections sections file facts short is =
    let few : e_shnum file < 2 ^ 32 = few_of (e_shnum file) (e_shoff file) (length file) short facts.section_table in
    rw (is, facts.section_count) few
