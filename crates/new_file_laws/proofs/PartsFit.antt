-- The patches and the new text of a fitting plan fit an accepted file.
use Rattle.std.proofs.Common.{◌≡◌, ◌≢◌, ℕ, zero, suc, ◌+◌, ◌-◌, ◌<◌, ◌≤◌, ◌*◌, List, [], ◌∷◌, ◌++◌, length, get_or}
use Rattle.std.proofs.Common.{refl, ap, sym, ◌∙◌, subst, arith, Option, Some, None}
use Rattle.std.specs.Prelude.{All, AllPairs, IsSome, flat_map, slice_get, sum_by, true, false}
use Rattle.std.proofs.lemmas.Bool.Decides.{nat_tests}
use Rattle.std.proofs.lemmas.List.Elements.{All-append, All-cons, All-head, All-nil, All-tail, All-weaker}
use Rattle.std.proofs.lemmas.Option.{get_or_from_slice_get, slice_get_within}
use Rattle.elf_spec.specs.declared.HeapName.{HeapName}
use Rattle.elf_spec.specs.declared.NewSegment.{NewSegment}
use Rattle.elf_spec.specs.declared.Patch.{Patch}
use Rattle.elf_spec.specs.Code.{code_place, code_word}
use Rattle.elf_spec.specs.Heap.{heap_entry, heap_names}
use Rattle.elf_spec.specs.Records.{e_entry, e_phnum, e_phoff, entries, segment_at, segments_of}
use Rattle.elf_read.specs.Checks.{is_shared}
use Rattle.elf_read.specs.Refusals.{memory_size}
use Rattle.elf_write.specs.Inputs.{IsInside, IsSmall}
use Rattle.elf_write.specs.Kept.{AreAddedAbove}
use Rattle.elf_write.specs.Layout.{AreDisjointPatches, IsApart}
use Rattle.exec_image.specs.Accepted.{AcceptedFacts}
use Rattle.plan_core.specs.declared.types.Plan.{Plan}
use Rattle.plan_core.specs.declared.types.PlanLine.{PlanLine}
use Rattle.site_spec.specs.Places.{data_at, stub_at, text_at}
use Rattle.site_spec.specs.Plans.{Fits}
use Rattle.site_spec.specs.Sites.{is_heap_word}
use Rattle.heap_spec.specs.Functions.{entry_of}
use Rattle.heap_spec.specs.Places.{area_end}
use Rattle.heap_spec.specs.Service.{Entries}
use Rattle.new_file_spec.specs.Rewritten.{data_segment, heap_jump, heap_patch, heap_patches, heap_segments, heap_text}
use Rattle.new_file_spec.specs.Rewritten.{jump_words, patch_to, patches_at, patches_for, patches_from, segments_for}
use Rattle.new_file_spec.specs.Rewritten.{text_for, text_segment}
use Rattle.new_file_laws.specs.Parts.{AreParts}
use Rattle.new_file_laws.proofs.CodeWords.{IsOfCode, behind_header, code_alone, tables_left, words_apart}
use Rattle.new_file_laws.proofs.Plains.{IsTextPlace, text_place}
use Rattle.new_file_laws.proofs.Lines.{IsJump, IsSiteLine, IsWordAt, each_at, jumps, patches_step, site_lines}
use Rattle.new_file_laws.proofs.SiteKinds.{few_words, words_differ}
use Rattle.new_file_laws.proofs.HeapEntries.{IsEntry, all_of_names, entry_words, names_once, patches_of, site_words}
use Rattle.new_file_laws.proofs.HeapEntries.{two_words}
use Rattle.new_file_laws.proofs.Texts.{AreTables, Sizes, length-heap_text, short_text, tables_fit}

-- two lists of patches that are apart, and apart from each other, are apart
apart_append : (ps qs : List Patch) → AreDisjointPatches ps → AreDisjointPatches qs
    → All (λ p. All (IsApart p) qs) ps → AreDisjointPatches (ps ++ qs)
apart_append [] qs first second between = second
apart_append (p ∷ ps) qs (low, (rest, more)) second between = (
  low,
  (
    All-append (IsApart p) ps qs rest (All-head (λ p. All (IsApart p) qs) p ps between),
    apart_append ps qs more second (All-tail (λ p. All (IsApart p) qs) p ps between),
  ),
)

-- the patches of successive words are apart
words_at_apart : (file : List ℕ) (a : ℕ) (ws : List ℕ) → AcceptedFacts file → AreDisjointPatches (patches_at file a ws)
words_at_apart file a [] facts = tt
words_at_apart file a (w ∷ ws) facts = by_place (words_at_apart file (a + 4) ws facts) (code_place file a) refl
  where
    by_place : AreDisjointPatches (patches_at file (a + 4) ws) → (o : Option ℕ) → code_place file a ≡ o
        → AreDisjointPatches (patch_to w o ++ patches_at file (a + 4) ws)
    by_place rest None e = rest
    by_place rest (Some place) e = (
      behind_header file a place facts e,
      (
        All-weaker (IsWordAt file (a + 4) ws) (IsApart (record { offset = place; word = w })) apart
            (patches_at file (a + 4) ws) (each_at file (a + 4) ws),
        rest,
      ),
    )
      where
        apart : (p : Patch) → IsWordAt file (a + 4) ws p → IsApart (record { offset = place; word = w }) p
        apart p (j, there, word) = words_apart file a (a + 4 + 4 * j) place p.offset facts e there (omega arith)

jumps_apart : (file : List ℕ) (n : ℕ) (lines : List PlanLine) → AcceptedFacts file → All (IsSiteLine file) lines
    → AllPairs (λ l m. l.addr ≢ m.addr) lines
    → AreDisjointPatches (patches_from file n lines)
jumps_apart file n [] facts h once = tt
jumps_apart file n (line ∷ lines) facts h once =
    subst AreDisjointPatches (sym (patches_step file n line lines l.site l.at))
    (apart_append (patches_at file line.addr words) (patches_from file (n + 1) lines)
    (words_at_apart file line.addr words facts)
    (jumps_apart file (n + 1) lines facts (All-tail (IsSiteLine file) line lines h)
    (λ i j d lt low. once (suc i) (suc j) d (omega (arith, lt)) (omega (arith, low))))
    (All-weaker (IsWordAt file line.addr words) (λ p. All (IsApart p) (patches_from file (n + 1) lines)) between
    (patches_at file line.addr words) (each_at file line.addr words)))
  where
    l : IsSiteLine file line
    l = All-head (IsSiteLine file) line lines h

    words : List ℕ
    words = jump_words (stub_at (text_at file) n) l.site

    other_place : (k : ℕ) (other : PlanLine) → slice_get lines k ≡ Some other → line.addr ≢ other.addr
    other_place k other e =
        let below : k < length lines = slice_get_within lines k other e in
        let value : get_or lines k line ≡ other = get_or_from_slice_get lines k other line e in
        subst (λ (x : PlanLine). line.addr ≢ x.addr) value (once 0 (suc k) line (omega arith) (omega (arith, below)))

    apart : (p q : Patch) → IsWordAt file line.addr words p → IsJump file (n + 1) lines q → IsApart p q
    apart p q (i, place, e) (k, other, s, f, at, (j, there, g)) =
        words_apart file (line.addr + 4 * i) (other.addr + 4 * j) p.offset q.offset facts place there
        (words_differ file line.addr other.addr i j l.site s l.at at (other_place k other f)
        (few_words file line.addr (stub_at (text_at file) n) i p.word l.site l.at e)
        (few_words file other.addr (stub_at (text_at file) (n + 1 + k)) j q.word s at g))

    between : (p : Patch) → IsWordAt file line.addr words p → All (IsApart p) (patches_from file (n + 1) lines)
    between p word =
        All-weaker (IsJump file (n + 1) lines) (IsApart p) (λ q jump. apart p q word jump)
        (patches_from file (n + 1) lines)
        (jumps file (n + 1) lines (All-tail (IsSiteLine file) line lines h))

-- the entry is a code word, so the file has program headers
has_headers : (file : List ℕ) → AcceptedFacts file → 0 < e_phnum file
has_headers file facts = by_place (code_place file (e_entry file)) refl
  where
    some : (i n : ℕ) → i < length (entries (segment_at file) 32 (e_phoff file) n) → 0 < n
    some i zero low = absurd (omega (arith, low))
    some i (suc n) low = omega arith

    by_place : (o : Option ℕ) → code_place file (e_entry file) ≡ o → 0 < e_phnum file
    by_place None e = absurd (let none : IsSome (code_word file (e_entry file)) = facts.entry in let q : false ≡ true =
        rw e at none in cc)
    by_place (Some p) e = let (i, g, low, is, at) = (facts.code (e_entry file) p e).loaded in some i (e_phnum file) low

added_above : (file : List ℕ) (plan : Plan) → AcceptedFacts file → Fits file plan
    → AreAddedAbove file (segments_for file plan)
added_above file plan facts fits =
    let short : length (text_for file plan) ≤ 1424 = short_text file plan fits in
    let memory : memory_size (segments_of file) ≤ 67108864 = facts.memory in
    let place : IsTextPlace file = text_place file facts.end in
    let size : sum_by (λ (s : NewSegment). s.mem_size) (segments_for file plan) ≡ length (text_for file plan) =
    omega arith in
    record {
      some = has_headers file facts;
      above = (
        place.above,
        omega arith,
        omega (arith, place.low, short),
        tt,
      );
      small = omega (arith, memory, size, short);
    }

-- the jumps are patches of the code
pub of_code : (file : List ℕ) (plan : Plan) → Fits file plan → All (IsOfCode file) (patches_for file plan)
of_code file plan fits =
    All-weaker (IsJump file 0 plan.sites) (IsOfCode file) of_line (patches_for file plan)
    (jumps file 0 plan.sites (site_lines file plan fits))
  where
    of_line : (p : Patch) → IsJump file 0 plan.sites p → IsOfCode file p
    of_line p (k, line, s, e, at, (j, there, word)) = (line.addr + 4 * j, there)

pub parts_fit : (file : List ℕ) (plan : Plan) → AcceptedFacts file → Fits file plan
    → AreParts file (patches_for file plan) (segments_for file plan)
parts_fit file plan facts fits = record {
  inside = All-weaker (IsOfCode file) (IsInside (length file)) inside (patches_for file plan) codes;
  apart = jumps_apart file 0 plan.sites facts (site_lines file plan fits) fits.once;
  unpatched = tables_left (IsOfCode file) file (patches_for file plan) (code_alone file facts) codes;
  above = added_above file plan facts fits;
  small = All-cons IsSmall (text_segment (text_at file) (text_for file plan)) []
      (omega (arith, short_text file plan fits)) (All-nil IsSmall);
}
  where
    codes : All (IsOfCode file) (patches_for file plan)
    codes = of_code file plan fits

    inside : (p : Patch) → IsOfCode file p → IsInside (length file) p
    inside p (a, e) = (facts.code a p.offset e).inside

-- the words at two entries differ
entries_differ : (a b i j : ℕ) → is_shared a 8 b 8 ≡ false → i < 2 → j < 2 → a + 4 * i ≢ b + 4 * j
entries_differ a b i j apart l m same =
    let low : a < b + 8 = omega (arith, same, l, m) in
    let high : b < a + 8 = omega (arith, same, l, m) in
    let met : is_shared a 8 b 8 ≡ true = grind (arith, nat_tests) in
    let clash : true ≡ false = sym met ∙ apart in
    cc

names_apart : (file : List ℕ) (at : Entries) (names : List HeapName) → AcceptedFacts file
    → AllPairs (λ n m. n ≢ m) names → AreDisjointPatches (flat_map (patches_of file at) names)
names_apart file at [] facts once = tt
names_apart file at (name ∷ names) facts once =
    by_entry (names_apart file at names facts
    (λ i j d lt low. once (suc i) (suc j) d (omega (arith, lt)) (omega (arith, low)))) (heap_entry file name) refl
  where
    other_name : (k : ℕ) (other : HeapName) → slice_get names k ≡ Some other → name ≢ other
    other_name k other e =
        let below : k < length names = slice_get_within names k other e in
        let value : get_or names k name ≡ other = get_or_from_slice_get names k other name e in
        subst (λ (x : HeapName). name ≢ x) value (once 0 (suc k) name (omega arith) (omega (arith, below)))

    by_entry : AreDisjointPatches (flat_map (patches_of file at) names) → (o : Option ℕ) → heap_entry file name ≡ o
        → AreDisjointPatches (heap_patch file (entry_of at name) o ++ flat_map (patches_of file at) names)
    by_entry rest None named = rest
    by_entry rest (Some e) named =
        apart_append (patches_at file e words) (flat_map (patches_of file at) names) (words_at_apart file e words facts)
        rest
        (All-weaker (IsWordAt file e words) (λ p. All (IsApart p) (flat_map (patches_of file at) names)) between
        (patches_at file e words) (each_at file e words))
      where
        words : List ℕ
        words = heap_jump (entry_of at name) e

        apart : (p q : Patch) → IsWordAt file e words p → IsEntry file at names q → IsApart p q
        apart p q (i, place, word) (k, other, b, is, there, (j, code, last)) =
            words_apart file (e + 4 * i) (b + 4 * j) p.offset q.offset facts place code
            (entries_differ e b i j (facts.heap_apart name other e b (other_name k other is) named there)
            (two_words (entry_of at name) e i p.word word) (two_words (entry_of at other) b j q.word last))

        between : (p : Patch) → IsWordAt file e words p → All (IsApart p) (flat_map (patches_of file at) names)
        between p word =
            All-weaker (IsEntry file at names) (IsApart p) (λ x entry. apart p x word entry)
            (flat_map (patches_of file at) names) (all_of_names file at names)

-- a patch at a chosen site and one at an entry share no byte
site_and_entry : (file : List ℕ) (plan : Plan) (at : Entries) (p q : Patch) → AcceptedFacts file
    → IsJump file 0 plan.sites p → IsEntry file at heap_names q → IsApart p q
site_and_entry file plan at p q facts (k, line, s, e, site, (i, place, word)) (n, name, b, is, there, (j, code, last)) =
    words_apart file (line.addr + 4 * i) (b + 4 * j) p.offset q.offset facts place code
    (λ same. let heap : is_heap_word file (b + 4 * j) ≡ true = entry_words file name b j there
    (two_words (entry_of at name) b j q.word last) in
    let none : is_heap_word file (line.addr + 4 * i) ≡ false = site_words file line.addr i s site
    (few_words file line.addr (stub_at (text_at file) (0 + k)) i p.word s site word) in
    let clash : true ≡ false = sym heap ∙ (sym (ap (is_heap_word file) same) ∙ none) in cc)

all_apart : (file : List ℕ) (plan : Plan) (at : Entries) → AcceptedFacts file → Fits file plan
    → AreDisjointPatches (patches_for file plan ++ heap_patches file at)
all_apart file plan at facts fits =
    apart_append (patches_for file plan) (heap_patches file at)
    (jumps_apart file 0 plan.sites facts (site_lines file plan fits) fits.once)
    (names_apart file at heap_names facts names_once)
    (All-weaker (IsJump file 0 plan.sites) (λ p. All (IsApart p) (heap_patches file at)) between
    (patches_for file plan) (jumps file 0 plan.sites (site_lines file plan fits)))
  where
    between : (p : Patch) → IsJump file 0 plan.sites p → All (IsApart p) (heap_patches file at)
    between p jump =
        All-weaker (IsEntry file at heap_names) (IsApart p)
        (λ q entry. site_and_entry file plan at p q facts jump entry) (heap_patches file at)
        (all_of_names file at heap_names)

heap_added : (file : List ℕ) (plan : Plan) (words : List ℕ) → AcceptedFacts file → Fits file plan
    → length words ≤ 4096 → AreTables plan.area (data_at file)
    → AreAddedAbove file (heap_segments file plan words)
heap_added file plan words facts fits few tables =
    let long : length (heap_text file plan words) ≡ 1536 + 4 * length words = length-heap_text file plan words fits in
    let memory : memory_size (segments_of file) ≤ 67108864 = facts.memory in
    let place : IsTextPlace file = text_place file facts.end in
    let end : area_end plan.area (data_at file) - data_at file ≤ 25300000 = tables.memory in
    let size : sum_by (λ (s : NewSegment). s.mem_size) (heap_segments file plan words)
    ≡ length (heap_text file plan words) + (area_end plan.area (data_at file) - data_at file) =
    omega arith in
    record {
      some = has_headers file facts;
      above = (
        place.above,
        omega arith,
        omega (arith, place.low, long, few),
        (omega (arith, long, few), tables.fit, omega (arith, place.low, end), tt),
      );
      small = omega (arith, memory, size, long, few, end);
    }

-- with heap functions
pub parts_fit_with_heap : (file : List ℕ) (plan : Plan) (words : List ℕ) (at : Entries) → Sizes → AcceptedFacts file
    → Fits file plan → length words ≤ 4096
    → AreParts file (patches_for file plan ++ heap_patches file at) (heap_segments file plan words)
parts_fit_with_heap file plan words at sizes facts fits few = record {
  inside = All-weaker (IsOfCode file) (IsInside (length file)) inside (patches_for file plan ++ heap_patches file at)
      codes;
  apart = all_apart file plan at facts fits;
  unpatched = tables_left (IsOfCode file) file (patches_for file plan ++ heap_patches file at) (code_alone file facts)
      codes;
  above = heap_added file plan words facts fits few tables;
  small = All-cons IsSmall (text_segment (text_at file) (heap_text file plan words))
      (data_segment plan.area (data_at file) ∷ [])
      (omega (arith, length-heap_text file plan words fits, few))
      (All-cons IsSmall (data_segment plan.area (data_at file)) [] tables.small (All-nil IsSmall));
}
  where
    tables : AreTables plan.area (data_at file)
    tables = tables_fit sizes plan.area (data_at file) fits.chunks fits.area

    of_entry : (p : Patch) → IsEntry file at heap_names p → IsOfCode file p
    of_entry p (k, name, e, is, there, (j, code, word)) = (e + 4 * j, code)

    codes : All (IsOfCode file) (patches_for file plan ++ heap_patches file at)
    codes = All-append (IsOfCode file) (patches_for file plan) (heap_patches file at) (of_code file plan fits)
        (All-weaker (IsEntry file at heap_names) (IsOfCode file) of_entry (heap_patches file at)
        (all_of_names file at heap_names))

    inside : (p : Patch) → IsOfCode file p → IsInside (length file) p
    inside p (a, e) = (facts.code a p.offset e).inside
