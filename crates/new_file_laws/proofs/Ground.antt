-- The new file of an accepted file and a fitting plan is laid out as the simulation asks.
use Rattle.std.proofs.Common.{◌≡◌, ◌≢◌, ◌⊎◌, ℕ, ◌+◌, ◌-◌, ◌*◌, ◌/◌, ◌<◌, ◌≤◌, List, [], ◌++◌, true, false, length, refl}
use Rattle.std.proofs.Common.{ap, sym, ◌∙◌, subst, inl, inr, arith, ◌==◌, nat_le}
use Rattle.std.specs.Prelude.{Some, None, slice_get, slice_index, All}
use Rattle.std.specs.List.{list_any}
use Rattle.std.proofs.lemmas.Bool.Decides.{nat_tests}
use Rattle.std.proofs.lemmas.Map.Keys.{any_passes_from_place}
use Rattle.std.proofs.lemmas.List.Elements.{All-append, All-weaker}
use Rattle.std.proofs.lemmas.Option.{slice_get_within}
use Rattle.elf_spec.specs.declared.HeapName.{HeapName}
use Rattle.elf_spec.specs.declared.NewSegment.{NewSegment}
use Rattle.elf_spec.specs.declared.Patch.{Patch}
use Rattle.elf_spec.specs.Code.{code_place, code_word}
use Rattle.elf_spec.specs.Heap.{heap_entries, heap_entry, heap_names}
use Rattle.elf_spec.specs.Memory.{image_end}
use Rattle.elf_spec.specs.Records.{e_entry, segments_of}
use Rattle.plan_core.specs.declared.types.Plan.{Plan}
use Rattle.plan_core.specs.declared.types.PlanLine.{PlanLine}
use Rattle.site_spec.specs.declared.Site.{Site}
use Rattle.site_spec.specs.Places.{data_at, text_at, stub_at}
use Rattle.site_spec.specs.Plans.{Fits}
use Rattle.site_spec.specs.Sites.{is_heap_word, site_at}
use Rattle.heap_spec.specs.Functions.{IsWord, entry_of}
use Rattle.heap_spec.specs.Service.{Entries, ServesHeap}
use Rattle.new_file_spec.specs.Stubs.{stub_words}
use Rattle.machine_spec.specs.Memory.{memory_of}
use Rattle.flat_spec.specs.Stores.{fetched}
use Rattle.sym_spec.specs.SymMachine.{line_at}
use Rattle.sym_spec.specs.SymTurns.{is_second}
use Rattle.simulation.specs.Laws.{Laws}
use Rattle.simulation.specs.HeapGround.{HeapGround}
use Rattle.simulation.specs.Ground.{Ground, IsPairSite, IsUnchosen, MemoryGround}
use Rattle.elf_write.specs.NewMemory.{NewMemory}
use Rattle.exec_image.specs.Accepted.{AcceptedFacts}
use Rattle.new_file_spec.specs.Rewritten.{heap_patches, heap_segments, heap_text, jump_words, patches_for, segments_for}
use Rattle.new_file_spec.specs.Rewritten.{text_for}
use Rattle.new_file_laws.proofs.Finding.{found_some}
use Rattle.new_file_laws.proofs.CodeWords.{IsOfCode, words_apart}
use Rattle.new_file_laws.proofs.CodeMemory.{byte_word, code_aligned, code_bytes, code_names, code_small}
use Rattle.new_file_laws.proofs.CodeMemory.{code_there}
use Rattle.new_file_laws.proofs.Behind.{HasText}
use Rattle.new_file_laws.proofs.NewCode.{patched_fetched, text_fetched, unpatched_fetched}
use Rattle.new_file_laws.proofs.Plains.{IsTextPlace, plain_apart, plain_data, plain_same, plain_there, storable}
use Rattle.new_file_laws.proofs.Plains.{text_place}
use Rattle.new_file_laws.proofs.MemoryBytes.{memory_bytes}
use Rattle.new_file_laws.proofs.Lines.{IsAmong, IsJump, among_behind, among_front, few_sites, has_patch, jumps}
use Rattle.new_file_laws.proofs.Lines.{length_text, site_lines, text_byte}
use Rattle.new_file_laws.proofs.SiteKinds.{IsWordOf, few_words, site_is, word_place, words_differ}
use Rattle.new_file_laws.proofs.HeapEntries.{IsEntry, all_of_names, entry_words, lacks_all, no_heap_word, site_words}
use Rattle.new_file_laws.proofs.HeapEntries.{two_words}
use Rattle.new_file_laws.proofs.Texts.{AreTables, HasHeap, Sizes, first_bytes, has_heap, has_text, length-heap_text}
use Rattle.new_file_laws.proofs.Texts.{short_text, tables_fit}
use Rattle.new_file_laws.proofs.HeapWords.{Firsts, heap_ground}

-- the patch is that of a heap word
abbrev IsOfHeap : List ℕ → Patch → Type 0
IsOfHeap file p = (a : ℕ) × (is_heap_word file a ≡ true) × (code_place file a ≡ Some p.offset)

-- a file, a fitting plan and a new file with its memory: beside the patches of the chosen sites it has some of
-- heap words, and its text begins with the mark and the stubs
pub record IsMade (file : List ℕ) (plan : Plan) (new : List ℕ) : Type 0 where
  pub patches : List Patch
  pub segments : List NewSegment
  pub text : List ℕ
  pub accepted : AcceptedFacts file
  pub fits : Fits file plan
  pub place : IsTextPlace file
  pub memory : NewMemory file patches segments new
  pub has : HasText file text segments
  pub codes : All (λ p. IsJump file 0 plan.sites p ⊎ IsOfHeap file p) patches
  pub jumps : (p : Patch) → IsAmong p (patches_for file plan) → IsAmong p patches
  pub long : length (text_for file plan) ≤ length text
  pub stubs : (i : ℕ) → i < length (text_for file plan) → slice_index text i ≡ slice_index (text_for file plan) i

-- all patches are those of code words
all_of_code : (file : List ℕ) (plan : Plan) (new : List ℕ) (h : IsMade file plan new) → All (IsOfCode file) h.patches
all_of_code file plan new h =
    All-weaker (λ p. IsJump file 0 plan.sites p ⊎ IsOfHeap file p) (IsOfCode file) at h.patches h.codes
  where
    at : (p : Patch) → IsJump file 0 plan.sites p ⊎ IsOfHeap file p → IsOfCode file p
    at p (inl (k, line, s, e, site, (i, there, word))) = (line.addr + 4 * i, there)
    at p (inr (a, heap, there)) = (a, there)

-- a code word that is no word of a chosen site and no heap word is as in the source
word_kept : (file : List ℕ) (plan : Plan) (new : List ℕ) (a w : ℕ) → IsMade file plan new → code_word file a ≡ Some w
    → ((k i : ℕ) (line : PlanLine) (s : Site) → slice_get plan.sites k ≡ Some line → site_at file line.addr ≡ Some s
    → IsWordOf file line.addr s i → line.addr + 4 * i ≢ a)
    → is_heap_word file a ≡ false → fetched (memory_of new) a ≡ Some w
word_kept file plan new a w h e other no_heap =
    let (place, there, value) = code_there file a w e in
    unpatched_fetched file h.patches h.segments new a place h.accepted h.memory there
    (All-weaker (λ p. IsJump file 0 plan.sites p ⊎ IsOfHeap file p)
    (λ p. (place + 4 ≤ p.offset) ⊎ (p.offset + 4 ≤ place)) (λ p kind. apart place p there kind) h.patches h.codes)
    ∙ ap Some value
  where
    apart : (place : ℕ) (p : Patch) → code_place file a ≡ Some place → IsJump file 0 plan.sites p ⊎ IsOfHeap file p
        → (place + 4 ≤ p.offset) ⊎ (p.offset + 4 ≤ place)
    apart place p there (inl (k, line, s, e, at, (i, here, word))) =
        words_apart file a (line.addr + 4 * i) place p.offset h.accepted there here
        (λ same. other k i line s e at (few_words file line.addr (stub_at (text_at file) (0 + k)) i p.word s at word)
        (sym same))
    apart place p there (inr (b, heap, here)) =
        words_apart file a b place p.offset h.accepted there here
        (λ same. let clash : true ≡ false = sym heap ∙ (sym (ap (is_heap_word file) same) ∙ no_heap) in absurd (cc))

-- no line is at an address
line_none : (lines : List PlanLine) (a k : ℕ) (line : PlanLine) → line_at lines a ≡ None
    → slice_get lines k ≡ Some line → line.addr ≢ a
line_none lines a k line none there same =
    let here : (line.addr == a) ≡ true = grind (arith, nat_tests) in
    let some : list_any (λ l. l.addr == a) lines ≡ true =
    any_passes_from_place (λ l. l.addr == a) lines k line there here in
    let (other, found) = found_some (λ l. l.addr == a) lines some in
    let clash : None ≡ Some other = sym none ∙ found in cc

-- a pair's second word stands behind its address
second_of : (file : List ℕ) (a : ℕ) (s : Site) → site_at file a ≡ Some s → s.pair ≡ true
    → is_second file (a + 4) ≡ true
second_of file a s e pair =
    let low : nat_le 4 (a + 4) ≡ true = grind (arith, nat_tests) in
    let before : a + 4 - 4 ≡ a = omega arith in
    rw (low, before, e, pair) refl

-- a code word that no line names, that is no second word and at which no heap function begins is as in the source
code_kept : (file : List ℕ) (plan : Plan) (new : List ℕ) (a w : ℕ) → IsMade file plan new → code_word file a ≡ Some w
    → IsUnchosen file plan a
    → fetched (memory_of new) a ≡ Some w
code_kept file plan new a w h e none =
    word_kept file plan new a w h e other (no_heap_word file a none.no_function none.alone)
  where
    other : (k i : ℕ) (line : PlanLine) (s : Site) → slice_get plan.sites k ≡ Some line
        → site_at file line.addr ≡ Some s → IsWordOf file line.addr s i → line.addr + 4 * i ≢ a
    other k i line s e at (inl first) same = line_none plan.sites a k line none.none e (omega (arith, first, same))
    other k i line s e at (inr (second, pair)) same =
        let here : line.addr + 4 ≡ a = omega (arith, second, same) in
        let is : is_second file a ≡ true = subst (λ x. is_second file x ≡ true) here
        (second_of file line.addr s at pair.pair) in
        let clash : true ≡ false = sym is ∙ none.alone in
        cc

-- and so are the words of a pair that no line names
pair_kept : (file : List ℕ) (plan : Plan) (new : List ℕ) (a : ℕ) (s : Site) → IsMade file plan new
    → site_at file a ≡ Some s → (pair : IsPairSite file a s)
    → line_at plan.sites a ≡ None → (fetched (memory_of new) a ≡ Some pair.first)
    × (fetched (memory_of new) (a + 4) ≡ Some pair.second)
pair_kept file plan new a s h site pair none = (
  word_kept file plan new a pair.first h pair.there
      (λ k i line t e at word same. other k i 0 line t e at word (inl refl) (omega (arith, same)))
      (let here : a + 4 * 0 ≡ a = omega arith in
      subst (λ x. is_heap_word file x ≡ false) here (site_words file a 0 s site (inl refl))),
  word_kept file plan new (a + 4) pair.second h pair.next
      (λ k i line t e at word same. other k i 1 line t e at word (inr (refl, pair)) (omega (arith, same)))
      (site_words file a 1 s site (inr (refl, pair))),
)
  where
    other : (k i j : ℕ) (line : PlanLine) (t : Site) → slice_get plan.sites k ≡ Some line
        → site_at file line.addr ≡ Some t → IsWordOf file line.addr t i → IsWordOf file a s j
        → line.addr + 4 * i ≢ a + 4 * j
    other k i j line t e at word this =
        words_differ file line.addr a i j t s at site (line_none plan.sites a k line none e) word this

-- a chosen site has its jump
jump_there : (file : List ℕ) (plan : Plan) (new : List ℕ) (k i w : ℕ) (line : PlanLine) (s : Site)
    → IsMade file plan new
    → slice_get plan.sites k ≡ Some line → site_at file line.addr ≡ Some s
    → slice_get (jump_words (stub_at (text_at file) k) s) i ≡ Some w
    → fetched (memory_of new) (line.addr + 4 * i) ≡ Some w
jump_there file plan new k i w line s h e site f =
    let (place, there) = word_place file line.addr i s site
    (few_words file line.addr (stub_at (text_at file) k) i w s site f) in
    patched_fetched file h.patches h.segments new (line.addr + 4 * i) place w h.accepted h.memory there
    (h.jumps (record { offset = place; word = w }) (has_patch file plan k i w place line s e site f there))

-- the words of a stub are there
stub_there : (file : List ℕ) (plan : Plan) (new : List ℕ) (k i w : ℕ) (line : PlanLine) (s : Site)
    → IsMade file plan new
    → slice_get plan.sites k ≡ Some line → site_at file line.addr ≡ Some s
    → slice_get (stub_words (stub_at (text_at file) k) line.bit s.target s.back) i ≡ Some w
    → fetched (memory_of new) (stub_at (text_at file) k + 4 * i) ≡ Some w
stub_there file plan new k i w line s h e site f =
    let below : k < length plan.sites = slice_get_within plan.sites k line e in
    let inside : i < 11 = slice_get_within (stub_words (stub_at (text_at file) k) line.bit s.target s.back) i w f in
    let long : length (text_for file plan) ≡ 16 + 44 * length plan.sites = length_text file plan h.fits in
    let at : ℕ = stub_at (text_at file) k + 4 * i in
    text_fetched file h.patches h.segments h.text new at w h.accepted h.memory h.has h.place.above
    (omega (arith, h.place.aligned)) (omega arith) (omega (arith, long, below, inside, h.long))
    (λ j small. let place : at - text_at file + j ≡ 16 + 44 * k + 4 * i + j = omega arith in
    ap (slice_index h.text) place ∙ (h.stubs (16 + 44 * k + 4 * i + j) (omega (arith, long, below, inside, small))
    ∙ text_byte file plan k i j w line s h.fits e site f inside small))

memory_ground : (file : List ℕ) (plan : Plan) (new : List ℕ) → IsMade file plan new → All (λ b. b < 256) new
    → MemoryGround file new
memory_ground file plan new h bytes = record {
  plain_data = λ a plain. plain_data file a h.accepted plain;
  plain_apart = λ a plain. plain_apart file a h.accepted h.place plain;
  code_below = λ a code.
      let (place, there) = byte_word file a h.accepted code in
      let below : a / 4 * 4 + 4 ≤ image_end (segments_of file) =
      h.accepted.code_end (a / 4 * 4) place there in omega (arith, below, h.place.above);
  low_text = omega (arith, h.place.low);
  bytes = λ a b e. memory_bytes new a b bytes e;
  plain = λ a plain. plain_same file h.patches h.segments h.text new a h.accepted h.place h.has h.memory
      (all_of_code file plan new h) plain;
  plain_there = λ a plain. plain_there file h.patches h.segments h.text new a h.accepted h.place h.has h.memory
      (all_of_code file plan new h) plain;
  storable = λ a store. storable file h.patches h.segments h.text new a h.accepted h.place h.has h.memory store;
}

made : (file : List ℕ) (plan : Plan) (new : List ℕ) → Laws → IsMade file plan new → All (λ b. b < 256) file
    → All (λ b. b < 256) new
    → ((name : HeapName) (e : ℕ) → heap_entry file name ≡ Some e → HeapGround file plan new)
    → e_entry new ≡ e_entry file → Ground file plan new
made file plan new laws h bytes new_bytes heap entry = record {
  laws = laws;
  memory = memory_ground file plan new h new_bytes;
  heap = heap;
  entry = entry;
  fits = h.fits;
  few = few_sites file plan h.fits;
  sites = site_is file;
  words = λ a w e. code_small file a w bytes e;
  aligned = λ a w e. code_aligned file a w h.accepted e;
  low_code = λ a w e. let (place, there, value) = code_there file a w e in
      let below : a + 4 ≤ image_end (segments_of file) =
      h.accepted.code_end a place there in omega (arith, below, h.place.above);
  code_bytes = λ a w k e low high. let (place, there, value) =
      code_there file a w e in code_bytes file a place k there low high;
  names = λ a w i e d. code_names file a w i h.accepted e d;
  aligned_text = h.place.aligned;
  code = λ a w e none. code_kept file plan new a w h e none;
  pair_code = λ a s site pair none. pair_kept file plan new a s h site pair none;
  jump = λ k i w line s e site f. jump_there file plan new k i w line s h e site f;
  stub = λ k i w line s e site f. stub_there file plan new k i w line s h e site f;
}

site_jumps : (file : List ℕ) (plan : Plan) → Fits file plan
    → All (λ p. IsJump file 0 plan.sites p ⊎ IsOfHeap file p) (patches_for file plan)
site_jumps file plan fits =
    All-weaker (IsJump file 0 plan.sites) (λ p. IsJump file 0 plan.sites p ⊎ IsOfHeap file p) (λ p jump. inl jump)
    (patches_for file plan) (jumps file 0 plan.sites (site_lines file plan fits))

-- without heap functions
pub ground : (file : List ℕ) (plan : Plan) (new : List ℕ) → Laws → AcceptedFacts file → All (λ b. b < 256) file
    → All (λ b. b < 256) new → heap_entries file ≡ [] → Fits file plan
    → NewMemory file (patches_for file plan) (segments_for file plan) new → e_entry new ≡ e_entry file
    → Ground file plan new
ground file plan new laws facts bytes new_bytes none fits memory entry =
    made file plan new laws (record {
      patches = patches_for file plan;
      segments = segments_for file plan;
      text = text_for file plan;
      accepted = facts;
      fits = fits;
      place = place;
      memory = memory;
      has = has_text file plan place fits;
      codes = site_jumps file plan fits;
      jumps = λ p among. among;
      long = omega arith;
      stubs = λ i low. refl;
    }) bytes new_bytes (λ name e there. absurd (lacks_all file name e none there)) entry
  where
    place : IsTextPlace file
    place = text_place file facts.end

-- with heap functions, whose words serve every request
pub ground_with_heap : (file : List ℕ) (plan : Plan) (new words : List ℕ) (at : Entries) → Laws → Firsts → Sizes
    → AcceptedFacts file → All (λ b. b < 256) file → All (λ b. b < 256) new → Fits file plan → length words ≤ 4096
    → ((name : HeapName) (e : ℕ) → heap_entry file name ≡ Some e → IsWord (text_at file) words (entry_of at name))
    → ServesHeap plan.rows plan.area (text_at file) (data_at file) words at
    → NewMemory file (patches_for file plan ++ heap_patches file at) (heap_segments file plan words) new
    → e_entry new ≡ e_entry file → Ground file plan new
ground_with_heap file plan new words at laws firsts sizes facts bytes new_bytes fits few reached serves memory entry =
    made file plan new laws (record {
      patches = patches_for file plan ++ heap_patches file at;
      segments = heap_segments file plan words;
      text = heap_text file plan words;
      accepted = facts;
      fits = fits;
      place = place;
      memory = memory;
      has = has.text;
      codes = All-append (λ p. IsJump file 0 plan.sites p ⊎ IsOfHeap file p) (patches_for file plan)
          (heap_patches file at) (site_jumps file plan fits)
          (All-weaker (IsEntry file at heap_names) (λ p. IsJump file 0 plan.sites p ⊎ IsOfHeap file p) of_heap
          (heap_patches file at) (all_of_names file at heap_names));
      jumps = λ p among. among_front p (patches_for file plan) (heap_patches file at) among;
      long = omega (arith, short_text file plan fits, length-heap_text file plan words fits);
      stubs = λ i low. first_bytes file plan words i low;
    }) bytes new_bytes (λ name e there. heap_ground file plan new words at (record {
      patches = patches_for file plan ++ heap_patches file at;
      accepted = facts;
      fits = fits;
      place = place;
      few = few;
      memory = memory;
      has = has;
      tables = tables;
      entries = λ p among. among_behind p (patches_for file plan) (heap_patches file at) among;
    }) firsts reached serves) entry
  where
    place : IsTextPlace file
    place = text_place file facts.end

    tables : AreTables plan.area (data_at file)
    tables = tables_fit sizes plan.area (data_at file) fits.chunks fits.area

    has : HasHeap file plan words
    has = has_heap file plan words place fits few tables

    of_heap : (p : Patch) → IsEntry file at heap_names p → IsJump file 0 plan.sites p ⊎ IsOfHeap file p
    of_heap p (k, name, e, is, there, (i, code, word)) =
        inr (e + 4 * i, entry_words file name e i there (two_words (entry_of at name) e i p.word word), code)
