-- The heap's words, its tables and its area in the memory of a new file, as the simulation asks.
use Rattle.std.proofs.Common.{◌≡◌, ℕ, zero, suc, ◌+◌, ◌-◌, ◌*◌, ◌%◌, ◌^◌, ◌<◌, ◌≤◌, ◌==◌, Bool, true, false, cond, List}
use Rattle.std.proofs.Common.{[], ◌∷◌, ◌++◌, length, refl, ap, ◌∙◌, subst, arith}
use Rattle.std.specs.Prelude.{All, Some, is_some, flat_map, replicate, slice_get, slice_index, unwrap_or}
use Rattle.std.proofs.lemmas.List.{get_or_append_left, get_or-append_right}
use Rattle.std.proofs.lemmas.List.Elements.{All-append, All-cons, All-head, All-nil, All-replicate, All-tail}
use Rattle.std.proofs.lemmas.Option.{slice_get-get_or}
use Rattle.rv_isa.specs.declared.Width.TheVariants.{Word}
use Rattle.elf_spec.specs.declared.HeapName.{HeapName}
use Rattle.elf_spec.specs.declared.Patch.{Patch}
use Rattle.elf_spec.specs.Code.{code_word}
use Rattle.elf_spec.specs.Fields.{word_bytes}
use Rattle.elf_spec.specs.Heap.{heap_entry}
use Rattle.elf_spec.proofs.CodePlaces.{place_of}
use Rattle.plan_core.specs.declared.types.Area.{Area}
use Rattle.plan_core.specs.declared.types.Plan.{Plan}
use Rattle.plan_core.specs.Plan.{granules}
use Rattle.place_spec.specs.Layout.{first_layout}
use Rattle.site_spec.specs.Places.{data_at, text_at}
use Rattle.site_spec.specs.Plans.{Fits}
use Rattle.machine_spec.specs.Memory.{Range, byte_of, memory_of, range_at}
use Rattle.machine_spec.specs.Widths.{low_bytes, number_of}
use Rattle.flat_spec.specs.Stores.{fetched, loaded}
use Rattle.heap_spec.specs.Functions.{IsWord, entry_of}
use Rattle.heap_spec.specs.Places.{area_end}
use Rattle.heap_spec.specs.Service.{Entries, LiesIn, ServesHeap, words_at, words_of}
use Rattle.heap_spec.specs.Tables.{HasWords, Spells, first_tables, first_words, idle_rows, none_word}
use Rattle.new_file_spec.specs.Rewritten.{data_segment, heap_jump, heap_patches, heap_segments, heap_text}
use Rattle.simulation.specs.HeapGround.{HeapGround}
use Rattle.elf_write.specs.NewMemory.{NewMemory, range_added}
use Rattle.exec_image.specs.Accepted.{AcceptedFacts}
use Rattle.new_file_laws.proofs.Plains.{IsTextPlace}
use Rattle.new_file_laws.proofs.Behind.{text_range}
use Rattle.new_file_laws.proofs.NewCode.{byte_in, new_range, patched_fetched, text_byte_there, text_range_there}
use Rattle.new_file_laws.proofs.NewCode.{word_number}
use Rattle.new_file_laws.proofs.Lines.{IsAmong}
use Rattle.new_file_laws.proofs.HeapEntries.{entry_among, two_words}
use Rattle.new_file_laws.proofs.Suiting.{end_below, suits}
use Rattle.new_file_laws.proofs.Texts.{AreTables, HasHeap, heap_byte, length-heap_text, length-low}

-- a word is loaded where its four bytes are
loaded_is : (m : List Range) (a : ℕ) (b : ℕ → ℕ) → a % 4 ≡ 0
    → ((k : ℕ) → k < 4 → byte_of m (a + k) ≡ Some (b k)) → loaded m Word a
    ≡ Some (number_of (b 0 ∷ b 1 ∷ b 2 ∷ b 3 ∷ []))
unfolding loaded
loaded_is m a b aligned bytes =
    let z : a + 0 ≡ a = omega arith in
    let n1 : a + 1 + 1 ≡ a + 2 = omega arith in
    let n2 : a + 2 + 1 ≡ a + 3 = omega arith in
    let b0 : byte_of m a ≡ Some (b 0) = subst (λ x. byte_of m x ≡ Some (b 0)) z (bytes 0 (omega arith)) in
    let b1 : byte_of m (a + 1) ≡ Some (b 1) = bytes 1 (omega arith) in
    let b2 : byte_of m (a + 2) ≡ Some (b 2) = bytes 2 (omega arith) in
    let b3 : byte_of m (a + 3) ≡ Some (b 3) = bytes 3 (omega arith) in
    rw (aligned, n1, n2, b0, b1, b2, b3) refl

-- words whose bytes stand in memory
low_number : (w : ℕ) → w < 2 ^ 32 → number_of (slice_index (low_bytes 4 w) 0 ∷ slice_index (low_bytes 4 w) 1
    ∷ slice_index (low_bytes 4 w) 2 ∷ slice_index (low_bytes 4 w) 3 ∷ []) ≡ w
low_number w small = omega arith

has_words : (m : List Range) (at : ℕ) (ws : List ℕ) → at % 4 ≡ 0 → All (λ w. w < 2 ^ 32) ws
    → ((i : ℕ) → i < 4 * length ws → byte_of m (at + i) ≡ Some (slice_index (flat_map (low_bytes 4) ws) i))
    → HasWords (words_of m) at ws
has_words m at [] aligned small bytes = tt
has_words m at (w ∷ ws) aligned small bytes = (
  first,
  has_words m (at + 4) ws (omega (arith, aligned)) (All-tail (λ w. w < 2 ^ 32) w ws small) rest,
)
  where
    first : words_of m at ≡ w
    first = ap (λ o. unwrap_or o 0) (loaded_is m at (slice_index (low_bytes 4 w)) aligned
        (λ k low. bytes k (omega (arith, low))
        ∙ ap Some (get_or_append_left (low_bytes 4 w) (flat_map (low_bytes 4) ws) 0 k low))
        ∙ ap Some (low_number w (All-head (λ w. w < 2 ^ 32) w ws small)))

    rest : (i : ℕ) → i < 4 * length ws
        → byte_of m (at + 4 + i) ≡ Some (slice_index (flat_map (low_bytes 4) ws) i)
    rest i low =
        let place : at + 4 + i ≡ at + (4 + i) = omega arith in
        let past : 4 ≤ 4 + i = omega arith in
        let index : 4 + i - 4 ≡ i = omega arith in
        ap (byte_of m) place ∙ (bytes (4 + i) (omega (arith, low))
        ∙ ap Some (get_or-append_right (low_bytes 4 w) (flat_map (low_bytes 4) ws) 4 (4 + i) 0 refl past
        ∙ ap (slice_index (flat_map (low_bytes 4) ws)) index))

-- the first words are words
idle_small : (n : ℕ) → All (λ w. w < 2 ^ 32) (idle_rows n)
idle_small zero = All-nil (λ w. w < 2 ^ 32)
idle_small (suc n) =
    All-cons (λ w. w < 2 ^ 32) none_word (0 ∷ 0 ∷ 0 ∷ idle_rows n) (omega arith)
    (All-cons (λ w. w < 2 ^ 32) 0 (0 ∷ 0 ∷ idle_rows n) (omega arith)
    (All-cons (λ w. w < 2 ^ 32) 0 (0 ∷ idle_rows n) (omega arith)
    (All-cons (λ w. w < 2 ^ 32) 0 (idle_rows n) (omega arith) (idle_small n))))

words_small : (area : Area) → granules area ≤ 1048576 → All (λ w. w < 2 ^ 32) (first_words area)
unfolding first_words
words_small area few =
    All-cons (λ w. w < 2 ^ 32) (cond (area.fallback == 0) none_word 0) (replicate 15 0 ++ tail)
    (head (area.fallback == 0))
    (All-append (λ w. w < 2 ^ 32) (replicate 15 0) tail (All-replicate (λ w. w < 2 ^ 32) 15 0 (omega arith))
    (All-append (λ w. w < 2 ^ 32) (replicate 16 none_word) (idle_rows area.chunks ++ last)
    (All-replicate (λ w. w < 2 ^ 32) 16 none_word (omega arith))
    (All-append (λ w. w < 2 ^ 32) (idle_rows area.chunks) last (idle_small area.chunks)
    (end (area.fallback == 0)))))
  where
    last : List ℕ
    last = cond (area.fallback == 0) [] (area.fallback ∷ none_word ∷ [])

    tail : List ℕ
    tail = replicate 16 none_word ++ (idle_rows area.chunks ++ last)

    head : (b : Bool) → cond b none_word 0 < 2 ^ 32
    head true = omega arith
    head false = omega arith

    end : (b : Bool) → All (λ w. w < 2 ^ 32) (cond b [] (area.fallback ∷ none_word ∷ []))
    end true = All-nil (λ w. w < 2 ^ 32)
    end false = All-cons (λ w. w < 2 ^ 32) area.fallback (none_word ∷ []) (omega (arith, few))
        (All-cons (λ w. w < 2 ^ 32) none_word [] (omega arith) (All-nil (λ w. w < 2 ^ 32)))

-- what the first words of tables spell, as a law says it
abbrev pub Firsts : Type 0
Firsts = (area : Area) (data_at : ℕ) (memory : ℕ → ℕ) → HasWords memory data_at (first_words area)
    → Spells area data_at memory (first_layout area)

-- the words of an entry are code
entry_code : (file : List ℕ) (name : HeapName) (e i : ℕ) → AcceptedFacts file → heap_entry file name ≡ Some e → i < 2
    → is_some (code_word file (e + 4 * i)) ≡ true
entry_code file name e zero facts there small =
    let same : e ≡ e + 4 * 0 = omega arith in
    subst (λ x. is_some (code_word file x) ≡ true) same (facts.heap name e there).0
entry_code file name e (suc zero) facts there small = (facts.heap name e there).1
entry_code file name e (suc (suc i)) facts there small = absurd (omega (arith, small))

-- a new file with the heap's words, and its memory
pub record IsHeapMade (file : List ℕ) (plan : Plan) (new words : List ℕ) (at : Entries) : Type 0 where
  pub patches : List Patch
  pub accepted : AcceptedFacts file
  pub fits : Fits file plan
  pub place : IsTextPlace file
  pub few : length words ≤ 4096
  pub memory : NewMemory file patches (heap_segments file plan words) new
  pub has : HasHeap file plan words
  pub tables : AreTables plan.area (data_at file)
  pub entries : (p : Patch) → IsAmong p (heap_patches file at) → IsAmong p patches

module _ (file : List ℕ) (plan : Plan) (new words : List ℕ) (at : Entries) (h : IsHeapMade file plan new words at) where
  abbrev code_lies : LiesIn (memory_of new) (words_at (text_at file)) (words_at (text_at file) + 4 * length words)
  code_lies = record {
    range = text_range (text_at file) (heap_text file plan words);
    there = λ a low high.
        let long : length (heap_text file plan words) ≡ 1536 + 4 * length words =
        length-heap_text file plan words h.fits in
        text_range_there file h.patches (heap_segments file plan words) (heap_text file plan words) new a
        h.accepted h.memory h.has.text h.place.above (omega (arith, low)) (omega (arith, high, long));
  }

  word_loaded : (k : ℕ) → k < length words
      → loaded (memory_of new) Word (words_at (text_at file) + 4 * k) ≡ Some (slice_index words k)
  word_loaded k low =
      let w : ℕ = slice_index words k in
      let long : length (heap_text file plan words) ≡ 1536 + 4 * length words =
      length-heap_text file plan words h.fits in
      loaded_is (memory_of new) (words_at (text_at file) + 4 * k) (slice_index (word_bytes w))
      (omega (arith, h.place.aligned))
      (λ j small. let place : words_at (text_at file) + 4 * k + j - text_at file ≡ 1536 + 4 * k + j = omega arith in
      text_byte_there file h.patches (heap_segments file plan words) (heap_text file plan words) new
      (words_at (text_at file) + 4 * k + j) h.accepted h.memory h.has.text h.place.above (omega arith)
      (omega (arith, long, low, small))
      ∙ ap Some (ap (slice_index (heap_text file plan words)) place
      ∙ heap_byte file plan words k j w h.fits (slice_get-get_or words k 0 low) small))
      ∙ ap Some (word_number w)

  data_range : (a : ℕ) → data_at file ≤ a → a < area_end plan.area (data_at file)
      → range_at (memory_of new) a ≡ Some (range_added (data_segment plan.area (data_at file)))
  data_range a low high =
      new_range file h.patches (heap_segments file plan words) new a h.accepted h.memory
      (omega (arith, h.place.above, low)) ∙ h.has.tables a low high

  table_byte : (i : ℕ) → i < 4 * length (first_words plan.area)
      → byte_of (memory_of new) (data_at file + i)
      ≡ Some (slice_index (flat_map (low_bytes 4) (first_words plan.area)) i)
  table_byte i low =
      let place : data_at file + i - data_at file ≡ i = omega arith in
      let bytes : List ℕ = first_tables plan.area in
      let size : length bytes ≡ 4 * length (first_words plan.area) = length-low (first_words plan.area) in
      let inside : i < length bytes = omega (arith, low, size) in
      let rest : List ℕ = replicate (area_end plan.area (data_at file) - data_at file - length bytes) 0 in
      byte_in (memory_of new) (data_at file + i) (range_added (data_segment plan.area (data_at file)))
      (data_range (data_at file + i) (omega arith) (omega (arith, inside, h.tables.fit, h.tables.up)))
      ∙ ap Some (ap (slice_index (bytes ++ rest)) place ∙ get_or_append_left bytes rest 0 i inside)

  entry_fetched : (name : HeapName) (e i w : ℕ) → heap_entry file name ≡ Some e
      → slice_get (heap_jump (entry_of at name) e) i ≡ Some w → fetched (memory_of new) (e + 4 * i) ≡ Some w
  entry_fetched name e i w there f =
      let (place, code) = place_of file (e + 4 * i)
      (entry_code file name e i h.accepted there (two_words (entry_of at name) e i w f)) in
      patched_fetched file h.patches (heap_segments file plan words) new (e + 4 * i) place w h.accepted h.memory code
      (h.entries (record { offset = place; word = w }) (entry_among file at name e i w place there f code))

  pub heap_ground : Firsts
      → ((name : HeapName) (e : ℕ) → heap_entry file name ≡ Some e → IsWord (text_at file) words (entry_of at name))
      → ServesHeap plan.rows plan.area (text_at file) (data_at file) words at → HeapGround file plan new
  heap_ground firsts reached serves = record {
    words = words;
    at = at;
    suits = suits file plan h.accepted h.fits;
    serves = serves;
    room = omega (arith, h.few);
    below_stack = omega (arith, h.place.low, end_below plan.area (data_at file) h.fits.chunks h.fits.area);
    code = record { lies = code_lies; executable = refl; writable = refl; stand = word_loaded };
    holds_data = record {
      lies = record { range = range_added (data_segment plan.area (data_at file)); there = data_range };
      writable = refl;
    };
    tables = firsts plan.area (data_at file) (words_of (memory_of new))
        (has_words (memory_of new) (data_at file) (first_words plan.area) (omega (arith, h.place.aligned))
        (words_small plan.area h.fits.area) table_byte);
    entry = λ name e there. facts_heap name e there;
    reached = reached;
    jump = entry_fetched;
  }
    where
      facts_heap : (name : HeapName) (e : ℕ) → heap_entry file name ≡ Some e
          → (is_some (code_word file e) ≡ true) × (is_some (code_word file (e + 4)) ≡ true)
      facts_heap name e there = h.accepted.heap name e there
