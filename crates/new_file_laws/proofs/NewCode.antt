-- What is fetched from the memory of a new file: code words without a patch as in the source, patched
-- words, and the words of the new text.
use Rattle.std.proofs.Common.{◌≡◌, ◌⊎◌, ℕ, ◌+◌, ◌-◌, ◌%◌, ◌<◌, ◌≤◌, List, [], ◌∷◌, ◌++◌, true, length, get_or, map}
use Rattle.std.proofs.Common.{refl, ap, sym, ◌∙◌, subst, arith, inl, inr}
use Rattle.std.specs.Prelude.{Some, option_map, replicate, slice_index, filter, All, Any}
use Rattle.std.proofs.lemmas.List.{get_or_append_left, map-append}
use Rattle.elf_spec.specs.declared.NewSegment.{NewSegment}
use Rattle.elf_spec.specs.declared.Patch.{Patch}
use Rattle.elf_spec.specs.declared.Segment.{Segment}
use Rattle.elf_spec.specs.Code.{code_place}
use Rattle.elf_spec.specs.Fields.{byte_at, is_set, word_at, word_bytes}
use Rattle.elf_spec.specs.Memory.{image_end, is_loaded}
use Rattle.elf_spec.specs.Records.{segments_of}
use Rattle.elf_spec.specs.NewFile.{front}
use Rattle.elf_read.specs.Readable.{IsLoadedInside, ReadableFacts}
use Rattle.site_spec.specs.Places.{text_at}
use Rattle.machine_spec.specs.Memory.{Range, shape_of, memory_of, range_at, range_of, byte_of}
use Rattle.machine_spec.specs.Widths.{number_of}
use Rattle.flat_spec.specs.Stores.{allows_fetch, allows_store, fetched}
use Rattle.flat_spec.proofs.Memories.{same_executable, same_writable}
use Rattle.sym_spec.specs.Plain.{is_in}
use Rattle.elf_write.specs.Layout.{IsBeside, IsKept}
use Rattle.elf_write.specs.NewMemory.{NewMemory, ranges_behind}
use Rattle.elf_write.specs.Places.{InFile, place_at}
use Rattle.exec_image.specs.Accepted.{AcceptedFacts}
use Rattle.new_file_laws.proofs.Segments.{IsOneOf, all_of, in_segment, loaded_inside, none_above, range_is, range_or}
use Rattle.new_file_laws.proofs.Segments.{range_there, some_one}
use Rattle.new_file_laws.proofs.CodeWords.{behind_header}
use Rattle.new_file_laws.proofs.Behind.{HasText, text_range}
use Rattle.new_file_laws.proofs.CodeMemory.{code_loaded, code_offset, code_segment}

-- ranges whose flags are those of the new file's memory
abbrev pub like_new : List ℕ → List NewSegment → List Range
like_new file segments = map (range_of file) (filter is_loaded (segments_of file)) ++ ranges_behind segments

pub same_shapes : (file : List ℕ) (patches : List Patch) (segments : List NewSegment) (new : List ℕ)
    → NewMemory file patches segments new
    → map shape_of (memory_of new) ≡ map shape_of (like_new file segments)
same_shapes file patches segments new m =
    m.shapes ∙ sym (map-append shape_of (map (range_of file) (filter is_loaded (segments_of file)))
    (ranges_behind segments))

runs_there : (file : List ℕ) (patches : List Patch) (segments : List NewSegment) (new : List ℕ) (a : ℕ) (g : Segment)
    → ReadableFacts file → NewMemory file patches segments new
    → IsOneOf g (segments_of file) → is_in a g ≡ true → is_set 1 g.flags ≡ true
    → allows_fetch (range_at (memory_of new) a) ≡ true
runs_there file patches segments new a g facts m one is flag =
    same_executable (memory_of new) (like_new file segments) a (same_shapes file patches segments new m)
    ∙ (ap allows_fetch (range_there file (ranges_behind segments) a g facts one is) ∙ flag)

pub stores_there : (file : List ℕ) (patches : List Patch) (segments : List NewSegment) (new : List ℕ) (a : ℕ)
    (g : Segment) → ReadableFacts file → NewMemory file patches segments new
    → IsOneOf g (segments_of file) → is_in a g ≡ true → is_set 2 g.flags ≡ true
    → allows_store (range_at (memory_of new) a) ≡ true
stores_there file patches segments new a g facts m one is flag =
    same_writable (memory_of new) (like_new file segments) a (same_shapes file patches segments new m)
    ∙ (ap allows_store (range_there file (ranges_behind segments) a g facts one is) ∙ flag)

pub byte_in : (m : List Range) (a : ℕ) (r : Range) → range_at m a ≡ Some r
    → byte_of m a ≡ Some (slice_index r.bytes (a - r.start))
unfolding byte_of
byte_in m a r e = ap (option_map (λ r. slice_index r.bytes (a - r.start))) e

-- a word is fetched where its four bytes may be run
fetched_is : (m : List Range) (a : ℕ) (b : ℕ → ℕ) → a % 4 ≡ 0
    → ((k : ℕ) → k < 4 → allows_fetch (range_at m (a + k)) ≡ true)
    → ((k : ℕ) → k < 4 → byte_of m (a + k) ≡ Some (b k)) → fetched m a ≡ Some (number_of (b 0 ∷ b 1 ∷ b 2 ∷ b 3 ∷ []))
unfolding fetched
fetched_is m a b aligned runs bytes =
    let z : a + 0 ≡ a = omega arith in
    let n1 : a + 1 + 1 ≡ a + 2 = omega arith in
    let n2 : a + 2 + 1 ≡ a + 3 = omega arith in
    let r0 : allows_fetch (range_at m a) ≡ true =
    subst (λ x. allows_fetch (range_at m x) ≡ true) z (runs 0 (omega arith)) in
    let r1 : allows_fetch (range_at m (a + 1)) ≡ true = runs 1 (omega arith) in
    let r2 : allows_fetch (range_at m (a + 2)) ≡ true = runs 2 (omega arith) in
    let r3 : allows_fetch (range_at m (a + 3)) ≡ true = runs 3 (omega arith) in
    let b0 : byte_of m a ≡ Some (b 0) = subst (λ x. byte_of m x ≡ Some (b 0)) z (bytes 0 (omega arith)) in
    let b1 : byte_of m (a + 1) ≡ Some (b 1) = bytes 1 (omega arith) in
    let b2 : byte_of m (a + 2) ≡ Some (b 2) = bytes 2 (omega arith) in
    let b3 : byte_of m (a + 3) ≡ Some (b 3) = bytes 3 (omega arith) in
    rw (aligned, n1, n2, r0, r1, r2, r3, b0, b1, b2, b3) refl

-- the four bytes of a word, in a file and by themselves
file_number : (file : List ℕ) (at : ℕ) → number_of
    (byte_at file (at + 0) ∷ byte_at file (at + 1) ∷ byte_at file (at + 2) ∷ byte_at file (at + 3) ∷ [])
    ≡ word_at file at
unfolding word_at
file_number file at = let z : at + 0 ≡ at = omega arith in rw z (omega arith)

pub word_number : (w : ℕ) → number_of (slice_index (word_bytes w) 0 ∷ slice_index (word_bytes w) 1 ∷ slice_index
    (word_bytes w) 2 ∷ slice_index (word_bytes w) 3 ∷ []) ≡ w
unfolding word_bytes
word_number w = omega arith

code_runs : (file : List ℕ) (patches : List Patch) (segments : List NewSegment) (new : List ℕ) (a place k : ℕ)
    → AcceptedFacts file → NewMemory file patches segments new
    → code_place file a ≡ Some place → k < 4 → allows_fetch (range_at (memory_of new) (a + k)) ≡ true
code_runs file patches segments new a place k facts m e small =
    let (g, s) = code_segment file a place (facts.code a place e) in
    runs_there file patches segments new (a + k) g facts.facts m s.among
    (in_segment file (a + k) (place + k) g facts.facts s.among (s.loads k small)) s.runs

-- a code word that no patch meets
pub unpatched_fetched : (file : List ℕ) (patches : List Patch) (segments : List NewSegment) (new : List ℕ) (a place : ℕ)
    → AcceptedFacts file → NewMemory file patches segments new
    → code_place file a ≡ Some place → All (λ p. (place + 4 ≤ p.offset) ⊎ (p.offset + 4 ≤ place)) patches
    → fetched (memory_of new) a ≡ Some (word_at file place)
unpatched_fetched file patches segments new a place facts m e apart =
    fetched_is (memory_of new) a (λ k. byte_at file (place + k)) (facts.code a place e).aligned
    (λ k small. code_runs file patches segments new a place k facts m e small)
    (λ k small. m.kept (a + k) (place + k) (code_offset file a place k facts e small) (kept k small)
    ∙ m.before (a + k) (InFile (place + k)) (code_offset file a place k facts e small))
    ∙ ap Some (file_number file place)
  where
    behind : 52 ≤ place
    behind = behind_header file a place facts e

    beside : (k o : ℕ) → k < 4 → (place + 4 ≤ o) ⊎ (o + 4 ≤ place) → IsBeside o 4 (place + k)
    beside k o small (inl below) = inl (omega (arith, small, below))
    beside k o small (inr above) = inr (omega (arith, above))

    kept : (k : ℕ) → k < 4 → IsKept (length file) patches (place + k)
    kept k small = record {
      inside = loaded_inside file (a + k) (place + k) facts.facts (code_loaded file a place k facts e small);
      no_phoff = inr (omega (arith, behind));
      no_phnum = inr (omega (arith, behind));
      no_patch = λ j d l. beside k (get_or patches j d).offset small (apart j d l);
    }

-- a patched code word
pub patched_fetched : (file : List ℕ) (patches : List Patch) (segments : List NewSegment) (new : List ℕ) (a place w : ℕ)
    → AcceptedFacts file → NewMemory file patches segments new
    → code_place file a ≡ Some place → Any (λ p. p ≡ record { offset = place; word = w }) patches
    → fetched (memory_of new) a ≡ Some w
patched_fetched file patches segments new a place w facts m e some =
    fetched_is (memory_of new) a (λ k. slice_index (word_bytes w) k) (facts.code a place e).aligned
    (λ k small. code_runs file patches segments new a place k facts m e small)
    (λ k small. puts (some_one (λ p. p ≡ record { offset = place; word = w }) patches some) k small)
    ∙ ap Some (word_number w)
  where
    Puts : Patch → Type 0
    Puts p = (x k : ℕ) → k < 4 → place_at (segments_of file) x ≡ Some (InFile (p.offset + k))
        → byte_of (memory_of new) x ≡ Some (slice_index (word_bytes p.word) k)

    puts : (p : Patch) × IsOneOf p patches × (p ≡ record { offset = place; word = w }) → (k : ℕ) → k < 4
        → byte_of (memory_of new) (a + k) ≡ Some (slice_index (word_bytes w) k)
    puts (p, one, same) k small = (subst Puts same (all_of Puts patches p m.patched one)) (a + k) k small
        (code_offset file a place k facts e small)

-- behind the image there are the added ranges and the stack
pub new_range : (file : List ℕ) (patches : List Patch) (segments : List NewSegment) (new : List ℕ) (a : ℕ)
    → AcceptedFacts file → NewMemory file patches segments new → image_end (segments_of file) ≤ a
    → range_at (memory_of new) a ≡ range_at (ranges_behind segments) a
new_range file patches segments new a facts m high =
    let old : List ℕ = front file patches (length segments) in
    let inside : All (IsLoadedInside (length old)) (segments_of file) =
    subst (λ n. All (IsLoadedInside n) (segments_of file)) (sym m.front_length)
    facts.facts.segments in
    ap (λ x. range_at x a) m.ranges
    ∙ (range_is old (segments_of file) (ranges_behind segments) a inside
    ∙ ap (λ o. range_or old o (range_at (ranges_behind segments) a)) (none_above file a facts high))

-- an address of the new text has its range, and its byte
pub text_range_there : (file : List ℕ) (patches : List Patch) (segments : List NewSegment) (text new : List ℕ) (a : ℕ)
    → AcceptedFacts file → NewMemory file patches segments new → HasText file text segments
    → image_end (segments_of file) ≤ text_at file → text_at file ≤ a → a < text_at file + length text
    → range_at (memory_of new) a ≡ Some (text_range (text_at file) text)
text_range_there file patches segments text new a facts m has end low high =
    new_range file patches segments new a facts m (omega (arith, end, low)) ∙ has.there a low high

pub text_byte_there : (file : List ℕ) (patches : List Patch) (segments : List NewSegment) (text new : List ℕ) (a : ℕ)
    → AcceptedFacts file → NewMemory file patches segments new → HasText file text segments
    → image_end (segments_of file) ≤ text_at file → text_at file ≤ a → a < text_at file + length text
    → byte_of (memory_of new) a ≡ Some (slice_index text (a - text_at file))
text_byte_there file patches segments text new a facts m has end low high =
    byte_in (memory_of new) a (text_range (text_at file) text)
    (text_range_there file patches segments text new a facts m has end low high)
    ∙ ap Some (get_or_append_left text (replicate (length text - length text) 0) 0 (a - text_at file)
    (omega (arith, low, high)))

-- a word of the new text
pub text_fetched : (file : List ℕ) (patches : List Patch) (segments : List NewSegment) (text new : List ℕ) (a w : ℕ)
    → AcceptedFacts file → NewMemory file patches segments new → HasText file text segments
    → image_end (segments_of file) ≤ text_at file → a % 4 ≡ 0 → text_at file ≤ a → a + 4 ≤ text_at file + length text
    → ((k : ℕ) → k < 4 → slice_index text (a - text_at file + k) ≡ slice_index (word_bytes w) k)
    → fetched (memory_of new) a ≡ Some w
text_fetched file patches segments text new a w facts m has end aligned low high same =
    fetched_is (memory_of new) a (λ k. slice_index (word_bytes w) k) aligned
    (λ k small. ap allows_fetch (text_range_there file patches segments text new (a + k) facts m has end
    (omega (arith, low)) (omega (arith, high, small))))
    (λ k small. let place : a + k - text_at file ≡ a - text_at file + k = omega (arith, low) in
    text_byte_there file patches segments text new (a + k) facts m has end (omega (arith, low))
    (omega (arith, high, small)) ∙ ap Some (ap (slice_index text) place ∙ same k small))
    ∙ ap Some (word_number w)
