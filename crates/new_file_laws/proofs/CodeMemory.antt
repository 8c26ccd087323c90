-- The code words of an accepted file: where they are loaded, what they are, and which bytes of memory
-- are theirs.
use Rattle.std.proofs.Common.{◌≡◌, ℕ, ◌+◌, ◌-◌, ◌*◌, ◌/◌, ◌%◌, ◌^◌, ◌<◌, ◌≤◌, List, Bool, true, false, ◌&&◌}
use Rattle.std.proofs.Common.{if◌then◌else◌, length, refl, subst, arith}
use Rattle.std.specs.Prelude.{Option, Some, None, option_map, nat_eq, nat_le, nat_lt, slice_index, find, All}
use Rattle.std.specs.List.{list_any}
use Rattle.std.proofs.lemmas.Bool.Decides.{nat_tests}
use Rattle.std.proofs.lemmas.List.{get_or_past}
use Rattle.rv_isa.specs.declared.Instr.{Instr}
use Rattle.rv_isa.specs.Names.{names_register}
use Rattle.rv_isa.specs.Table.{decoded}
use Rattle.elf_spec.specs.declared.Section.{Section}
use Rattle.elf_spec.specs.declared.Segment.{Segment}
use Rattle.elf_spec.specs.Code.{code_place, code_word, holds_address, holds_word, is_executable}
use Rattle.elf_spec.specs.Fields.{is_set, word_at}
use Rattle.elf_spec.specs.Memory.{is_loaded}
use Rattle.elf_spec.specs.Records.{sections_of, segments_of}
use Rattle.sym_spec.specs.Plain.{is_code_byte}
use Rattle.elf_write.specs.Places.{InFile, place_at}
use Rattle.exec_image.specs.Accepted.{AcceptedFacts, IsCodeAt, IsWords}
use Rattle.exec_image.specs.Checks.{uses_tp_at}
use Rattle.new_file_laws.proofs.Finding.{found_passes, found_some}
use Rattle.new_file_laws.proofs.Segments.{IsLoadedAt, IsLoadedBy, IsOneOf, all_of, any_of, found_one}
use Rattle.new_file_laws.proofs.Segments.{loaded_place, some_one}

-- where a code word is
pub code_there : (file : List ℕ) (a w : ℕ) → code_word file a ≡ Some w
    → (place : ℕ) × (code_place file a ≡ Some place) × (word_at file place ≡ w)
code_there file a w e = at (code_place file a) refl e
  where
    at : (o : Option ℕ) → code_place file a ≡ o → option_map (word_at file) o ≡ Some w
        → (place : ℕ) × (code_place file a ≡ Some place) × (word_at file place ≡ w)
    at None q e = absurd (cc)
    at (Some place) q e = (place, q, cc)

-- the segment of code that loads the bytes of a code word
pub record IsCodeSegment (file : List ℕ) (a place : ℕ) (g : Segment) : Type 0 where
  pub among : IsOneOf g (segments_of file)
  pub runs : is_set 1 g.flags ≡ true
  pub loads : (k : ℕ) → k < 4 → IsLoadedBy g (a + k) (place + k)

pub code_segment : (file : List ℕ) (a place : ℕ) → IsCodeAt file a place → (g : Segment) × IsCodeSegment file a place g
code_segment file a place code = at (some_one _ (segments_of file) code.loaded)
  where
    at : (g : Segment) × IsOneOf g (segments_of file) × ((is_loaded g ≡ true) × (is_set 1 g.flags ≡ true)
        × (g.vaddr ≤ a) × (a + 4 ≤ g.vaddr + g.file_size) × (place + g.vaddr ≡ g.offset + a))
        → (g : Segment) × IsCodeSegment file a place g
    at (g, one, (l, x, low, high, offset)) = (
      g,
      record {
        among = one;
        runs = x;
        loads = λ k small. record {
          loaded = l;
          low = omega (arith, low);
          high = omega (arith, high, small);
          offset =
              omega (arith, offset);
        };
      },
    )

pub code_loaded : (file : List ℕ) (a place k : ℕ) → AcceptedFacts file → code_place file a ≡ Some place → k < 4
    → IsLoadedAt file (a + k) (place + k)
code_loaded file a place k facts e small =
    let (g, s) = code_segment file a place (facts.code a place e) in
    (g, s.among, s.loads k small)

pub code_offset : (file : List ℕ) (a place k : ℕ) → AcceptedFacts file → code_place file a ≡ Some place → k < 4
    → place_at (segments_of file) (a + k) ≡ Some (InFile (place + k))
code_offset file a place k facts e small =
    loaded_place file (a + k) (place + k) facts.facts (code_loaded file a place k facts e small)

-- code words are words, at multiples of 4, below the image's end, and name no x4
pub word_small : (file : List ℕ) (at : ℕ) → All (λ b. b < 256) file → word_at file at < 2 ^ 32
unfolding word_at
word_small file at bytes = omega (arith, small at, small (at + 1), small (at + 2), small (at + 3))
  where
    small : (i : ℕ) → slice_index file i < 256
    small i = decide (nat_lt i (length file)) refl
      where
        decide : (b : Bool) → nat_lt i (length file) ≡ b → slice_index file i < 256
        decide true e = bytes i 0 (grind (arith, nat_tests))
        decide false e =
            let past : slice_index file i ≡ 0 = get_or_past file i 0 (grind (arith, nat_tests)) in omega (arith, past)

pub code_small : (file : List ℕ) (a w : ℕ) → All (λ b. b < 256) file → code_word file a ≡ Some w → w < 2 ^ 32
code_small file a w bytes e =
    let (place, there, value) = code_there file a w e in
    subst (λ x. x < 2 ^ 32) value (word_small file place bytes)

pub code_aligned : (file : List ℕ) (a w : ℕ) → AcceptedFacts file → code_word file a ≡ Some w → a % 4 ≡ 0
code_aligned file a w facts e = let (place, there, value) = code_there file a w e in (facts.code a place there).aligned

pub code_names : (file : List ℕ) (a w : ℕ) (i : Instr) → AcceptedFacts file → code_word file a ≡ Some w
    → decoded w ≡ Some i → names_register i 4 ≡ false
unfolding uses_tp_at
code_names file a w i facts e d = let free : uses_tp_at file a ≡ false = facts.no_tp a in rw (e, d) at free

-- the bytes of a code word are code, and each byte of code is one of a code word
word_byte : (x : Bool) (s n a k : ℕ) → (x && (nat_le s a && nat_le (a + 4) (s + n))) ≡ true → a ≤ k → k < a + 4
    → (x && (nat_le s k && nat_lt k (s + n))) ≡ true
word_byte true s n a k e low high = grind (arith, nat_tests)
word_byte false s n a k e low high = absurd (cc)

section_of : (file : List ℕ) (a place : ℕ) → code_place file a ≡ Some place
    → (s : Section) × (find (λ s. is_executable s && holds_word a s) (sections_of file) ≡ Some s)
unfolding code_place
section_of file a place e = at (nat_eq (a % 4) 0)
    (find (λ s. is_executable s && holds_word a s) (sections_of file)) refl e
  where
    at : (b : Bool) (o : Option Section) → find (λ s. is_executable s && holds_word a s) (sections_of file) ≡ o
        → (if b then option_map (λ s. s.offset + (a - s.addr)) o else None) ≡ Some place
        → (s : Section) × (find (λ s. is_executable s && holds_word a s) (sections_of file) ≡ Some s)
    at true (Some s) q e = (s, q)
    at true None q e = absurd (cc)
    at false o q e = absurd (cc)

pub code_bytes : (file : List ℕ) (a place k : ℕ) → code_place file a ≡ Some place → a ≤ k → k < a + 4
    → is_code_byte file k ≡ true
code_bytes file a place k e low high =
    let (s, found) = section_of file a place e in
    any_of (λ s. is_executable s && holds_address k s) (sections_of file) s
    (found_one (λ s. is_executable s && holds_word a s) (sections_of file) s found)
    (word_byte (is_executable s) s.addr s.size a k
    (found_passes (λ s. is_executable s && holds_word a s) (sections_of file) s found) low high)

-- an address of an executable section of whole words is one of a word in it
address_word : (x : Bool) (s n a : ℕ) → (x && (nat_le s a && nat_lt a (s + n))) ≡ true
    → (x ≡ true → (s % 4 ≡ 0) × (n % 4 ≡ 0))
    → (x && (nat_le s (a / 4 * 4) && nat_le (a / 4 * 4 + 4) (s + n))) ≡ true
address_word true s n a e words =
    let (i, j) = words refl in
    let l : s ≤ a = grind (arith, nat_tests) in
    let h : a < s + n = grind (arith, nat_tests) in
    let low : s ≤ a / 4 * 4 = omega (arith, l, i) in
    let high : a / 4 * 4 + 4 ≤ s + n = omega (arith, h, i, j) in
    grind (arith, nat_tests)
address_word false s n a e words = absurd (cc)

some_place : (file : List ℕ) (a : ℕ) → a % 4 ≡ 0
    → list_any (λ s. is_executable s && holds_word a s) (sections_of file) ≡ true
    → (place : ℕ) × (code_place file a ≡ Some place)
unfolding code_place
some_place file a aligned e =
    let (s, found) = found_some (λ s. is_executable s && holds_word a s) (sections_of file) e in
    (s.offset + (a - s.addr), rw (aligned, found) refl)

pub byte_word : (file : List ℕ) (a : ℕ) → AcceptedFacts file → is_code_byte file a ≡ true
    → (place : ℕ) × (code_place file (a / 4 * 4) ≡ Some place)
byte_word file a facts e =
    let (s, found) = found_some (λ s. is_executable s && holds_address a s) (sections_of file) e in
    let one : IsOneOf s (sections_of file) = found_one (λ s. is_executable s && holds_address a s)
    (sections_of file) s found in
    some_place file (a / 4 * 4) (omega arith)
    (any_of (λ s. is_executable s && holds_word (a / 4 * 4) s) (sections_of file) s one
    (address_word (is_executable s) s.addr s.size a
    (found_passes (λ s. is_executable s && holds_address a s) (sections_of file) s found)
    (all_of IsWords (sections_of file) s facts.words one)))
