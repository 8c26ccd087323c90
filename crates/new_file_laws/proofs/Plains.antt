-- The plain bytes of an accepted file in the memory of its new file: as in the source, and to be
-- stored to as there.
use Rattle.std.proofs.Common.{◌≡◌, ◌⊎◌, ℕ, ◌+◌, ◌-◌, ◌*◌, ◌/◌, ◌%◌, ◌<◌, ◌≤◌, List, [], ◌∷◌, Bool, true, false, not}
use Rattle.std.proofs.Common.{◌&&◌, ◌||◌, get_or, max, refl, ap, sym, ◌∙◌, subst, arith, inl, inr}
use Rattle.std.specs.Prelude.{Some, None, is_some, nat_le, nat_lt, All}
use Rattle.std.specs.List.{list_any}
use Rattle.std.proofs.lemmas.Bool.Decides.{nat_tests}
use Rattle.elf_spec.specs.declared.Patch.{Patch}
use Rattle.elf_spec.specs.declared.NewSegment.{NewSegment}
use Rattle.elf_spec.specs.declared.Segment.{Segment}
use Rattle.elf_spec.specs.Code.{code_place}
use Rattle.elf_spec.specs.Fields.{is_set}
use Rattle.elf_spec.specs.Memory.{image_end, is_loaded}
use Rattle.elf_spec.specs.NewFile.{up4096}
use Rattle.elf_spec.specs.Records.{segments_of}
use Rattle.site_spec.specs.Places.{text_at}
use Rattle.machine_spec.specs.Memory.{stack, memory_of, range_at, byte_of}
use Rattle.flat_spec.specs.Stores.{allows_store}
use Rattle.sym_spec.specs.Plain.{is_code_byte, is_header_byte, is_in, is_plain, is_plain_store, is_stack}
use Rattle.elf_write.specs.Layout.{IsBeside}
use Rattle.elf_write.specs.NewMemory.{NewMemory, ranges_behind}
use Rattle.elf_write.specs.Places.{place_at, place_in}
use Rattle.exec_image.specs.Accepted.{AcceptedFacts}
use Rattle.new_file_laws.proofs.Finding.{found_passes, found_some}
use Rattle.new_file_laws.proofs.CodeWords.{IsOfCode}
use Rattle.new_file_laws.proofs.Segments.{IsLoadedAt, IsLoadedBy, IsOneOf, any_of, below_image_end, found_one}
use Rattle.new_file_laws.proofs.Segments.{loaded_inside, one_address, place_above, place_there}
use Rattle.new_file_laws.proofs.CodeMemory.{byte_word, code_bytes, code_loaded}
use Rattle.new_file_laws.proofs.Behind.{HasText, OnStack, stack_there, stack_writable}
use Rattle.new_file_laws.proofs.NewCode.{byte_in, new_range, stores_there}

-- where the new text stands
pub record IsTextPlace (file : List ℕ) : Type 0 where
  pub above : image_end (segments_of file) ≤ text_at file
  pub low : text_at file ≤ 0x70001000
  pub aligned : text_at file % 4 ≡ 0
  pub page : text_at file % 4096 ≡ 0

pub text_place : (file : List ℕ) → image_end (segments_of file) ≤ 0x70000000 → IsTextPlace file
text_place file low = record {
  above = up_above (image_end (segments_of file));
  low = up_low (image_end (segments_of file)) low;
  aligned = up_aligned (max 65536 (image_end (segments_of file)));
  page = up_page (max 65536 (image_end (segments_of file)));
}
  where
    up_above : (n : ℕ) → n ≤ up4096 (max 65536 n)
    up_above n = omega arith

    up_low : (n : ℕ) → n ≤ 0x70000000 → up4096 (max 65536 n) ≤ 0x70001000
    up_low n l = omega arith

    up_aligned : (n : ℕ) → up4096 n % 4 ≡ 0
    up_aligned n = omega arith

    up_page : (n : ℕ) → up4096 n % 4096 ≡ 0
    up_page n = omega arith

-- a plain byte of the image
pub record InImage (file : List ℕ) (a : ℕ) : Type 0 where
  pub segment : Segment
  pub among : IsOneOf segment (segments_of file)
  pub is : is_in a segment ≡ true
  pub no_code : is_code_byte file a ≡ false
  pub no_header : is_header_byte a segment ≡ false

on_stack : (a : ℕ) → is_stack a ≡ true → OnStack a
on_stack a h = (grind (arith, nat_tests), grind (arith, nat_tests))

plain_cases : (s i c h : Bool) → (s || (i && (not c && not h))) ≡ true
    → (s ≡ true) ⊎ ((i ≡ true) × (c ≡ false) × (h ≡ false))
plain_cases true i c h e = inl refl
plain_cases false true false false e = inr (refl, refl, refl)
plain_cases false true false true e = absurd (cc)
plain_cases false true true h e = absurd (cc)
plain_cases false false c h e = absurd (cc)

none_of : {X : Type 0} (p : X → Bool) (xs : List X) (x : X) → IsOneOf x xs → list_any p xs ≡ false → p x ≡ false
none_of p xs x one none = at (p x) refl
  where
    at : (b : Bool) → p x ≡ b → b ≡ false
    at false e = refl
    at true e = sym (any_of p xs x one e) ∙ none

-- a plain byte lies on the stack or in the image
pub plain_where : (file : List ℕ) (a : ℕ) → is_plain file a ≡ true → OnStack a ⊎ InImage file a
unfolding is_plain
plain_where file a plain =
    at (plain_cases (is_stack a) (list_any (is_in a) (segments_of file)) (is_code_byte file a)
    (list_any (is_header_byte a) (segments_of file)) plain)
  where
    at : (is_stack a ≡ true) ⊎ ((list_any (is_in a) (segments_of file) ≡ true) × (is_code_byte file a ≡ false)
        × (list_any (is_header_byte a) (segments_of file) ≡ false))
        → OnStack a ⊎ InImage file a
    at (inl s) = inl (on_stack a s)
    at (inr (some, code, header)) =
        let (g, found) = found_some (is_in a) (segments_of file) some in
        let one : IsOneOf g (segments_of file) = found_one (is_in a) (segments_of file) g found in
        inr (record {
          segment = g;
          among = one;
          is = found_passes (is_in a) (segments_of file) g found;
          no_code = code;
          no_header = none_of (is_header_byte a) (segments_of file) g one header;
        })

-- no byte of code lies on the stack
pub plain_data : (file : List ℕ) (a : ℕ) → AcceptedFacts file → is_plain file a ≡ true → is_code_byte file a ≡ false
plain_data file a facts plain = at (plain_where file a plain)
  where
    stack_data : OnStack a → (b : Bool) → is_code_byte file a ≡ b → b ≡ false
    stack_data on false e = refl
    stack_data (low, high) true e =
        let (place, there) = byte_word file a facts e in
        let below : a / 4 * 4 + 4 ≤ image_end (segments_of file) = facts.code_end (a / 4 * 4) place there in
        absurd (omega (arith, below, facts.end, low))

    at : OnStack a ⊎ InImage file a → is_code_byte file a ≡ false
    at (inl on) = stack_data on (is_code_byte file a) refl
    at (inr image) = image.no_code

pub plain_apart : (file : List ℕ) (a : ℕ) → AcceptedFacts file → IsTextPlace file → is_plain file a ≡ true
    → (a < text_at file) ⊎ (0x7FF00000 ≤ a)
plain_apart file a facts text plain = at (plain_where file a plain)
  where
    at : OnStack a ⊎ InImage file a → (a < text_at file) ⊎ (0x7FF00000 ≤ a)
    at (inl (low, high)) = inr low
    at (inr image) =
        let below : a < image_end (segments_of file) =
        below_image_end file a image.segment facts image.among image.is in
        inl (omega (arith, below, text.above))

-- the place of a plain byte of the image is kept in the new file
past_header : (b : Bool) (e i a : ℕ) → b ≡ true → a < e → (b && (nat_lt a e && nat_lt i 52)) ≡ false → 52 ≤ i
past_header true e i a t l h = let x : nat_lt a e ≡ true = grind (arith, nat_tests) in let y : nat_lt i 52 ≡ false =
    rw x at h in grind (arith, nat_tests)
past_header false e i a t l h = absurd (cc)

beside_code : (file : List ℕ) (a i b o : ℕ) → AcceptedFacts file → is_code_byte file a ≡ false → IsLoadedAt file a i
    → code_place file b ≡ Some o → IsBeside o 4 i
beside_code file a i b o facts plain loaded there = by_order (nat_lt i o) (nat_lt i (o + 4)) refl refl
  where
    by_order : (s t : Bool) → nat_lt i o ≡ s → nat_lt i (o + 4) ≡ t → IsBeside o 4 i
    by_order true t e f = inl (grind (arith, nat_tests))
    by_order false false e f = inr (grind (arith, nat_tests))
    by_order false true e f =
        let l : o ≤ i = grind (arith, nat_tests) in
        let h : i < o + 4 = grind (arith, nat_tests) in
        let small : i - o < 4 = omega (arith, l, h) in
        let same : o + (i - o) ≡ i = omega (arith, l) in
        let word : IsLoadedAt file (b + (i - o)) i =
        subst (IsLoadedAt file (b + (i - o))) same (code_loaded file b o (i - o) facts there small) in
        let at : a ≡ b + (i - o) = one_address file a (b + (i - o)) i facts.facts loaded word in
        let code : is_code_byte file a ≡ true = code_bytes file b o a there (omega (arith, at))
        (omega (arith, at, small)) in
        absurd (let clash : true ≡ false = sym code ∙ plain in cc)

image_same : (file : List ℕ) (patches : List Patch) (segments : List NewSegment) (new : List ℕ) (a : ℕ)
    → AcceptedFacts file → NewMemory file patches segments new
    → All (IsOfCode file) patches → InImage file a → byte_of (memory_of new) a ≡ byte_of (memory_of file) a
image_same file patches segments new a facts m code image =
    at (nat_lt (a - image.segment.vaddr) image.segment.file_size) refl
  where
    bounds : (b : Bool) (v n a : ℕ) → (b && (nat_le v a && nat_lt a (v + n))) ≡ true → (b ≡ true) × (v ≤ a)
    bounds true v n a e = (refl, grind (arith, nat_tests))
    bounds false v n a e = absurd (cc)

    there : place_at (segments_of file) a ≡ Some (place_in image.segment a)
    there = place_there file a image.segment facts.facts image.among image.is

    at : (b : Bool) → nat_lt (a - image.segment.vaddr) image.segment.file_size ≡ b
        → byte_of (memory_of new) a ≡ byte_of (memory_of file) a
    at false e = m.zeros a (there ∙ rw e refl)
    at true e =
        let (l, low) = bounds (is_loaded image.segment) image.segment.vaddr image.segment.mem_size a image.is in
        let part : a - image.segment.vaddr < image.segment.file_size = grind (arith, nat_tests) in
        let by : IsLoadedBy image.segment a (image.segment.offset + (a - image.segment.vaddr)) =
        record { loaded = l; low = low; high = omega (arith, part, low); offset = omega (arith, low) } in
        let behind : 52 ≤ image.segment.offset + (a - image.segment.vaddr) =
        past_header (is_in a image.segment) (image.segment.vaddr + image.segment.file_size)
        (image.segment.offset + (a - image.segment.vaddr)) a image.is (omega (arith, part, low)) image.no_header in
        m.kept a (image.segment.offset + (a - image.segment.vaddr)) (there ∙ rw e refl) (record {
          inside = loaded_inside file a (image.segment.offset + (a - image.segment.vaddr)) facts.facts
              (image.segment, image.among, by);
          no_phoff = inr (omega (arith, behind));
          no_phnum = inr (omega (arith, behind));
          no_patch = λ j d k. beside_code file a (image.segment.offset + (a - image.segment.vaddr)) (code j d k).0
              (get_or patches j d).offset facts image.no_code (image.segment, image.among, by) (code j d k).1;
        })

above_image : (file : List ℕ) (a : ℕ) → IsTextPlace file → OnStack a → image_end (segments_of file) ≤ a
above_image file a text on = omega (arith, text.above, text.low, on.0)

-- the stack is as in the source
stack_byte : (file : List ℕ) (patches : List Patch) (segments : List NewSegment) (text new : List ℕ) (a : ℕ)
    → AcceptedFacts file → IsTextPlace file → HasText file text segments
    → NewMemory file patches segments new → OnStack a
    → (byte_of (memory_of new) a ≡ byte_of (stack ∷ []) a) × (byte_of (memory_of file) a ≡ byte_of (stack ∷ []) a)
stack_byte file patches segments text new a facts place has m on =
    let none : place_at (segments_of file) a ≡ None = place_above file a facts (above_image file a place on) in (
      m.beside a none ∙ (byte_in (ranges_behind segments) a stack (has.stack a on)
          ∙ sym (byte_in (stack ∷ []) a stack (stack_there a on))),
      m.beside_before a none,
    )

pub plain_same : (file : List ℕ) (patches : List Patch) (segments : List NewSegment) (text new : List ℕ) (a : ℕ)
    → AcceptedFacts file → IsTextPlace file → HasText file text segments → NewMemory file patches segments new
    → All (IsOfCode file) patches
    → is_plain file a ≡ true → byte_of (memory_of new) a ≡ byte_of (memory_of file) a
plain_same file patches segments text new a facts place has m code plain = at (plain_where file a plain)
  where
    at : OnStack a ⊎ InImage file a → byte_of (memory_of new) a ≡ byte_of (memory_of file) a
    at (inl on) = let (x, y) = stack_byte file patches segments text new a facts place has m on in x ∙ sym y
    at (inr image) = image_same file patches segments new a facts m code image

pub plain_there : (file : List ℕ) (patches : List Patch) (segments : List NewSegment) (text new : List ℕ) (a : ℕ)
    → AcceptedFacts file → IsTextPlace file → HasText file text segments → NewMemory file patches segments new
    → All (IsOfCode file) patches
    → is_plain file a ≡ true → is_some (byte_of (memory_of new) a) ≡ true
plain_there file patches segments text new a facts place has m code plain =
    ap is_some (plain_same file patches segments text new a facts place has m code plain)
    ∙ at (plain_where file a plain)
  where
    at : OnStack a ⊎ InImage file a → is_some (byte_of (memory_of file) a) ≡ true
    at (inl on) =
        let (x, y) = stack_byte file patches segments text new a facts place has m on in
        ap is_some (y ∙ byte_in (stack ∷ []) a stack (stack_there a on))
    at (inr image) =
        ap is_some (m.before a (place_in image.segment a)
        (place_there file a image.segment facts.facts image.among image.is))

-- what can be stored to in the source can be in the new file
store_cases : (p s i : Bool) → (p && (s || i)) ≡ true → (s ≡ true) ⊎ (i ≡ true)
store_cases true true i e = inl refl
store_cases true false true e = inr refl
store_cases true false false e = absurd (cc)
store_cases false s i e = absurd (cc)

both_true : (p q : Bool) → (p && q) ≡ true → (p ≡ true) × (q ≡ true)
both_true true true e = (refl, refl)
both_true true false e = absurd (cc)
both_true false q e = absurd (cc)

pub storable : (file : List ℕ) (patches : List Patch) (segments : List NewSegment) (text new : List ℕ) (a : ℕ)
    → AcceptedFacts file → IsTextPlace file → HasText file text segments → NewMemory file patches segments new
    → is_plain_store file a ≡ true → allows_store (range_at (memory_of new) a) ≡ true
unfolding is_plain_store
storable file patches segments text new a facts place has m store =
    at (store_cases (is_plain file a) (is_stack a)
    (list_any (λ s. is_in a s && is_set 2 s.flags) (segments_of file)) store)
  where
    at : (is_stack a ≡ true) ⊎ (list_any (λ s. is_in a s && is_set 2 s.flags) (segments_of file) ≡ true)
        → allows_store (range_at (memory_of new) a) ≡ true
    at (inl s) =
        let on : OnStack a = on_stack a s in
        ap allows_store (new_range file patches segments new a facts m (above_image file a place on)
        ∙ has.stack a on) ∙ stack_writable
    at (inr i) =
        let (g, found) = found_some (λ s. is_in a s && is_set 2 s.flags) (segments_of file) i in
        let (inside, flag) = both_true (is_in a g) (is_set 2 g.flags)
        (found_passes (λ s. is_in a s && is_set 2 s.flags) (segments_of file) g found) in
        stores_there file patches segments new a g facts.facts m
        (found_one (λ s. is_in a s && is_set 2 s.flags) (segments_of file) g found) inside flag
