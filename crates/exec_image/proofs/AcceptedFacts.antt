-- What the checks keep of an accepted file.
use Rattle.std.proofs.Common.{◌≡◌, ℕ, ◌+◌, ◌-◌, ◌%◌, ◌≤◌, ◌==◌, ◌&&◌, not, Bool, true, false, List}
use Rattle.std.proofs.Common.{get_or, length, nat_eq, nat_le, nat_lt, refl, sym, subst, arith, Option, Some, None}
use Rattle.std.proofs.Common.{is_some, option_map, if◌then◌else◌}
use Rattle.std.specs.List.{All, find, list_any}
use Rattle.std.proofs.lemmas.Bool.Decides.{nat_tests}
use Rattle.std.proofs.lemmas.List.Folds.{Any-from_list_any}
use Rattle.elf_spec.specs.declared.HeapName.{HeapName}
use Rattle.elf_spec.specs.declared.HeapName.TheVariants.{Malloc, Calloc, Realloc, Free, MallocR, CallocR, ReallocR}
use Rattle.elf_spec.specs.declared.HeapName.TheVariants.{FreeR}
use Rattle.elf_spec.specs.declared.Section.{Section}
use Rattle.elf_spec.specs.declared.Segment.{Segment}
use Rattle.elf_spec.specs.Code.{code_place, code_word, holds_word, is_executable}
use Rattle.elf_spec.specs.Fields.{is_set}
use Rattle.elf_spec.specs.Heap.{heap_entry, heap_names}
use Rattle.elf_spec.specs.Memory.{image_end, is_loaded}
use Rattle.elf_spec.specs.Records.{e_entry, e_phnum, sections_of, segments_of}
use Rattle.elf_read.specs.Checks.{is_shared}
use Rattle.elf_read.specs.Readable.{IsInside, IsLoadedInside, ReadableFacts}
use Rattle.first_check.specs.First.{first_below, when}
use Rattle.elf_read.specs.Refusals.{memory_size}
use Rattle.exec_image.specs.declared.refusals.FileRefusal.TheVariants.{AlreadyRewritten, EntryOut, HeapEntrySmall}
use Rattle.exec_image.specs.declared.refusals.FileRefusal.TheVariants.{ImageTooLarge, TpUsed}
use Rattle.exec_image.specs.declared.refusals.ImagePart.TheVariants.{Headers, Bytes}
use Rattle.exec_image.specs.Accepted.{AcceptedFacts, HasTwoWords, IsAlone, IsCodeAt}
use Rattle.exec_image.specs.Checks.{descriptions, has_mark, is_place_of, uses_tp_at}
use Rattle.exec_image.specs.HeapChecks.{is_small, lacks_words}
use Rattle.exec_image.specs.Images.{IsAccepted}
use Rattle.exec_image.specs.Refusals.{already_rewritten, entry_out, exec_outside, heap_entry_small, image_too_large}
use Rattle.exec_image.specs.Refusals.{tp_used, small_fault}
use Rattle.elf_read.specs.Elf.{IsReadable}
use Rattle.first_check.proofs.Items.{item_passes}
use Rattle.exec_image.proofs.CodePlaces.{IsPlaced, all_placed, all_words}
use Rattle.exec_image.proofs.Finding.{NoneBelow, found_in, found_passes, found_some}
use Rattle.exec_image.proofs.HeapApart.{heap_apart}
use Rattle.exec_image.proofs.ImageEnd.{ends_below, use_some}
use Rattle.exec_image.proofs.SiteShape.{site_of_code}
use Rattle.exec_image.proofs.Passed.{Passed, accepted_end, both_false, no_inner, none_both, not_when, passed}
use Rattle.exec_image.proofs.PlanFits.{none_of_any}

split : (b c : Bool) → (b && c) ≡ true → (b ≡ true) × (c ≡ true)
split true true e = (refl, refl)
split true false e = absurd (cc)
split false c e = absurd (cc)

yes : (b : Bool) → not b ≡ false → b ≡ true
yes true h = refl
yes false h = absurd (cc)

-- a part of what shares nothing shares nothing
part_alone : (o n p d m : ℕ) → is_shared o n d m ≡ false → o ≤ p → p + 4 ≤ o + n → is_shared p 4 d m ≡ false
part_alone o n p d m h a b = grind (arith, nat_tests)

word_bounds : (sa ss so a : ℕ) → (nat_le sa a && nat_le (a + 4) (sa + ss)) ≡ true
    → (so ≤ so + (a - sa)) × (so + (a - sa) + 4 ≤ so + ss) × (sa ≤ a) × (a + 4 ≤ sa + ss)
word_bounds sa ss so a h =
    let l : sa ≤ a = grind (arith, nat_tests) in
    let u : a + 4 ≤ sa + ss = grind (arith, nat_tests) in
    (omega arith, omega (arith, l, u), l, u)

placed : (l x : Bool) (v f sa ss so go a : ℕ)
    → (l && (x && ((nat_le v sa && nat_le (sa + ss) (v + f)) && nat_eq (so + v) (go + sa)))) ≡ true
    → sa ≤ a → a + 4 ≤ sa + ss → (l ≡ true) × (x ≡ true) × (v ≤ a) × (a + 4 ≤ v + f) × (so + (a - sa) + v ≡ go + a)
placed true true v f sa ss so go a h i j =
    let p : v ≤ sa = grind (arith, nat_tests) in
    let q : sa + ss ≤ v + f = grind (arith, nat_tests) in
    let r : so + v ≡ go + sa = grind (arith, nat_tests) in
    (refl, refl, omega (arith, p, i), omega (arith, q, j), omega (arith, r, i))
placed true false v f sa ss so go a h i j = absurd (cc)
placed false x v f sa ss so go a h i j = absurd (cc)

-- what a segment of code and its place in the file say of a word of an executable section
word_there : (file : List ℕ) (a : ℕ) (s : Section) → ReadableFacts file → exec_outside file ≡ None → a % 4 ≡ 0
    → find (λ s. is_executable s && holds_word a s) (sections_of file) ≡ Some s
    → IsCodeAt file a (s.offset + (a - s.addr))
word_there file a s r h m f =
    let (x, y) = split (is_executable s) (holds_word a s)
    (found_passes (λ s. is_executable s && holds_word a s) (sections_of file) s f) in
    let (p, q) = found_in (λ s. is_executable s && holds_word a s) (IsPlaced file) (sections_of file) s f
    (all_placed file h) x in
    let (g, t) = found_some (is_place_of s) (segments_of file) p in
    let (lo, hi, sl, sh) = word_bounds s.addr s.size s.offset a y in
    let (l, k, v, u, o) = placed (is_loaded g) (is_set 1 g.flags) g.vaddr g.file_size s.addr s.size s.offset g.offset a
    (found_passes (is_place_of s) (segments_of file) g t) sl sh in
    let i : IsInside (length file) g = found_in (is_place_of s) (IsLoadedInside (length file)) (segments_of file) g t
    r.segments l in
    let (j, b, n, e, w) = Any-from_list_any (is_place_of s) (segments_of file) p in
    let (c1, c2, c3, c4, c5) = placed (is_loaded b) (is_set 1 b.flags) b.vaddr b.file_size s.addr s.size s.offset
    b.offset a w sl sh in
    record {
      aligned = m;
      inside = omega (arith, v, u, o, i.file);
      loaded = (j, b, n, e, (c1, c2, c3, c4, c5));
      plain = λ i d l.
          part_alone s.offset s.size (s.offset + (a - s.addr)) (get_or (descriptions file) i d).0
          (get_or (descriptions file) i d).1
          (none_of_any (λ d. is_shared s.offset s.size d.0 d.1) (descriptions file) q i d l) lo hi;
    }

pub code_at : (file : List ℕ) (a place : ℕ) → ReadableFacts file → exec_outside file ≡ None
    → code_place file a ≡ Some place → IsCodeAt file a place
unfolding code_place
code_at file a place r h e = by_place (a % 4 == 0) (find (λ s. is_executable s && holds_word a s) (sections_of file))
    refl refl e
  where
    by_place : (b : Bool) (o : Option Section) → (a % 4 == 0) ≡ b
        → find (λ s. is_executable s && holds_word a s) (sections_of file) ≡ o
        → (if b then option_map (λ s. s.offset + (a - s.addr)) o else None) ≡ Some place → IsCodeAt file a place
    by_place true (Some s) m f e =
        let w : s.offset + (a - s.addr) ≡ place = cc in
        let z : a % 4 ≡ 0 = grind (arith, nat_tests) in
        subst (IsCodeAt file a) w (word_there file a s r h z f)
    by_place true None m f e = absurd (cc)
    by_place false o m f e = absurd (cc)

-- no byte of an executable section describes the file
section_alone : (file : List ℕ) → exec_outside file ≡ None → All (IsAlone file) (sections_of file)
section_alone file h = λ k d l e.
    none_of_any (λ x. is_shared (get_or (sections_of file) k d).offset (get_or (sections_of file) k d).size x.0 x.1)
    (descriptions file) (all_placed file h k d l e).1

two_words : (file : List ℕ) (name : HeapName) → is_small file name ≡ false → HasTwoWords file name
unfolding is_small
two_words file name h a e =
    let (x, y) = both_false (lacks_words file (heap_entry file name)) _ h in
    let z : lacks_words file (Some a) ≡ false = rw e at x in
    let (u, v) = both_false (not (is_some (code_word file a))) (not (is_some (code_word file (a + 4)))) z in
    (yes (is_some (code_word file a)) u, yes (is_some (code_word file (a + 4))) v)

heap_words : (file : List ℕ) → heap_entry_small file ≡ None → (name : HeapName) → HasTwoWords file name
unfolding heap_entry_small
heap_words file h name = by_name name
  where
    all : All (HasTwoWords file) heap_names
    all = λ k d l. two_words file (get_or heap_names k d)
        (not_when (is_small file (get_or heap_names k d)) (HeapEntrySmall (get_or heap_names k d))
        (item_passes (small_fault file) heap_names h k d l))

    by_name : (name : HeapName) → HasTwoWords file name
    by_name Malloc = all 0 Malloc (omega arith)
    by_name Calloc = all 1 Malloc (omega arith)
    by_name Realloc = all 2 Malloc (omega arith)
    by_name Free = all 3 Malloc (omega arith)
    by_name MallocR = all 4 Malloc (omega arith)
    by_name CallocR = all 5 Malloc (omega arith)
    by_name ReallocR = all 6 Malloc (omega arith)
    by_name FreeR = all 7 Malloc (omega arith)

-- a code word is below the image's end
code_below : (file : List ℕ) (a place : ℕ) → ReadableFacts file → IsCodeAt file a place
    → a + 4 ≤ image_end (segments_of file)
code_below file a place r c =
    let (j, g, n, e, (l, x, v, u, o)) = c.loaded in
    let end : g.vaddr + g.mem_size ≤ image_end (segments_of file) =
    subst (λ (g : Segment). g.vaddr + g.mem_size ≤ image_end (segments_of file)) e
    (ends_below (segments_of file) j g n (subst (λ (g : Segment). is_loaded g ≡ true) (sym e) l)) in
    let fits : g.file_size ≤ g.mem_size = (subst (IsLoadedInside (length file)) e (r.segments j g n) l).fits in
    omega (arith, end, fits, u)

no_use : NoneBelow → (file : List ℕ) → ReadableFacts file → exec_outside file ≡ None → tp_used file ≡ None → (a : ℕ)
    → uses_tp_at file a ≡ false
unfolding tp_used
no_use none_below file r h n a = by_use (uses_tp_at file a) refl
  where
    none : first_below (uses_tp_at file) (image_end (segments_of file)) ≡ None
    none = no_inner TpUsed (first_below (uses_tp_at file) (image_end (segments_of file))) n

    by_use : (b : Bool) → uses_tp_at file a ≡ b → uses_tp_at file a ≡ false
    by_use false e = e
    by_use true e = by_place (code_place file a) refl
      where
        by_place : (o : Option ℕ) → code_place file a ≡ o → uses_tp_at file a ≡ false
        by_place (Some place) q =
            let below : a + 4 ≤ image_end (segments_of file) = code_below file a place r (code_at file a place r h q) in
            (none_below (uses_tp_at file) (image_end (segments_of file))).0 none a (omega (arith, below))
        by_place None q = absurd (let t : is_some (code_place file a) ≡ true = use_some file a e in
            let f : false ≡ true = rw q at t in cc)

record HasRoom (file : List ℕ) : Type 0 where
  few : e_phnum file ≤ 64
  memory : memory_size (segments_of file) ≤ 67108864

room : (file : List ℕ) → image_too_large file ≡ None → HasRoom file
unfolding image_too_large
room file h =
    let (a, h1) = none_both (when (nat_lt 64 (e_phnum file)) (ImageTooLarge Headers)) _ h in
    let (b, c) = none_both (when (nat_lt 67108864 (memory_size (segments_of file))) (ImageTooLarge Bytes)) _ h1 in
    let x : nat_lt 64 (e_phnum file) ≡ false = not_when (nat_lt 64 (e_phnum file)) (ImageTooLarge Headers) a in
    let y : nat_lt 67108864 (memory_size (segments_of file)) ≡ false =
    not_when (nat_lt 67108864 (memory_size (segments_of file))) (ImageTooLarge Bytes) b in
    record { few = at_most 64 (e_phnum file) x; memory = at_most 67108864 (memory_size (segments_of file)) y }
  where
    at_most : (m n : ℕ) → nat_lt m n ≡ false → n ≤ m
    at_most m n h = grind (arith, nat_tests)

entry_in : (file : List ℕ) → entry_out file ≡ None → is_some (code_word file (e_entry file)) ≡ true
unfolding entry_out
entry_in file h = yes (is_some (code_word file (e_entry file)))
    (not_when (not (is_some (code_word file (e_entry file)))) (EntryOut (e_entry file)) h)

no_mark : (file : List ℕ) → already_rewritten file ≡ None → All (λ g. has_mark file g ≡ false) (segments_of file)
unfolding already_rewritten
no_mark file h = none_of_any (has_mark file) (segments_of file)
    (not_when (list_any (has_mark file) (segments_of file)) AlreadyRewritten h)

pub accepted_facts : ((file : List ℕ) → IsReadable file → ReadableFacts file) → NoneBelow → (file : List ℕ)
    → IsAccepted file → AcceptedFacts file
accepted_facts readable none_below file h =
    let p : Passed file = passed file h in
    let q : HasRoom file = room file p.room in
    let r : ReadableFacts file = readable file p.headers in
    record {
      readable = p.headers;
      facts = r;
      words = all_words (sections_of file) p.words;
      code = λ a place e. code_at file a place r p.inside e;
      sections = section_alone file p.inside;
      entry = entry_in file p.entry;
      heap = heap_words file p.large;
      heap_apart = heap_apart file p.once;
      unmarked = no_mark file p.unmarked;
      few = q.few;
      memory = q.memory;
      end = accepted_end file h;
      segments_end = ends_below (segments_of file);
      code_end = λ a place e. code_below file a place r (code_at file a place r p.inside e);
      sites = site_of_code file;
      no_tp = no_use none_below file r p.inside p.no_tp;
    }
