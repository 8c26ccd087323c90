-- Where a code word stands in the file: what is looked up is what the sections say.
use Rattle.std.proofs.Common.{◌≡◌, ℕ, ◌+◌, ◌-◌, ◌%◌, ◌<◌, ◌≤◌, ◌==◌, ◌&&◌, ◌||◌, not, Bool, true, false, List, get_or}
use Rattle.std.proofs.Common.{length, nat_eq, nat_le, nat_lt, refl, sym, ap, ◌∙◌, arith, Option, Some, None, is_some}
use Rattle.std.proofs.Common.{option_map, rules}
use Rattle.std.specs.Option.{IfSome}
use Rattle.std.specs.List.{All, find, list_any, position}
use Rattle.std.proofs.lemmas.Bool.Decides.{nat_tests}
use Rattle.elf_spec.specs.declared.Section.{Section}
use Rattle.elf_spec.specs.declared.Segment.{Segment}
use Rattle.elf_spec.specs.Code.{code_place, holds_word, is_executable}
use Rattle.elf_spec.specs.Fields.{is_set}
use Rattle.elf_spec.specs.Memory.{is_loaded}
use Rattle.elf_spec.specs.Records.{sections_of, segments_of}
use Rattle.elf_read.specs.Checks.{is_shared, meets}
use Rattle.elf_read.specs.Readable.{IsInside, IsLoadedInside}
use Rattle.exec_image.specs.declared.parts.Part.{Part}
use Rattle.exec_image.specs.declared.refusals.FileRefusal.{FileRefusal}
use Rattle.exec_image.specs.declared.refusals.FileRefusal.TheVariants.{ExecNotWords, ExecOutside}
use Rattle.exec_image.specs.Accepted.{IsWords}
use Rattle.exec_image.specs.Checks.{is_in_descriptions, is_not_words, is_place_of}
use Rattle.exec_image.specs.CodeParts.{IsCode, code_parts, holds_in_file, place_in}
use Rattle.exec_image.specs.Parts.{is_meeting}
use Rattle.exec_image.specs.Refusals.{exec_not_words, exec_outside, is_outside}
use Rattle.exec_image.proofs.Finding.{any_of_kept, any_same, found_alike, found_in, found_none, found_passes}
use Rattle.exec_image.proofs.Finding.{found_some, none_passes}
use Rattle.exec_image.proofs.Meeting.{meets_same}

-- what the passed checks say of each executable section
no_place : {X : Type 0} (f : ℕ → FileRefusal) (p : X → Bool) (xs : List X) → option_map f (position p xs) ≡ None
    → All (λ x. p x ≡ false) xs
no_place f p xs h = none_passes p xs (none_of (position p xs) h)
  where
    none_of : (o : Option ℕ) → option_map f o ≡ None → o ≡ None
    none_of None e = refl
    none_of (Some i) e = absurd (cc)

words_of : (b : Bool) (m n : ℕ) → (b && (not (nat_eq m 0) || not (nat_eq n 0))) ≡ false → b ≡ true → (m ≡ 0) × (n ≡ 0)
words_of true m n h e = (grind (arith, nat_tests), grind (arith, nat_tests))
words_of false m n h e = absurd (cc)

pub all_words : (sections : List Section) → exec_not_words sections ≡ None → All IsWords sections
unfolding exec_not_words
all_words sections h = λ k d l e.
    let s : Section = get_or sections k d in
    words_of (is_executable s) (s.addr % 4) (s.size % 4)
    (no_place ExecNotWords (λ s. is_executable s && is_not_words s) sections h k d l) e

abbrev pub IsPlaced : List ℕ → Section → Type 0
IsPlaced file s = is_executable s ≡ true
    → (list_any (is_place_of s) (segments_of file) ≡ true) × (is_in_descriptions file s ≡ false)

placed_of : (b c d : Bool) → (b && (not c || d)) ≡ false → b ≡ true → (c ≡ true) × (d ≡ false)
placed_of true true false h e = (refl, refl)
placed_of true true true h e = absurd (cc)
placed_of true false d h e = absurd (cc)
placed_of false c d h e = absurd (cc)

pub all_placed : (file : List ℕ) → exec_outside file ≡ None → All (IsPlaced file) (sections_of file)
unfolding exec_outside
all_placed file h = λ k d l e.
    let s : Section = get_or (sections_of file) k d in
    placed_of (is_executable s) (list_any (is_place_of s) (segments_of file)) (is_in_descriptions file s)
    (no_place ExecOutside (is_outside file) (sections_of file) h k d l) e

-- an aligned address is in a section of whole words exactly where its whole word is
same_word : (a start size : ℕ) → a % 4 ≡ 0 → start % 4 ≡ 0 → size % 4 ≡ 0
    → (nat_lt start (a + 1) && nat_lt a (start + size)) ≡ (nat_le start a && nat_le (a + 4) (start + size))
same_word a start size h i j = decide (nat_lt start (a + 1) && nat_lt a (start + size))
    (nat_le start a && nat_le (a + 4) (start + size)) refl refl
  where
    decide : (b c : Bool) → (nat_lt start (a + 1) && nat_lt a (start + size)) ≡ b
        → (nat_le start a && nat_le (a + 4) (start + size)) ≡ c
        → (nat_lt start (a + 1) && nat_lt a (start + size)) ≡ (nat_le start a && nat_le (a + 4) (start + size))
    decide true true e f = e ∙ sym f
    decide false false e f = e ∙ sym f
    decide true false e f =
        let u : start < a + 1 = grind (arith, nat_tests) in
        let v : a < start + size = grind (arith, nat_tests) in
        let w : a + 4 ≤ start + size = omega (arith, u, v, h, i, j) in
        absurd (let g : true ≡ false = grind (arith, nat_tests) in cc)
    decide false true e f =
        absurd (let g : true ≡ false = grind (arith, nat_tests) in cc)

same_tests : (a : ℕ) → a % 4 ≡ 0 → (s : Section) → IsWords s
    → (is_executable s && is_meeting a (a + 1) (record { start = s.addr; end = s.addr + s.size }))
    ≡ (is_executable s && holds_word a s)
same_tests a h s w = decide (is_executable s) refl
  where
    decide : (b : Bool) → is_executable s ≡ b
        → (is_executable s && is_meeting a (a + 1) (record { start = s.addr; end = s.addr + s.size }))
        ≡ (is_executable s && holds_word a s)
    decide true e = let (i, j) = w e in rw e (same_word a s.addr s.size h i j)
    decide false e = rw e refl

-- the parts in order have an aligned address exactly where a section has its word
pub in_parts : (file : List ℕ) (segments : List Segment) (code : List Part) (a : ℕ) → IsCode file segments code
    → a % 4 ≡ 0
    → list_any (is_meeting a (a + 1)) code ≡ list_any (λ s. is_executable s && holds_word a s) (sections_of file)
in_parts file segments code a h m =
    meets_same a (a + 1) (code_parts (sections_of file)) code h.parts
    ∙ any_of_kept is_executable (λ s. record { start = s.addr; end = s.addr + s.size }) (is_meeting a (a + 1))
    (sections_of file)
    ∙ any_same (λ s. is_executable s && is_meeting a (a + 1) (record { start = s.addr; end = s.addr + s.size }))
    (λ s. is_executable s && holds_word a s)
    (sections_of file) (λ k d l. same_tests a m (get_or (sections_of file) k d)
    (all_words (sections_of file) h.words k d l))

-- two loaded segments that have an address in common meet
both_hold : (a : ℕ) (bytes : ℕ) (s t : Segment) → IsLoadedInside bytes s → IsLoadedInside bytes t → meets s t ≡ false
    → holds_in_file a s ≡ true → holds_in_file a t ≡ true → ⊥
both_hold a bytes s t i j m p q =
    let (ls, us) = split (is_loaded s) _ p in
    let (lt, ut) = split (is_loaded t) _ q in
    let g : true ≡ false = sym (shared s.vaddr s.mem_size s.file_size t.vaddr t.mem_size t.file_size (is_loaded s)
    (is_loaded t) _ ls lt us ut (i ls).fits (j lt).fits) ∙ m in
    cc
  where
    split : (b c : Bool) → (b && c) ≡ true → (b ≡ true) × (c ≡ true)
    split true true e = (refl, refl)
    split true false e = absurd (cc)
    split false c e = absurd (cc)

    shared : (v m f w n g : ℕ) (b c r : Bool) → b ≡ true → c ≡ true → (nat_le v a && nat_lt a (v + f)) ≡ true
        → (nat_le w a && nat_lt a (w + g)) ≡ true
        → f ≤ m → g ≤ n → ((b && c) && (is_shared v m w n || r)) ≡ true
    shared v m f w n g true true r x y p q i j =
        let e : is_shared v m w n ≡ true = grind (arith, nat_tests) in rw e refl
    shared v m f w n g false c r x y p q i j = absurd (cc)
    shared v m f w n g true false r x y p q i j = absurd (cc)

-- what is known of the code word at an address
pub record IsCodePlace (file : List ℕ) (segments : List Segment) (a at : ℕ) : Type 0 where
  pub place : code_place file a ≡ Some at
  pub looked_up : place_in segments a ≡ Some at
  pub inside : at + 4 ≤ length file
  pub low : a + 4 ≤ 0x7ff00000

split : (b c : Bool) → (b && c) ≡ true → (b ≡ true) × (c ≡ true)
split true true e = (refl, refl)
split true false e = absurd (cc)
split false c e = absurd (cc)

-- the segment that places a section holds each of its addresses
place_holds : (l x : Bool) (v f sa ss so go a : ℕ)
    → (l && (x && ((nat_le v sa && nat_le (sa + ss) (v + f)) && nat_eq (so + v) (go + sa)))) ≡ true
    → sa ≤ a → a < sa + ss → (l ≡ true) × ((l && (nat_le v a && nat_lt a (v + f))) ≡ true) × (so + v ≡ go + sa)
    × (v ≤ sa) × (sa + ss ≤ v + f)
place_holds true true v f sa ss so go a h i j =
    (refl, grind (arith, nat_tests), grind (arith, nat_tests), grind (arith, nat_tests), grind (arith, nat_tests))
place_holds true false v f sa ss so go a h i j = absurd (cc)
place_holds false x v f sa ss so go a h i j = absurd (cc)

word_in : (sa ss a : ℕ) → (nat_le sa a && nat_le (a + 4) (sa + ss)) ≡ true → (sa ≤ a) × (a + 4 ≤ sa + ss)
word_in sa ss a h = (grind (arith, nat_tests), grind (arith, nat_tests))

offsets : (so go v sa a : ℕ) → so + v ≡ go + sa → v ≤ sa → sa ≤ a → go + (a - v) ≡ so + (a - sa)
offsets so go v sa a h i j = omega arith

ends : (so go v f m sa ss a bytes : ℕ) → so + v ≡ go + sa → v ≤ sa → sa + ss ≤ v + f → sa ≤ a → a + 4 ≤ sa + ss → f ≤ m
    → go + f ≤ bytes → v + m ≤ 0x7ff00000
    → (so + (a - sa) + 4 ≤ bytes) × (a + 4 ≤ 0x7ff00000)
ends so go v f m sa ss a bytes h i j k l n o p = (omega arith, omega arith)

-- the place of a code word that a section has and a segment puts there
pub place_of : (file : List ℕ) (segments : List Segment) (code : List Part) (a : ℕ) → IsCode file segments code
    → a % 4 ≡ 0 → (s : Section)
    → find (λ s. is_executable s && holds_word a s) (sections_of file) ≡ Some s → (g : Segment)
    → find (is_place_of s) (segments_of file) ≡ Some g
    → IsCodePlace file segments a (s.offset + (a - s.addr))
unfolding code_place
place_of file segments code a h m s e g f =
    let (x, y) = split (is_executable s) (holds_word a s)
    (found_passes (λ s. is_executable s && holds_word a s) (sections_of file) s e) in
    let (lo, hi) = word_in s.addr s.size a y in
    let q : is_place_of s g ≡ true = found_passes (is_place_of s) (segments_of file) g f in
    let weaker : (t : Segment) → is_place_of s t ≡ true → holds_in_file a t ≡ true =
    λ t u. let (l, k, r, z, w) = place_holds (is_loaded t) (is_set 1 t.flags) t.vaddr t.file_size s.addr s.size s.offset
    t.offset a u lo (omega (arith, hi)) in k in
    let (l, k, r, z, w) = place_holds (is_loaded g) (is_set 1 g.flags) g.vaddr g.file_size s.addr s.size s.offset
    g.offset a q lo (omega (arith, hi)) in
    let i : IsInside (length file) g = found_in (is_place_of s) (IsLoadedInside (length file)) (segments_of file) g f
    h.facts.segments l in
    let found : find (holds_in_file a) (segments_of file) ≡ Some g =
    found_alike (holds_in_file a) (is_place_of s) (λ s t. meets s t ≡ false) (IsLoadedInside (length file))
    (both_hold a (length file)) weaker (segments_of file)
    h.facts.segments h.facts.apart g f in
    let (n, o) = ends s.offset g.offset g.vaddr g.file_size g.mem_size s.addr s.size a (length file) r z w lo hi i.fits
    i.file i.memory in
    let aligned : (a % 4 == 0) ≡ true = grind (arith, nat_tests) in
    record {
      place = rw (aligned, e) refl;
      looked_up = rw (h.table, found) (ap Some (offsets s.offset g.offset g.vaddr s.addr a r z lo));
      inside = n;
      low = o;
    }

pub code_yes : (file : List ℕ) (segments : List Segment) (code : List Part) (a : ℕ) → IsCode file segments code
    → a % 4 ≡ 0
    → list_any (is_meeting a (a + 1)) code ≡ true → (at : ℕ) × IsCodePlace file segments a at
code_yes file segments code a h m e =
    let e' : list_any (λ s. is_executable s && holds_word a s) (sections_of file) ≡ true =
    sym (in_parts file segments code a h m) ∙ e in
    let (s, f) = found_some (λ s. is_executable s && holds_word a s) (sections_of file) e' in
    let (x, y) = split (is_executable s) (holds_word a s)
    (found_passes (λ s. is_executable s && holds_word a s) (sections_of file) s f) in
    let (p, q) = found_in (λ s. is_executable s && holds_word a s) (IsPlaced file) (sections_of file) s f
    (all_placed file h.inside) x in
    let (g, t) = found_some (is_place_of s) (segments_of file) p in
    (s.offset + (a - s.addr), place_of file segments code a h m s f g t)

pub code_no : (file : List ℕ) (segments : List Segment) (code : List Part) (a : ℕ) → IsCode file segments code
    → a % 4 ≡ 0
    → list_any (is_meeting a (a + 1)) code ≡ false → code_place file a ≡ None
unfolding code_place
code_no file segments code a h m e =
    let e' : list_any (λ s. is_executable s && holds_word a s) (sections_of file) ≡ false =
    sym (in_parts file segments code a h m) ∙ e in
    let f : find (λ s. is_executable s && holds_word a s) (sections_of file) ≡ None =
    found_none (λ s. is_executable s && holds_word a s) (sections_of file) e' in
    let aligned : (a % 4 == 0) ≡ true = grind (arith, nat_tests) in
    rw (aligned, f) refl

pub code_odd : (file : List ℕ) (a : ℕ) → (a % 4 == 0) ≡ false → code_place file a ≡ None
unfolding code_place
code_odd file a e = rw e refl

-- the test by the parts in order is whether there is a code word
pub code_test : (file : List ℕ) (segments : List Segment) (code : List Part) (a : ℕ) → IsCode file segments code
    → ((a % 4 == 0) && list_any (is_meeting a (a + 1)) code) ≡ is_some (code_place file a)
code_test file segments code a h = decide (a % 4 == 0) (list_any (is_meeting a (a + 1)) code) refl refl
  where
    decide : (b c : Bool) → (a % 4 == 0) ≡ b → list_any (is_meeting a (a + 1)) code ≡ c
        → ((a % 4 == 0) && list_any (is_meeting a (a + 1)) code) ≡ is_some (code_place file a)
    decide true true e f =
        let m : a % 4 ≡ 0 = grind (arith, nat_tests) in
        let (at, k) = code_yes file segments code a h m f in rw (e, f, k.place) refl
    decide true false e f =
        let m : a % 4 ≡ 0 = grind (arith, nat_tests) in
        rw (e, f, code_no file segments code a h m f) refl
    decide false c e f = rw (e, code_odd file a e) refl

-- what is known of a code word
pub known : (file : List ℕ) (segments : List Segment) (code : List Part) (a : ℕ) → IsCode file segments code
    → is_some (code_place file a) ≡ true
    → (at : ℕ) × IsCodePlace file segments a at
known file segments code a h e = decide (a % 4 == 0) (list_any (is_meeting a (a + 1)) code) refl refl
  where
    decide : (b c : Bool) → (a % 4 == 0) ≡ b → list_any (is_meeting a (a + 1)) code ≡ c
        → (at : ℕ) × IsCodePlace file segments a at
    decide true true f g = let m : a % 4 ≡ 0 = grind (arith, nat_tests) in code_yes file segments code a h m g
    decide true false f g = absurd (let t : false ≡ true = rw (f, g) at (code_test file segments code a h ∙ e) in cc)
    decide false c f g = absurd (let t : false ≡ true = rw f at (code_test file segments code a h ∙ e) in cc)

pub place_exact : (file : List ℕ) (segments : List Segment) (code : List Part) (a : ℕ) → IsCode file segments code
    → is_some (code_place file a) ≡ true
    → place_in segments a ≡ code_place file a
place_exact file segments code a h e = let (at, k) = known file segments code a h e in k.looked_up ∙ sym k.place

pub place_inside : (file : List ℕ) (segments : List Segment) (code : List Part) (a at : ℕ) → IsCode file segments code
    → code_place file a ≡ Some at
    → (at + 4 ≤ length file) × (a + 4 ≤ 0x7ff00000)
place_inside file segments code a at h e =
    let (at', k) = known file segments code a h (rw e refl) in
    let f : Some at' ≡ Some at = sym k.place ∙ e in
    let g : at' ≡ at = cc in
    (rw (sym g) k.inside, k.low)

pub place_some : (file : List ℕ) (segments : List Segment) (code : List Part) (a : ℕ) (o : Option ℕ)
    → IsCode file segments code → o ≡ code_place file a
    → IfSome o (λ at. at + 4 ≤ length file) × IfSome o (λ at. a + 4 ≤ 0x7ff00000)
place_some file segments code a (Some at) h e = place_inside file segments code a at h (sym e)
place_some file segments code a None h e = (search rules, search rules)

pub not_code : (o : Option ℕ) → is_some o ≡ false → o ≡ None
not_code None e = refl
not_code (Some n) e = absurd (cc)

inside_of : (l x : Bool) (v f m sa ss so go : ℕ)
    → (l && (x && ((nat_le v sa && nat_le (sa + ss) (v + f)) && nat_eq (so + v) (go + sa)))) ≡ true
    → (l ≡ true → (f ≤ m) × (v + m ≤ 0x7ff00000)) → sa + ss ≤ 0x7ff00000
inside_of true true v f m sa ss so go h i =
    let (j, k) = i refl in
    let n : sa + ss ≤ v + f = grind (arith, nat_tests) in omega (arith, j, k, n)
inside_of true false v f m sa ss so go h i = absurd (cc)
inside_of false x v f m sa ss so go h i = absurd (cc)

-- executable sections end in memory
pub exec_low : (file : List ℕ) (segments : List Segment) (code : List Part) → IsCode file segments code
    → All (λ s. is_executable s ≡ true → s.addr + s.size ≤ 0x7ff00000) (sections_of file)
exec_low file segments code h = λ k d l e.
    let s : Section = get_or (sections_of file) k d in
    let (p, q) = all_placed file h.inside k d l e in
    let (g, t) = found_some (is_place_of s) (segments_of file) p in
    let i : IsLoadedInside (length file) g =
    found_in (is_place_of s) (IsLoadedInside (length file)) (segments_of file) g t h.facts.segments in
    inside_of (is_loaded g) (is_set 1 g.flags) g.vaddr g.file_size g.mem_size s.addr s.size s.offset g.offset
    (found_passes (is_place_of s) (segments_of file) g t)
    (λ u. ((i u).fits, (i u).memory))
