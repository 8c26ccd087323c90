-- The next code word from an address on, as it is looked up in the parts in order.
use Rattle.std.proofs.Common.{◌≡◌, ◌≢◌, ℕ, ◌+◌, ◌%◌, ◌<◌, ◌≤◌, ◌==◌, ◌&&◌, Bool, true, false, not, List, [], ◌∷◌}
use Rattle.std.proofs.Common.{get_or, length, max, nat_lt, nat_le, refl, sym, ◌∙◌, inl, inr, arith, Option, Some, None}
use Rattle.std.proofs.Common.{is_some, option_map}
use Rattle.std.specs.List.{All, list_any}
use Rattle.std.proofs.lemmas.Bool.{cases_lt}
use Rattle.std.proofs.lemmas.Bool.Decides.{nat_tests}
use Rattle.std.proofs.lemmas.List.{get_or_default}
use Rattle.std.proofs.lemmas.List.Elements.{All-cons, All-head, All-nil, All-tail}
use Rattle.std.proofs.lemmas.List.Folds.{Any-from_list_any, list_any_at, list_any_none}
use Rattle.elf_spec.specs.declared.Section.{Section}
use Rattle.elf_spec.specs.declared.Segment.{Segment}
use Rattle.elf_spec.specs.Code.{code_place, code_word, is_executable}
use Rattle.elf_spec.specs.Fields.{is_set, word_at}
use Rattle.elf_spec.specs.Memory.{image_end}
use Rattle.elf_spec.specs.Records.{sections_of, segments_of}
use Rattle.elf_read.specs.Readable.{IsInside}
use Rattle.exec_image.specs.declared.parts.Part.{Part}
use Rattle.exec_image.specs.CodeParts.{IsCode, code_parts}
use Rattle.exec_image.specs.Parts.{is_meeting, is_within}
use Rattle.exec_image.proofs.AcceptedFacts.{code_at}
use Rattle.exec_image.specs.Accepted.{IsWords}
use Rattle.exec_image.proofs.CodePlaces.{all_words, code_no, code_odd, code_yes, known}
use Rattle.exec_image.proofs.ImageEnd.{ends_below}

pub odd_place : (file : List ℕ) (a : ℕ) → a % 4 ≢ 0 → code_place file a ≡ None
odd_place file a h = let e : (a % 4 == 0) ≡ false = grind (arith, nat_tests) in code_odd file a e

pub aligned : (file : List ℕ) (a : ℕ) → is_some (code_place file a) ≡ true → a % 4 ≡ 0
aligned file a h = decide (a % 4 == 0) refl
  where
    decide : (b : Bool) → (a % 4 == 0) ≡ b → a % 4 ≡ 0
    decide true e = grind (arith, nat_tests)
    decide false e = absurd (let q : false ≡ true = rw (code_odd file a e) at h in cc)

out_place : (file : List ℕ) (segments : List Segment) (code : List Part) (a : ℕ) → IsCode file segments code
    → list_any (is_meeting a (a + 1)) code ≡ false
    → code_place file a ≡ None
out_place file segments code a h e = decide (a % 4 == 0) refl
  where
    decide : (b : Bool) → (a % 4 == 0) ≡ b → code_place file a ≡ None
    decide true f = let m : a % 4 ≡ 0 = grind (arith, nat_tests) in code_no file segments code a h m e
    decide false f = code_odd file a f

in_place : (file : List ℕ) (segments : List Segment) (code : List Part) (a : ℕ) → IsCode file segments code → a % 4 ≡ 0
    → list_any (is_meeting a (a + 1)) code ≡ true → is_some (code_place file a) ≡ true
in_place file segments code a h m e = let (at, k) = code_yes file segments code a h m e in rw k.place refl

before : (a : ℕ) (p : Part) → a < p.start → is_meeting a (a + 1) p ≡ false
before a p l = tests p.start (nat_lt a p.end) l
  where
    tests : (s : ℕ) (b : Bool) → a < s → (nat_lt s (a + 1) && b) ≡ false
    tests s true l = grind (arith, nat_tests)
    tests s false l = grind (arith, nat_tests)

behind : (a : ℕ) (p : Part) → p.end ≤ a → is_meeting a (a + 1) p ≡ false
behind a p l = tests (nat_lt p.start (a + 1)) p.end l
  where
    tests : (b : Bool) (e : ℕ) → e ≤ a → (b && nat_lt a e) ≡ false
    tests true e l = grind (arith, nat_tests)
    tests false e l = refl

inside : (a : ℕ) (p : Part) → p.start ≤ a → a < p.end → is_meeting a (a + 1) p ≡ true
inside a p l m = tests p.start p.end l m
  where
    tests : (s e : ℕ) → s ≤ a → a < e → (nat_lt s (a + 1) && nat_lt a e) ≡ true
    tests s e l m = grind (arith, nat_tests)

-- between the parts behind and the next part there is no code
gap : (file : List ℕ) (segments : List Segment) (code : List Part) (i at a : ℕ) → IsCode file segments code
    → ((k : ℕ) (d : Part) → k < i → (get_or code k d).end ≤ at) → at ≤ a
    → ((d : Part) → i < length code → a < (get_or code i d).start)
    → code_place file a ≡ None
gap file segments code i at a h done l next =
    out_place file segments code a h (list_any_none (is_meeting a (a + 1)) code (λ k d m. elim (cases_lt k i) [
      | inl j ↦ let e : (get_or code k d).end ≤ at = done k d j in behind a (get_or code k d) (omega (arith, e, l))
      | inr j ↦
          let i' : i < length code = omega (arith, j, m) in
          let e : (get_or code i d).start ≤ (get_or code k d).start = h.parts.starts i k d (omega (arith, j)) m in
          let n : a < (get_or code i d).start = next d i' in
          before a (get_or code k d) (omega (arith, e, n))
    ]))

-- from one address on, up to the next word of four bytes, or to the next part with code, there is none
pub gap_before : (file : List ℕ) (segments : List Segment) (code : List Part) (i from at b : ℕ) (d : Part)
    → IsCode file segments code
    → ((k : ℕ) (d : Part) → k < i → (get_or code k d).end ≤ at) → at % 4 ≡ 0 → at < from + 4 → from ≤ b
    → i < length code
    → b < max at (get_or code i d).start → code_place file b ≡ None
gap_before file segments code i from at b d h done m near l n u = elim (cases_lt b at) [
  | inl k ↦ odd_place file b (λ z. omega (arith, k, m, near, l, z))
  | inr k ↦ gap file segments code i at b h done k (λ f q.
      let e : get_or code i f ≡ get_or code i d = get_or_default code i f d n in
      let v : b < (get_or code i d).start = omega (arith, u, k) in
      rw e v)
]

-- behind all parts there is none
pub gap_behind : (file : List ℕ) (segments : List Segment) (code : List Part) (i from at b : ℕ)
    → IsCode file segments code
    → ((k : ℕ) (d : Part) → k < i → (get_or code k d).end ≤ at) → at % 4 ≡ 0 → at < from + 4 → from ≤ b
    → length code ≤ i
    → code_place file b ≡ None
gap_behind file segments code i from at b h done m near l n = elim (cases_lt b at) [
  | inl k ↦ odd_place file b (λ z. omega (arith, k, m, near, l, z))
  | inr k ↦ gap file segments code i at b h done k (λ f q. absurd (omega (arith, q, n)))
]

sized : (k z f g : Bool) → (k && (not z && (f && g))) ≡ true → z ≡ false
sized true false f g h = refl
sized true true f g h = absurd (cc)
sized false z f g h = absurd (cc)

abbrev IsWhole : Part → Type 0
IsWhole p = (p.start % 4 ≡ 0) × (p.start < p.end)

whole_section : (s : Section) → IsWords s → is_executable s ≡ true
    → IsWhole (record { start = s.addr; end = s.addr + s.size })
whole_section s w e =
    let (m, n) = w e in
    let z : (s.size == 0) ≡ false = sized (s.kind == 1) (s.size == 0) (is_set 2 s.flags) (is_set 4 s.flags) e in
    (m, more s.addr s.size z)
  where
    more : (a n : ℕ) → (n == 0) ≡ false → a < a + n
    more a n z = grind (arith, nat_tests)

whole_parts : (ss : List Section) → All IsWords ss → All IsWhole (code_parts ss)
whole_parts [] h = All-nil IsWhole
whole_parts (s ∷ ss) h = decide (is_executable s) refl (whole_parts ss (All-tail IsWords s ss h))
  where
    decide : (b : Bool) → is_executable s ≡ b → All IsWhole (code_parts ss) → All IsWhole (code_parts (s ∷ ss))
    decide true e ih =
        rw e (All-cons IsWhole (record { start = s.addr; end = s.addr + s.size }) (code_parts ss)
        (whole_section s (All-head IsWords s ss h) e) ih)
    decide false e ih = rw e ih

within : (p q : Part) → is_within p q ≡ true → (q.start ≤ p.start) × (p.end ≤ q.end)
within p q h = bounds q.start p.start p.end q.end h
  where
    bounds : (a b c d : ℕ) → (nat_le a b && nat_le c d) ≡ true → (a ≤ b) × (c ≤ d)
    bounds a b c d h = (grind (arith, nat_tests), grind (arith, nat_tests))

-- the first part that ends above an address begins at a code word, where it begins above the address
starts_code : (file : List ℕ) (segments : List Segment) (code : List Part) (i at : ℕ) (d : Part)
    → IsCode file segments code → i < length code
    → ((k : ℕ) (d : Part) → k < i → (get_or code k d).end ≤ at) → at < (get_or code i d).end
    → is_some (code_place file (get_or code i d).start) ≡ true
starts_code file segments code i at d h l done up =
    let p : Part = get_or code i d in
    let (j, q, n, g, u) = Any-from_list_any (is_within p) (code_parts (sections_of file)) (h.parts.sound i d l) in
    let w : list_any (is_within q) code ≡ true = rw g at (h.parts.whole j q n) in
    let whole : IsWhole q = rw g at (whole_parts (sections_of file) (all_words (sections_of file) h.words) j q n) in
    let (k, r, m, f, v) = Any-from_list_any (is_within q) code w in
    let (a, b) = within p q u in
    let (x, y) = within q r v in
    elim (cases_lt k i) [
      | inl z ↦ let t : r.end ≤ at = rw f at (done k r z) in absurd (omega (arith, t, y, b, up))
      | inr z ↦
          let t : (get_or code i r).start ≤ r.start = rw f at (h.parts.starts i k r z m) in
          let o : get_or code i r ≡ p = get_or_default code i r d l in
          let t' : p.start ≤ r.start = rw o at t in
          let e : q.start ≡ p.start = omega (arith, t', a, x) in
          let some : p.start < r.end = omega (arith, e, y, whole.1) in
          let whole_start : p.start % 4 ≡ 0 = rw (sym e) whole.0 in
          in_place file segments code p.start h whole_start
          (list_any_at (is_meeting p.start (p.start + 1)) code k r m
          (rw f (inside p.start r (omega (arith, e, x)) some)))
    ]

-- so what is looked up is a code word
pub next_is_code : (file : List ℕ) (segments : List Segment) (code : List Part) (i at : ℕ) (d : Part)
    → IsCode file segments code → i < length code
    → at % 4 ≡ 0 → ((k : ℕ) (d : Part) → k < i → (get_or code k d).end ≤ at) → at < (get_or code i d).end
    → is_some (code_place file (max at (get_or code i d).start)) ≡ true
next_is_code file segments code i at d h l m done up = elim (cases_lt at (get_or code i d).start) [
  | inl k ↦
      let e : max at (get_or code i d).start ≡ (get_or code i d).start = omega (arith, k) in
      rw e (starts_code file segments code i at d h l done up)
  | inr k ↦
      let e : max at (get_or code i d).start ≡ at = omega (arith, k) in
      rw e (in_place file segments code at h m
      (list_any_at (is_meeting at (at + 1)) code i d l (inside at (get_or code i d) k up)))
]

-- a code word ends in the image, and in memory
pub word_end : (file : List ℕ) (segments : List Segment) (code : List Part) (a : ℕ) → IsCode file segments code
    → is_some (code_place file a) ≡ true
    → (a + 4 ≤ image_end (segments_of file)) × (a + 4 ≤ 0x7ff00000)
word_end file segments code a h e =
    let (at, k) = known file segments code a h e in
    let (j, g, n, f, (l, x, v, u, w)) = (code_at file a at h.facts h.inside k.place).loaded in
    let top : g.vaddr + g.mem_size ≤ image_end (segments_of file) = rw f at (ends_below (segments_of file) j g n) l in
    let fits : IsInside (length file) g = rw f at (h.facts.segments j g n) l in
    let fit : g.file_size ≤ g.mem_size = fits.fits in
    (omega (arith, top, fit, u), k.low)

-- what is known of the next code word
pub record IsNextWord (file : List ℕ) (from a : ℕ) : Type 0 where
  pub reached : from ≤ a
  pub word : is_some (code_word file a) ≡ true
  pub end : a + 4 ≤ image_end (segments_of file)
  pub low : a + 4 ≤ 0x7ff00000
  pub gap : (b : ℕ) → from ≤ b → b < a → code_word file b ≡ None

-- there is a word exactly where it has a place
pub same_some : {A B : Type 0} (f : A → B) (o : Option A) → is_some (option_map f o) ≡ is_some o
same_some f None = refl
same_some f (Some x) = refl

pub no_word : (file : List ℕ) (a : ℕ) → code_place file a ≡ None → code_word file a ≡ None
no_word file a h = rw h refl

pub next_word : (file : List ℕ) (segments : List Segment) (code : List Part) (i from at a : ℕ) (d : Part)
    → IsCode file segments code → i < length code
    → at % 4 ≡ 0 → from ≤ at → at < from + 4 → ((k : ℕ) (d : Part) → k < i → (get_or code k d).end ≤ at)
    → at < (get_or code i d).end
    → a ≡ max at (get_or code i d).start → IsNextWord file from a
next_word file segments code i from at a d h l m least near done up e =
    let w : is_some (code_place file a) ≡ true = rw e (next_is_code file segments code i at d h l m done up) in
    let (x, y) = word_end file segments code a h w in
    record {
      reached = omega (arith, e, least);
      word = same_some (word_at file) (code_place file a) ∙ w;
      end = x;
      low = y;
      gap = λ b n u. no_word file b (gap_before file segments code i from at b d h done m near n l (rw (sym e) u));
    }
