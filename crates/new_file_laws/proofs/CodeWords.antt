-- The words of an accepted file's code: each stands behind the file header and beside the tables, and
-- two of them share no byte.
use Rattle.std.proofs.Common.{◌≡◌, ◌≢◌, ℕ, suc, ◌+◌, ◌*◌, ◌%◌, ◌<◌, ◌≤◌, ◌==◌, ◌⊎◌, inl, inr, not, ◌&&◌, ◌||◌, List}
use Rattle.std.proofs.Common.{◌++◌, Bool, true, false, length, map, get_or, refl, sym, ap, ◌∙◌, subst, arith, Option}
use Rattle.std.proofs.Common.{Some, None, nat_lt}
use Rattle.std.specs.Prelude.{All, find, filter}
use Rattle.std.proofs.lemmas.Bool.Decides.{nat_tests}
use Rattle.std.proofs.lemmas.List.{get_or_default}
use Rattle.std.proofs.lemmas.List.Elements.{All-weaker}
use Rattle.elf_spec.specs.declared.Patch.{Patch}
use Rattle.elf_spec.specs.declared.Section.{Section}
use Rattle.elf_spec.specs.declared.Segment.{Segment}
use Rattle.elf_spec.specs.Code.{code_place}
use Rattle.elf_spec.specs.Fields.{is_set}
use Rattle.elf_spec.specs.Memory.{is_loaded}
use Rattle.elf_spec.specs.Records.{e_shnum, e_shoff, sections_of, segments_of}
use Rattle.elf_spec.specs.Relocations.{is_kept_rela}
use Rattle.elf_spec.specs.Tables.{is_symtab, strings_of}
use Rattle.elf_read.specs.Checks.{is_shared, meets}
use Rattle.elf_read.specs.Readable.{IsSectionInside}
use Rattle.elf_write.specs.Inputs.{IsInside}
use Rattle.elf_write.specs.Kept.{AreTablesUnpatched}
use Rattle.elf_write.specs.Layout.{IsBeside}
use Rattle.exec_image.specs.Accepted.{AcceptedFacts, IsAlone, IsCodeAt}
use Rattle.exec_image.specs.Checks.{descriptions, sections_in}
use Rattle.new_file_laws.specs.Parts.{IsInCode}

-- what holds of all that describes a file holds of its header and of the tables
record AreDescribed (file : List ℕ) (P : ℕ × ℕ → Type 0) : Type 0 where
  header : P (0, 52)
  sections : P (e_shoff file, 40 * e_shnum file)
  symbols : (t : Section) → find is_symtab (sections_of file) ≡ Some t → P (t.offset, t.size)
  strings : (s : Section) → strings_of (sections_of file) (find is_symtab (sections_of file)) ≡ Some s
      → P (s.offset, s.size)

abbrev place_and_size : Section → ℕ × ℕ
place_and_size s = (s.offset, s.size)

first_in : (P : ℕ × ℕ → Type 0) (a b : Option Section) (rest : List Section)
    → All P (map place_and_size (sections_in a ++ sections_in b ++ rest))
    → (t : Section) → a ≡ Some t → P (place_and_size t)
first_in P None b rest h t e = absurd (cc)
first_in P (Some s) b rest h t e =
    let same : s ≡ t = cc in
    let at : P (place_and_size s) = h 0 (place_and_size s) (omega arith) in
    subst (λ s. P (place_and_size s)) same at

second_in : (P : ℕ × ℕ → Type 0) (a b : Option Section) (rest : List Section)
    → All P (map place_and_size (sections_in a ++ sections_in b ++ rest))
    → (t : Section) → b ≡ Some t → P (place_and_size t)
second_in P a None rest h t e = absurd (cc)
second_in P None (Some s) rest h t e =
    let same : s ≡ t = cc in
    let at : P (place_and_size s) = h 0 (place_and_size s) (omega arith) in
    subst (λ s. P (place_and_size s)) same at
second_in P (Some a) (Some s) rest h t e =
    let same : s ≡ t = cc in
    let at : P (place_and_size s) = h 1 (place_and_size s) (omega arith) in
    subst (λ s. P (place_and_size s)) same at

described : (file : List ℕ) (P : ℕ × ℕ → Type 0) → All P (descriptions file) → AreDescribed file P
unfolding descriptions
described file P h = record {
  header = h 0 (0, 52) (omega arith);
  sections = h 2 (0, 52) (omega arith);
  symbols = first_in P table strings rest tables;
  strings = second_in P table strings rest tables;
}
  where
    table : Option Section
    table = find is_symtab (sections_of file)

    strings : Option Section
    strings = strings_of (sections_of file) table

    rest : List Section
    rest = filter (is_kept_rela (sections_of file)) (sections_of file)

    tables : All P (map place_and_size (sections_in table ++ sections_in strings ++ rest))
    tables = λ i d low. h (suc (suc (suc i))) d (omega (arith, low))

-- what shares no byte with a table lies beside each byte of it
beside : (p d n k : ℕ) → is_shared p 4 d n ≡ false → k < n → IsBeside p 4 (d + k)
beside p d n k h l = by_order (nat_lt (d + k) p) refl
  where
    by_order : (b : Bool) → nat_lt (d + k) p ≡ b → IsBeside p 4 (d + k)
    by_order true e = let low : d + k < p = grind (arith, nat_tests) in inl low
    by_order false e = let high : p + 4 ≤ d + k = grind (arith, nat_tests) in inr high

-- patches that share no byte with what describes a file leave its tables
pub tables_left : (P : Patch → Type 0) (file : List ℕ) (patches : List Patch)
    → ((p : Patch) → P p → All (λ d. is_shared p.offset 4 d.0 d.1 ≡ false) (descriptions file)) → All P patches
    → AreTablesUnpatched file patches
tables_left P file patches alone codes = record {
  sections = all (e_shoff file) (40 * e_shnum file) (λ p d. d.sections);
  symbols = λ t e. all t.offset t.size (λ p d. d.symbols t e);
  strings = λ s e. all s.offset s.size (λ p d. d.strings s e);
}
  where
    Unshared : Patch → ℕ × ℕ → Type 0
    Unshared p d = is_shared p.offset 4 d.0 d.1 ≡ false

    all : (at n : ℕ) → ((p : Patch) → AreDescribed file (Unshared p) → is_shared p.offset 4 at n ≡ false) → (k : ℕ)
        → k < n
        → All (λ p. IsBeside p.offset 4 (at + k)) patches
    all at n pick k l = All-weaker P (λ p. IsBeside p.offset 4 (at + k))
        (λ p c. beside p.offset at n k (pick p (described file (Unshared p) (alone p c))) l) patches codes

-- the patch is that of a code word
abbrev pub IsOfCode : List ℕ → Patch → Type 0
IsOfCode file p = (a : ℕ) × (code_place file a ≡ Some p.offset)

pub code_alone : (file : List ℕ) → AcceptedFacts file → (p : Patch) → IsOfCode file p
    → All (λ d. is_shared p.offset 4 d.0 d.1 ≡ false) (descriptions file)
code_alone file facts p (a, e) = (facts.code a p.offset e).plain

-- a part of a section shares what the section shares
pub section_alone : (file : List ℕ) → AcceptedFacts file → (p : Patch) → IsInCode file p
    → All (λ d. is_shared p.offset 4 d.0 d.1 ≡ false) (descriptions file)
section_alone file facts p (i, s, low, is, (x, a, b)) = λ k d l.
    let alone : IsAlone file s = subst (IsAlone file) is (facts.sections i s low) in
    let section : is_shared s.offset s.size (get_or (descriptions file) k d).0 (get_or (descriptions file) k d).1
    ≡ false = alone x k d l in
    grind (arith, nat_tests)

-- it stands behind the file header
pub section_behind : (file : List ℕ) → AcceptedFacts file → (p : Patch) → IsInCode file p → 52 ≤ p.offset
section_behind file facts p c = behind (described file (λ d. is_shared p.offset 4 d.0 d.1 ≡ false)
    (section_alone file facts p c)).header
  where
    behind : is_shared p.offset 4 0 52 ≡ false → 52 ≤ p.offset
    behind h = grind (arith, nat_tests)

-- and inside the file
pub section_inside : (file : List ℕ) → AcceptedFacts file → (p : Patch) → IsInCode file p → IsInside (length file) p
section_inside file facts p (i, s, low, is, (x, a, b)) =
    let kind : s.kind ≡ 1 = progbits s.kind (not (s.size == 0) && (is_set 2 s.flags && is_set 4 s.flags)) x in
    let inside : s.offset + s.size ≤ length file = subst (IsSectionInside (length file)) is
    (facts.facts.sections i s low) (λ z. omega (arith, kind, z)) (λ z. omega (arith, kind, z)) in
    omega (arith, inside, b)
  where
    progbits : (k : ℕ) (b : Bool) → ((k == 1) && b) ≡ true → k ≡ 1
    progbits k true h = grind (arith, nat_tests)
    progbits k false h = absurd (by_test (k == 1) h)
      where
        by_test : (t : Bool) → (t && false) ≡ true → ⊥
        by_test true h = cc
        by_test false h = cc

pub behind_header : (file : List ℕ) (a place : ℕ) → AcceptedFacts file → code_place file a ≡ Some place → 52 ≤ place
behind_header file a place facts e =
    behind (described file (λ d. is_shared place 4 d.0 d.1 ≡ false) (facts.code a place e).plain).header
  where
    behind : is_shared place 4 0 52 ≡ false → 52 ≤ place
    behind h = grind (arith, nat_tests)

-- loaded segments that don't meet share no file byte
no_common : (x y s t : Bool) → x ≡ true → y ≡ true → ((x && y) && (s || t)) ≡ false → t ≡ false
no_common true true true t e f h = absurd (cc)
no_common true true false t e f h = h
no_common false y s t e f h = absurd (cc)
no_common true false s t e f h = absurd (cc)

-- parts that share nothing have words apart
far : (o m u n p q : ℕ) → is_shared o m u n ≡ false → o ≤ p → p + 4 ≤ o + m → u ≤ q → q + 4 ≤ u + n
    → (p + 4 ≤ q) ⊎ (q + 4 ≤ p)
far o m u n p q h a b c d = by_order (nat_lt p q) refl
  where
    by_order : (t : Bool) → nat_lt p q ≡ t → (p + 4 ≤ q) ⊎ (q + 4 ≤ p)
    by_order true e = let low : p + 4 ≤ q = grind (arith, nat_tests) in inl low
    by_order false e = let high : q + 4 ≤ p = grind (arith, nat_tests) in inr high

-- aligned words of one segment
near : (a b p q v o : ℕ) → a % 4 ≡ 0 → b % 4 ≡ 0 → a ≢ b → p + v ≡ o + a → q + v ≡ o + b → (p + 4 ≤ q) ⊎ (q + 4 ≤ p)
near a b p q v o m n different e f = by_order (nat_lt a b) refl
  where
    by_order : (t : Bool) → nat_lt a b ≡ t → (p + 4 ≤ q) ⊎ (q + 4 ≤ p)
    by_order true t = let low : a < b = grind (arith, nat_tests) in inl (omega (arith, low, m, n, e, f))
    by_order false t =
        let high : b ≤ a = grind (arith, nat_tests) in
        let above : b < a = omega (arith, high, different) in
        inr (omega (arith, above, m, n, e, f))

-- the words at two addresses of the code share no byte
pub words_apart : (file : List ℕ) (a b p q : ℕ) → AcceptedFacts file → code_place file a ≡ Some p
    → code_place file b ≡ Some q → a ≢ b → (p + 4 ≤ q) ⊎ (q + 4 ≤ p)
words_apart file a b p q facts e f different =
    let s : IsCodeAt file a p = facts.code a p e in
    let t : IsCodeAt file b q = facts.code b q f in
    let (i, g, low_i, is_g, at_g) = s.loaded in
    let (j, h, low_j, is_h, at_h) = t.loaded in
    by_index i j g h (nat_lt i j) (nat_lt j i) refl refl low_i low_j is_g is_h at_g at_h s.aligned t.aligned
  where
    InSegment : Segment → ℕ → ℕ → Type 0
    InSegment g a p = (is_loaded g ≡ true) × (is_set 1 g.flags ≡ true) × (g.vaddr ≤ a) × (a + 4 ≤ g.vaddr + g.file_size)
        × (p + g.vaddr ≡ g.offset + a)

    apart_in : (i j : ℕ) (g h : Segment) (a b p q : ℕ) → i < j → j < length (segments_of file)
        → get_or (segments_of file) i g ≡ g → get_or (segments_of file) j h ≡ h
        → InSegment g a p → InSegment h b q → (p + 4 ≤ q) ⊎ (q + 4 ≤ p)
    apart_in i j g h a b p q l low is_g is_h (loaded_g, c1, c2, c3, c4) (loaded_h, d1, d2, d3, d4) =
        let other : get_or (segments_of file) j g ≡ h = get_or_default (segments_of file) j g h low ∙ is_h in
        let free : meets g h ≡ false = subst (λ x. meets g x ≡ false) other
        (subst (λ x. meets x (get_or (segments_of file) j g) ≡ false) is_g (facts.facts.apart i j g l low)) in
        let unshared : is_shared g.offset g.file_size h.offset h.file_size ≡ false =
        no_common (is_loaded g) (is_loaded h) (is_shared g.vaddr g.mem_size h.vaddr h.mem_size)
        (is_shared g.offset g.file_size h.offset h.file_size) loaded_g loaded_h free in
        far g.offset g.file_size h.offset h.file_size p q unshared (omega (arith, c2, c4)) (omega (arith, c3, c4))
        (omega (arith, d2, d4)) (omega (arith, d3, d4))

    turned : (p q : ℕ) → (q + 4 ≤ p) ⊎ (p + 4 ≤ q) → (p + 4 ≤ q) ⊎ (q + 4 ≤ p)
    turned p q (inl l) = inr l
    turned p q (inr r) = inl r

    by_index : (i j : ℕ) (g h : Segment) (x y : Bool) → nat_lt i j ≡ x → nat_lt j i ≡ y → i < length (segments_of file)
        → j < length (segments_of file)
        → get_or (segments_of file) i g ≡ g → get_or (segments_of file) j h ≡ h → InSegment g a p → InSegment h b q
        → a % 4 ≡ 0 → b % 4 ≡ 0
        → (p + 4 ≤ q) ⊎ (q + 4 ≤ p)
    by_index i j g h true y x_is y_is low_i low_j is_g is_h at_g at_h m n =
        let l : i < j = grind (arith, nat_tests) in apart_in i j g h a b p q l low_j is_g is_h at_g at_h
    by_index i j g h false true x_is y_is low_i low_j is_g is_h at_g at_h m n =
        let l : j < i = grind (arith, nat_tests) in turned p q (apart_in j i h g b a q p l low_i is_h is_g at_h at_g)
    by_index i j g h false false x_is y_is low_i low_j is_g is_h (g0, g1, g2, g3, g4) (h0, h1, h2, h3, h4) m n =
        let same : i ≡ j = grind (arith, nat_tests) in
        let one : g ≡ h = sym is_g ∙ (ap (λ k. get_or (segments_of file) k g) same
        ∙ (get_or_default (segments_of file) j g h low_j ∙ is_h)) in
        near a b p q g.vaddr g.offset m n different g4 (subst (λ x. q + x.vaddr ≡ x.offset + b) (sym one) h4)
