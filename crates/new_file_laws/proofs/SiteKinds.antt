-- A site is a JAL or a pair, its jump has one or two words, and the words of two sites never meet.
use Rattle.std.proofs.Common.{◌≡◌, ◌≢◌, ◌⊎◌, inl, inr, ℕ, zero, suc, ◌+◌, ◌*◌, ◌/◌, ◌==◌, ◌&&◌, ◌||◌, Bool, true, false}
use Rattle.std.proofs.Common.{if◌then◌else◌, List, refl, sym, ap, ◌∙◌, subst, arith, Option, Some, None, is_some}
use Rattle.std.specs.Prelude.{option_and_then, slice_get}
use Rattle.std.proofs.lemmas.Bool.Decides.{nat_tests}
use Rattle.rv_isa.specs.declared.Instr.{Instr}
use Rattle.rv_isa.specs.declared.Instr.TheVariants.{Auipc, Jal, Jalr}
use Rattle.rv_isa.specs.Table.{decoded}
use Rattle.elf_spec.specs.Code.{code_place, code_word}
use Rattle.elf_spec.specs.Relocations.{has_reloc, relocs_of}
use Rattle.elf_spec.proofs.CodePlaces.{place_of}
use Rattle.site_spec.specs.declared.Site.{Site}
use Rattle.rv_isa.specs.Addresses.{plus}
use Rattle.site_spec.specs.Sites.{call_at, code_at, is_call_of_code, kept_site, reaches_all_stubs, site_at}
use Rattle.new_file_spec.specs.Rewritten.{jump_words}
use Rattle.simulation.specs.Ground.{IsJalSite, IsPairSite}

-- the site of a JAL, and of an AUIPC with its JALR
abbrev jal_site_of : List ℕ → (a imm : ℕ) → Site
jal_site_of file a imm = record {
  addr = a;
  target = plus a imm;
  back = a + 4;
  pair = false;
  near =
      reaches_all_stubs file a;
}

abbrev pair_site_of : (a imm low : ℕ) → Site
pair_site_of a imm low = record {
  addr = a;
  target = plus a (imm + low) / 2 * 2;
  back = a + 8;
  pair = true;
  near =
      true;
}

abbrev IsOfJal : List ℕ → ℕ → Option Instr → Site → Type 0
IsOfJal file a i s = (imm : ℕ) × (i ≡ Some (Jal 1 imm)) × (jal_site_of file a imm ≡ s)

abbrev IsOfPair : ℕ → (i n : Option Instr) → Site → Type 0
IsOfPair a i n s = (imm : ℕ) × (low : ℕ) × (i ≡ Some (Auipc 1 imm)) × (n ≡ Some (Jalr 1 1 low))
    × (pair_site_of a imm low ≡ s)

of_jal : (file : List ℕ) (a rd imm : ℕ) (s : Site) → (b r : Bool) → (rd == 1) ≡ b
    → (if b && r then Some (jal_site_of file a imm) else None) ≡ Some s
    → IsOfJal file a (Some (Jal rd imm)) s
of_jal file a rd imm s true true e h =
    let one : rd ≡ 1 = grind (arith, nat_tests) in
    let same : jal_site_of file a imm ≡ s = cc in
    (imm, ap (λ r. Some (Jal r imm)) one, same)
of_jal file a rd imm s true false e h = absurd (cc)
of_jal file a rd imm s false r e h = absurd (cc)

of_pair : (a rd imm rd' rs1 low : ℕ) (s : Site) → (p q r x : Bool) → (rd == 1) ≡ p → (rd' == 1) ≡ q → (rs1 == 1) ≡ r
    → (if (p && (q && r)) && x then Some (pair_site_of a imm low) else None) ≡ Some s
    → IsOfPair a (Some (Auipc rd imm)) (Some (Jalr rd' rs1 low)) s
of_pair a rd imm rd' rs1 low s true true true true e f g h =
    let one : rd ≡ 1 = grind (arith, nat_tests) in
    let link : rd' ≡ 1 = grind (arith, nat_tests) in
    let through : rs1 ≡ 1 = grind (arith, nat_tests) in
    let same : pair_site_of a imm low ≡ s = cc in (
      imm,
      low,
      ap (λ r. Some (Auipc r imm)) one,
      ap (λ r. Some (Jalr r rs1 low)) link
          ∙ ap (λ r. Some (Jalr 1 r low)) through,
      same,
    )
of_pair a rd imm rd' rs1 low s true true true false e f g h = absurd (cc)
of_pair a rd imm rd' rs1 low s true true false x e f g h = absurd (cc)
of_pair a rd imm rd' rs1 low s true false r x e f g h = absurd (cc)
of_pair a rd imm rd' rs1 low s false q r x e f g h = absurd (cc)

behind_auipc : (file : List ℕ) (a rd imm : ℕ) (n : Option Instr) (s : Site)
    → call_at file a (Some (Auipc rd imm)) n ≡ Some s
    → IsOfPair a (Some (Auipc rd imm)) n s
unfolding call_at
behind_auipc file a rd imm (Some (Jalr rd' rs1 low)) s h =
    of_pair a rd imm rd' rs1 low s (rd == 1) (rd' == 1) (rs1 == 1)
    (has_reloc (relocs_of file) 18 a || has_reloc (relocs_of file) 19 a) refl refl refl h
behind_auipc file a rd imm _ s h = absurd (cc)

call_is : (file : List ℕ) (a : ℕ) (i n : Option Instr) (s : Site) → call_at file a i n ≡ Some s
    → IsOfJal file a i s ⊎ IsOfPair a i n s
unfolding call_at
call_is file a (Some (Jal rd imm)) n s h =
    inl (of_jal file a rd imm s (rd == 1) (has_reloc (relocs_of file) 17 a) refl h)
call_is file a (Some (Auipc rd imm)) n s h = inr (behind_auipc file a rd imm n s h)
call_is file a _ n s h = absurd (cc)

-- a site that is kept calls a code word
pub kept : (file : List ℕ) (o : Option Site) (s : Site) → kept_site file o ≡ Some s
    → (o ≡ Some s) × (is_call_of_code file s ≡ true)
kept file None s h = absurd (cc)
kept file (Some t) s h = by_test (is_call_of_code file t) refl h
  where
    by_test : (b : Bool) → is_call_of_code file t ≡ b → (if b then Some t else None) ≡ Some s
        → (Some t ≡ Some s) × (is_call_of_code file s ≡ true)
    by_test true q e = let same : t ≡ s = cc in (e, subst (λ x. is_call_of_code file x ≡ true) same q)
    by_test false q e = absurd (cc)

first_of : (b c : Bool) → (b && c) ≡ true → b ≡ true
first_of true c h = refl
first_of false c h = h

pub target_there : (file : List ℕ) (a : ℕ) (s : Site) → site_at file a ≡ Some s
    → is_some (code_word file s.target) ≡ true
unfolding site_at
target_there file a s h =
    first_of (is_some (code_word file s.target)) _
    (kept file (call_at file a (code_at file a) (code_at file (a + 4))) s h).1

-- the word of an instruction in the code
word_of : (file : List ℕ) (a : ℕ) (i : Instr) (o : Option ℕ) → code_word file a ≡ o → option_and_then decoded o ≡ Some i
    → (w : ℕ) × (code_word file a ≡ Some w) × (decoded w ≡ Some i)
word_of file a i None q e = absurd (cc)
word_of file a i (Some w) q e = (w, q, e)

-- a site is a JAL or a pair
pub site_is : (file : List ℕ) (a : ℕ) (s : Site) → site_at file a ≡ Some s → IsJalSite file a s ⊎ IsPairSite file a s
unfolding site_at
site_is file a s e =
    by_kind (call_is file a (code_at file a) (code_at file (a + 4)) s
    (kept file (call_at file a (code_at file a) (code_at file (a + 4))) s e).0)
  where
    by_kind : IsOfJal file a (code_at file a) s ⊎ IsOfPair a (code_at file a) (code_at file (a + 4)) s
        → IsJalSite file a s ⊎ IsPairSite file a s
    by_kind (inl (imm, i, made)) =
        let (w, there, reads) = word_of file a (Jal 1 imm) (code_word file a) refl i in
        inl (subst (λ s. IsJalSite file a s) made
        (record {
          word = w;
          imm = imm;
          there = there;
          reads = reads;
          addr = refl;
          target = refl;
          back = refl;
          pair =
              refl;
        }))
    by_kind (inr (imm, low, i, n, made)) =
        let (v, there, reads) = word_of file a (Auipc 1 imm) (code_word file a) refl i in
        let (w, next, reads_next) = word_of file (a + 4) (Jalr 1 1 low) (code_word file (a + 4)) refl n in
        let code : is_some (code_word file (pair_site_of a imm low).target) ≡ true =
        subst (λ x. is_some (code_word file x.target) ≡ true) (sym made) (target_there file a s e) in
        inr (subst (λ s. IsPairSite file a s) made (record {
          first = v;
          second = w;
          upper = imm;
          lower = low;
          there = there;
          reads = reads;
          next = next;
          reads_next = reads_next;
          addr = refl;
          target = refl;
          code = code;
          back = refl;
          pair = refl;
        }))

-- a site stands at its address
pub site_addr : (file : List ℕ) (a : ℕ) (s : Site) → site_at file a ≡ Some s → s.addr ≡ a
site_addr file a s e = by_kind (site_is file a s e)
  where
    by_kind : IsJalSite file a s ⊎ IsPairSite file a s → s.addr ≡ a
    by_kind (inl jal) = jal.addr
    by_kind (inr pair) = pair.addr

-- it begins at a code word
pub site_there : (file : List ℕ) (a : ℕ) (s : Site) → site_at file a ≡ Some s → is_some (code_word file a) ≡ true
site_there file a s e = by_kind (site_is file a s e)
  where
    by_kind : IsJalSite file a s ⊎ IsPairSite file a s → is_some (code_word file a) ≡ true
    by_kind (inl jal) = rw jal.there refl
    by_kind (inr pair) = rw pair.there refl

-- a word of a site: its first, or the second of a pair
abbrev pub IsWordOf : List ℕ → ℕ → Site → ℕ → Type 0
IsWordOf file a s i = (i ≡ 0) ⊎ ((i ≡ 1) × IsPairSite file a s)

-- a site's jump has as many words as the site
pub few_words : (file : List ℕ) (a to i w : ℕ) (s : Site) → site_at file a ≡ Some s
    → slice_get (jump_words to s) i ≡ Some w → IsWordOf file a s i
few_words file a to i w s e f = by_kind (site_is file a s e) i f
  where
    by_kind : IsJalSite file a s ⊎ IsPairSite file a s → (i : ℕ) → slice_get (jump_words to s) i ≡ Some w
        → IsWordOf file a s i
    by_kind kind zero f = inl refl
    by_kind (inl jal) (suc i) f = absurd (let single : s.pair ≡ false = jal.pair in let none : None ≡ Some w =
        rw single at f in cc)
    by_kind (inr pair) (suc zero) f = inr (refl, pair)
    by_kind (inr pair) (suc (suc i)) f = absurd (let double : s.pair ≡ true = pair.pair in let none : None ≡ Some w =
        rw double at f in cc)

-- the words of a site are code words
pub word_place : (file : List ℕ) (a i : ℕ) (s : Site) → site_at file a ≡ Some s → IsWordOf file a s i
    → (place : ℕ) × (code_place file (a + 4 * i) ≡ Some place)
word_place file a i s e word = by_word word
  where
    by_word : IsWordOf file a s i → (place : ℕ) × (code_place file (a + 4 * i) ≡ Some place)
    by_word (inl none) =
        let here : a ≡ a + 4 * i = omega (arith, none) in
        place_of file (a + 4 * i) (subst (λ x. is_some (code_word file x) ≡ true) here (site_there file a s e))
    by_word (inr (one, pair)) =
        let here : a + 4 ≡ a + 4 * i = omega (arith, one) in
        let next : is_some (code_word file (a + 4)) ≡ true = rw pair.next refl in
        place_of file (a + 4 * i) (subst (λ x. is_some (code_word file x) ≡ true) here next)

-- the first word of a site isn't the second of a pair
second_not_first : (file : List ℕ) (a b : ℕ) (s t : Site) → site_at file a ≡ Some s → IsPairSite file b t → a ≢ b + 4
second_not_first file a b s t e pair same = by_kind (site_is file a s e)
  where
    reads : (v : ℕ) (i : Instr) → code_word file a ≡ Some v → decoded v ≡ Some i → Some i ≡ Some (Jalr 1 1 pair.lower)
    reads v i there d =
        let here : Some v ≡ Some pair.second = sym there ∙ (ap (code_word file) same ∙ pair.next) in
        let word : v ≡ pair.second = cc in
        sym d ∙ (ap decoded word ∙ pair.reads_next)

    by_kind : IsJalSite file a s ⊎ IsPairSite file a s → ⊥
    by_kind (inl jal) = let clash : Some (Jal 1 jal.imm) ≡ Some (Jalr 1 1 pair.lower) =
        reads jal.word (Jal 1 jal.imm) jal.there jal.reads in cc
    by_kind (inr other) = let clash : Some (Auipc 1 other.upper) ≡ Some (Jalr 1 1 pair.lower) =
        reads other.first (Auipc 1 other.upper) other.there other.reads in cc

-- the words of two sites never meet
pub words_differ : (file : List ℕ) (a b i j : ℕ) (s t : Site) → site_at file a ≡ Some s → site_at file b ≡ Some t
    → a ≢ b → IsWordOf file a s i → IsWordOf file b t j
    → a + 4 * i ≢ b + 4 * j
words_differ file a b i j s t e f other (inl p) (inl q) same = other (omega (arith, p, q, same))
words_differ file a b i j s t e f other (inr (p, pair)) (inr (q, next)) same = other (omega (arith, p, q, same))
words_differ file a b i j s t e f other (inl p) (inr (q, pair)) same =
    second_not_first file a b s t e pair (omega (arith, p, q, same))
words_differ file a b i j s t e f other (inr (p, pair)) (inl q) same =
    second_not_first file b a t s f pair (omega (arith, p, q, same))
