-- A load from a region gives a value for which the flat machine's word stands.
use Rattle.std.proofs.Common.{◌≡◌, ℕ, suc, ◌+◌, ◌*◌, ◌/◌, ◌%◌, ◌^◌, ◌<◌, Bool, true, false, ◌&&◌, if◌then◌else◌, nat_eq}
use Rattle.std.proofs.Common.{List, [], ◌∷◌, Option, Some, None, option_map, option_and_then, refl, ap, ap₂, sym, subst}
use Rattle.std.proofs.Common.{◌∙◌, arith}
use Rattle.std.proofs.lemmas.Bool.Decides.{nat_tests}
use Rattle.std.proofs.lemmas.Bool.{and_parts, eqb-true}
use Rattle.rv_isa.specs.declared.Width.{Width}
use Rattle.rv_isa.specs.declared.Width.TheVariants.{Byte, Half, Word, ByteU, HalfU}
use Rattle.machine_spec.specs.Widths.{number_of, size_of, loaded_as}
use Rattle.machine_spec.specs.Memory.{Range, all_from}
use Rattle.machine_spec.specs.Memory as machine
use Rattle.flat_spec.specs.Stores.{bytes_from}
use Rattle.sym_value.specs.declared.Value.TheVariants.{Unset}
use Rattle.sym_value.specs.declared.Whole.{Whole}
use Rattle.sym_value.specs.declared.Whole.TheVariants.{Ptr as WholePtr, Ret as WholeRet}
use Rattle.sym_value.specs.Standing.{Holds, standing, byte_of_word, IsWhole}
use Rattle.sym_cells.specs.declared.Mark.{Mark}
use Rattle.sym_cells.specs.declared.Mark.TheVariants.{Known, Blank, Piece}
use Rattle.sym_cells.specs.Cells.{Cell, Bytes, Mixed, Cells, mark_in, mark_at}
use Rattle.sym_cells.specs.Moves.{same_whole, value_of, is_piece, word_of, word_in, half_of, byte_of, load_at}
use Rattle.sym_cells.specs.Region.{MarkStands, Region, AreWords}
use Rattle.sym_cells.proofs.CellLaws.{marks_of_cell}

pub same_whole_is : (s t : Whole) → same_whole s t ≡ true → s ≡ t
same_whole_is (WholePtr b o) (WholePtr c p) e =
    let parts = and_parts _ _ e in ap₂ (λ x y. WholePtr x y) (eqb-true b c parts.0) (eqb-true o p parts.1)
same_whole_is (WholeRet a) (WholeRet b) e = ap (λ x. WholeRet x) (eqb-true a b e)
same_whole_is (WholePtr b o) (WholeRet a) e = absurd (cc)
same_whole_is (WholeRet a) (WholePtr b o) e = absurd (cc)

-- the byte of a piece
piece_byte : (back : ℕ → ℕ) (at : List ℕ) (s : Whole) (i b : ℕ) (m : Mark) → is_piece s i m ≡ true
    → MarkStands back at m b
    → b ≡ byte_of_word i (standing back at s)
piece_byte back at s i b (Piece t j) e h =
    let parts = and_parts _ _ e in
    let whole : s ≡ t = same_whole_is s t parts.0 in
    let place : i ≡ j = eqb-true i j parts.1 in
    h.0 ∙ ap₂ (λ x y. byte_of_word x (standing back at y)) (sym place) (sym whole)
piece_byte back at s i b (Known v) e h = absurd (cc)
piece_byte back at s i b Blank e h = absurd (cc)

-- the word for which a whole stands, out of its bytes
pub standing_small : (back : ℕ → ℕ) (at : List ℕ) (s : Whole) → AreWords back → IsWhole at s
    → standing back at s < 2 ^ 32
standing_small back at (WholePtr b o) words h = omega arith
standing_small back at (WholeRet a) words h = words a h

whole_number : (w b0 b1 b2 b3 : ℕ) → w < 2 ^ 32 → b0 ≡ byte_of_word 0 w → b1 ≡ byte_of_word 1 w → b2 ≡ byte_of_word 2 w
    → b3 ≡ byte_of_word 3 w → number_of (b0 ∷ b1 ∷ b2 ∷ b3 ∷ []) ≡ w
whole_number w b0 b1 b2 b3 small e0 e1 e2 e3 = omega arith

value_of_holds : (back : ℕ → ℕ) (at : List ℕ) (s : Whole) (w : ℕ) → IsWhole at s → standing back at s ≡ w
    → Holds back at (value_of s) w
value_of_holds back at (WholePtr b o) w h e = record { stands = e; value = h }
value_of_holds back at (WholeRet a) w h e = record { stands = e; value = h }

unset : (back : ℕ → ℕ) (at : List ℕ) (w : ℕ) → Holds back at Unset w
unset back at w = record { stands = tt; value = tt }

word_holds : (back : ℕ → ℕ) (at : List ℕ) (m0 m1 m2 m3 : Mark) (b0 b1 b2 b3 : ℕ) → AreWords back
    → MarkStands back at m0 b0
    → MarkStands back at m1 b1 → MarkStands back at m2 b2 → MarkStands back at m3 b3
    → Holds back at (word_of m0 m1 m2 m3) (number_of (b0 ∷ b1 ∷ b2 ∷ b3 ∷ []))
word_holds back at (Known v0) (Known v1) (Known v2) (Known v3) b0 b1 b2 b3 words h0 h1 h2 h3 =
    let e0 : b0 ≡ v0 = h0 in
    let e1 : b1 ≡ v1 = h1 in
    let e2 : b2 ≡ v2 = h2 in
    let e3 : b3 ≡ v3 = h3 in
    record { stands = rw (e0, e1, e2, e3) refl; value = tt }
word_holds back at (Piece s i) m1 m2 m3 b0 b1 b2 b3 words h0 h1 h2 h3 =
    by_test (nat_eq i 0) refl (is_piece s 1 m1) refl (is_piece s 2 m2) refl (is_piece s 3 m3) refl
  where
    by_test : (p : Bool) → nat_eq i 0 ≡ p → (q : Bool) → is_piece s 1 m1 ≡ q → (r : Bool) → is_piece s 2 m2 ≡ r
        → (t : Bool) → is_piece s 3 m3 ≡ t
        → Holds back at (if p && (q && (r && t)) then value_of s else Unset) (number_of (b0 ∷ b1 ∷ b2 ∷ b3 ∷ []))
    by_test true e0 true e1 true e2 true e3 =
        let place : i ≡ 0 = eqb-true i 0 e0 in
        let first : b0 ≡ byte_of_word 0 (standing back at s) = h0.0
        ∙ ap (λ x. byte_of_word x (standing back at s)) place in
        value_of_holds back at s _ h0.1
        (sym (whole_number (standing back at s) b0 b1 b2 b3 (standing_small back at s words h0.1) first
        (piece_byte back at s 1 b1 m1 e1 h1) (piece_byte back at s 2 b2 m2 e2 h2) (piece_byte back at s 3 b3 m3 e3 h3)))
    by_test true e0 true e1 true e2 false e3 = unset back at _
    by_test true e0 true e1 false e2 t e3 = unset back at _
    by_test true e0 false e1 r e2 t e3 = unset back at _
    by_test false e0 q e1 r e2 t e3 = unset back at _
word_holds back at m0 m1 m2 m3 b0 b1 b2 b3 words h0 h1 h2 h3 = unset back at _

half_holds : (back : ℕ → ℕ) (at : List ℕ) (width : Width) (m0 m1 : Mark) (b0 b1 : ℕ) → MarkStands back at m0 b0
    → MarkStands back at m1 b1 → Holds back at (half_of width m0 m1) (loaded_as width (number_of (b0 ∷ b1 ∷ [])))
half_holds back at width (Known v0) (Known v1) b0 b1 h0 h1 =
    let e0 : b0 ≡ v0 = h0 in
    let e1 : b1 ≡ v1 = h1 in
    record { stands = rw (e0, e1) refl; value = tt }
half_holds back at width m0 m1 b0 b1 h0 h1 = unset back at _

-- a byte that is extended keeps its low eight bits
signed_byte : (b w : ℕ) → b ≡ w % 256 → loaded_as Byte (number_of (b ∷ [])) % 256 ≡ w % 256
signed_byte b w e = grind (arith, nat_tests)

unsigned_byte : (b w : ℕ) → b ≡ w % 256 → loaded_as ByteU (number_of (b ∷ [])) % 256 ≡ w % 256
unsigned_byte b w e = omega arith

byte_holds : (back : ℕ → ℕ) (at : List ℕ) (width : Width) (m : Mark) (b : ℕ) → size_of width ≡ 1
    → MarkStands back at m b
    → Holds back at (byte_of width m) (loaded_as width (number_of (b ∷ [])))
byte_holds back at width (Known v) b one h = let e : b ≡ v = h in record { stands = rw e refl; value = tt }
byte_holds back at width Blank b one h = unset back at _
byte_holds back at Byte (Piece s i) b one h =
    record { stands = signed_byte b (standing back at s / 256 ^ i) h.0; value = (h.1, h.2) }
byte_holds back at ByteU (Piece s i) b one h =
    record { stands = unsigned_byte b (standing back at s / 256 ^ i) h.0; value = (h.1, h.2) }
byte_holds back at Half (Piece s i) b one h = absurd (omega arith)
byte_holds back at HalfU (Piece s i) b one h = absurd (omega arith)
byte_holds back at Word (Piece s i) b one h = absurd (omega arith)

-- the bytes that were read, one by one
pub record First (memory : List Range) (a n : ℕ) (bs : List ℕ) : Type 0 where
  pub byte : ℕ
  pub rest : List ℕ
  pub here : machine.byte_of memory a ≡ Some byte
  pub more : bytes_from memory (a + 1) n ≡ Some rest
  pub is : bs ≡ byte ∷ rest

pub first_read : (memory : List Range) (a n : ℕ) (bs : List ℕ) → bytes_from memory a (suc n) ≡ Some bs
    → First memory a n bs
first_read memory a n bs e = at (machine.byte_of memory a) refl (bytes_from memory (a + 1) n) refl e
  where
    at : (o : Option ℕ) → machine.byte_of memory a ≡ o → (r : Option (List ℕ)) → bytes_from memory (a + 1) n ≡ r
        → option_and_then (λ b. option_map (λ bs. b ∷ bs) r) o ≡ Some bs → First memory a n bs
    at (Some b) f (Some more) g e = record { byte = b; rest = more; here = f; more = g; is = cc }
    at (Some b) f None g e = absurd (cc)
    at None f r g e = absurd (cc)

no_more : (memory : List Range) (a : ℕ) (bs : List ℕ) → bytes_from memory a 0 ≡ Some bs → bs ≡ []
no_more memory a bs e = cc

-- one byte of a region
pub stands_here : (back : ℕ → ℕ) (at : List ℕ) (memory : List Range) (base : ℕ) (covers : ℕ
    → Bool) (cells : Cells) (o a b : ℕ)
    → Region back at memory base covers cells → covers o ≡ true → a ≡ base + o → machine.byte_of memory a ≡ Some b
    → MarkStands back at (mark_at cells o) b
stands_here back at memory base covers cells o a b region covered place e =
    region.marks o b covered (ap (machine.byte_of memory) (sym place) ∙ e)

byte_read : (back : ℕ → ℕ) (at : List ℕ) (memory : List Range) (base : ℕ) (covers : ℕ
    → Bool) (cells : Cells) (width : Width) (o : ℕ) (bs : List ℕ)
    → Region back at memory base covers cells → size_of width ≡ 1 → all_from covers o 1 ≡ true
    → bytes_from memory (base + o) 1 ≡ Some bs
    → Holds back at (byte_of width (mark_at cells o)) (loaded_as width (number_of bs))
byte_read back at memory base covers cells width o bs region one covered e =
    let c = and_parts (covers o) true covered in
    let f : First memory (base + o) 0 bs = first_read memory (base + o) 0 bs e in
    let is : bs ≡ f.byte ∷ [] = f.is ∙ ap (λ x. f.byte ∷ x) (no_more memory (base + o + 1) f.rest f.more) in
    rw is (byte_holds back at width (mark_at cells o) f.byte one
    (stands_here back at memory base covers cells o (base + o) f.byte region c.0 refl f.here))

half_read : (back : ℕ → ℕ) (at : List ℕ) (memory : List Range) (base : ℕ) (covers : ℕ
    → Bool) (cells : Cells) (width : Width) (o : ℕ) (bs : List ℕ)
    → Region back at memory base covers cells → all_from covers o 2 ≡ true → bytes_from memory (base + o) 2 ≡ Some bs
    → Holds back at (half_of width (mark_at cells o) (mark_at cells (o + 1))) (loaded_as width (number_of bs))
half_read back at memory base covers cells width o bs region covered e =
    let c = and_parts (covers o) _ covered in
    let d = and_parts (covers (o + 1)) true c.1 in
    let f : First memory (base + o) 1 bs = first_read memory (base + o) 1 bs e in
    let g : First memory (base + o + 1) 0 f.rest = first_read memory (base + o + 1) 0 f.rest f.more in
    let is : bs ≡ f.byte ∷ g.byte ∷ [] =
    f.is ∙ ap (λ x. f.byte ∷ x) (g.is ∙ ap (λ x. g.byte ∷ x) (no_more memory (base + o + 1 + 1) g.rest g.more)) in
    rw is (half_holds back at width (mark_at cells o) (mark_at cells (o + 1)) f.byte g.byte
    (stands_here back at memory base covers cells o (base + o) f.byte region c.0 refl f.here)
    (stands_here back at memory base covers cells (o + 1) (base + o + 1) g.byte region d.0 (omega arith) g.here))

word_read : (back : ℕ → ℕ) (at : List ℕ) (memory : List Range) (base : ℕ) (covers : ℕ
    → Bool) (cells : Cells) (o : ℕ) (bs : List ℕ)
    → AreWords back → Region back at memory base covers cells → o % 4 ≡ 0 → all_from covers o 4 ≡ true
    → bytes_from memory (base + o) 4 ≡ Some bs → Holds back at (word_in (cells (o / 4))) (number_of bs)
word_read back at memory base covers cells o bs words region aligned covered e = by_cell (cells (o / 4)) refl
  where
    here : 4 * (o / 4) ≡ o
    here = omega arith

    stands : (i b : ℕ) (m0 m1 m2 m3 : Mark) → cells (o / 4) ≡ Bytes m0 m1 m2 m3 → i < 4
        → MarkStands back at (mark_at cells (o + i)) b → MarkStands back at (mark_in (Bytes m0 m1 m2 m3) i) b
    stands i b m0 m1 m2 m3 c small h =
        subst (λ m. MarkStands back at m b) (marks_of_cell o i cells aligned small ∙ ap (λ x. mark_in x i) c) h

    by_cell : (c : Cell) → cells (o / 4) ≡ c → Holds back at (word_in c) (number_of bs)
    by_cell (Mixed low) c =
        region.mixes (o / 4) low bs (subst (λ x. all_from covers x 4 ≡ true) (sym here) covered) c
        (subst (λ x. bytes_from memory (base + x) 4 ≡ Some bs) (sym here) e)
    by_cell (Bytes m0 m1 m2 m3) c =
        let c0 = and_parts (covers o) _ covered in
        let c1 = and_parts (covers (o + 1)) _ c0.1 in
        let c2 = and_parts (covers (o + 1 + 1)) _ c1.1 in
        let c3 = and_parts (covers (o + 1 + 1 + 1)) true c2.1 in
        let f0 : First memory (base + o) 3 bs = first_read memory (base + o) 3 bs e in
        let f1 : First memory (base + o + 1) 2 f0.rest = first_read memory (base + o + 1) 2 f0.rest f0.more in
        let f2 : First memory (base + o + 1 + 1) 1 f1.rest = first_read memory (base + o + 1 + 1) 1 f1.rest f1.more in
        let f3 : First memory (base + o + 1 + 1 + 1) 0 f2.rest = first_read memory
        (base + o + 1 + 1 + 1) 0 f2.rest f2.more in
        let is : bs ≡ f0.byte ∷ f1.byte ∷ f2.byte ∷ f3.byte ∷ [] =
        f0.is ∙ ap (λ x. f0.byte ∷ x) (f1.is ∙ ap (λ x. f1.byte ∷ x) (f2.is ∙ ap (λ x. f2.byte ∷ x)
        (f3.is ∙ ap (λ x. f3.byte ∷ x) (no_more memory (base + o + 1 + 1 + 1 + 1) f3.rest f3.more)))) in
        let p0 : o ≡ o + 0 = omega arith in
        let p2 : o + 1 + 1 ≡ o + 2 = omega arith in
        let p3 : o + 1 + 1 + 1 ≡ o + 3 = omega arith in
        let s0 : MarkStands back at (mark_at cells (o + 0)) f0.byte =
        stands_here back at memory base covers cells (o + 0) (base + o) f0.byte region (subst (λ x. covers x
        ≡ true) p0 c0.0) (omega arith) f0.here in
        let s1 : MarkStands back at (mark_at cells (o + 1)) f1.byte =
        stands_here back at memory base covers cells (o + 1) (base + o + 1) f1.byte region c1.0 (omega arith) f1.here in
        let s2 : MarkStands back at (mark_at cells (o + 2)) f2.byte =
        stands_here back at memory base covers cells (o + 2) (base + o + 1 + 1) f2.byte region (subst (λ x. covers x
        ≡ true) p2 c2.0) (omega arith) f2.here in
        let s3 : MarkStands back at (mark_at cells (o + 3)) f3.byte =
        stands_here back at memory base covers cells (o + 3) (base + o + 1 + 1 + 1) f3.byte region (subst
        (λ x. covers x ≡ true) p3 c3.0) (omega arith) f3.here in
        rw is (word_holds back at m0 m1 m2 m3 f0.byte f1.byte f2.byte f3.byte words
        (stands 0 f0.byte m0 m1 m2 m3 c (omega arith) s0) (stands 1 f1.byte m0 m1 m2 m3 c (omega arith) s1)
        (stands 2 f2.byte m0 m1 m2 m3 c (omega arith) s2) (stands 3 f3.byte m0 m1 m2 m3 c (omega arith) s3))

-- the law of loads
pub load_holds : (back : ℕ → ℕ) (at : List ℕ) (memory : List Range) (base : ℕ) (covers : ℕ
    → Bool) (cells : Cells) (width : Width) (o : ℕ) (bs : List ℕ)
    → AreWords back → Region back at memory base covers cells → o % size_of width ≡ 0
    → all_from covers o (size_of width) ≡ true
    → bytes_from memory (base + o) (size_of width) ≡ Some bs → Holds back at (load_at width o cells) (loaded_as width
    (number_of bs))
load_holds back at memory base covers cells Byte o bs words region aligned covered e =
    byte_read back at memory base covers cells Byte o bs region refl covered e
load_holds back at memory base covers cells ByteU o bs words region aligned covered e =
    byte_read back at memory base covers cells ByteU o bs region refl covered e
load_holds back at memory base covers cells Half o bs words region aligned covered e =
    half_read back at memory base covers cells Half o bs region covered e
load_holds back at memory base covers cells HalfU o bs words region aligned covered e =
    half_read back at memory base covers cells HalfU o bs region covered e
load_holds back at memory base covers cells Word o bs words region aligned covered e =
    word_read back at memory base covers cells o bs words region aligned covered e
