-- After a store on both machines the bytes of the region still stand for its cells, and those of every
-- region that lies apart.
use Rattle.std.proofs.Common.{◌≡◌, ◌≢◌, ◌⊎◌, ℕ, zero, suc, ◌+◌, ◌-◌, ◌*◌, ◌/◌, ◌%◌, ◌^◌, ◌<◌, ◌≤◌, Bool, true, false}
use Rattle.std.proofs.Common.{nat_eq, List, [], ◌∷◌, length, map, replicate, Some, is_some, refl, ap, sym, subst, ◌∙◌}
use Rattle.std.proofs.Common.{inl, inr, ⊎_elim, arith}
use Rattle.std.proofs.lemmas.Bool.{eqb-true, eqb-false, cases_lt}
use Rattle.rv_isa.specs.declared.Width.{Width}
use Rattle.rv_isa.specs.declared.Width.TheVariants.{Byte, Half, Word, ByteU, HalfU}
use Rattle.machine_spec.specs.Widths.{number_of, low_bytes, size_of}
use Rattle.machine_spec.specs.Memory.{Range, all_from, range_at, byte_of}
use Rattle.machine_spec.proofs.AllFrom.{each_passes}
use Rattle.flat_spec.specs.Stores.{bytes_from, put_byte, put_bytes}
use Rattle.flat_spec.proofs.Memories.{put_there, put_elsewhere, put_byte_shape, same_there}
use Rattle.flat_spec.proofs.Pieces.{put_bytes_elsewhere, put_bytes_there, bytes_from_are, bytes_from_same, number_low}
use Rattle.sym_value.specs.declared.Value.{Value}
use Rattle.sym_value.specs.declared.Value.TheVariants.{Num, Ptr, Ret, Mix, Part}
use Rattle.sym_value.specs.declared.Whole.{Whole}
use Rattle.sym_value.specs.declared.Whole.TheVariants.{Ptr as WholePtr, Ret as WholeRet}
use Rattle.sym_value.specs.Standing.{Holds, standing, byte_of_word, IsWhole}
use Rattle.sym_cells.specs.declared.Mark.{Mark}
use Rattle.sym_cells.specs.declared.Mark.TheVariants.{Known, Blank}
use Rattle.sym_cells.specs.Cells.{Mixed, Cells, mark_in, mark_at, put_cell, put_mark, put_marks}
use Rattle.sym_cells.specs.Moves.{pieces_of, marks_left, store_at}
use Rattle.sym_cells.specs.Region.{MarkStands, Region, IsThere}
use Rattle.sym_cells.proofs.CellLaws.{put_cell_other, mark_here, mark_elsewhere, mixed_left}

-- memory with the same bytes where the region can be reached
pub region_still : (back : ℕ → ℕ) (at : List ℕ) (m n : List Range) (base : ℕ) (covers : ℕ → Bool) (cells : Cells)
    → ((o : ℕ) → covers o ≡ true → byte_of n (base + o) ≡ byte_of m (base + o)) → Region back at m base covers cells
    → Region back at n base covers cells
region_still back at m n base covers cells same h = record {
  marks = λ o b c e. h.marks o b c (sym (same o c) ∙ e);
  mixes = λ k low bs c e f. h.mixes k low bs c e (sym (bytes_from_same n m (base + 4 * k) 4 (λ x l t.
      let o : ℕ = x - base in
      let place : base + o ≡ x = omega arith in
      subst (λ y. byte_of n y ≡ byte_of m y) place (same o (each_passes covers (4 * k) 4 c o (omega arith)
      (omega arith))))) ∙ f);
}

-- a byte that is stored on both machines
pub put_one : (back : ℕ → ℕ) (at : List ℕ) (memory : List Range) (base : ℕ) (covers : ℕ
    → Bool) (cells : Cells) (o b : ℕ) (m : Mark)
    → Region back at memory base covers cells → is_some (range_at memory (base + o)) ≡ true → MarkStands back at m b
    → Region back at (put_byte memory (base + o) b) base covers (put_mark o m cells)
put_one back at memory base covers cells o b m h there stands = record {
  marks = λ x c k e. by_place x c k e (nat_eq x o) refl;
  mixes = λ k low bs c e f. mixed k low bs c (mixed_left o k low m cells e) f;
}
  where
    by_place : (x c : ℕ) → covers x ≡ true → byte_of (put_byte memory (base + o) b) (base + x) ≡ Some c → (v : Bool)
        → nat_eq x o ≡ v
        → MarkStands back at (mark_at (put_mark o m cells) x) c
    by_place x c k e true t =
        let here : x ≡ o = eqb-true x o t in
        let byte : Some b ≡ Some c =
        sym (put_there memory (base + o) b there) ∙ (ap (λ y. byte_of (put_byte memory (base + o) b) (base + y))
        (sym here) ∙ e) in
        let same : b ≡ c = cc in
        let mark : m ≡ mark_at (put_mark o m cells) x = sym (mark_here o m cells)
        ∙ ap (mark_at (put_mark o m cells)) (sym here) in
        subst (λ y. MarkStands back at y c) mark (subst (MarkStands back at m) same stands)
    by_place x c k e false t =
        let other : x ≢ o = eqb-false x o t in
        let apart : base + x ≢ base + o = omega arith in
        subst (λ y. MarkStands back at y c) (sym (mark_elsewhere o x m cells other))
        (h.marks x c k (sym (put_elsewhere memory (base + o) b (base + x) apart) ∙ e))

    mixed : (k low : ℕ) (bs : List ℕ) → all_from covers (4 * k) 4 ≡ true → (k ≢ o / 4) × (cells k ≡ Mixed low)
        → bytes_from (put_byte memory (base + o) b) (base + 4 * k) 4 ≡ Some bs → Holds back at (Mix low) (number_of bs)
    mixed k low bs c (n, e) f =
        h.mixes k low bs c e (sym (bytes_from_same (put_byte memory (base + o) b) memory (base + 4 * k) 4
        (λ x l t. put_elsewhere memory (base + o) b x (let apart : x ≢ base + o = omega (arith, n) in apart))) ∙ f)

-- marks that stand for bytes, one by one
abbrev pub MarksStand : (ℕ → ℕ) → List ℕ → List Mark → List ℕ → Type 0
MarksStand back at [] [] = Unit {0}
MarksStand back at (m ∷ ms) (b ∷ bs) = MarkStands back at m b × MarksStand back at ms bs
MarksStand back at [] (b ∷ bs) = ⊥
MarksStand back at (m ∷ ms) [] = ⊥

pub put_several : (back : ℕ → ℕ) (at : List ℕ) (memory : List Range) (base : ℕ) (covers : ℕ
    → Bool) (cells : Cells) (o a : ℕ) (ms : List Mark) (bs : List ℕ)
    → Region back at memory base covers cells → a ≡ base + o → IsThere memory a (length bs) → MarksStand back at ms bs
    → Region back at (put_bytes memory a bs) base covers (put_marks o ms cells)
put_several back at memory base covers cells o a [] [] h place there stand = h
put_several back at memory base covers cells o a [] (b ∷ bs) h place there stand = absurd stand
put_several back at memory base covers cells o a (m ∷ ms) [] h place there stand = absurd stand
put_several back at memory base covers cells o a (m ∷ ms) (b ∷ bs) h place there stand =
    let first : is_some (range_at memory (base + o)) ≡ true = ap (λ x. is_some (range_at memory x)) (sym place)
    ∙ there a (omega arith) (omega arith) in
    let one : Region back at (put_byte memory a b) base covers (put_mark o m cells) =
    subst (λ x. Region back at (put_byte memory x b) base covers (put_mark o m cells)) (sym place)
    (put_one back at memory base covers cells o b m h first stand.0) in
    put_several back at (put_byte memory a b) base covers (put_mark o m cells) (o + 1) (a + 1) ms bs one (omega arith)
    (λ x low high. same_there (put_byte memory a b) memory x (put_byte_shape memory a b)
    ∙ there x (omega arith) (omega arith)) stand.1

pub known_stand : (back : ℕ → ℕ) (at : List ℕ) (bs : List ℕ) → MarksStand back at (map (λ b. Known b) bs) bs
known_stand back at [] = tt
known_stand back at (b ∷ bs) = (refl, known_stand back at bs)

pub blank_stand : (back : ℕ → ℕ) (at : List ℕ) (n w : ℕ) → MarksStand back at (replicate n Blank) (low_bytes n w)
blank_stand back at zero w = tt
blank_stand back at (suc n) w = (tt, blank_stand back at n (w / 256))

pub length-low_bytes : (n w : ℕ) → length (low_bytes n w) ≡ n
length-low_bytes zero w = refl
length-low_bytes (suc n) w = ap suc (length-low_bytes n (w / 256))

pieces_stand : (back : ℕ → ℕ) (at : List ℕ) (s : Whole) (w : ℕ) → IsWhole at s → standing back at s ≡ w
    → MarksStand back at (pieces_of s) (low_bytes 4 w)
pieces_stand back at s w is e = (
  (byte 0 (w % 256) (omega arith), is, omega arith),
  (
    (byte 1 (w / 256 % 256) (omega arith), is, omega arith),
    (
      (byte 2 (w / 256 / 256 % 256) (omega arith), is, omega arith),
      ((byte 3 (w / 256 / 256 / 256 % 256) (omega arith), is, omega arith), tt),
    ),
  ),
)
  where
    byte : (i b : ℕ) → b ≡ byte_of_word i w → b ≡ byte_of_word i (standing back at s)
    byte i b f = f ∙ ap (byte_of_word i) (sym e)

-- what a store leaves stands for the bytes of the word, in all but mixed cells
marks_stand : (back : ℕ → ℕ) (at : List ℕ) (width : Width) (v : Value) (w : ℕ) → Holds back at v w
    → MarksStand back at (marks_left width v) (low_bytes (size_of width) w)
marks_stand back at width (Num n) w h =
    let is : n ≡ w = h.stands in
    subst (λ x. MarksStand back at (map (λ b. Known b) (low_bytes (size_of width) n)) (low_bytes (size_of width) x)) is
    (known_stand back at (low_bytes (size_of width) n))
marks_stand back at Word (Ptr b o) w h = pieces_stand back at (WholePtr b o) w h.value h.stands
marks_stand back at Word (Ret a) w h = pieces_stand back at (WholeRet a) w h.value h.stands
marks_stand back at Byte (Part s i) w h = ((h.stands, h.value.0, h.value.1), tt)
marks_stand back at ByteU (Part s i) w h = ((h.stands, h.value.0, h.value.1), tt)
marks_stand back at Byte v w h = blank_stand back at 1 w
marks_stand back at ByteU v w h = blank_stand back at 1 w
marks_stand back at Half v w h = blank_stand back at 2 w
marks_stand back at HalfU v w h = blank_stand back at 2 w
marks_stand back at Word v w h = blank_stand back at 4 w

-- a word of a Mix makes its cell mixed
mix_stored : (back : ℕ → ℕ) (at : List ℕ) (memory : List Range) (base : ℕ) (covers : ℕ
    → Bool) (cells : Cells) (o low w : ℕ)
    → Region back at memory base covers cells → o % 4 ≡ 0 → IsThere memory (base + o) 4 → w < 2 ^ 32
    → Holds back at (Mix low) w
    → Region back at (put_bytes memory (base + o) (low_bytes 4 w)) base covers (put_cell (o / 4) (Mixed low) cells)
mix_stored back at memory base covers cells o low w h aligned there small stands = record {
  marks = λ x c k e. by_cell x c k e (nat_eq (x / 4) (o / 4)) refl;
  mixes = λ k l bs c e f. mixed k l bs c e f (nat_eq k (o / 4)) refl;
}
  where
    elsewhere : (x : ℕ) → (x < base + o) ⊎ (base + o + 4 ≤ x)
        → byte_of (put_bytes memory (base + o) (low_bytes 4 w)) x ≡ byte_of memory x
    elsewhere x apart = put_bytes_elsewhere memory (base + o) (low_bytes 4 w) x apart

    outside : (x : ℕ) → x / 4 ≢ o / 4 → (base + x < base + o) ⊎ (base + o + 4 ≤ base + x)
    outside x n = ⊎_elim (λ (l : x < o). inl (omega arith)) (λ (r : o ≤ x). inr (omega (arith, n))) (cases_lt x o)

    by_cell : (x c : ℕ) → covers x ≡ true → byte_of (put_bytes memory (base + o) (low_bytes 4 w)) (base + x) ≡ Some c
        → (v : Bool) → nat_eq (x / 4) (o / 4) ≡ v → MarkStands back at (mark_at (put_cell (o / 4)
        (Mixed low) cells) x) c
    by_cell x c k e true t =
        let blank : mark_at (put_cell (o / 4) (Mixed low) cells) x ≡ Blank = rw t refl in
        subst (λ y. MarkStands back at y c) (sym blank) tt
    by_cell x c k e false t =
        let other : x / 4 ≢ o / 4 = eqb-false (x / 4) (o / 4) t in
        let before : mark_at (put_cell (o / 4) (Mixed low) cells) x ≡ mark_at cells x =
        ap (λ y. mark_in y (x % 4)) (put_cell_other (o / 4) (x / 4) (Mixed low) cells other) in
        subst (λ y. MarkStands back at y c) (sym before) (h.marks x c k (sym (elsewhere (base + x) (outside x other))
        ∙ e))

    mixed : (k l : ℕ) (bs : List ℕ) → all_from covers (4 * k) 4 ≡ true → put_cell (o / 4) (Mixed low) cells k ≡ Mixed l
        → bytes_from (put_bytes memory (base + o) (low_bytes 4 w)) (base + 4 * k) 4 ≡ Some bs
        → (v : Bool) → nat_eq k (o / 4) ≡ v → Holds back at (Mix l) (number_of bs)
    mixed k l bs c e f true t =
        let same : k ≡ o / 4 = eqb-true k (o / 4) t in
        let here : 4 * k ≡ o = omega arith in
        let is : Mixed low ≡ Mixed l = sym (let q : put_cell (o / 4) (Mixed low) cells k ≡ Mixed low = rw t refl in q)
        ∙ e in
        let value : low ≡ l = cc in
        let read : bytes_from (put_bytes memory (base + o) (low_bytes 4 w)) (base + o) 4 ≡ Some (low_bytes 4 w) =
        bytes_from_are (put_bytes memory (base + o) (low_bytes 4 w)) (base + o) (low_bytes 4 w)
        (put_bytes_there memory (base + o) (low_bytes 4 w) there) in
        let bytes : Some (low_bytes 4 w) ≡ Some bs =
        sym read ∙ (ap (λ y. bytes_from (put_bytes memory (base + o) (low_bytes 4 w)) (base + y) 4) (sym here) ∙ f) in
        let list : low_bytes 4 w ≡ bs = cc in
        let number : w ≡ number_of bs = sym (number_low w small) ∙ ap number_of list in
        subst (λ y. Holds back at (Mix y) (number_of bs)) value (subst (Holds back at (Mix low)) number stands)
    mixed k l bs c e f false t =
        let other : k ≢ o / 4 = eqb-false k (o / 4) t in
        h.mixes k l bs c (sym (put_cell_other (o / 4) k (Mixed low) cells other) ∙ e)
        (sym (bytes_from_same (put_bytes memory (base + o) (low_bytes 4 w)) memory (base + 4 * k) 4 (λ x low2 high2.
        let y : ℕ = x - base in
        let place : base + y ≡ x = omega arith in
        let cell : y / 4 ≢ o / 4 = omega (arith, other) in
        subst (λ z. byte_of (put_bytes memory (base + o) (low_bytes 4 w)) z
        ≡ byte_of memory z) place (elsewhere (base + y) (outside y cell)))) ∙ f)

-- the law of stores
pub store_holds : (back : ℕ → ℕ) (at : List ℕ) (memory : List Range) (base : ℕ) (covers : ℕ
    → Bool) (cells : Cells) (width : Width) (o : ℕ) (v : Value) (w : ℕ)
    → Region back at memory base covers cells → o % size_of width ≡ 0 → IsThere memory (base + o) (size_of width)
    → w < 2 ^ 32
    → Holds back at v w
    → Region back at (put_bytes memory (base + o) (low_bytes (size_of width) w)) base covers (store_at width o v cells)
store_holds back at memory base covers cells width o v w h aligned there small stands = by_kind width v aligned there
    stands
  where
    plain : (width : Width) (v : Value) → IsThere memory (base + o) (size_of width) → Holds back at v w
        → Region back at (put_bytes memory (base + o) (low_bytes (size_of width) w)) base covers (put_marks o
        (marks_left width v) cells)
    plain width v there stands =
        put_several back at memory base covers cells o (base + o) (marks_left width v) (low_bytes
        (size_of width) w) h refl
        (λ x l t. there x l (let n = length-low_bytes (size_of width) w in omega (arith, n)))
        (marks_stand back at width v w stands)

    by_kind : (width : Width) (v : Value) → o % size_of width ≡ 0 → IsThere memory (base + o) (size_of width)
        → Holds back at v w
        → Region back at (put_bytes memory (base + o) (low_bytes (size_of width) w)) base covers
        (store_at width o v cells)
    by_kind Word (Mix low) aligned there stands =
        mix_stored back at memory base covers cells o low w h aligned there small stands
    by_kind width v aligned there stands = plain width v there stands

-- a store outside leaves a region as it is
pub store_apart : (back : ℕ → ℕ) (at : List ℕ) (memory : List Range) (base : ℕ) (covers : ℕ
    → Bool) (cells : Cells) (a : ℕ) (bs : List ℕ)
    → Region back at memory base covers cells
    → ((o : ℕ) → covers o ≡ true → (base + o < a) ⊎ (a + length bs ≤ base + o))
    → Region back at (put_bytes memory a bs) base covers cells
store_apart back at memory base covers cells a bs h apart =
    region_still back at memory (put_bytes memory a bs) base covers cells
    (λ o c. put_bytes_elsewhere memory a bs (base + o) (apart o c)) h
