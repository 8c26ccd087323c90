-- The rows of the table of operations: each gives a value that stands for the operation's word.
use Rattle.std.proofs.Common.{◌≡◌, ◌≢◌, ℕ, ◌+◌, ◌-◌, ◌*◌, ◌/◌, ◌%◌, ◌^◌, ◌<◌, ◌≤◌, Bool, true, false, List, Option}
use Rattle.std.proofs.Common.{Some, None, slice_index, nat_eq, bit_and, bit_or, bit_xor, refl, ap, ap₂, sym, subst, ◌∙◌}
use Rattle.std.proofs.Common.{⊎_elim, arith, if◌then◌else◌}
use Rattle.std.proofs.lemmas.Bool.{and_parts, eqb-true, eqb-false, leb-true, not-true}
use Rattle.std.proofs.lemmas.Int.{of_z-to_z}
use Rattle.std.proofs.lemmas.Nat.{and_mask}
use Rattle.std.specs.Int.{w32, cast_signed, cast_unsigned}
use lib.Bits.{or_add_and, xor_zero_r, xor_self, and_zero_r, or_comm, xor_comm, and_comm}
use lib.Signed.{shr_z}
use lib.IntN.{ℤ, pos, negsuc}
use Rattle.rv_isa.specs.declared.Op.{Op}
use Rattle.rv_isa.specs.declared.Op.TheVariants.{Add, Sub, Sll, Slt, Sltu, Xor, Srl, Sra, Or, And}
use Rattle.rv_isa.specs.declared.Cond.TheVariants.{Lt, Ltu}
use Rattle.rv_isa.specs.Compute.{computed, is_held}
use Rattle.sym_value.specs.declared.Value.{Value}
use Rattle.sym_value.specs.declared.Value.TheVariants.{Num, Ptr, Mix, Part}
use Rattle.sym_value.specs.Places.{Lives}
use Rattle.sym_value.specs.Decisions.{where_so, or_else, decide}
use Rattle.sym_value.specs.Operations.{Row, turned, either_way, is_zero, difference, of_numbers, right_zero, left_zero}
use Rattle.sym_value.specs.Operations.{moved_up, moved_down, distance, distance_of_blocks, outer_less_pointer}
use Rattle.sym_value.specs.Operations.{xor_in_block, xor_of_blocks, xor_with_outer, or_of_pointers, or_with_number}
use Rattle.sym_value.specs.Operations.{or_of_mix, low_bits, rounded_down, low_bits_of_mix, whole_byte, flag_of}
use Rattle.sym_value.specs.Operations.{compared}
use Rattle.sym_value.specs.Standing.{Holds, Stands, Placed, address}
use Rattle.sym_value.proofs.WordFacts.{sum_moves, difference_moves, difference_stays, equality_stays, low_bits_stay}
use Rattle.sym_value.proofs.WordFacts.{difference_low, difference_nonzero, xor_low, xor_nonzero, or_low}
use Rattle.sym_value.proofs.WordFacts.{or_nonzero_left, or_nonzero_right, and_low, and_moves, and_small}
use Rattle.sym_value.proofs.PointerFacts.{OnWord, NearWord, on_word, near_word, outer_apart, inner_apart}
use Rattle.sym_value.proofs.TestLaws.{so, or_else_cases, decide_holds}

-- a row gives what stands for the word of the operation
abbrev pub RowHolds : (ℕ → ℕ) → List ℕ → Row → Type 0
RowHolds back at row =
    (op : Op) (a b x : Value) (v w : ℕ) → v < 2 ^ 32 → w < 2 ^ 32 → Holds back at a v → Holds back at b w
    → row op a b ≡ Some x → Holds back at x (computed op v w)

turned_holds : (back : ℕ → ℕ) (at : List ℕ) (row : Row) → RowHolds back at row → RowHolds back at (turned row)
unfolding computed
turned_holds back at row h Or a b x v w sv sw sa sb e =
    subst (Holds back at x) (or_comm w v) (h Or b a x w v sw sv sb sa e)
turned_holds back at row h Xor a b x v w sv sw sa sb e =
    subst (Holds back at x) (xor_comm w v) (h Xor b a x w v sw sv sb sa e)
turned_holds back at row h And a b x v w sv sw sa sb e =
    subst (Holds back at x) (and_comm w v) (h And b a x w v sw sv sb sa e)
turned_holds back at row h op a b x v w sv sw sa sb e = absurd (cc)

pub either : (back : ℕ → ℕ) (at : List ℕ) (row : Row) → RowHolds back at row → RowHolds back at (either_way row)
either back at row h op a b x v w sv sw sa sb e =
    ⊎_elim (λ f. h op a b x v w sv sw sa sb f) (λ f. turned_holds back at row h op a b x v w sv sw sa sb f)
    (or_else_cases _ _ x e)

pub of_numbers_holds : (back : ℕ → ℕ) (at : List ℕ) → RowHolds back at of_numbers
of_numbers_holds back at op (Num m) (Num n) x v w sv sw sa sb e =
    let is : Num (computed op m n) ≡ x = cc in
    let first : m ≡ v = sa.stands in
    let second : n ≡ w = sb.stands in
    subst (λ z. Holds back at z (computed op v w)) is
    (record { stands = ap₂ (computed op) first second; value = tt })
of_numbers_holds back at op a b x v w sv sw sa sb e = absurd (cc)

-- 0 as an operand
or_zero : (v : ℕ) → bit_or v 0 ≡ v
or_zero v = omega (arith, or_add_and v 0, and_zero_r v)

shift_nothing : (z : ℤ) → shr_z z 1 ≡ z
shift_nothing z = elim z as (λ x. shr_z x 1 ≡ x) [
  | pos n ↦ ap (λ k. pos k) (omega arith)
  | negsuc n ↦ ap
      (λ k. negsuc k) (omega arith)
]

zero_stands : (back : ℕ → ℕ) (at : List ℕ) (b : Value) (w : ℕ) → Holds back at b w → is_zero b ≡ true → w ≡ 0
zero_stands back at (Num n) w h e = let is : n ≡ w = h.stands in let zero = eqb-true n 0 e in cc
zero_stands back at b w h e = absurd (cc)

-- the other operand's value stands for the operation's word
kept : (back : ℕ → ℕ) (at : List ℕ) (a b x : Value) (v w r : ℕ) → Holds back at a v → Holds back at b w
    → (w ≡ 0 → r ≡ v) → where_so (is_zero b) a ≡ Some x → Holds back at x r
kept back at a b x v w r sa sb is e =
    let test = so _ _ _ e in
    subst (λ z. Holds back at z r) test.1 (subst (Holds back at a) (sym (is (zero_stands back at b w sb test.0))) sa)

pub right_zero_holds : (back : ℕ → ℕ) (at : List ℕ) → RowHolds back at right_zero
unfolding computed
right_zero_holds back at Add a b x v w sv sw sa sb e = kept back at a b x v w _ sa sb (λ z. omega arith) e
right_zero_holds back at Sub a b x v w sv sw sa sb e = kept back at a b x v w _ sa sb (λ z. omega arith) e
right_zero_holds back at Or a b x v w sv sw sa sb e = kept back at a b x v w _ sa sb (λ z. ap (bit_or v) z
    ∙ or_zero v) e
right_zero_holds back at Xor a b x v w sv sw sa sb e = kept back at a b x v w _ sa sb (λ z. ap (bit_xor v) z
    ∙ xor_zero_r v) e
right_zero_holds back at Sll a b x v w sv sw sa sb e =
    kept back at a b x v w _ sa sb
    (λ z. ap (λ k. v * 2 ^ (k % 32) % 2 ^ 32) z ∙ (let h : v * 1 % 2 ^ 32 ≡ v = omega arith in h)) e
right_zero_holds back at Srl a b x v w sv sw sa sb e =
    kept back at a b x v w _ sa sb (λ z. ap (λ k. v / 2 ^ (k % 32)) z ∙ (let h : v / 1 ≡ v = omega arith in h)) e
right_zero_holds back at Sra a b x v w sv sw sa sb e =
    kept back at a b x v w _ sa sb
    (λ z. ap (λ k. computed Sra v k) z ∙ ap (cast_unsigned w32) (shift_nothing (cast_signed w32 v))
    ∙ of_z-to_z w32 v sv) e
right_zero_holds back at op a b x v w sv sw sa sb e = absurd (cc)

pub left_zero_holds : (back : ℕ → ℕ) (at : List ℕ) → RowHolds back at left_zero
unfolding computed
left_zero_holds back at Add a b x v w sv sw sa sb e = kept back at b a x w v _ sb sa (λ z. omega arith) e
left_zero_holds back at Or a b x v w sv sw sa sb e =
    kept back at b a x w v _ sb sa (λ z. ap (λ k. bit_or k w) z ∙ or_comm 0 w ∙ or_zero w) e
left_zero_holds back at Xor a b x v w sv sw sa sb e =
    kept back at b a x w v _ sb sa (λ z. ap (λ k. bit_xor k w) z ∙ xor_comm 0 w ∙ xor_zero_r w) e
left_zero_holds back at op a b x v w sv sw sa sb e = absurd (cc)

-- sums and differences
pub moved_up_holds : (back : ℕ → ℕ) (at : List ℕ) → RowHolds back at moved_up
unfolding computed
moved_up_holds back at Add (Ptr b o) (Num n) x v w sv sw sa sb e =
    let is : Ptr b ((o + n) % 2 ^ 32) ≡ x = cc in
    let first : address at b o ≡ v = sa.stands in
    let second : n ≡ w = sb.stands in
    subst (λ z. Holds back at z ((v + w) % 2 ^ 32)) is
    (record {
      stands = sum_moves (slice_index at b) o n ∙ ap₂ (λ x y. (x + y) % 2 ^ 32) first second;
      value = (sa.value.0, omega arith);
    })
moved_up_holds back at Add (Num n) (Ptr b o) x v w sv sw sa sb e =
    let is : Ptr b ((o + n) % 2 ^ 32) ≡ x = cc in
    let first : n ≡ v = sa.stands in
    let second : address at b o ≡ w = sb.stands in
    let turn : (w + v) % 2 ^ 32 ≡ (v + w) % 2 ^ 32 = omega arith in
    subst (λ z. Holds back at z ((v + w) % 2 ^ 32)) is
    (record {
      stands = sum_moves (slice_index at b) o n ∙ ap₂ (λ x y. (x + y) % 2 ^ 32) second first ∙ turn;
      value = (sb.value.0, omega arith);
    })
moved_up_holds back at op a b x v w sv sw sa sb e = absurd (cc)

pub moved_down_holds : (back : ℕ → ℕ) (at : List ℕ) → RowHolds back at moved_down
unfolding computed
moved_down_holds back at Sub (Ptr b o) (Num n) x v w sv sw sa sb e =
    let is : Ptr b (difference o n) ≡ x = cc in
    let first : address at b o ≡ v = sa.stands in
    let second : n ≡ w = sb.stands in
    subst (λ z. Holds back at z (difference v w)) is
    (record {
      stands = difference_moves (slice_index at b) o n ∙ ap₂ difference first second;
      value = (sa.value.0, omega arith);
    })
moved_down_holds back at op a b x v w sv sw sa sb e = absurd (cc)

pub distance_holds : (back : ℕ → ℕ) (at : List ℕ) → RowHolds back at distance
unfolding computed
distance_holds back at Sub (Ptr b o) (Ptr c p) x v w sv sw sa sb e =
    let test = so _ _ _ e in
    let same : b ≡ c = eqb-true b c test.0 in
    let first : address at b o ≡ v = sa.stands in
    let second : address at c p ≡ w = sb.stands in
    let here : address at b p ≡ w = ap (λ z. address at z p) same ∙ second in
    subst (λ z. Holds back at z (difference v w)) test.1
    (record {
      stands = difference_stays (slice_index at b) o p sa.value.1 sb.value.1 ∙ ap₂ difference first here;
      value = tt;
    })
distance_holds back at op a b x v w sv sw sa sb e = absurd (cc)

-- the low four bits of a pointer's word
low_of : (live : Lives) (at : List ℕ) (b o v : ℕ) → Placed live at → address at b o ≡ v → v % 16 ≡ o % 16
low_of live at b o v placed e = ap (λ z. z % 16) (sym e) ∙ low_bits_stay (slice_index at b) o (placed.aligned b)

-- a nonzero word with these low bits
mixed : (back : ℕ → ℕ) (at : List ℕ) (r l : ℕ) → r ≢ 0 → r % 16 ≡ l % 16 → Holds back at (Mix (l % 16)) r
mixed back at r l n e = record { stands = (n, e); value = omega arith }

pub distance_of_blocks_holds : (back : ℕ → ℕ) (at : List ℕ) (live : Lives) → Placed live at
    → RowHolds back at (distance_of_blocks live)
unfolding computed
distance_of_blocks_holds back at live placed Sub (Ptr b o) (Ptr c p) x v w sv sw sa sb e =
    let test = so _ _ _ e in
    let parts = and_parts _ _ test.0 in
    let inner = and_parts _ _ parts.1 in
    let apart : v ≢ w =
    inner_apart live at b o c p v w placed (eqb-false b c (not-true _ parts.0)) inner.0 inner.1 sa.stands sb.stands in
    subst (λ z. Holds back at z (difference v w)) test.1
    (mixed back at (difference v w) (difference o p) (difference_nonzero v w sv sw apart)
    (difference_low v w o p sw sb.value.1 (low_of live at b o v placed sa.stands)
    (low_of live at c p w placed sb.stands)))
distance_of_blocks_holds back at live placed op a b x v w sv sw sa sb e = absurd (cc)

pub outer_less_pointer_holds : (back : ℕ → ℕ) (at : List ℕ) (live : Lives) → Placed live at
    → RowHolds back at (outer_less_pointer live)
unfolding computed
outer_less_pointer_holds back at live placed Sub (Num n) (Ptr b o) x v w sv sw sa sb e =
    let test = so _ _ _ e in
    let parts = and_parts _ _ test.0 in
    let first : n ≡ v = sa.stands in
    let on : OnWord live at b o w = on_word live at b o w placed parts.1 sb.stands in
    let apart : w ≢ n = outer_apart live w n on.inside parts.0 in
    subst (λ z. Holds back at z (difference v w)) test.1
    (mixed back at (difference v w) (difference n o) (difference_nonzero v w sv sw (λ s. apart (sym (first ∙ s))))
    (difference_low v w n o sw sb.value.1 (ap (λ z. z % 16) (sym first)) (low_of live at b o w placed sb.stands)))
outer_less_pointer_holds back at live placed op a b x v w sv sw sa sb e = absurd (cc)

-- Xor
in_block : (back : ℕ → ℕ) (at : List ℕ) (b o p v w : ℕ) (t : Bool) → slice_index at b % 16 ≡ 0 → o < 2 ^ 32 → p < 2 ^ 32
    → address at b o ≡ v → address at b p ≡ w → nat_eq o p ≡ t
    → Holds back at (if t then Num 0 else Mix (bit_xor o p % 16)) (bit_xor v w)
in_block back at b o p v w true aligned so sp first second e =
    let same : v ≡ w = sym first ∙ ap (address at b) (eqb-true o p e) ∙ second in
    record { stands = sym (ap (λ z. bit_xor z w) same ∙ xor_self w); value = tt }
in_block back at b o p v w false aligned so sp first second e =
    let apart : v ≢ w = λ s. eqb-false o p e (equality_stays (slice_index at b) o p so sp (first ∙ s ∙ sym second)) in
    mixed back at (bit_xor v w) (bit_xor o p) (xor_nonzero v w apart)
    (xor_low v w o p (ap (λ z. z % 16) (sym first) ∙ low_bits_stay (slice_index at b) o aligned)
    (ap (λ z. z % 16) (sym second) ∙ low_bits_stay (slice_index at b) p aligned))

pub xor_in_block_holds : (back : ℕ → ℕ) (at : List ℕ) (live : Lives) → Placed live at → RowHolds back at xor_in_block
unfolding computed
xor_in_block_holds back at live placed Xor (Ptr b o) (Ptr c p) x v w sv sw sa sb e =
    let test = so _ _ _ e in
    let same : b ≡ c = eqb-true b c test.0 in
    let second : address at c p ≡ w = sb.stands in
    let here : address at b p ≡ w = ap (λ z. address at z p) same ∙ second in
    subst (λ z. Holds back at z (bit_xor v w)) test.1
    (in_block back at b o p v w (nat_eq o p) (placed.aligned b) sa.value.1 sb.value.1 sa.stands here refl)
xor_in_block_holds back at live placed op a b x v w sv sw sa sb e = absurd (cc)

pub xor_of_blocks_holds : (back : ℕ → ℕ) (at : List ℕ) (live : Lives) → Placed live at
    → RowHolds back at (xor_of_blocks live)
unfolding computed
xor_of_blocks_holds back at live placed Xor (Ptr b o) (Ptr c p) x v w sv sw sa sb e =
    let test = so _ _ _ e in
    let parts = and_parts _ _ test.0 in
    let inner = and_parts _ _ parts.1 in
    let apart : v ≢ w =
    inner_apart live at b o c p v w placed (eqb-false b c (not-true _ parts.0)) inner.0 inner.1 sa.stands sb.stands in
    subst (λ z. Holds back at z (bit_xor v w)) test.1
    (mixed back at (bit_xor v w) (bit_xor o p) (xor_nonzero v w apart)
    (xor_low v w o p (low_of live at b o v placed sa.stands) (low_of live at c p w placed sb.stands)))
xor_of_blocks_holds back at live placed op a b x v w sv sw sa sb e = absurd (cc)

pub xor_with_outer_holds : (back : ℕ → ℕ) (at : List ℕ) (live : Lives) → Placed live at
    → RowHolds back at (xor_with_outer live)
unfolding computed
xor_with_outer_holds back at live placed Xor (Ptr b o) (Num n) x v w sv sw sa sb e =
    let test = so _ _ _ e in
    let parts = and_parts _ _ test.0 in
    let second : n ≡ w = sb.stands in
    let on : OnWord live at b o v = on_word live at b o v placed parts.0 sa.stands in
    let apart : v ≢ n = outer_apart live v n on.inside parts.1 in
    subst (λ z. Holds back at z (bit_xor v w)) test.1
    (mixed back at (bit_xor v w) (bit_xor o n) (xor_nonzero v w (λ s. apart (s ∙ sym second)))
    (xor_low v w o n (low_of live at b o v placed sa.stands) (ap (λ z. z % 16) (sym second))))
xor_with_outer_holds back at live placed op a b x v w sv sw sa sb e = absurd (cc)

-- Or
pub or_of_pointers_holds : (back : ℕ → ℕ) (at : List ℕ) (live : Lives) → Placed live at
    → RowHolds back at (or_of_pointers live)
unfolding computed
or_of_pointers_holds back at live placed Or (Ptr b o) (Ptr c p) x v w sv sw sa sb e =
    let test = so _ _ _ e in
    let near : NearWord at b o v = near_word live at b o v placed test.0 sa.value.1 sa.stands in
    let nonzero : v ≢ 0 = λ z. (let low : 20480 ≤ v = near.low in omega arith) in
    subst (λ z. Holds back at z (bit_or v w)) test.1
    (mixed back at (bit_or v w) (bit_or o p) (or_nonzero_left v w nonzero)
    (or_low v w o p (low_of live at b o v placed sa.stands) (low_of live at c p w placed sb.stands)))
or_of_pointers_holds back at live placed op a b x v w sv sw sa sb e = absurd (cc)

-- the number isn't 0, since the row for 0 stands above
number_or : (back : ℕ → ℕ) (at : List ℕ) (live : Lives) (b o n v w : ℕ) → Placed live at → n ≢ 0 → address at b o ≡ v
    → n ≡ w → Holds back at (Mix (bit_or o n % 16)) (bit_or v w)
number_or back at live b o n v w placed nonzero first second =
    mixed back at (bit_or v w) (bit_or o n) (or_nonzero_right v w (λ z. nonzero (second ∙ z)))
    (or_low v w o n (low_of live at b o v placed first) (ap (λ z. z % 16) (sym second)))

not_so : (t : Bool) (a : Value) → where_so t a ≡ None → t ≡ false
not_so true a e = absurd (cc)
not_so false a e = refl

nothing_first : (o r : Option Value) → or_else o r ≡ None → o ≡ None
nothing_first (Some x) r e = absurd (cc)
nothing_first None r e = refl

nothing_second : (o r : Option Value) → or_else o r ≡ None → r ≡ None
nothing_second (Some x) r e = absurd (cc)
nothing_second None r e = e

-- with the number second
number_second : (back : ℕ → ℕ) (at : List ℕ) (live : Lives) → Placed live at → (a b x : Value) (v w : ℕ)
    → Holds back at a v → Holds back at b w → is_zero b ≡ false → or_with_number Or a b ≡ Some x
    → Holds back at x (bit_or v w)
number_second back at live placed (Ptr b o) (Num n) x v w sa sb nonzero e =
    let is : Mix (bit_or o n % 16) ≡ x = cc in
    subst (λ z. Holds back at z (bit_or v w)) is
    (number_or back at live b o n v w placed (eqb-false n 0 nonzero) sa.stands sb.stands)
number_second back at live placed a b x v w sa sb nonzero e = absurd (cc)

pub or_with_number_holds : (back : ℕ → ℕ) (at : List ℕ) (live : Lives) → Placed live at
    → (op : Op) (a b x : Value) (v w : ℕ) → Holds back at a v → Holds back at b w → either_way right_zero op a b ≡ None
    → either_way or_with_number op a b ≡ Some x → Holds back at x (computed op v w)
unfolding computed
or_with_number_holds back at live placed Or a b x v w sa sb none e =
    ⊎_elim
    (λ f. number_second back at live placed a b x v w sa sb (not_so _ _ (nothing_first _ _ none)) f)
    (λ f. subst (Holds back at x) (or_comm w v)
    (number_second back at live placed b a x w v sb sa (not_so _ _ (nothing_second _ _ none)) f))
    (or_else_cases _ _ x e)
or_with_number_holds back at live placed op a b x v w sa sb none e = absurd (cc)

mix_or : (back : ℕ → ℕ) (at : List ℕ) (l n v w : ℕ) → Stands back at (Mix l) v → l < 16 → w % 16 ≡ n % 16
    → Holds back at (Mix (bit_or l n % 16)) (bit_or v w)
mix_or back at l n v w h small e =
    let low : v % 16 ≡ l = h.1 in
    mixed back at (bit_or v w) (bit_or l n) (or_nonzero_left v w h.0)
    (or_low v w l n (low ∙ (let k : l ≡ l % 16 = omega arith in k)) e)

pub or_of_mix_holds : (back : ℕ → ℕ) (at : List ℕ) (live : Lives) → Placed live at → RowHolds back at or_of_mix
unfolding computed
or_of_mix_holds back at live placed Or (Mix l) (Num n) x v w sv sw sa sb e =
    let is : Mix (bit_or l n % 16) ≡ x = cc in
    let second : n ≡ w = sb.stands in
    subst (λ z. Holds back at z (bit_or v w)) is
    (mix_or back at l n v w sa.stands sa.value (ap (λ z. z % 16) (sym second)))
or_of_mix_holds back at live placed Or (Mix l) (Ptr c p) x v w sv sw sa sb e =
    let is : Mix (bit_or l p % 16) ≡ x = cc in
    subst (λ z. Holds back at z (bit_or v w)) is
    (mix_or back at l p v w sa.stands sa.value (low_of live at c p w placed sb.stands))
or_of_mix_holds back at live placed Or (Mix l) (Mix m) x v w sv sw sa sb e =
    let is : Mix (bit_or l m % 16) ≡ x = cc in
    let low : w % 16 ≡ m = sb.stands.1 in
    let small : m < 16 = sb.value in
    subst (λ z. Holds back at z (bit_or v w)) is (mix_or back at l m v w sa.stands sa.value (omega arith))
or_of_mix_holds back at live placed op a b x v w sv sw sa sb e = absurd (cc)

-- And
pub low_bits_holds : (back : ℕ → ℕ) (at : List ℕ) (live : Lives) → Placed live at → RowHolds back at low_bits
unfolding computed
low_bits_holds back at live placed And (Ptr b o) (Num m) x v w sv sw sa sb e =
    let test = so _ _ _ e in
    let second : m ≡ w = sb.stands in
    let same : bit_and v m ≡ bit_and o m =
    and_low v o m (leb-true m 15 test.0) (low_of live at b o v placed sa.stands) in
    subst (λ z. Holds back at z (bit_and v w)) test.1
    (record { stands = sym same ∙ ap (bit_and v) second; value = tt })
low_bits_holds back at live placed op a b x v w sv sw sa sb e = absurd (cc)

pub rounded_down_holds : (back : ℕ → ℕ) (at : List ℕ) (live : Lives) → Placed live at → RowHolds back at rounded_down
unfolding computed
rounded_down_holds back at live placed And (Ptr b o) (Num m) x v w sv sw sa sb e =
    let second : m ≡ w = sb.stands in
    let small : m < 2 ^ 32 = omega arith in
    let first : address at b o ≡ v = sa.stands in
    let test = so _ _ _ e in
    subst (λ z. Holds back at z (bit_and v w)) test.1
    (record {
      stands = and_moves (slice_index at b) o m (placed.aligned b) sa.value.1 (leb-true (2 ^ 32 - 16) m test.0) small
          ∙ ap₂ bit_and first second;
      value = (sa.value.0, and_small o m sa.value.1);
    })
rounded_down_holds back at live placed op a b x v w sv sw sa sb e = absurd (cc)

pub low_bits_of_mix_holds : (back : ℕ → ℕ) (at : List ℕ) → RowHolds back at low_bits_of_mix
unfolding computed
low_bits_of_mix_holds back at And (Mix l) (Num m) x v w sv sw sa sb e =
    let test = so _ _ _ e in
    let second : m ≡ w = sb.stands in
    let low : v % 16 ≡ l = sa.stands.1 in
    let small : l < 16 = sa.value in
    let same : bit_and v m ≡ bit_and l m = and_low v l m (leb-true m 15 test.0) (omega arith) in
    subst (λ z. Holds back at z (bit_and v w)) test.1
    (record { stands = sym same ∙ ap (bit_and v) second; value = tt })
low_bits_of_mix_holds back at op a b x v w sv sw sa sb e = absurd (cc)

pub whole_byte_holds : (back : ℕ → ℕ) (at : List ℕ) → RowHolds back at whole_byte
unfolding computed
whole_byte_holds back at And (Part s i) (Num m) x v w sv sw sa sb e =
    let test = so _ _ _ e in
    let second : m ≡ w = sb.stands in
    let all : m ≡ 255 = eqb-true m 255 test.0 in
    let masked : bit_and v w ≡ v % 256 = ap (bit_and v) (sym second ∙ all) ∙ and_mask v 8 in
    let byte : bit_and v w % 256 ≡ v % 256 = omega arith in
    subst (λ z. Holds back at z (bit_and v w)) test.1 (record { stands = byte ∙ sa.stands; value = sa.value })
whole_byte_holds back at op a b x v w sv sw sa sb e = absurd (cc)

-- Slt and Sltu
flag_holds : (back : ℕ → ℕ) (at : List ℕ) (o : Option Bool) (held : Bool) → ((t : Bool) → o ≡ Some t → held ≡ t)
    → Holds back at (flag_of o) (if held then 1 else 0)
flag_holds back at (Some true) held is =
    record { stands = ap (λ t. if t then 1 else 0) (sym (is true refl)); value = tt }
flag_holds back at (Some false) held is =
    record { stands = ap (λ t. if t then 1 else 0) (sym (is false refl)); value = tt }
flag_holds back at None held is = record { stands = tt; value = tt }

pub compared_holds : (back : ℕ → ℕ) (at : List ℕ) (live : Lives) → Placed live at → RowHolds back at (compared live)
unfolding computed is_held
compared_holds back at live placed Slt a b x v w sv sw sa sb e =
    let is : flag_of (decide live Lt a b) ≡ x = cc in
    subst (λ z. Holds back at z (computed Slt v w)) is
    (flag_holds back at (decide live Lt a b) (is_held Lt v w)
    (λ t f. decide_holds back at live Lt placed a b t v w sa sb f))
compared_holds back at live placed Sltu a b x v w sv sw sa sb e =
    let is : flag_of (decide live Ltu a b) ≡ x = cc in
    subst (λ z. Holds back at z (computed Sltu v w)) is
    (flag_holds back at (decide live Ltu a b) (is_held Ltu v w)
    (λ t f. decide_holds back at live Ltu placed a b t v w sa sb f))
compared_holds back at live placed op a b x v w sv sw sa sb e = absurd (cc)
