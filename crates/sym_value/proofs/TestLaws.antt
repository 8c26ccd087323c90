-- The rows of the table of conditions hold of the words that stand for the values.
use Rattle.std.proofs.Common.{◌≡◌, ◌≢◌, ◌⊎◌, ℕ, ◌^◌, ◌<◌, ◌≤◌, Bool, true, false, not, List, Option, Some, None}
use Rattle.std.proofs.Common.{option_map, slice_index, nat_eq, nat_lt, int_lt, refl, ap, ap₂, sym, subst, ◌∙◌, inl, inr}
use Rattle.std.proofs.Common.{⊎_elim, arith}
use Rattle.std.proofs.lemmas.Bool.Decides.{nat_tests}
use Rattle.std.proofs.lemmas.Bool.{and_parts, eqb-true, eqb-false, ne_eqb, lt-ltb, le-ltb, leb-true, not-true}
use Rattle.rv_isa.specs.declared.Cond.{Cond}
use Rattle.rv_isa.specs.declared.Cond.TheVariants.{Eq, Ne, Lt, Ge, Ltu, Geu}
use Rattle.rv_isa.specs.Compute.{is_held, signed}
use Rattle.sym_value.specs.declared.Value.{Value}
use Rattle.sym_value.specs.declared.Value.TheVariants.{Num, Ptr, Mix}
use Rattle.sym_value.specs.Places.{Lives, shifted}
use Rattle.sym_value.specs.Decisions.{where_so, or_else, Test, either_way_test, same_block, other_block}
use Rattle.sym_value.specs.Decisions.{apart_from_outer, near_is_not_zero, mix_is_not_zero, equal, near_order, on_low}
use Rattle.sym_value.specs.Decisions.{low_on, on_high, high_on, not_below_one, zero_below, below, decided, decide}
use Rattle.sym_value.specs.Standing.{Holds, Placed, address}
use Rattle.sym_value.proofs.WordFacts.{test_stays, order_stays}
use Rattle.sym_value.proofs.PointerFacts.{OnWord, NearWord, on_word, near_word, below_low, above_high, outer_apart}
use Rattle.sym_value.proofs.PointerFacts.{inner_apart}

-- what a row says where it fits
pub so : {A : Type 0} (t : Bool) (x y : A) → where_so t x ≡ Some y → (t ≡ true) × (x ≡ y)
so true x y e = (refl, cc)
so false x y e = absurd (cc)

pub or_else_cases : {A : Type 0} (o r : Option A) (x : A) → or_else o r ≡ Some x → (o ≡ Some x) ⊎ (r ≡ Some x)
or_else_cases (Some y) r x e = inl e
or_else_cases None r x e = inr e

-- a row whose answers are what a relation of the words says
abbrev pub TestHolds : (ℕ → ℕ) → List ℕ → (ℕ → ℕ → Bool) → Test → Type 0
TestHolds back at relation row =
    (a b : Value) (t : Bool) (v w : ℕ) → Holds back at a v → Holds back at b w → row a b ≡ Some t → relation v w ≡ t

either : (back : ℕ → ℕ) (at : List ℕ) (relation : ℕ → ℕ → Bool) (row : Test) → ((v w : ℕ) → relation v w ≡ relation w v)
    → TestHolds back at relation row → TestHolds back at relation (either_way_test row)
either back at relation row turns h a b t v w sa sb e =
    ⊎_elim (λ f. h a b t v w sa sb f) (λ f. turns v w ∙ h b a t w v sb sa f) (or_else_cases _ _ t e)

one_of : (back : ℕ → ℕ) (at : List ℕ) (relation : ℕ → ℕ → Bool) (row rest : Test) → TestHolds back at relation row
    → TestHolds back at relation rest → TestHolds back at relation (λ a b. or_else (row a b) (rest a b))
one_of back at relation row rest h k a b t v w sa sb e =
    ⊎_elim (λ f. h a b t v w sa sb f) (λ f. k a b t v w sa sb f) (or_else_cases _ _ t e)

eq_turns : (v w : ℕ) → nat_eq v w ≡ nat_eq w v
eq_turns v w = grind (arith, nat_tests)

same_block_holds : (back : ℕ → ℕ) (at : List ℕ) → TestHolds back at nat_eq same_block
same_block_holds back at (Ptr b o) (Ptr c p) t v w sa sb e =
    let test = so _ _ _ e in
    let same : b ≡ c = eqb-true b c test.0 in
    let first : address at b o ≡ v = sa.stands in
    let second : address at c p ≡ w = sb.stands in
    let here : address at b p ≡ w = ap (λ x. address at x p) same ∙ second in
    ap₂ nat_eq (sym first) (sym here) ∙ test_stays (slice_index at b) o p sa.value.1 sb.value.1 ∙ test.1
same_block_holds back at a b t v w sa sb e = absurd (cc)

other_block_holds : (back : ℕ → ℕ) (at : List ℕ) (live : Lives) → Placed live at
    → TestHolds back at nat_eq (other_block live)
other_block_holds back at live placed (Ptr b o) (Ptr c p) t v w sa sb e =
    let test = so _ _ _ e in
    let parts = and_parts _ _ test.0 in
    let inner = and_parts _ _ parts.1 in
    ne_eqb v w (inner_apart live at b o c p v w placed (eqb-false b c (not-true _ parts.0)) inner.0 inner.1 sa.stands
    sb.stands) ∙ test.1
other_block_holds back at live placed a b t v w sa sb e = absurd (cc)

outer_holds : (back : ℕ → ℕ) (at : List ℕ) (live : Lives) → Placed live at
    → TestHolds back at nat_eq (apart_from_outer live)
outer_holds back at live placed (Ptr b o) (Num n) t v w sa sb e =
    let test = so _ _ _ e in
    let parts = and_parts _ _ test.0 in
    let on : OnWord live at b o v = on_word live at b o v placed parts.0 sa.stands in
    let second : n ≡ w = sb.stands in
    ne_eqb v w (subst (λ x. v ≢ x) second (outer_apart live v n on.inside parts.1)) ∙ test.1
outer_holds back at live placed a b t v w sa sb e = absurd (cc)

near_zero_holds : (back : ℕ → ℕ) (at : List ℕ) (live : Lives) → Placed live at
    → TestHolds back at nat_eq (near_is_not_zero live)
near_zero_holds back at live placed (Ptr b o) (Num n) t v w sa sb e =
    let test = so _ _ _ e in
    let parts = and_parts _ _ test.0 in
    let near : NearWord at b o v = near_word live at b o v placed parts.0 sa.value.1 sa.stands in
    let second : n ≡ w = sb.stands in
    let zero : n ≡ 0 = eqb-true n 0 parts.1 in
    ne_eqb v w (λ x. let low : 20480 ≤ v = near.low in omega arith) ∙ test.1
near_zero_holds back at live placed a b t v w sa sb e = absurd (cc)

mix_zero_holds : (back : ℕ → ℕ) (at : List ℕ) → TestHolds back at nat_eq mix_is_not_zero
mix_zero_holds back at (Mix l) (Num n) t v w sa sb e =
    let test = so _ _ _ e in
    let second : n ≡ w = sb.stands in
    let zero : n ≡ 0 = eqb-true n 0 test.0 in
    ne_eqb v w (λ x. sa.stands.0 (omega arith)) ∙ test.1
mix_zero_holds back at a b t v w sa sb e = absurd (cc)

equal_holds : (back : ℕ → ℕ) (at : List ℕ) (live : Lives) → Placed live at → TestHolds back at nat_eq (equal live)
equal_holds back at live placed =
    one_of back at nat_eq _ _ (either back at nat_eq _ eq_turns (same_block_holds back at))
    (one_of back at nat_eq _ _ (either back at nat_eq _ eq_turns (other_block_holds back at live placed))
    (one_of back at nat_eq _ _ (either back at nat_eq _ eq_turns (outer_holds back at live placed))
    (one_of back at nat_eq _ _ (either back at nat_eq _ eq_turns (near_zero_holds back at live placed))
    (either back at nat_eq _ eq_turns (mix_zero_holds back at)))))

-- the words of near pointers into one block, and their order
record Near (at : List ℕ) (b o p v w : ℕ) : Type 0 where
  pub first : NearWord at b o v
  pub second : NearWord at b p w

near_words : (back : ℕ → ℕ) (at : List ℕ) (live : Lives) (b o c p v w : ℕ) (t : Bool) → Placed live at
    → Holds back at (Ptr b o) v → Holds back at (Ptr c p) w → near_order live (Ptr b o) (Ptr c p) ≡ Some t
    → Near at b o p v w × (nat_lt (shifted o) (shifted p) ≡ t)
near_words back at live b o c p v w t placed sa sb e =
    let test = so _ _ _ e in
    let parts = and_parts _ _ test.0 in
    let near = and_parts _ _ parts.1 in
    let same : b ≡ c = eqb-true b c parts.0 in
    let other : NearWord at c p w = near_word live at c p w placed near.1 sb.value.1 sb.stands in (
      record {
        first = near_word live at b o v placed near.0 sa.value.1 sa.stands;
        second = subst (λ x. NearWord at x p w) (sym same) other;
      },
      test.1,
    )

near_order_holds : (back : ℕ → ℕ) (at : List ℕ) (live : Lives) → Placed live at
    → TestHolds back at nat_lt (near_order live)
near_order_holds back at live placed (Ptr b o) (Ptr c p) t v w sa sb e =
    let near = near_words back at live b o c p v w t placed sa sb e in
    order_stays v w (shifted o) (shifted p) (slice_index at b) 65536 near.0.first.exact near.0.second.exact ∙ near.1
near_order_holds back at live placed a b t v w sa sb e = absurd (cc)

-- words below 2^31 have one order with signs and without
signed_order : (v w : ℕ) → v < 2 ^ 31 → w < 2 ^ 31 → int_lt (signed v) (signed w) ≡ nat_lt v w
signed_order v w sv sw = rw (lt-ltb v (2 ^ 31) sv, lt-ltb w (2 ^ 31) sw) refl

signed_near_holds : (back : ℕ → ℕ) (at : List ℕ) (live : Lives) → Placed live at
    → TestHolds back at (λ v w. int_lt (signed v) (signed w)) (near_order live)
signed_near_holds back at live placed (Ptr b o) (Ptr c p) t v w sa sb e =
    let near = near_words back at live b o c p v w t placed sa sb e in
    signed_order v w near.0.first.high near.0.second.high ∙ near_order_holds back at live placed (Ptr b o)
    (Ptr c p) t v w sa sb e
signed_near_holds back at live placed a b t v w sa sb e = absurd (cc)

on_low_holds : (back : ℕ → ℕ) (at : List ℕ) (live : Lives) → Placed live at → TestHolds back at nat_lt (on_low live)
on_low_holds back at live placed (Ptr b o) (Num n) t v w sa sb e =
    let test = so _ _ _ e in
    let parts = and_parts _ _ test.0 in
    let on : OnWord live at b o v = on_word live at b o v placed parts.0 sa.stands in
    let second : n ≡ w = sb.stands in
    let less : n < v = below_low live v n on.inside parts.1 in
    le-ltb v w (omega arith) ∙ test.1
on_low_holds back at live placed a b t v w sa sb e = absurd (cc)

low_on_holds : (back : ℕ → ℕ) (at : List ℕ) (live : Lives) → Placed live at → TestHolds back at nat_lt (low_on live)
low_on_holds back at live placed (Num n) (Ptr b o) t v w sa sb e =
    let test = so _ _ _ e in
    let parts = and_parts _ _ test.0 in
    let on : OnWord live at b o w = on_word live at b o w placed parts.1 sb.stands in
    let first : n ≡ v = sa.stands in
    let less : n < w = below_low live w n on.inside parts.0 in
    lt-ltb v w (omega arith) ∙ test.1
low_on_holds back at live placed a b t v w sa sb e = absurd (cc)

on_high_holds : (back : ℕ → ℕ) (at : List ℕ) (live : Lives) → Placed live at → TestHolds back at nat_lt (on_high live)
on_high_holds back at live placed (Ptr b o) (Num n) t v w sa sb e =
    let test = so _ _ _ e in
    let parts = and_parts _ _ test.0 in
    let on : OnWord live at b o v = on_word live at b o v placed parts.0 sa.stands in
    let second : n ≡ w = sb.stands in
    let more : v < n = above_high live v n on.inside parts.1 in
    lt-ltb v w (omega arith) ∙ test.1
on_high_holds back at live placed a b t v w sa sb e = absurd (cc)

high_on_holds : (back : ℕ → ℕ) (at : List ℕ) (live : Lives) → Placed live at → TestHolds back at nat_lt (high_on live)
high_on_holds back at live placed (Num n) (Ptr b o) t v w sa sb e =
    let test = so _ _ _ e in
    let parts = and_parts _ _ test.0 in
    let on : OnWord live at b o w = on_word live at b o w placed parts.1 sb.stands in
    let first : n ≡ v = sa.stands in
    let more : w < n = above_high live w n on.inside parts.0 in
    le-ltb v w (omega arith) ∙ test.1
high_on_holds back at live placed a b t v w sa sb e = absurd (cc)

not_below_one_holds : (back : ℕ → ℕ) (at : List ℕ) (live : Lives) → Placed live at
    → TestHolds back at nat_lt (not_below_one live)
not_below_one_holds back at live placed (Ptr b o) (Num n) t v w sa sb e =
    let test = so _ _ _ e in
    let parts = and_parts _ _ test.0 in
    let near : NearWord at b o v = near_word live at b o v placed parts.0 sa.value.1 sa.stands in
    let second : n ≡ w = sb.stands in
    let small : n ≤ 1 = leb-true n 1 parts.1 in
    le-ltb v w (let low : 20480 ≤ v = near.low in omega arith) ∙ test.1
not_below_one_holds back at live placed (Mix l) (Num n) t v w sa sb e =
    let test = so _ _ _ e in
    let second : n ≡ w = sb.stands in
    let small : n ≤ 1 = leb-true n 1 test.0 in
    let nonzero : v ≢ 0 = sa.stands.0 in
    le-ltb v w (omega arith) ∙ test.1
not_below_one_holds back at live placed a b t v w sa sb e = absurd (cc)

zero_below_holds : (back : ℕ → ℕ) (at : List ℕ) (live : Lives) → Placed live at
    → TestHolds back at nat_lt (zero_below live)
zero_below_holds back at live placed (Num n) (Ptr b o) t v w sa sb e =
    let test = so _ _ _ e in
    let parts = and_parts _ _ test.0 in
    let near : NearWord at b o w = near_word live at b o w placed parts.1 sb.value.1 sb.stands in
    let first : n ≡ v = sa.stands in
    let zero : n ≡ 0 = eqb-true n 0 parts.0 in
    lt-ltb v w (let low : 20480 ≤ w = near.low in omega arith) ∙ test.1
zero_below_holds back at live placed (Num n) (Mix l) t v w sa sb e =
    let test = so _ _ _ e in
    let first : n ≡ v = sa.stands in
    let zero : n ≡ 0 = eqb-true n 0 test.0 in
    let nonzero : w ≢ 0 = sb.stands.0 in
    lt-ltb v w (omega arith) ∙ test.1
zero_below_holds back at live placed a b t v w sa sb e = absurd (cc)

below_holds : (back : ℕ → ℕ) (at : List ℕ) (live : Lives) → Placed live at → TestHolds back at nat_lt (below live)
below_holds back at live placed =
    one_of back at nat_lt _ _ (near_order_holds back at live placed)
    (one_of back at nat_lt _ _ (on_low_holds back at live placed)
    (one_of back at nat_lt _ _ (low_on_holds back at live placed)
    (one_of back at nat_lt _ _ (on_high_holds back at live placed)
    (one_of back at nat_lt _ _ (high_on_holds back at live placed)
    (one_of back at nat_lt _ _ (not_below_one_holds back at live placed)
    (zero_below_holds back at live placed))))))

-- the opposite of an answer
opposite : (o : Option Bool) (t : Bool) → option_map not o ≡ Some t → (s : Bool) × (o ≡ Some s) × (not s ≡ t)
opposite (Some s) t e = (s, refl, cc)
opposite None t e = absurd (cc)

opposite_holds : (back : ℕ → ℕ) (at : List ℕ) (relation : ℕ → ℕ → Bool) (row : Test) → TestHolds back at relation row
    → TestHolds back at (λ v w. not (relation v w)) (λ a b. option_map not (row a b))
opposite_holds back at relation row h a b t v w sa sb e =
    let s = opposite (row a b) t e in
    ap not (h a b s.0 v w sa sb s.1) ∙ s.2

decided_holds : (back : ℕ → ℕ) (at : List ℕ) (live : Lives) (condition : Cond) → Placed live at
    → TestHolds back at (is_held condition) (decided live condition)
unfolding is_held
decided_holds back at live Eq placed = equal_holds back at live placed
decided_holds back at live Ne placed = opposite_holds back at nat_eq (equal live) (equal_holds back at live placed)
decided_holds back at live Lt placed = signed_near_holds back at live placed
decided_holds back at live Ge placed =
    opposite_holds back at (λ v w. int_lt (signed v) (signed w)) (near_order live)
    (signed_near_holds back at live placed)
decided_holds back at live Ltu placed = below_holds back at live placed
decided_holds back at live Geu placed = opposite_holds back at nat_lt (below live) (below_holds back at live placed)

-- a decided condition holds of the words exactly as decided
pub decide_holds : (back : ℕ → ℕ) (at : List ℕ) (live : Lives) (condition : Cond) → Placed live at
    → TestHolds back at (is_held condition) (decide live condition)
unfolding decide
decide_holds back at live condition placed (Num m) (Num n) t v w sa sb e =
    let first : m ≡ v = sa.stands in
    let second : n ≡ w = sb.stands in
    let is : is_held condition m n ≡ t = cc in
    ap₂ (is_held condition) (sym first) (sym second) ∙ is
decide_holds back at live condition placed a b t v w sa sb e = decided_holds back at live condition placed a b t v w
    sa sb e
