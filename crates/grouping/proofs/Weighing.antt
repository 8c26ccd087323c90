-- Weights of edges that are few and small, and of groups with one member more.
use Rattle.std.proofs.Common.{◌≡◌, ◌⊎◌, ℕ, suc, zero, ◌+◌, ◌*◌, ◌^◌, ◌<◌, ◌≤◌, ◌==◌, Bool, true, false, cond, List, []}
use Rattle.std.proofs.Common.{◌∷◌, length, take, get_or, set, get_or-set_same, get_or-set_other, refl, ◌∙◌, ap, inl}
use Rattle.std.proofs.Common.{inr, arith, All, nat_lt, nat_le, count_by, insert}
use Rattle.std.specs.List.{AllPairs}
use mir.Val.{bool_byte}
use Rattle.std.proofs.Math.Nat.{mul-le-mul_right}
use Rattle.std.proofs.lemmas.Bool.{cases_Bool, cases_eq, eq-eqb, ne_eqb}
use Rattle.std.proofs.lemmas.Bool.Decides.{nat_tests}
use Rattle.std.proofs.lemmas.List.Sums.{sum_by-cons, sum_by-le, sum_by-insert, sum_by-le-sum_by, sum_by_more}
use Rattle.std.proofs.lemmas.List.Sums.{sum_by_more_le, count_by-le-length}
use Rattle.std.proofs.lemmas.List.Elements.{All-head, All-tail, All-filter}
use Rattle.std.proofs.lemmas.List.Kept.{AllPairs-filter}
use Rattle.std.proofs.lemmas.List.Edits.{length-insert}
use Rattle.plan_core.specs.declared.profiles.Edge.{Edge}
use Rattle.plan_core.specs.Graphs.{EndsBefore, Joins}
use Rattle.grouping.specs.Weights.{kept_edges, is_between, weight_between, weight_across, weight_inside, loops_in}
use Rattle.grouping.specs.Weights.{cut_of, with_member}
use Rattle.group_policy.specs.Cuts.{InRange}
use Rattle.grouping.specs.Greedy.{ends}
use Rattle.grouping.specs.Growing.{AreEdges}

-- what an edge adds to the weight between two contexts
abbrev pub part : ℕ → ℕ → Edge → ℕ
part x y e = cond (is_between x y e) e.weight 0

-- two edges of which one has its ends before the other's are not between the same contexts
pub apart : (x y : ℕ) (e f : Edge) → e.low ≤ e.high → f.low ≤ f.high → EndsBefore e f → is_between x y e ≡ true →
    is_between x y f ≡ false
apart x y e f le lf before here = grind (arith, nat_tests)

pub part_none : (x y : ℕ) (e : Edge) → is_between x y e ≡ false → part x y e ≡ 0
part_none x y e none = rw none refl

pub part_there : (x y : ℕ) (e : Edge) → is_between x y e ≡ true → part x y e ≡ e.weight
part_there x y e there = rw there refl

pub none_between : (n x y : ℕ) (e : Edge) (es : List Edge) → e.low ≤ e.high → All (Joins n) es → All (EndsBefore e) es →
    is_between x y e ≡ true → weight_between es x y ≡ 0
none_between n x y e [] le joins before here = refl
none_between n x y e (f ∷ fs) le joins before here =
    let first = All-head (Joins n) f fs joins in
    let none = part_none x y f (apart x y e f le first.0 (All-head (EndsBefore e) f fs before) here) in
    let rest = none_between n x y e fs le (All-tail (Joins n) f fs joins) (All-tail (EndsBefore e) f fs before) here in
    sum_by-cons (part x y) f fs ∙ omega (arith, none, rest)

pub pairs_head : {X : Type 0} (R : X → X → Type 0) (x : X) (xs : List X) → AllPairs R (x ∷ xs) → All (R x) xs
pairs_head R x xs pairs = λ k d h. pairs 0 (suc k) d (omega arith) (omega (arith, h))

pub pairs_tail : {X : Type 0} (R : X → X → Type 0) (x : X) (xs : List X) → AllPairs R (x ∷ xs) → AllPairs R xs
pairs_tail R x xs pairs = λ i j d h l. pairs (suc i) (suc j) d (omega (arith, h)) (omega (arith, l))

-- since no pair of ends stands twice, the weight between two contexts is that of at most one edge
pub between_small : (n x y : ℕ) (es : List Edge) → All (Joins n) es → AllPairs EndsBefore es →
    weight_between es x y ≤ 2 ^ 44
between_small n x y [] joins pairs = omega arith
between_small n x y (e ∷ es) joins pairs =
    let first = All-head (Joins n) e es joins in
    let sums : weight_between (e ∷ es) x y ≡ part x y e + weight_between es x y = sum_by-cons (part x y) e es in
    let rest = between_small n x y es (All-tail (Joins n) e es joins) (pairs_tail EndsBefore e es pairs) in
    elim (cases_Bool (is_between x y e)) [
      | inl there ↦
          let none = none_between n x y e es first.0 (All-tail (Joins n) e es joins) (pairs_head EndsBefore e es pairs)
          there in
          let one = part_there x y e there in omega (arith, sums, none, one, first)
      | inr none ↦ let zero_here = part_none x y e none in omega (arith, sums, zero_here, rest)
    ]

pub part_swaps : (x y : ℕ) (e : Edge) → part x y e ≤ part y x e
part_swaps x y e = grind (arith, nat_tests)

pub symmetric : (es : List Edge) (x y : ℕ) → weight_between es x y ≡ weight_between es y x
symmetric es x y =
    let one : (a b : ℕ) (e : Edge) → part a b e ≤ part b a e = λ a b e. part_swaps a b e in
    let up = sum_by-le-sum_by (part x y) (part y x) es (one x y) in
    let down = sum_by-le-sum_by (part y x) (part x y) es (one y x) in omega (arith, up, down)

pub across_small : (n x : ℕ) (es : List Edge) (group : List ℕ) → AreEdges n es →
    weight_across es x group ≤ length group * 2 ^ 44
across_small n x es group edges =
    sum_by-le (λ m. weight_between es x m) (2 ^ 44) group (λ k d h. between_small n x _ es edges.joins edges.ascending)

pub step : (own across rest n b : ℕ) → own ≤ b → across ≤ n * b → 2 * rest ≤ n * (n + 1) * b →
    2 * (own + across + rest) ≤ suc n * (suc n + 1) * b
step own across rest n b h i j = grind arith

pub inside_small : (n : ℕ) (es : List Edge) (group : List ℕ) → AreEdges n es →
    2 * weight_inside es group ≤ length group * (length group + 1) * 2 ^ 44
inside_small n es [] edges = omega arith
inside_small n es (m ∷ ms) edges =
    let own = between_small n m m es edges.joins edges.ascending in
    let across = across_small n m es ms edges in
    let rest = inside_small n es ms edges in
    step (weight_between es m m) (weight_across es m ms) (weight_inside es ms) (length ms) (2 ^ 44) own across rest

-- the weight inside a group with one more, wherever it stands
pub inside_insert : (es : List Edge) (group : List ℕ) (i x : ℕ) →
    weight_inside es (insert group i x) ≡ weight_inside es group + weight_between es x x + weight_across es x group
inside_insert es [] zero x = omega arith
inside_insert es [] (suc i) x = omega arith
inside_insert es (m ∷ ms) zero x = omega arith
inside_insert es (m ∷ ms) (suc i) x =
    let across : weight_across es m (insert ms i x) ≡ weight_across es m ms + weight_between es m x =
    sum_by-insert (λ y. weight_between es m y) ms i x in
    let front : weight_across es x (m ∷ ms) ≡ weight_between es x m + weight_across es x ms =
    sum_by-cons (λ y. weight_between es x y) m ms in
    omega (arith, inside_insert es ms i x, across, front, symmetric es x m)

pub across_with : (es : List Edge) (x y : ℕ) (group : List ℕ) →
    weight_across es y (with_member x group) ≡ weight_across es y group + weight_between es y x
across_with es x y group = sum_by-insert (λ m. weight_between es y m) group (count_by (λ m. nat_lt m x) group) x

pub inside_with : (es : List Edge) (x : ℕ) (group : List ℕ) →
    weight_inside es (with_member x group) ≡ weight_inside es group + weight_between es x x + weight_across es x group
inside_with es x group = inside_insert es group (count_by (λ m. nat_lt m x) group) x

pub loops_with : (es : List Edge) (x : ℕ) (group : List ℕ) →
    loops_in es (with_member x group) ≡ loops_in es group + cond (nat_lt 0 (weight_between es x x)) 1 0
loops_with es x group =
    sum_by-insert (λ m. cond (nat_lt 0 (weight_between es m m)) 1 0) group (count_by (λ m. nat_lt m x) group) x

pub length_with : (x : ℕ) (group : List ℕ) → length (with_member x group) ≡ length group + 1
length_with x group =
    length-insert group (count_by (λ m. nat_lt m x) group) x (count_by-le-length (λ m. nat_lt m x) group)

-- the weight between two contexts with one edge more, where that edge's other end is known
pub added : (cross start : List ℕ) (edges : List Edge) (i end y other : ℕ) (d : Edge) → i < length edges →
    other < length cross → get_or cross y 0 ≡ get_or start y 0 + weight_between (take i edges) y end →
    is_between y end (get_or edges i d) ≡ (y == other) →
    get_or (set cross other (get_or cross other 0 + (get_or edges i d).weight)) y 0
    ≡ get_or start y 0 + weight_between (take (i + 1) edges) y end
added cross start edges i end y other d h l so here =
    let more = sum_by_more (part y end) edges i d h in
    elim (cases_eq y other) [
      | inl same ↦
          let there : is_between y end (get_or edges i d) ≡ true = here ∙ eq-eqb y other same in
          let one = part_there y end (get_or edges i d) there in
          rw (same, get_or-set_same) (omega (arith, rw same at so, rw same at more, rw same at one))
      | inr different ↦
          let none : is_between y end (get_or edges i d) ≡ false = here ∙ ne_eqb y other different in
          let zero_here = part_none y end (get_or edges i d) none in
          rw get_or-set_other (omega (arith, so, more, zero_here))
    ]

pub unchanged : (cross start : List ℕ) (edges : List Edge) (i end y : ℕ) (d : Edge) → i < length edges →
    get_or cross y 0 ≡ get_or start y 0 + weight_between (take i edges) y end →
    is_between y end (get_or edges i d) ≡ false →
    get_or cross y 0 ≡ get_or start y 0 + weight_between (take (i + 1) edges) y end
unchanged cross start edges i end y d h so none =
    let more = sum_by_more (part y end) edges i d h in
    let zero_here = part_none y end (get_or edges i d) none in omega (arith, so, more, zero_here)

-- what a context has of some of the edges and of the next is within what it has of all
pub within : (n : ℕ) (start : List ℕ) (edges : List Edge) (i end y : ℕ) (d : Edge) → AreEdges n edges →
    i < length edges → is_between y end (get_or edges i d) ≡ true →
    weight_between (take i edges) y end + (get_or edges i d).weight ≤ 2 ^ 44
within n start edges i end y d are h there =
    let more = sum_by_more_le (part y end) edges i d h in
    let one = part_there y end (get_or edges i d) there in
    let small = between_small n y end edges are.joins are.ascending in omega (arith, more, one, small)

-- an end of an edge is one of the contexts
pub end_below : (n : ℕ) (edges : List Edge) (i other : ℕ) (d : Edge) → AreEdges n edges → i < length edges →
    (other ≡ (get_or edges i d).low) ⊎ (other ≡ (get_or edges i d).high) → other < n
end_below n edges i other d are h one =
    let joins = are.joins i d h in
    elim one [ inl low ↦ omega (arith, low, joins) | inr high ↦ omega (arith, high, joins) ]

pub byte_is : (b : Bool) → bool_byte b ≡ cond b 1 0
byte_is true = refl
byte_is false = refl

pub loops_step : (es : List Edge) (x : ℕ) (group : List ℕ) (loops own byte : ℕ) → loops ≡ loops_in es group →
    own ≡ weight_between es x x → byte ≡ bool_byte (nat_lt 0 own) → loops + byte ≡ loops_in es (with_member x group)
loops_step es x group loops own byte e same b =
    let one : byte ≡ cond (nat_lt 0 (weight_between es x x)) 1 0 = b ∙ byte_is (nat_lt 0 own)
    ∙ ap (λ w. cond (nat_lt 0 w) 1 0) same in
    let more = loops_with es x group in omega (arith, e, one, more)

-- the weights that fit
pub cross_fits : (n x : ℕ) (es : List Edge) (group : List ℕ) → AreEdges n es → length group < 8 →
    weight_across es x group ≤ 7 * 2 ^ 44
cross_fits n x es group are few = let small = across_small n x es group are in
    let seven : length group ≤ 7 = omega arith in
    let most : length group * 2 ^ 44 ≤ 7 * 2 ^ 44 = mul-le-mul_right (2 ^ 44) seven in omega arith

pub inside_fits : (n : ℕ) (es : List Edge) (group : List ℕ) → AreEdges n es → length group < 8 →
    weight_inside es group ≤ 28 * 2 ^ 44
inside_fits n es group are few = let small = inside_small n es group are in
    let seven : length group ≤ 7 = omega arith in
    let front : length group * (length group + 1) ≤ 7 * (length group + 1) =
    mul-le-mul_right (length group + 1) seven in
    let square : length group * (length group + 1) ≤ 56 = omega arith in
    let most : length group * (length group + 1) * 2 ^ 44 ≤ 56 * 2 ^ 44 = mul-le-mul_right (2 ^ 44) square in
    omega arith

-- what a group's counts are with one member more
pub cross_step : (cross after group : List ℕ) (es : List Edge) (x y : ℕ)
    → get_or after y 0 ≡ get_or cross y 0 + weight_between es y x →
    get_or cross y 0 ≡ weight_across es y group → get_or after y 0 ≡ weight_across es y (with_member x group)
cross_step cross after group es x y e so = let w = across_with es x y group in omega arith

pub weight_step : (es : List Edge) (x : ℕ) (group : List ℕ) (weight own across : ℕ) → weight ≡ weight_inside es group →
    own ≡ weight_between es x x → across ≡ weight_across es x group →
    weight + (own + across) ≡ weight_inside es (with_member x group)
weight_step es x group weight own across e f g = let w = inside_with es x group in omega arith

-- a loop is between its end and itself
pub loop_between : (e : Edge) → e.low ≡ e.high → is_between e.low e.low e ≡ true
loop_between e h = grind (arith, nat_tests)

-- the edges of at least some weight are some of the edges, in the same order
pub heavy_are : (n least : ℕ) (es : List Edge) → AreEdges n es → AreEdges n (kept_edges least es)
heavy_are n least es are = record {
  joins = All-filter (λ e. nat_le least e.weight) (Joins n) es are.joins;
  ascending = AllPairs-filter EndsBefore (λ e. nat_le least e.weight) es are.ascending;
}

-- a group of one member without a loop has no weight inside
pub alone : (es : List Edge) (group : List ℕ) → length group ≡ 1 → loops_in es group ≡ 0 → weight_inside es group ≡ 0
alone es [] one none = refl
alone es (m ∷ []) one none = grind (arith, nat_tests)
alone es (m ∷ k ∷ rest) one none = absurd (omega (arith, one))

-- what a rule is asked is in range
pub in_range : (n : ℕ) (es : List Edge) (tolerance : ℕ) (group : List ℕ) (x : ℕ) → AreEdges n es → 1 ≤ length group →
    length group < 8 → tolerance ≤ 150 → InRange (cut_of es tolerance group x)
in_range n es tolerance group x are some few most = record {
  some = some;
  few = omega arith;
  loops = count_by-le-length (λ m. nat_lt 0 (weight_between es m m)) group;
  weight = let fits = inside_fits n es group are few in omega (arith, fits);
  node_loop = between_small n x x es are.joins are.ascending;
  cross = cross_fits n x es group are few;
  tolerance = most;
  alone = alone es group;
}

-- an edge has at least one end
pub ends_some : (e : Edge) → 1 ≤ length (ends e)
ends_some e = elim (cases_Bool (e.low == e.high)) [ inl one ↦ rw one (omega arith) | inr two ↦ rw two (omega arith) ]
