-- The graph that a table of weights gives.
use Rattle.std.proofs.Common.{◌≡◌, ◌==◌, ◌&&◌, ◌||◌, ◌++◌, ◌<◌, ◌≤◌, ◌+◌, ◌^◌, ℕ, zero, suc, Bool, true, false, cond}
use Rattle.std.proofs.Common.{min, max, List, [], ◌∷◌, length, get_or, take, add-one, Some, Result, Ok, Err, inl, inr}
use Rattle.std.proofs.Common.{refl, ap, sym, ◌∙◌, subst, arith}
use Rattle.std.specs.Prelude.{All, AllPairs, IsPermutation, IsSorted, IfOk, OnOk, unwrap_or, slice_get, slice_index}
use Rattle.std.specs.List.{list_any, IsDistinct}
use Rattle.std.specs.Map.{lookup, keys_of}
use Rattle.std.specs.Ordering.{is_lt}
use Rattle.std.specs.declared.alloc.AllocError.{AllocError}
use Rattle.std.proofs.lemmas.List.Sorted.{All-permutation, list_any-IsPermutation}
use Rattle.std.proofs.lemmas.Option.{slice_get_within, get_or_from_slice_get}
use Rattle.std.proofs.lemmas.Bool.{cases_lt}
use Rattle.std.proofs.lemmas.Bool.Decides.{nat_tests}
use Rattle.std.proofs.lemmas.List.{get_or-map, length-map, map_more}
use Rattle.std.proofs.lemmas.List.Elements.{All-weaker}
use Rattle.std.proofs.lemmas.List.Sums.{count_by-le-length}
use Rattle.std.proofs.lemmas.Map.Keys.{IsDistinct-tail, apart_from_distinct, IsDistinct-from_apart}
use Rattle.std.proofs.lemmas.Map.Keys.{IsDistinct-IsPermutation}
use Rattle.plan_core.specs.declared.profiles.Event.{Event}
use Rattle.plan_core.specs.declared.profiles.Edge.{Edge}
use Rattle.plan_core.specs.declared.profiles.Node.{Node}
use Rattle.plan_core.specs.declared.profiles.Graph.{Graph}
use Rattle.plan_core.specs.Graphs.{EndsBefore, Joins}
use Rattle.affinity.specs.declared.entries.Entry.{Entry}
use Rattle.affinity.specs.declared.entries.Pair.{Pair}
use Rattle.affinity.specs.Histories.{contexts_of, released_in, accesses_of, access_list}
use Rattle.affinity.specs.Weights.{count_below, sum_below, block_at, are_of, weight_in, weight}
use Rattle.affinity.specs.Graphs.{has_ends, IsGraph}
use Rattle.affinity.specs.State.{Seen, same_pair, weight_at}
use Rattle.affinity.specs.Edges.{edge_of, edges_in, edge_cmp}
use Rattle.affinity.specs.Pushed.{Pushed}
use Rattle.affinity.proofs.Sums.{one}
use Rattle.affinity.proofs.EntryWeights.{blank}
use Rattle.affinity.proofs.HistoryLaws.{entries_few}
use Rattle.affinity.proofs.Standing.{stands, blocks_known, contexts_known, nodes_long}
use Rattle.affinity.proofs.Accesses.{weight_fits}

-- a count of what never passes
count_none : (f : ℕ → Bool) (n : ℕ) → ((k : ℕ) → k < n → f k ≡ false) → count_below f n ≡ 0
count_none f zero none = refl
count_none f (suc n) none =
    let here : one (f n) ≡ 0 = ap one (none n (omega arith)) in
    omega (arith, here, count_none f n (λ k h. none k (omega arith)))

sum_none : (f : ℕ → ℕ) (n : ℕ) → ((k : ℕ) → k < n → f k ≡ 0) → sum_below f n ≡ 0
sum_none f zero none = refl
sum_none f (suc n) none = omega (arith, none n (omega arith), sum_none f n (λ k h. none k (omega arith)))

and_false : (t : Bool) → (t && false) ≡ false
and_false true = refl
and_false false = refl

-- contexts that no pair of blocks has weigh nothing
weight_none : (distance : ℕ) (cs : List ℕ) (es : List Entry) (low high : ℕ)
    → ((i j : ℕ) → i < length es → j < length es → are_of cs (block_at es i) (block_at es j) low high ≡ false)
    → weight_in distance cs es low high ≡ 0
unfolding weight_in
weight_none distance cs es low high none =
    sum_none _ (length es) (λ j second. count_none _ j (λ i first. rw (none i j (omega arith) second) (and_false _)))

not_ordered : (b c low high : ℕ) → high < low → ((min b c == low) && (max b c == high)) ≡ false
not_ordered b c low high wrong = grind (arith, nat_tests)

not_so_high : (b c n low high : ℕ) → b < n → c < n → n ≤ high → ((min b c == low) && (max b c == high)) ≡ false
not_so_high b c n low high b_in c_in wrong = grind (arith, nat_tests)

-- a pair of a weight above 0 is of two contexts, the lower first
pub weight_ends : (a : Seen) (h : List Event) → Pushed a h → (low high : ℕ) → 0 < weight a.distance h low high
    → (low ≤ high) × (high < a.contexts)
weight_ends a h p low high some =
    let s = stands a h p in
    let known = blocks_known a (contexts_of h) (released_in h) (length (accesses_of h)) (access_list h) s in
    let context : (i : ℕ) → i < length (access_list h)
    → get_or (contexts_of h) (block_at (access_list h) i) 0 < a.contexts =
    λ i inside. contexts_known a (contexts_of h) (released_in h) (length (accesses_of h)) (access_list h) s
    (block_at (access_list h) i) (known i blank inside) in (
      elim (cases_lt high low) as (λ _. low ≤ high) [
        | inl wrong ↦ absurd (omega (
          arith,
          some,
          weight_none a.distance (contexts_of h) (access_list h) low high
              (λ i j first second. not_ordered (get_or (contexts_of h) (block_at (access_list h) i) 0)
              (get_or (contexts_of h) (block_at (access_list h) j) 0) low high wrong),
        ))
        | inr right ↦ right
      ],
      elim (cases_lt high a.contexts) as (λ _. high < a.contexts) [
        | inl right ↦ right
        | inr wrong ↦ absurd (omega (
          arith,
          some,
          weight_none a.distance (contexts_of h) (access_list h) low high
              (λ i j first second. not_so_high (get_or (contexts_of h) (block_at (access_list h) i) 0)
              (get_or (contexts_of h) (block_at (access_list h) j) 0) a.contexts low high
              (context i first) (context j second) wrong),
        ))
      ],
    )

abbrev Table : Type 0
Table = List (Pair × ℕ)

same_itself : (p : Pair) → same_pair p p ≡ true
same_itself p = grind (arith, nat_tests)

same_turned : (p q : Pair) → same_pair p q ≡ same_pair q p
same_turned p q = grind (arith, nat_tests)

own_at : (t : Bool) (e : Pair × ℕ) (es : Table) (q : Pair) (v : ℕ) → same_pair q e.0 ≡ t → t ≡ false
    → lookup (same_pair q) es ≡ Some v → cond t (Some e.1) (lookup (same_pair q) es) ≡ Some v
own_at true e es q v test wrong found = absurd cc
own_at false e es q v test right found = found

-- each entry of a table without repeats is found at its own pair
own : (es : Table) → IsDistinct same_pair (keys_of es) → (k : ℕ) (d : Pair × ℕ) → k < length es
    → lookup (same_pair (get_or es k d).0) es ≡ Some (get_or es k d).1
own [] distinct k d inside = absurd (omega arith)
own (e ∷ es) distinct zero d inside = rw (same_itself e.0) refl
own (e ∷ es) distinct (suc k) d inside =
    let deep : k < length es = omega arith in
    let later = own es (IsDistinct-tail same_pair e.0 (keys_of es) distinct) k d deep in
    let key : get_or (keys_of es) k d.0 ≡ (get_or es k d).0 = get_or-map (λ (x : Pair × ℕ). x.0) es k d d.0 deep in
    let apart : same_pair e.0 (get_or (keys_of es) k d.0) ≡ false =
    apart_from_distinct same_pair (keys_of (e ∷ es)) 0 (suc k) d.0 distinct (omega arith)
    (omega (arith, length-map es (λ (x : Pair × ℕ). x.0))) in
    let apart_there : same_pair e.0 (get_or es k d).0 ≡ false = ap (λ q. same_pair e.0 q) (sym key) ∙ apart in
    own_at (same_pair (get_or es k d).0 e.0) e es (get_or es k d).0 (get_or es k d).1 refl
    (same_turned (get_or es k d).0 e.0 ∙ apart_there) later

-- one edge more of a table
pub edges_more : (es : Table) (at : ℕ) (e : Pair × ℕ) → slice_get es at ≡ Some e
    → edges_in (take (at + 1) es) ≡ edges_in (take at es) ++ (edge_of e ∷ [])
edges_more es at e is =
    map_more edge_of es at e (slice_get_within es at e is)
    ∙ ap (λ x. edges_in (take at es) ++ (edge_of x ∷ [])) (get_or_from_slice_get es at e e is)

found_at : (t : Bool) (low high : ℕ) (e : Pair × ℕ) (es : Table) → same_pair (record { low = low; high = high }) e.0 ≡ t
    → 0 < unwrap_or (cond t (Some e.1) (lookup (same_pair (record { low = low; high = high })) es)) 0
    → (0 < weight_at es low high → list_any (has_ends low high) (edges_in es) ≡ true)
    → (has_ends low high (edge_of e) || list_any (has_ends low high) (edges_in es)) ≡ true
found_at true low high e es test some later = let here : has_ends low high (edge_of e) ≡ true =
    grind (arith, nat_tests) in rw here refl
found_at false low high e es test some later = rw (later some) (or_true (has_ends low high (edge_of e)))
  where
    or_true : (t : Bool) → (t || true) ≡ true
    or_true true = refl
    or_true false = refl

-- a pair that has a weight has an edge
found_any : (es : Table) (low high : ℕ) → 0 < weight_at es low high → list_any (has_ends low high) (edges_in es) ≡ true
found_any [] low high some = absurd (omega arith)
found_any (e ∷ es) low high some =
    found_at (same_pair (record { low = low; high = high }) e.0) low high e es refl some
    (λ more. found_any es low high more)

-- whether two edges have the same ends
abbrev same_ends : Edge → Edge → Bool
same_ends e f = (e.low == f.low) && (e.high == f.high)

ends_turned : (e f : Edge) → same_ends e f ≡ same_ends f e
ends_turned e f = grind (arith, nat_tests)

in_order : (e f : Edge) → is_lt (edge_cmp f e) ≡ false → same_ends e f ≡ false → EndsBefore e f
in_order e f less other = grind (arith, nat_tests)

ends_trans : (e f g : Edge) → EndsBefore e f → EndsBefore f g → EndsBefore e g
ends_trans e f g first second = grind arith

-- where each edge comes before the next, each comes before all later ones
chain : (xs : List Edge) → ((k : ℕ) (d : Edge) → k + 1 < length xs → EndsBefore (get_or xs k d) (get_or xs (k + 1) d))
    → (i j : ℕ) (d : Edge) → i < j → j < length xs → EndsBefore (get_or xs i d) (get_or xs j d)
chain xs next i zero d first inside = absurd (omega arith)
chain xs next i (suc j) d first inside =
    let step : EndsBefore (get_or xs j d) (get_or xs (suc j) d) =
    subst (λ k. EndsBefore (get_or xs j d) (get_or xs k d)) (add-one j) (next j d (omega arith)) in
    elim (cases_lt i j) [
      | inl low ↦ ends_trans (get_or xs i d) (get_or xs j d) (get_or xs (suc j) d)
          (chain xs next i j d low (omega arith)) step
      | inr high ↦ (let at : j ≡ i = omega arith in
          subst (λ k. EndsBefore (get_or xs k d) (get_or xs (suc j) d)) at step)
    ]

abbrev no_pair : Pair × ℕ
no_pair = (record { low = 0; high = 0 }, 0)

edges_apart : (es : Table) → IsDistinct same_pair (keys_of es) → IsDistinct same_ends (edges_in es)
edges_apart es distinct =
    IsDistinct-from_apart same_ends (edges_in es) (λ i j d first second.
    let long : length (edges_in es) ≡ length es = length-map es edge_of in
    let keys_long : length (keys_of es) ≡ length es = length-map es (λ (x : Pair × ℕ). x.0) in
    let j_in : j < length es = omega arith in
    let i_in : i < length es = omega arith in
    let at_i : get_or (edges_in es) i d ≡ edge_of (get_or es i no_pair) = get_or-map edge_of es i no_pair d i_in in
    let at_j : get_or (edges_in es) j d ≡ edge_of (get_or es j no_pair) = get_or-map edge_of es j no_pair d j_in in
    let key_i : get_or (keys_of es) i no_pair.0 ≡ (get_or es i no_pair).0 =
    get_or-map (λ (x : Pair × ℕ). x.0) es i no_pair no_pair.0 i_in in
    let key_j : get_or (keys_of es) j no_pair.0 ≡ (get_or es j no_pair).0 =
    get_or-map (λ (x : Pair × ℕ). x.0) es j no_pair no_pair.0 j_in in
    let apart : same_pair (get_or (keys_of es) i no_pair.0) (get_or (keys_of es) j no_pair.0) ≡ false =
    apart_from_distinct same_pair (keys_of es) i j no_pair.0 distinct first (omega arith) in
    rw (at_i, at_j) (ap (λ k. same_pair k (get_or es j no_pair).0) (sym key_i)
    ∙ (ap (λ k. same_pair (get_or (keys_of es) i no_pair.0) k) (sym key_j) ∙ apart)))

-- the edges of a table, once they are in order, are the graph's
module _ (a : Seen) (h : List Event) (p : Pushed a h) (g : Graph) (nodes : g.nodes ≡ a.memory.nodes)
    (same : IsPermutation (edges_in a.memory.weights) g.edges) (sorted : IsSorted edge_cmp g.edges)
    (distinct : IsDistinct same_pair (keys_of a.memory.weights)) where
  told_entry : (k : ℕ) (d : Pair × ℕ) → k < length a.memory.weights
      → ((edge_of (get_or a.memory.weights k d)).weight
      ≡ weight a.distance h (edge_of (get_or a.memory.weights k d)).low
      (edge_of (get_or a.memory.weights k d)).high)
      × (0 < (edge_of (get_or a.memory.weights k d)).weight)
  told_entry k d inside =
      let found = own a.memory.weights distinct k d inside in (
        sym (ap (λ o. unwrap_or o 0) found) ∙ p.weights (get_or a.memory.weights k d).0.low
            (get_or a.memory.weights k d).0.high,
        p.counted k d inside,
      )

  told : All (λ e. (e.weight ≡ weight a.distance h e.low e.high) × (0 < e.weight)) g.edges
  told =
      All-permutation (λ e. (e.weight ≡ weight a.distance h e.low e.high) × (0 < e.weight))
      (edges_in a.memory.weights) g.edges same
      (λ k d inside.
      let within : k < length a.memory.weights = omega (arith, length-map a.memory.weights edge_of) in
      let at : get_or (edges_in a.memory.weights) k d ≡ edge_of (get_or a.memory.weights k no_pair) =
      get_or-map edge_of a.memory.weights k no_pair d within in
      subst (λ (e : Edge). (e.weight ≡ weight a.distance h e.low e.high) × (0 < e.weight)) (sym at)
      (told_entry k no_pair within))

  joins : All (Joins (length g.nodes)) g.edges
  joins =
      All-weaker (λ e. (e.weight ≡ weight a.distance h e.low e.high) × (0 < e.weight)) (Joins (length g.nodes))
      (λ e t.
      let some : 0 < weight a.distance h e.low e.high = omega (arith, t.0, t.1) in
      let ends = weight_ends a h p e.low e.high some in (
        ends.0,
        omega (
          arith,
          ends.1,
          ap length nodes,
          nodes_long a (contexts_of h) (released_in h) (length (accesses_of h))
              (access_list h) (stands a h p),
        ),
        omega (arith, t.0, weight_fits a h p e.low e.high),
      ))
      g.edges told

  ascending : AllPairs EndsBefore g.edges
  ascending =
      let apart = IsDistinct-IsPermutation same_ends ends_turned (edges_in a.memory.weights) g.edges same
      (edges_apart a.memory.weights distinct) in
      chain g.edges (λ k d inside. in_order (get_or g.edges k d) (get_or g.edges (k + 1) d)
      (sorted k d (omega arith) inside)
      (apart_from_distinct same_ends g.edges k (k + 1) d apart (omega arith) inside))

  -- it is the graph of the list of events
  pub graph_is : IsGraph a.distance h g
  graph_is = record {
    nodes = rw nodes p.nodes;
    ordered = record { joins = joins; ascending = ascending };
    weights = told;
    whole = λ low high some.
        sym (list_any-IsPermutation (has_ends low high) (edges_in a.memory.weights) g.edges same)
        ∙ found_any a.memory.weights low high (omega (arith, some, p.weights low high));
  }

-- the counts of a node are below 2 ^ 32
abbrev IsSmall : Node → Type 0
IsSmall n = (n.grants < 2 ^ 32) × (n.accesses < 2 ^ 32)

-- what the parts of an answered graph say, for each list of events
pub graph_told : (r : Result Graph AllocError) (a : Seen) → IfOk r (λ g. g.nodes ≡ a.memory.nodes)
    → IfOk r (λ g. IsPermutation (edges_in a.memory.weights) g.edges)
    → IfOk r (λ g. IsSorted edge_cmp g.edges) → OnOk r (IsDistinct same_pair (keys_of a.memory.weights))
    → IfOk r (λ g. (h : List Event) → Pushed a h → IsGraph a.distance h g)
graph_told (Ok g) a nodes same sorted distinct = λ h p. graph_is a h p g nodes same sorted distinct
graph_told (Err e) a nodes same sorted distinct = distinct

-- the counts of its nodes
pub nodes_told : (r : Result Graph AllocError) (a : Seen) (h : List Event) → Pushed a h
    → IfOk r (λ g. g.nodes ≡ a.memory.nodes) → IfOk r (λ g. All IsSmall g.nodes)
nodes_told (Ok g) a h p nodes = rw nodes (λ c d low.
    let n = p.nodes.1 c d low in (
      omega (arith, n.0, count_by-le-length (λ x. x == c) (contexts_of h), p.grants, p.few.0),
      omega (
        arith,
        n.1,
        count_by-le-length (λ e. slice_index (contexts_of h) e.block == c) (access_list h),
        entries_few h,
        p.accesses,
        p.few.1,
      ),
    ))
nodes_told (Err e) a h p nodes = nodes
