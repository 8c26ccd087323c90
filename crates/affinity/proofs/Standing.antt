-- What an affinity stands for after one event more.
use Rattle.std.proofs.Common.{◌≡◌, ◌==◌, ◌||◌, ◌<◌, ◌≤◌, ◌+◌, ◌^◌, ℕ, Bool, true, false, not, nat_lt, if◌then◌else◌}
use Rattle.std.proofs.Common.{List, [], ◌∷◌, ◌++◌, length, get_or, set, Some, None, inl, inr, refl, ap, sym, ◌∙◌, subst}
use Rattle.std.proofs.Common.{arith, length-set, get_or-set_same, get_or-set_other}
use Rattle.std.specs.Prelude.{All, count_by}
use Rattle.std.specs.List.{list_any}
use Rattle.std.proofs.lemmas.List.{get_or_append_left, get_or_push, length_push, get_or_default}
use Rattle.std.proofs.lemmas.List.Elements.{All-head, All-tail, All-push, All-weaker, All-nil}
use Rattle.std.proofs.lemmas.List.Sums.{sum_by_push, sum_by-cons}
use Rattle.std.proofs.lemmas.List.Recursion.{or_at, or_from_places}
use Rattle.std.specs.List.{dedup}
use Rattle.std.proofs.lemmas.Option.{get_or_from_slice_get, slice_get_within}
use Rattle.std.proofs.lemmas.Bool.{cases_eq, cases_lt}
use Rattle.std.proofs.lemmas.Bool.Decides.{nat_tests}
use Rattle.plan_core.specs.declared.profiles.Event.{Event}
use Rattle.plan_core.specs.declared.profiles.Event.TheVariants.{Grant, Access, Release}
use Rattle.plan_core.specs.declared.profiles.Node.{Node}
use Rattle.affinity.specs.declared.entries.Entry.{Entry}
use Rattle.affinity.specs.declared.entries.Pair.{Pair}
use Rattle.affinity.specs.Histories.{is_in, context_granted, block_released, entry_of, contexts_of, released_in}
use Rattle.affinity.specs.Histories.{accesses_of, same_block, access_list, different, MayFollow, Legal}
use Rattle.affinity.specs.Weights.{weight_in}
use Rattle.affinity.specs.Near.{in_reach, ends_with, near_count}
use Rattle.affinity.specs.State.{Seen, blank_affinity, no_node, one_grant, one_access, grant_counted, access_counted}
use Rattle.affinity.specs.State.{with_grant, with_block, entered, weight_at}
use Rattle.affinity.specs.Follows.{Follows}
use Rattle.affinity.specs.Pushed.{IsLive, Takes, Pushed}
use Rattle.affinity.proofs.Comparisons.{is_same, is_other}
use Rattle.affinity.proofs.Sums.{one}
use Rattle.affinity.proofs.Newest.{follows_push, follows_block}
use Rattle.affinity.proofs.EntryWeights.{weight_push, weight_grant}
use Rattle.affinity.proofs.HistoryLaws.{grown, kept_same, access_same, access_new, ends_in_reach, fresh, is_in_push}
use Rattle.affinity.proofs.HistoryLaws.{different_push, dense_push, legal_push, legal_nil}

-- the nodes count the grants of each context and the entries of its blocks
abbrev pub NodesOf : List ℕ → List Entry → List Node → Type 0
NodesOf cs es nodes =
    (length nodes ≡ different cs)
    × ((c : ℕ) (d : Node) → c < length nodes
    → ((get_or nodes c d).grants ≡ count_by (λ x. x == c) cs)
    × ((get_or nodes c d).accesses ≡ count_by (λ e. get_or cs e.block 0 == c) es))

-- an affinity stands for events that make these lists
pub record Stands (a : Seen) (cs rs : List ℕ) (n : ℕ) (es : List Entry) : Type 0 where
  pub near : a.distance ≤ 4096
  pub grants : a.grants ≡ length cs
  pub contexts : a.contexts ≡ different cs
  pub accesses : a.accesses ≡ n
  pub few : (a.grants < 2 ^ 32) × (a.accesses < 2 ^ 32)
  pub lives : length a.lives ≡ a.grants
  pub living : (block : ℕ) (d : Bool) → block < a.grants → get_or a.lives block d ≡ not (is_in rs block)
  pub context_list : a.memory.granted.contexts ≡ cs
  pub context_count : a.memory.granted.count ≡ a.contexts
  pub ring : Follows a.distance a.memory.ring es
  pub ring_blocks : length a.memory.ring.lasts ≡ a.grants
  pub nodes : NodesOf cs es a.memory.nodes
  pub weights : (low high : ℕ) → weight_at a.memory.weights low high ≡ weight_in a.distance cs es low high
  pub counted : All (λ e. 0 < e.1) a.memory.weights
  pub dense : (context : ℕ) → is_in cs context ≡ nat_lt context a.contexts
  pub granted_first : All (λ block. block < a.grants) rs

pub stands : (a : Seen) (h : List Event) → Pushed a h
    → Stands a (contexts_of h) (released_in h) (length (accesses_of h)) (access_list h)
stands a h p = record {
  near = p.near;
  grants = p.grants;
  contexts = p.contexts;
  accesses = p.accesses;
  few = p.few;
  lives = p.lives;
  living = p.living;
  context_list = p.context_list;
  context_count = p.context_count;
  ring = p.ring;
  ring_blocks = p.ring_blocks;
  nodes = p.nodes;
  weights = p.weights;
  counted = p.counted;
  dense = p.dense;
  granted_first = p.granted_first;
}

pub pushed_by : (a : Seen) (h : List Event) → Legal h
    → Stands a (contexts_of h) (released_in h) (length (accesses_of h)) (access_list h) → Pushed a h
pushed_by a h legal s = record {
  legal = legal;
  near = s.near;
  grants = s.grants;
  contexts = s.contexts;
  accesses = s.accesses;
  few = s.few;
  lives = s.lives;
  living = s.living;
  context_list = s.context_list;
  context_count = s.context_count;
  ring = s.ring;
  ring_blocks = s.ring_blocks;
  nodes = s.nodes;
  weights = s.weights;
  counted = s.counted;
  dense = s.dense;
  granted_first = s.granted_first;
}

pub pushed_from : (a : Seen) (h : List Event) (cs rs : List ℕ) (n : ℕ) (es : List Entry) → Legal h
    → contexts_of h ≡ cs → released_in h ≡ rs → length (accesses_of h) ≡ n → access_list h ≡ es → Stands a cs rs n es
    → Pushed a h
pushed_from a h cs rs n es legal cs_is rs_is n_is es_is s =
    let s1 = subst (λ xs. Stands a xs rs n es) (sym cs_is) s in
    let s2 = subst (λ xs. Stands a (contexts_of h) xs n es) (sym rs_is) s1 in
    let s3 = subst (λ k. Stands a (contexts_of h) (released_in h) k es) (sym n_is) s2 in
    let s4 = subst (λ xs. Stands a (contexts_of h) (released_in h) (length (accesses_of h)) xs) (sym es_is) s3 in
    pushed_by a h legal s4

-- tests that agree on all items count the same
same_count_by : {X : Type 0} (P : X → Type 0) (f g : X → Bool) (xs : List X) → All P xs → ((x : X) → P x → f x ≡ g x)
    → count_by f xs ≡ count_by g xs
same_count_by P f g [] all same = refl
same_count_by P f g (x ∷ xs) all same =
    let here : one (f x) ≡ one (g x) = ap one (same x (All-head P x xs all)) in
    let later : count_by f xs ≡ count_by g xs = same_count_by P f g xs (All-tail P x xs all) same in
    omega (arith, sum_by-cons (λ y. one (f y)) x xs, sum_by-cons (λ y. one (g y)) x xs, here, later)

-- a test that no item passes counts none
none_counted : {X : Type 0} (P : X → Type 0) (f : X → Bool) (xs : List X) → All P xs → ((x : X) → P x → f x ≡ false)
    → count_by f xs ≡ 0
none_counted P f [] all none = refl
none_counted P f (x ∷ xs) all none =
    let here : one (f x) ≡ 0 = ap one (none x (All-head P x xs all)) in
    omega (arith, sum_by-cons (λ y. one (f y)) x xs, here, none_counted P f xs (All-tail P x xs all) none)

is_in_at : (xs : List ℕ) (i : ℕ) → i < length xs → is_in xs (get_or xs i 0) ≡ true
is_in_at xs i h =
    or_at (λ ys. list_any (λ y. y == get_or xs i 0) ys) (λ y. y == get_or xs i 0) refl (λ _ _. refl) xs i 0 h
    (is_same (get_or xs i 0) (get_or xs i 0) refl)

not_in : (xs : List ℕ) (n : ℕ) → All (λ x. x < n) xs → is_in xs n ≡ false
not_in xs n all =
    or_from_places (λ ys. list_any (λ y. y == n) ys) (λ y. y == n) refl (λ _ _. refl) xs 0
    (λ i h. is_other (get_or xs i 0) n (λ e. omega (arith, all i 0 h, e)))

below_from : (x n : ℕ) → nat_lt x n ≡ true → x < n
below_from x n e = grind (arith, nat_tests)

not_below : (x n : ℕ) → n ≤ x → nat_lt x n ≡ false
not_below x n e = grind (arith, nat_tests)

count_grown : (c n : ℕ) → c ≤ n → (if c == n then n + 1 else n) ≡ n + fresh (nat_lt c n)
count_grown c n low = grind (arith, nat_tests)

not_true : (t : Bool) → true ≡ not t → t ≡ false
not_true true e = absurd cc
not_true false e = refl

module _ (a : Seen) (cs rs : List ℕ) (n : ℕ) (es : List Entry) (s : Stands a cs rs n es) where
  -- the blocks of entries were granted
  pub blocks_known : All (λ e. e.block < length cs) es
  blocks_known = All-weaker (λ e. e.block < length a.memory.ring.lasts) (λ e. e.block < length cs)
      (λ e h. omega (arith, h, s.ring_blocks, s.grants)) es s.ring.blocks

  -- the contexts of granted blocks have nodes
  pub contexts_known : (block : ℕ) → block < length cs → get_or cs block 0 < a.contexts
  contexts_known block h = below_from (get_or cs block 0) a.contexts (sym (s.dense (get_or cs block 0))
      ∙ is_in_at cs block h)

  pub nodes_long : length a.memory.nodes ≡ a.contexts
  nodes_long = s.nodes.0 ∙ sym s.contexts

  -- a living block was granted and not released
  pub live : (block : ℕ) → IsLive a block → (block < length cs) × (is_in rs block ≡ false)
  live block is =
      let inside : block < a.grants = omega (arith, slice_get_within a.lives block true is, s.lives) in
      let here : get_or a.lives block true ≡ true = get_or_from_slice_get a.lives block true true is in
      (omega (arith, s.grants), not_true (is_in rs block) (sym here ∙ s.living block true inside))

-- a grant more of a context: its node, old or new, counts it
nodes_grant : (a : Seen) (cs rs : List ℕ) (n : ℕ) (es : List Entry) (context : ℕ) → Stands a cs rs n es
    → context ≤ a.contexts
    → NodesOf (cs ++ (context ∷ [])) es (grant_counted context a.memory.nodes)
nodes_grant a cs rs n es context s low = (count, each)
  where
    same_entries : (c : ℕ) → count_by (λ e. get_or (cs ++ (context ∷ [])) e.block 0 == c) es
        ≡ count_by (λ e. get_or cs e.block 0 == c) es
    same_entries c = same_count_by (λ e. e.block < length cs) (λ e. get_or (cs ++ (context ∷ [])) e.block 0 == c)
        (λ e. get_or cs e.block 0 == c) es (blocks_known a cs rs n es s)
        (λ e h. ap (λ x. x == c) (get_or_append_left cs (context ∷ []) 0 e.block h))

    grants : (c : ℕ) → count_by (λ x. x == c) (cs ++ (context ∷ [])) ≡ count_by (λ x. x == c) cs + one (context == c)
    grants c = sum_by_push (λ x. one (x == c)) cs context

    size : length a.memory.nodes ≡ a.contexts
    size = nodes_long a cs rs n es s

    grown_count : a.contexts + fresh (nat_lt context a.contexts) ≡ different (cs ++ (context ∷ []))
    grown_count = rw (different_push cs context, s.dense context, s.contexts) refl

    count : length (grant_counted context a.memory.nodes) ≡ different (cs ++ (context ∷ []))
    count =
        elim (cases_eq context (length a.memory.nodes)) [
          | inl at ↦ rw (is_same context (length a.memory.nodes) at)
              (length_push a.memory.nodes (one_grant no_node) ∙ (let f : fresh (nat_lt context a.contexts) ≡ 1 =
              ap fresh (not_below context a.contexts (omega arith)) in
              omega (arith, grown_count, f)))
          | inr other ↦ rw (is_other context (length a.memory.nodes) other)
              (length-set a.memory.nodes context _ ∙ (let f : fresh (nat_lt context a.contexts) ≡ 0 =
              ap fresh (let b : nat_lt context a.contexts ≡ true = grind (arith, nat_tests) in b) in
              omega (arith, grown_count, f)))
        ]

    each : (c : ℕ) (d : Node) → c < length (grant_counted context a.memory.nodes)
        → ((get_or (grant_counted context a.memory.nodes) c d).grants ≡ count_by (λ x. x == c) (cs ++ (context ∷ [])))
        × ((get_or (grant_counted context a.memory.nodes) c d).accesses
        ≡ count_by (λ e. get_or (cs ++ (context ∷ [])) e.block 0 == c) es)
    each c d inside =
        elim (cases_eq context (length a.memory.nodes)) [
          | inl at ↦ new at (rw (is_same context (length a.memory.nodes) at) at inside)
          | inr other ↦ old other (rw (is_other context (length a.memory.nodes) other) at inside)
        ]
      where
        new : context ≡ length a.memory.nodes → c < length (a.memory.nodes ++ (one_grant no_node ∷ []))
            → ((get_or (grant_counted context a.memory.nodes) c d).grants
            ≡ count_by (λ x. x == c) (cs ++ (context ∷ [])))
            × ((get_or (grant_counted context a.memory.nodes) c d).accesses
            ≡ count_by (λ e. get_or (cs ++ (context ∷ [])) e.block 0 == c) es)
        new at deep =
            elim (cases_lt c (length a.memory.nodes)) [
              | inl below ↦
                  (let before = s.nodes.1 c d below in
                  let none : one (context == c) ≡ 0 = ap one (is_other context c (λ e. omega arith)) in
                  rw (
                    is_same context (length a.memory.nodes) at,
                    get_or_append_left a.memory.nodes (one_grant no_node ∷ []) d c below,
                    grants c,
                    same_entries c,
                  )
                  (omega (arith, before.0, none), before.1))
              | inr above ↦
                  (let here : length a.memory.nodes ≡ c =
                  omega (arith, length_push a.memory.nodes (one_grant no_node)) in
                  let all_below : All (λ x. x < a.contexts) cs = λ k e h. (let there : get_or cs k e ≡ get_or cs k 0 =
                  get_or_default cs k e 0 h in omega (arith, there, contexts_known a cs rs n es s k h)) in
                  let none : count_by (λ x. x == c) cs ≡ 0 = none_counted (λ x. x < a.contexts)
                  (λ x. x == c) cs all_below (λ x h. is_other x c (λ e. omega arith)) in
                  let no_entry : count_by (λ e. get_or cs e.block 0 == c) es ≡ 0 =
                  none_counted (λ e. e.block < length cs) (λ e. get_or cs e.block 0 == c) es
                  (blocks_known a cs rs n es s)
                  (λ e h. is_other (get_or cs e.block 0) c (λ same.
                  omega (arith, contexts_known a cs rs n es s e.block h, same))) in
                  let itself : one (context == c) ≡ 1 = ap one (is_same context c (omega arith)) in
                  rw (
                    is_same context (length a.memory.nodes) at,
                    get_or_push a.memory.nodes (one_grant no_node) d c here,
                    grants c,
                    same_entries c,
                  )
                  (omega (arith, none, itself), sym no_entry))
            ]

        old : (context ≡ length a.memory.nodes → ⊥)
            → c < length (set a.memory.nodes context (one_grant (get_or a.memory.nodes context no_node)))
            → ((get_or (grant_counted context a.memory.nodes) c d).grants
            ≡ count_by (λ x. x == c) (cs ++ (context ∷ [])))
            × ((get_or (grant_counted context a.memory.nodes) c d).accesses
            ≡ count_by (λ e. get_or (cs ++ (context ∷ [])) e.block 0 == c) es)
        old other deep =
            let within : c < length a.memory.nodes =
            omega (arith, length-set a.memory.nodes context (one_grant (get_or a.memory.nodes context no_node))) in
            elim (cases_eq c context) [
              | inl at ↦
                  (let known : context < length a.memory.nodes = omega arith in
                  let before = s.nodes.1 c no_node within in
                  let itself : one (context == c) ≡ 1 = ap one (is_same context c (sym at)) in
                  let node : get_or (set a.memory.nodes context (one_grant (get_or a.memory.nodes context no_node))) c d
                  ≡ one_grant (get_or a.memory.nodes c no_node) =
                  ap (λ k. get_or (set a.memory.nodes context
                  (one_grant (get_or a.memory.nodes context no_node))) k d) at
                  ∙ (get_or-set_same a.memory.nodes context (one_grant (get_or a.memory.nodes context no_node)) d known
                  ∙ ap (λ k. one_grant (get_or a.memory.nodes k no_node)) (sym at)) in
                  rw (is_other context (length a.memory.nodes) other, node, grants c, same_entries c)
                  (omega (arith, before.0, itself), before.1))
              | inr apart ↦
                  (let before = s.nodes.1 c d within in
                  let none : one (context == c) ≡ 0 = ap one (is_other context c (λ e. apart (sym e))) in
                  rw (
                    is_other context (length a.memory.nodes) other,
                    get_or-set_other a.memory.nodes context c
                        (one_grant (get_or a.memory.nodes context no_node)) d apart,
                    grants c,
                    same_entries c,
                  )
                  (omega (arith, before.0, none), before.1))
            ]

-- an entry more of a block
nodes_access : (cs : List ℕ) (es : List Entry) (nodes : List Node) (e : Entry) → NodesOf cs es nodes
    → get_or cs e.block 0 < length nodes
    → NodesOf cs (es ++ (e ∷ [])) (access_counted (get_or cs e.block 0) nodes)
nodes_access cs es nodes e is known = (
  length-set nodes (get_or cs e.block 0) _ ∙ is.0,
  λ c d inside.
      let more : count_by (λ x. get_or cs x.block 0 == c) (es ++ (e ∷ []))
      ≡ count_by (λ x. get_or cs x.block 0 == c) es + one (get_or cs e.block 0 == c) =
      sum_by_push (λ (x : Entry). one (get_or cs x.block 0 == c)) es e in
      let within : c < length nodes = omega (
        arith,
        length-set nodes (get_or cs e.block 0) (one_access (get_or nodes (get_or cs e.block 0) no_node)),
      ) in
      elim (cases_eq c (get_or cs e.block 0)) [
        | inl at ↦
            (let before = is.1 c no_node within in
            let itself : one (get_or cs e.block 0 == c) ≡ 1 = ap one (is_same (get_or cs e.block 0) c (sym at)) in
            let node : get_or (set nodes (get_or cs e.block 0)
            (one_access (get_or nodes (get_or cs e.block 0) no_node))) c d ≡ one_access (get_or nodes c no_node) =
            ap (λ k. get_or (set nodes (get_or cs e.block 0)
            (one_access (get_or nodes (get_or cs e.block 0) no_node))) k d) at
            ∙ (get_or-set_same nodes (get_or cs e.block 0)
            (one_access (get_or nodes (get_or cs e.block 0) no_node)) d known
            ∙ ap (λ k. one_access (get_or nodes k no_node)) (sym at)) in
            rw (node, more) (before.0, omega (arith, before.1, itself)))
        | inr apart ↦
            (let before = is.1 c d within in
            let none : one (get_or cs e.block 0 == c) ≡ 0 =
            ap one (is_other (get_or cs e.block 0) c (λ k. apart (sym k))) in
            rw (
              get_or-set_other nodes (get_or cs e.block 0) c
                  (one_access (get_or nodes (get_or cs e.block 0) no_node)) d apart,
              more,
            )
            (before.0, omega (arith, before.1, none)))
      ],
)

-- an affinity after the grant of the next block
abbrev pub after_grant : ℕ → Seen → Seen
after_grant context a = record {
  distance = a.distance;
  grants = length (with_grant context a.memory.granted).contexts;
  contexts = (with_grant context a.memory.granted).count;
  accesses = a.accesses;
  lives = a.lives ++ (true ∷ []);
  memory = record {
    granted = with_grant context a.memory.granted;
    ring = with_block a.memory.ring;
    nodes = grant_counted context a.memory.nodes;
    weights = a.memory.weights;
  };
}

stands_grant : (a : Seen) (cs rs : List ℕ) (n : ℕ) (es : List Entry) (context : ℕ) → Stands a cs rs n es
    → context ≤ a.contexts → a.grants < 4294967295
    → Stands (after_grant context a) (cs ++ (context ∷ [])) rs n es
stands_grant a cs rs n es context s low room =
    let list : a.memory.granted.contexts ++ (context ∷ []) ≡ cs ++ (context ∷ []) =
    ap (λ xs. xs ++ (context ∷ [])) s.context_list in
    let more : length (a.memory.granted.contexts ++ (context ∷ [])) ≡ length cs + 1 =
    ap length list ∙ length_push cs context in
    let count : (with_grant context a.memory.granted).count ≡ a.contexts + fresh (nat_lt context a.contexts) =
    ap (λ k. if context == k then k + 1 else k) s.context_count ∙ count_grown context a.contexts low in
    record {
      near = s.near;
      grants = ap length list;
      contexts = count ∙ rw (different_push cs context, s.dense context, s.contexts) refl;
      accesses = s.accesses;
      few = (omega (arith, more, s.grants), s.few.1);
      lives = omega (arith, length_push a.lives true, s.lives, s.grants, more);
      living = λ block d inside. elim (cases_lt block a.grants) [
        | inl old ↦ rw (get_or_append_left a.lives (true ∷ []) d block (omega (arith, s.lives))) (s.living block d old)
        | inr new ↦
            (let at : length a.lives ≡ block = omega (arith, s.lives, s.grants, more) in
            let none : is_in rs block ≡ false = not_in rs block
            (All-weaker (λ b. b < a.grants) (λ b. b < block) (λ b h. omega (arith, s.lives)) rs s.granted_first) in
            rw (get_or_push a.lives true d block at, none) refl)
      ];
      context_list = list;
      context_count = refl;
      ring = follows_block a.distance a.memory.ring es s.ring;
      ring_blocks = omega (arith, length_push a.memory.ring.lasts None, s.ring_blocks, s.grants, more);
      nodes = nodes_grant a cs rs n es context s low;
      weights = λ low high. s.weights low high
          ∙ sym (weight_grant a.distance cs context es low high (blocks_known a cs rs n es s));
      counted = s.counted;
      dense = dense_push cs context a.contexts (with_grant context a.memory.granted).count s.dense low
          (rw (s.dense context) count);
      granted_first = All-weaker (λ b. b < a.grants) (λ b. b < length (a.memory.granted.contexts ++ (context ∷ [])))
          (λ b h. omega (arith, more, s.grants)) rs s.granted_first;
    }

-- a grant
pub grant_pushed : (a : Seen) (h : List Event) (context : ℕ) → Pushed a h → Takes a (Grant a.grants context)
    → Pushed (after_grant context a) (h ++ (Grant a.grants context ∷ []))
grant_pushed a h context p t =
    let e : Event = Grant a.grants context in
    let may : MayFollow h (Grant a.grants context) =
    (omega (arith, t.2, p.grants), p.grants, omega (arith, t.1, p.contexts)) in
    pushed_from (after_grant context a) (h ++ (Grant a.grants context ∷ [])) (contexts_of h ++ (context ∷ []))
    (released_in h) (length (accesses_of h)) (access_list h)
    (legal_push h (Grant a.grants context) p.legal may)
    (grown context_granted h (Grant a.grants context) context refl)
    (kept_same block_released h (Grant a.grants context) refl)
    (ap length (kept_same entry_of h (Grant a.grants context) refl))
    (ap (λ xs. dedup same_block xs) (kept_same entry_of h (Grant a.grants context) refl))
    (stands_grant a (contexts_of h) (released_in h) (length (accesses_of h)) (access_list h) context
    (stands a h p) t.1 t.2)

-- an affinity after a release
abbrev pub after_release : ℕ → Seen → Seen
after_release block a = record a { lives = set a.lives block false }

-- a release
pub release_pushed : (a : Seen) (h : List Event) (block : ℕ) → Pushed a h → Takes a (Release block)
    → Pushed (after_release block a) (h ++ (Release block ∷ []))
release_pushed a h block p t =
    let s = stands a h p in
    let lives = live a (contexts_of h) (released_in h) (length (accesses_of h)) (access_list h) s block t in
    let known : block < length a.lives = slice_get_within a.lives block true t in
    pushed_from (after_release block a) (h ++ (Release block ∷ [])) (contexts_of h) (released_in h ++ (block ∷ []))
    (length (accesses_of h)) (access_list h)
    (legal_push h (Release block) p.legal lives)
    (kept_same context_granted h (Release block) refl) (grown block_released h (Release block) block refl)
    (ap length (kept_same entry_of h (Release block) refl))
    (ap (λ xs. dedup same_block xs) (kept_same entry_of h (Release block) refl))
    (record {
      near = s.near;
      grants = s.grants;
      contexts = s.contexts;
      accesses = s.accesses;
      few = s.few;
      lives = length-set a.lives block false ∙ s.lives;
      living = λ b d inside. elim (cases_eq b block) [
        | inl at ↦ rw (
          at,
          get_or-set_same a.lives block false d known,
          is_in_push (released_in h) block block,
          is_same block block refl,
        ) (or_true (is_in (released_in h) block))
        | inr other ↦ rw (
          get_or-set_other a.lives block b false d other,
          is_in_push (released_in h) block b,
          is_other block b (λ e. other (sym e)),
        ) (s.living b d inside ∙ or_none (is_in (released_in h) b))
      ];
      context_list = s.context_list;
      context_count = s.context_count;
      ring = s.ring;
      ring_blocks = s.ring_blocks;
      nodes = s.nodes;
      weights = s.weights;
      counted = s.counted;
      dense = s.dense;
      granted_first = All-push (λ b. b < a.grants) (released_in h) block s.granted_first (omega (arith, s.lives));
    })
  where
    or_true : (t : Bool) → false ≡ not (t || true)
    or_true true = refl
    or_true false = refl

    or_none : (t : Bool) → not t ≡ not (t || false)
    or_none true = refl
    or_none false = refl

-- an affinity after an access to the block of the last entry
abbrev pub after_same : Seen → Seen
after_same a = record a { accesses = a.accesses + 1 }

may_access : (a : Seen) (h : List Event) (block width : ℕ) → Pushed a h → Takes a (Access block width)
    → MayFollow h (Access block width)
may_access a h block width p t = (
  omega (arith, t.2, p.accesses),
  t.0,
  live a (contexts_of h) (released_in h) (length (accesses_of h))
      (access_list h) (stands a h p) block t.1,
)

-- an access to the block of the last entry
pub same_pushed : (a : Seen) (h : List Event) (block width : ℕ) → Pushed a h → Takes a (Access block width)
    → ends_with a.memory.ring.entries block ≡ true
    → Pushed (after_same a) (h ++ (Access block width ∷ []))
same_pushed a h block width p t ends =
    let s = stands a h p in
    let last : ends_with (access_list h) block ≡ true =
    sym (ap (λ xs. ends_with xs block) s.ring.entries ∙ ends_in_reach a.distance (access_list h) block) ∙ ends in
    pushed_from (after_same a) (h ++ (Access block width ∷ [])) (contexts_of h) (released_in h)
    (length (accesses_of h) + 1) (access_list h)
    (legal_push h (Access block width) p.legal (may_access a h block width p t))
    (kept_same context_granted h (Access block width) refl) (kept_same block_released h (Access block width) refl)
    (ap length (grown entry_of h (Access block width) (record { block = block; width = width }) refl)
    ∙ length_push (accesses_of h) (record { block = block; width = width }))
    (access_same h block width last)
    (record {
      near = s.near;
      grants = s.grants;
      contexts = s.contexts;
      accesses = ap (λ k. k + 1) s.accesses;
      few = (s.few.0, omega (arith, t.2));
      lives = s.lives;
      living = s.living;
      context_list = s.context_list;
      context_count = s.context_count;
      ring = s.ring;
      ring_blocks = s.ring_blocks;
      nodes = s.nodes;
      weights = s.weights;
      counted = s.counted;
      dense = s.dense;
      granted_first = s.granted_first;
    })

-- an affinity after an access to another block, with the weights that are kept then
abbrev pub after_access : Entry → List (Pair × ℕ) → Seen → Seen
after_access e weights a = record a {
  accesses = a.accesses + 1;
  memory = record {
    granted = a.memory.granted;
    ring = entered a.distance a.memory.ring e;
    nodes = access_counted (get_or a.memory.granted.contexts e.block 0) a.memory.nodes;
    weights = weights;
  };
}

-- an access to another block
pub access_pushed : (a : Seen) (h : List Event) (e : Entry) (weights : List (Pair × ℕ)) → Pushed a h
    → Takes a (Access e.block e.width) → ends_with a.memory.ring.entries e.block ≡ false
    → ((low high : ℕ) → weight_at weights low high ≡ weight_at a.memory.weights low high
    + near_count a.memory.granted.contexts e.block low high (entered a.distance a.memory.ring e).entries)
    → All (λ x. 0 < x.1) weights
    → Pushed (after_access e weights a) (h ++ (Access e.block e.width ∷ []))
access_pushed a h e weights p t ends raised counted =
    let s = stands a h p in
    let lives = live a (contexts_of h) (released_in h) (length (accesses_of h)) (access_list h) s e.block t.1 in
    let last : ends_with (access_list h) e.block ≡ false =
    sym (ap (λ xs. ends_with xs e.block) s.ring.entries ∙ ends_in_reach a.distance (access_list h) e.block)
    ∙ ends in
    let ring = follows_push a.distance a.memory.ring (access_list h) e s.ring
    (omega (arith, s.ring_blocks, s.grants, lives.0)) in
    let list : a.memory.granted.contexts ≡ contexts_of h = s.context_list in
    let node_known : get_or (contexts_of h) e.block 0 < length a.memory.nodes =
    omega (
      arith,
      nodes_long a (contexts_of h) (released_in h) (length (accesses_of h)) (access_list h) s,
      contexts_known a (contexts_of h) (released_in h) (length (accesses_of h)) (access_list h) s e.block lives.0,
    ) in
    pushed_from (after_access e weights a) (h ++ (Access e.block e.width ∷ [])) (contexts_of h) (released_in h)
    (length (accesses_of h) + 1) (access_list h ++ (e ∷ []))
    (legal_push h (Access e.block e.width) p.legal (may_access a h e.block e.width p t))
    (kept_same context_granted h (Access e.block e.width) refl)
    (kept_same block_released h (Access e.block e.width) refl)
    (ap length (grown entry_of h (Access e.block e.width) e refl) ∙ length_push (accesses_of h) e)
    (access_new h e.block e.width last)
    (record {
      near = s.near;
      grants = s.grants;
      contexts = s.contexts;
      accesses = ap (λ k. k + 1) s.accesses;
      few = (s.few.0, omega (arith, t.2));
      lives = s.lives;
      living = s.living;
      context_list = s.context_list;
      context_count = s.context_count;
      ring = ring;
      ring_blocks = length-set a.memory.ring.lasts e.block (Some a.memory.ring.count) ∙ s.ring_blocks;
      nodes = subst (λ k. NodesOf (contexts_of h) (access_list h ++ (e ∷ [])) (access_counted k a.memory.nodes))
          (ap (λ xs. get_or xs e.block 0) (sym list))
          (nodes_access (contexts_of h) (access_list h) a.memory.nodes e s.nodes node_known);
      weights = λ low high. (let before = s.weights low high in
          let more : near_count a.memory.granted.contexts e.block low high (entered a.distance a.memory.ring e).entries
          ≡ near_count (contexts_of h) e.block low high (in_reach a.distance (access_list h ++ (e ∷ []))) =
          ap (λ xs. near_count xs e.block low high (entered a.distance a.memory.ring e).entries) list
          ∙ ap (near_count (contexts_of h) e.block low high) ring.entries in
          omega (
            arith,
            raised low high,
            before,
            more,
            weight_push (access_list h) e a.distance
                (contexts_of h) low high,
          ));
      counted = counted;
      dense = s.dense;
      granted_first = s.granted_first;
    })

-- no event
pub nothing_pushed : (distance : ℕ) → distance ≤ 4096 → Pushed (blank_affinity distance) []
unfolding weight_in
nothing_pushed distance near = pushed_by (blank_affinity distance) [] legal_nil (record {
  near = near;
  grants = refl;
  contexts = refl;
  accesses = refl;
  few = (omega arith, omega arith);
  lives = refl;
  living = λ block d h. absurd (omega arith);
  context_list = refl;
  context_count = refl;
  ring = record {
    entries = refl;
    count = refl;
    lasts = λ block d h. absurd (omega arith);
    blocks =
        All-nil (λ e. e.block < 0);
  };
  ring_blocks = refl;
  nodes = (refl, λ c d h. absurd (omega arith));
  weights = λ low high. refl;
  counted = All-nil (λ e. 0 < e.1);
  dense = λ context. sym (not_below context 0 (omega arith));
  granted_first = All-nil (λ b. b < 0);
})
