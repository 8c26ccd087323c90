-- The contexts of a legal list of events are numbered from 0 without a gap, so that its nodes count each grant once.
use Rattle.std.proofs.Common.{◌≡◌, ◌∙◌, ℕ, suc, ◌+◌, ◌^◌, ◌<◌, ◌≤◌, inl, inr, ◌==◌, ◌&&◌, nat_lt, nat_le, Bool, true}
use Rattle.std.proofs.Common.{false, cond, List, [], ◌∷◌, ◌++◌, length, length-append, append_assoc, append-nil, refl}
use Rattle.std.proofs.Common.{sym, ap, subst, arith}
use Rattle.std.specs.Prelude.{count_by, sum_by, slice_index_or, if◌then◌else◌}
use Rattle.std.proofs.lemmas.Bool.{eqb-true, or_left, or_right, or_cases, both_ways}
use Rattle.std.proofs.lemmas.Bool.Decides.{nat_tests}
use Rattle.std.proofs.lemmas.List.Elements.{filter_map-append}
use Rattle.std.proofs.lemmas.List.Folds.{list_any-append}
use Rattle.std.proofs.lemmas.List.Sums.{sum_by-cons}
use Rattle.plan_core.specs.declared.profiles.Event.{Event}
use Rattle.plan_core.specs.declared.profiles.Event.TheVariants.{Grant, Access, Release}
use Rattle.plan_core.specs.declared.profiles.Graph.{Graph}
use Rattle.plan_core.specs.declared.profiles.Node.{Node}
use Rattle.affinity.specs.Graphs.{IsGraph}
use Rattle.affinity.specs.Histories.{is_in, context_granted, contexts_of, different, MayFollow, Legal}

-- a number behind others is one more different number where it isn't among them
abbrev pub OneMore : Type 0
OneMore = (ns : List ℕ) (n : ℕ) → different (ns ++ n ∷ []) ≡ different ns + (if is_in ns n then 0 else 1)

-- ---- numbers without a gap

module _ (one_more : OneMore) where
  -- the contexts of some events are below their number, and few
  record AreDense (h : List Event) : Type 0 where
    below : (c : ℕ) → is_in (contexts_of h) c ≡ true → c < different (contexts_of h)
    few : length (contexts_of h) < 2 ^ 32

  dense_as : (h h' : List Event) → contexts_of h' ≡ contexts_of h → AreDense h → AreDense h'
  dense_as h h' same dense = record {
    below = λ c there. subst (λ (cs : List ℕ). c < different cs) (sym same)
        (dense.below c (subst (λ (cs : List ℕ). is_in cs c ≡ true) same there));
    few = subst (λ (cs : List ℕ). length cs < 2 ^ 32) (sym same) dense.few;
  }

  below_more : (cs : List ℕ) (n c : ℕ) → ((d : ℕ) → is_in cs d ≡ true → d < different cs) → n ≤ different cs
      → is_in (cs ++ n ∷ []) c ≡ true → c < different (cs ++ n ∷ [])
  below_more cs n c below within there =
      let more : different (cs ++ n ∷ []) ≡ different cs + (if is_in cs n then 0 else 1) = one_more cs n in
      elim (or_cases (is_in cs c) (is_in (n ∷ []) c) (sym (list_any-append (λ y. y == c) cs (n ∷ [])) ∙ there)) [
        | inl old ↦ (let less : c < different cs = below c old in omega (arith, more, less))
        | inr new ↦ elim (or_cases (n == c) false new) [
          | inl here ↦ (let same : n ≡ c = eqb-true n c here in at same (is_in cs n) refl more)
          | inr none ↦ absurd (both_ways false refl none)
        ]
      ]
    where
      at : n ≡ c → (test : Bool) → is_in cs n ≡ test
          → different (cs ++ n ∷ []) ≡ different cs + (if test then 0 else 1) → c < different (cs ++ n ∷ [])
      at same true there' more = let less : n < different cs = below n there' in omega (arith, same, less, more)
      at same false none more = omega (arith, same, within, more)

  dense_more : (h : List Event) (e : Event) → MayFollow h e → AreDense h → AreDense (h ++ e ∷ [])
  dense_more h (Grant block context) may dense =
      let is : contexts_of (h ++ Grant block context ∷ []) ≡ contexts_of h ++ context ∷ [] =
      filter_map-append context_granted h (Grant block context ∷ []) in
      record {
        below = λ c there. subst (λ (cs : List ℕ). c < different cs) (sym is)
            (below_more (contexts_of h) context c dense.below may.2
            (subst (λ (cs : List ℕ). is_in cs c ≡ true) is there));
        few = subst (λ (cs : List ℕ). length cs < 2 ^ 32) (sym is)
            (let long : length (contexts_of h ++ context ∷ []) ≡ length (contexts_of h) + 1 =
            length-append (contexts_of h) (context ∷ []) in let room = may.0 in omega (arith, long, room));
      }
  dense_more h (Access block width) may dense =
      dense_as h (h ++ Access block width ∷ [])
      (filter_map-append context_granted h (Access block width ∷ []) ∙ append-nil (contexts_of h)) dense
  dense_more h (Release block) may dense =
      dense_as h (h ++ Release block ∷ [])
      (filter_map-append context_granted h (Release block ∷ []) ∙ append-nil (contexts_of h)) dense

  dense_behind : (h more : List Event) → Legal (h ++ more) → AreDense h → AreDense (h ++ more)
  dense_behind h [] legal dense = subst AreDense (sym (append-nil h)) dense
  dense_behind h (e ∷ more) legal dense =
      let same : (h ++ e ∷ []) ++ more ≡ h ++ e ∷ more = append_assoc h (e ∷ []) more in
      subst AreDense same (dense_behind (h ++ e ∷ []) more (subst Legal (sym same) legal)
      (dense_more h e (legal h e more refl) dense))

  nothing_dense : AreDense []
  nothing_dense = record { below = λ c there. absurd (both_ways false refl there); few = omega arith }

  dense : (h : List Event) → Legal h → AreDense h
  dense h legal = dense_behind [] h legal nothing_dense

-- ---- each is counted once

abbrev one : Bool → ℕ
one b = cond b 1 0

-- a number from k on, below k + n
abbrev is_from : ℕ → ℕ → ℕ → Bool
is_from k n x = nat_le k x && nat_lt x (k + n)

none_from : (k : ℕ) (xs : List ℕ) → count_by (is_from k 0) xs ≡ 0
none_from k [] = refl
none_from k (x ∷ xs) =
    let here : is_from k 0 x ≡ false = grind (arith, nat_tests) in
    let is : one (is_from k 0 x) ≡ 0 = ap one here in
    omega (arith, sum_by-cons (λ y. one (is_from k 0 y)) x xs, is, none_from k xs)

splits : (k n x : ℕ) → one (x == k) + one (is_from (k + 1) n x) ≡ one (is_from k (n + 1) x)
splits k n x = at (x == k) refl (is_from (k + 1) n x) refl (is_from k (n + 1) x) refl
  where
    at : (a : Bool) → (x == k) ≡ a → (b : Bool) → is_from (k + 1) n x ≡ b → (c : Bool) → is_from k (n + 1) x ≡ c
        → one (x == k) + one (is_from (k + 1) n x) ≡ one (is_from k (n + 1) x)
    at true p true q c r = absurd (grind (arith, nat_tests))
    at true p false q true r = rw (p, q, r) refl
    at true p false q false r = absurd (grind (arith, nat_tests))
    at false p true q true r = rw (p, q, r) refl
    at false p true q false r = absurd (grind (arith, nat_tests))
    at false p false q true r = absurd (grind (arith, nat_tests))
    at false p false q false r = rw (p, q, r) refl

counts_split : (k n : ℕ) (xs : List ℕ)
    → count_by (λ x. x == k) xs + count_by (is_from (k + 1) n) xs ≡ count_by (is_from k (n + 1)) xs
counts_split k n [] = refl
counts_split k n (x ∷ xs) =
    let here = splits k n x in
    let later = counts_split k n xs in
    omega (
      arith,
      here,
      later,
      sum_by-cons (λ y. one (y == k)) x xs,
      sum_by-cons (λ y. one (is_from (k + 1) n y)) x xs,
      sum_by-cons (λ y. one (is_from k (n + 1) y)) x xs,
    )

sum_from : (nodes : List Node) (k : ℕ) (xs : List ℕ)
    → ((c : ℕ) (d : Node) → c < length nodes → (slice_index_or nodes c d).grants ≡ count_by (λ x. x == k + c) xs)
    → sum_by (λ node. node.grants) nodes ≡ count_by (is_from k (length nodes)) xs
sum_from [] k xs counts = sym (none_from k xs)
sum_from (node ∷ nodes) k xs counts =
    let zero_more : k + 0 ≡ k = omega arith in
    let first : node.grants ≡ count_by (λ x. x == k) xs =
    subst (λ j. node.grants ≡ count_by (λ x. x == j) xs) zero_more (counts 0 node (omega arith)) in
    let rest : sum_by (λ node. node.grants) nodes ≡ count_by (is_from (k + 1) (length nodes)) xs =
    sum_from nodes (k + 1) xs (λ c d within.
    (let shift : k + suc c ≡ k + 1 + c = omega arith in
    subst (λ j. (slice_index_or nodes c d).grants ≡ count_by (λ x. x == j) xs) shift
    (counts (suc c) d (omega (arith, within))))) in
    let longer : length nodes + 1 ≡ suc (length nodes) = omega arith in
    subst (λ n. sum_by (λ (m : Node). m.grants) (node ∷ nodes) ≡ count_by (is_from k n) xs) longer
    (omega (arith, first, rest, counts_split k (length nodes) xs, sum_by-cons (λ (m : Node). m.grants) node nodes))

all_from : (n : ℕ) (xs : List ℕ) → ((c : ℕ) → is_in xs c ≡ true → c < n) → count_by (is_from 0 n) xs ≡ length xs
all_from n [] below = refl
all_from n (x ∷ xs) below =
    let test : (x == x) ≡ true = grind (arith, nat_tests) in
    let in_it : is_in (x ∷ xs) x ≡ true = or_left (x == x) (is_in xs x) test in
    let less : x < n = below x in_it in
    let here : is_from 0 n x ≡ true = grind (arith, nat_tests) in
    let is : one (is_from 0 n x) ≡ 1 = ap one here in
    let rest : count_by (is_from 0 n) xs ≡ length xs =
    all_from n xs (λ c there. below c (or_right (x == c) (is_in xs c) there)) in
    omega (arith, sum_by-cons (λ y. one (is_from 0 n y)) x xs, is, rest)

module _ (one_more : OneMore) where
  pub few_grants : (h : List Event) → Legal h → length (contexts_of h) < 2 ^ 32
  few_grants h legal = (dense one_more h legal).few

  pub counted_once : (distance : ℕ) (h : List Event) (g : Graph) → Legal h → IsGraph distance h g
      → sum_by (λ node. node.grants) g.nodes ≡ length (contexts_of h)
  counted_once distance h g legal graph =
      let size : length g.nodes ≡ different (contexts_of h) = graph.nodes.0 in
      sum_from g.nodes 0 (contexts_of h) (λ c d within.
      (let same : c ≡ 0 + c = omega arith in
      subst (λ j. (slice_index_or g.nodes c d).grants ≡ count_by (λ x. x == j) (contexts_of h)) same
      (graph.nodes.1 c d within).0))
      ∙ all_from (length g.nodes) (contexts_of h)
      (λ c there. subst (λ n. c < n) (sym size) ((dense one_more h legal).below c there))
