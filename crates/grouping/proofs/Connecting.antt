-- Groups made greedily are connected: by what is kept of a rule, a context without an edge to the group never joins.
use Rattle.std.proofs.Common.{◌≡◌, ◌⊎◌, ℕ, ℤ, ◌<◌, ◌≤◌, ◌==◌, true, List, [], ◌∷◌, length, refl, sym, ◌∙◌, ap, subst}
use Rattle.std.proofs.Common.{inl, inr, arith, All, nat_le, Result, Ok, Err, IfOk}
use Rattle.std.specs.List.{Contains}
use Rattle.std.proofs.lemmas.Bool.{cases_eq, leb-true, eqb-true, or_cases, or_left, or_right, eq-eqb}
use Rattle.std.proofs.lemmas.Bool.Decides.{nat_tests}
use Rattle.std.proofs.lemmas.Int.{ints}
use Rattle.std.proofs.lemmas.List.Sums.{sum_by-cons, get_or-le-sum_by}
use Rattle.std.proofs.lemmas.List.Elements.{All-push, All-nil, All-contains, filter_passes}
use Rattle.plan_core.specs.declared.profiles.Edge.{Edge}
use Rattle.plan_core.specs.Graphs.{Joins}
use Rattle.group_policy.specs.declared.cut.Cut.{Cut}
use Rattle.group_policy.specs.Cuts.{InRange, IsFair}
use Rattle.grouping.specs.Weights.{kept_edges, is_in, is_between, weight_between, weight_across, cut_of, with_member}
use Rattle.grouping.specs.Greedy.{Grown, Begun, JoinsNext, ends}
use Rattle.grouping.specs.Greedy.Grown.{started, joined}
use Rattle.grouping.specs.Greedy.Begun.{none, more}
use Rattle.grouping.specs.Connected.{Leads, IsConnected}
use Rattle.grouping.specs.Connected.Leads.{here, along}
use Rattle.grouping.specs.Growing.{AreEdges}
use Rattle.grouping.proofs.Weighing.{part, part_there, symmetric, in_range, length_with, ends_some}
use Rattle.grouping.proofs.Marking.{in_with, or_none, loop_ends, two_ends}

pub leads_wider : {edges : List Edge} {group : List ℕ} {a b : ℕ} (x : ℕ) → Leads edges group a b →
    Leads edges (with_member x group) a b
leads_wider x here = here
leads_wider {edges} {group} x (along y z way member weight) =
    along y z (leads_wider x way) (in_with group x z ∙ or_left (is_in group z) (x == z) member) weight

pub leads_on : {edges : List Edge} {group : List ℕ} {a b c : ℕ} → Leads edges group a b → Leads edges group b c →
    Leads edges group a c
leads_on front here = front
leads_on front (along y z way member weight) = along y z (leads_on front way) member weight

-- where a context has weight across to a group, it has some to a member
pub joined_member : (edges : List Edge) (x : ℕ) (group : List ℕ) → 0 < weight_across edges x group →
    (m : ℕ) × (is_in group m ≡ true) × (0 < weight_between edges x m)
joined_member edges x [] above = absurd (omega (arith, above))
joined_member edges x (m ∷ ms) above =
    let sums = sum_by-cons (λ k. weight_between edges x k) m ms in
    elim (cases_eq (weight_between edges x m) 0) [
      | inl nothing ↦
          let rest = joined_member edges x ms (omega (arith, above, sums, nothing)) in
          (rest.0, or_right (m == rest.0) (is_in ms rest.0) rest.1, rest.2)
      | inr some ↦ (m, or_left (m == m) (is_in ms m) (eq-eqb m m refl), omega (arith, some))
    ]

pub in_with_cases : (group : List ℕ) (x y : ℕ) → is_in (with_member x group) y ≡ true → (is_in group y ≡ true) ⊎ (y ≡ x)
in_with_cases group x y h =
    elim (or_cases (is_in group y) (x == y) (sym (in_with group x y) ∙ h)) [
      | inl old ↦ inl old
      | inr new ↦ inr (sym (eqb-true x y new))
    ]

pub connected_with : (edges : List Edge) (group : List ℕ) (x : ℕ) → IsConnected edges group →
    0 < weight_across edges x group → IsConnected edges (with_member x group)
connected_with edges group x connected above =
    let m = joined_member edges x group above in
    let new : is_in (with_member x group) x ≡ true = in_with group x x
    ∙ or_right (is_in group x) (x == x) (eq-eqb x x refl) in
    let old : is_in (with_member x group) m.0 ≡ true = in_with group x m.0 ∙ or_left (is_in group m.0) (x == m.0) m.1 in
    let to_new : Leads edges (with_member x group) m.0 x = along m.0 x here new
    (omega (arith, m.2, symmetric edges x m.0)) in
    let from_new : Leads edges (with_member x group) x m.0 = along x m.0 here old m.2 in
    λ a b in_a in_b. elim (in_with_cases group x a in_a) [
      | inl a_old ↦ elim (in_with_cases group x b in_b) [
        | inl b_old ↦ leads_wider x (connected a b a_old b_old)
        | inr b_new ↦ subst (λ t. Leads edges (with_member x group) a t) (sym b_new)
            (leads_on (leads_wider x (connected a m.0 a_old m.1)) to_new)
      ]
      | inr a_new ↦ subst (λ t. Leads edges (with_member x group) t b) (sym a_new)
          (elim (in_with_cases group x b in_b) [
            | inl b_old ↦ leads_on from_new (leads_wider x (connected m.0 b m.1 b_old))
            | inr b_new ↦ subst (λ t. Leads edges (with_member x group) x t) (sym b_new) here
          ])
    ]

pub between_ends : (e : Edge) → is_between e.low e.high e ≡ true
between_ends e = grind (arith, nat_tests)

-- the weight between the ends of an edge
pub edge_weighs : (edges : List Edge) (e : Edge) → Contains edges e → 0 < e.weight
    → 0 < weight_between edges e.low e.high
edge_weighs edges e there some =
    let least = get_or-le-sum_by (part e.low e.high) edges there.0 e there.1 in
    let one = part_there e.low e.high e (between_ends e) in
    let same = ap (λ (x : Edge). part e.low e.high x) there.2 in omega (arith, least, one, same, some)

pub connected_one : (edges : List Edge) (x : ℕ) → IsConnected edges (x ∷ [])
connected_one edges x = λ a b in_a in_b.
    let is_a = eqb-true x a (sym (or_none (x == a)) ∙ in_a) in
    let is_b = eqb-true x b (sym (or_none (x == b)) ∙ in_b) in
    subst (λ t. Leads edges (x ∷ []) t b) is_a (subst (λ t. Leads edges (x ∷ []) x t) is_b here)

pub connected_ends : (edges : List Edge) (e : Edge) → Contains edges e → 0 < e.weight → e.low ≤ e.high →
    IsConnected edges (ends e)
connected_ends edges e there some le = elim (cases_eq e.low e.high) [
  | inl one ↦ rw (loop_ends e one) (connected_one edges e.low)
  | inr two ↦
      let weighs = edge_weighs edges e there some in
      let across : 0 < weight_across edges e.high (e.low ∷ []) = omega (arith, weighs, symmetric edges e.low e.high) in
      rw (two_ends e two le) (connected_with edges (e.low ∷ []) e.high (connected_one edges e.low) across)
]

module _ (answers : Cut → ℤ → Type 0) (tolerance contexts : ℕ) (edges : List Edge) (are : AreEdges contexts edges)
    (few : tolerance ≤ 150) (some : (e : Edge) → Contains edges e → 0 < e.weight)
    (fair : (cut : Cut) → InRange cut → (answer : ℤ) → answers cut answer → IsFair cut answer) where
  pub grown_some : (groups : List (List ℕ)) (group : List ℕ) → Grown answers tolerance contexts edges groups group →
      1 ≤ length group
  grown_some groups group (started e starts) = ends_some e
  grown_some groups group (joined old x grown room joins) = let more = length_with x old in omega (arith, more)

  -- the only place where the kept fact is used: an answer above 0 means weight across
  pub across_some : (groups : List (List ℕ)) (group : List ℕ) (x : ℕ) → 1 ≤ length group → length group < 8 →
      JoinsNext answers tolerance contexts edges groups group x → 0 < weight_across edges x group
  across_some groups group x least room joins = elim (cases_eq (weight_across edges x group) 0) [
    | inl nothing ↦
        let kept = fair (cut_of edges tolerance group x) (in_range contexts edges tolerance group x are least room few)
        joins.answer joins.said in
        let low = kept.apart nothing in
        let high = joins.above in absurd (grind (arith, ints))
    | inr above ↦ omega (arith, above)
  ]

  pub grown_connected : (groups : List (List ℕ)) (group : List ℕ) → Grown answers tolerance contexts edges groups group
      →
      IsConnected edges group
  grown_connected groups group (started e starts) = let joins =
      All-contains (Joins contexts) edges e are.joins starts.there in
      connected_ends edges e starts.there (some e starts.there) joins.0
  grown_connected groups group (joined old x grown room joins) =
      connected_with edges old x (grown_connected groups old grown)
      (across_some groups old x (grown_some groups old grown) room joins)

  pub begun_connected : (groups : List (List ℕ)) → Begun answers tolerance contexts edges groups →
      All (IsConnected edges) groups
  begun_connected groups none = All-nil (IsConnected edges)
  begun_connected groups (more before group begun room formed) =
      All-push (IsConnected edges) before group (begun_connected before begun) (grown_connected before group formed.0)

pub kept_weigh : (least : ℕ) (edges : List Edge) → 1 ≤ least → (e : Edge) → Contains (kept_edges least edges) e
    → 0 < e.weight
kept_weigh least edges some e there =
    let passes = All-contains (λ (e : Edge). nat_le least e.weight ≡ true) (kept_edges least edges) e
    (filter_passes (λ (e : Edge). nat_le least e.weight) edges) there in
    let above = leb-true least e.weight passes in omega (arith, above, some)

pub on_ok : {A E : Type 0} (r : Result A E) (P Q : A → Type 0) → ((x : A) → P x → Q x) → IfOk r P → IfOk r Q
on_ok (Ok x) P Q weaker holds = weaker x holds
on_ok (Err e) P Q weaker holds = tt
