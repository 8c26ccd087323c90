-- Marks of contexts that are in groups, and what they say of who is outside.
use Rattle.std.proofs.Common.{◌≡◌, ◌≢◌, ℕ, ℤ, zero, suc, ◌<◌, ◌≤◌, ◌==◌, ◌||◌, Bool, true, false, List, [], ◌∷◌, ◌++◌}
use Rattle.std.proofs.Common.{length, get_or, set, get_or-set_same, get_or-set_other, length-set, None, Some, nat_lt}
use Rattle.std.proofs.Common.{insert, count_by, refl, sym, ◌∙◌, ap, inl, inr, arith}
use Rattle.std.specs.List.{Contains}
use Rattle.std.proofs.lemmas.Bool.{cases_eq, eq-eqb, ne_eqb, lt-ltb, or_parts, or_from}
use Rattle.std.proofs.lemmas.List.Folds.{list_any-append}
use Rattle.std.proofs.lemmas.List.Elements.{All-contains}
use Rattle.plan_core.specs.declared.profiles.Edge.{Edge}
use Rattle.plan_core.specs.Graphs.{Joins}
use Rattle.group_policy.specs.declared.cut.Cut.{Cut}
use Rattle.grouping.specs.Weights.{is_in, with_member}
use Rattle.grouping.specs.Greedy.{is_taken, ends, IsFree, JoinsNext, IsClosed, Starts}
use Rattle.grouping.specs.Growing.{Marks, AreEdges}
use Rattle.grouping.specs.Choosing.{IsIdle, Chooses, FindsHeaviest}

pub or_none : (a : Bool) → (a || false) ≡ a
or_none true = refl
or_none false = refl

pub or_comm : (a b : Bool) → (a || b) ≡ (b || a)
or_comm true b = elim b as (λ v. true ≡ (v || true)) [ true ↦ refl | false ↦ refl ]
or_comm false b = sym (or_none b)

pub or_assoc : (a b c : Bool) → (a || (b || c)) ≡ ((a || b) || c)
or_assoc true b c = refl
or_assoc false b c = refl

pub or_true : (a : Bool) → (a || true) ≡ true
or_true true = refl
or_true false = refl

pub taken_push : (groups : List (List ℕ)) (group : List ℕ) (y : ℕ) →
    is_taken (groups ++ group ∷ []) y ≡ (is_taken groups y || is_in group y)
taken_push groups group y = list_any-append (λ g. is_in g y) groups (group ∷ [])
    ∙ ap (λ b. is_taken groups y || b) (or_none (is_in group y))

pub in_insert : (group : List ℕ) (i x y : ℕ) → is_in (insert group i x) y ≡ (is_in group y || (x == y))
in_insert [] zero x y = or_none (x == y)
in_insert [] (suc i) x y = or_none (x == y)
in_insert (m ∷ ms) zero x y = or_comm (x == y) (is_in (m ∷ ms) y)
in_insert (m ∷ ms) (suc i) x y =
    ap (λ b. (m == y) || b) (in_insert ms i x y) ∙ or_assoc (m == y) (is_in ms y) (x == y)

pub in_with : (group : List ℕ) (x y : ℕ) → is_in (with_member x group) y ≡ (is_in group y || (x == y))
in_with group x y = in_insert group (count_by (λ m. nat_lt m x) group) x y

-- nobody is in an empty group
pub marks_begin : (busy : List Bool) (groups : List (List ℕ)) → Marks busy groups → Marks busy (groups ++ [] ∷ [])
marks_begin busy groups marks = λ y h. marks y h ∙ sym (taken_push groups [] y ∙ or_none (is_taken groups y))

pub marks_more : (busy : List Bool) (groups : List (List ℕ)) (group : List ℕ) (x : ℕ) → x < length busy →
    Marks busy (groups ++ group ∷ []) → Marks (set busy x true) (groups ++ with_member x group ∷ [])
marks_more busy groups group x here marks = λ y h.
    let below : y < length busy = omega (arith, h, length-set {A = Bool}) in
    let then_in = taken_push groups (with_member x group) y ∙ ap (λ b. is_taken groups y || b) (in_with group x y) in
    elim (cases_eq y x) [
      | inl same ↦
          let is_x : (x == y) ≡ true = eq-eqb x y (sym same) in
          let all : is_taken (groups ++ with_member x group ∷ []) y ≡ true =
          then_in ∙ ap (λ b. is_taken groups y || (is_in group y || b)) is_x
          ∙ ap (λ b. is_taken groups y || b) (or_true (is_in group y)) ∙ or_true (is_taken groups y) in
          ap (λ k. get_or (set busy x true) k true) same ∙ get_or-set_same busy x true true here ∙ sym all
      | inr other ↦
          let not_x : (x == y) ≡ false = ne_eqb x y (λ e. other (sym e)) in
          let all : is_taken (groups ++ with_member x group ∷ []) y ≡ (is_taken groups y || is_in group y) =
          then_in ∙ ap (λ b. is_taken groups y || (is_in group y || b)) not_x
          ∙ ap (λ b. is_taken groups y || b) (or_none (is_in group y)) in
          get_or-set_other busy x y true true other ∙ marks y below ∙ taken_push groups group y ∙ sym all
    ]

module _ (busy : List Bool) (groups : List (List ℕ)) (group : List ℕ) (marks : Marks busy (groups ++ group ∷ [])) where
  pub outside_from_idle : (x : ℕ) → x < length busy → IsIdle busy x →
      (x < length busy) × (is_taken groups x ≡ false) × (is_in group x ≡ false)
  outside_from_idle x h idle =
      let parts = or_parts (is_taken groups x) (is_in group x)
      (sym (taken_push groups group x) ∙ sym (marks x h) ∙ idle) in
      (h, parts.0, parts.1)

  pub idle_from_outside : (x : ℕ) → (x < length busy) × (is_taken groups x ≡ false) × (is_in group x ≡ false) →
      IsIdle busy x
  idle_from_outside x outside = marks x outside.0 ∙ taken_push groups group x
      ∙ or_from (is_taken groups x) (is_in group x) outside.1 outside.2

  -- what is chosen of the contexts that aren't busy joins, or the group is closed
  pub choice_joins : (answers : Cut → ℤ → Type 0) (tolerance : ℕ) (edges : List Edge) (x : ℕ) →
      Chooses answers edges tolerance group busy (Some x) →
      JoinsNext answers tolerance (length busy) edges groups group x
  choice_joins answers tolerance edges x chosen = record {
    outside = outside_from_idle x chosen.2.0 chosen.2.1;
    answer = chosen.0;
    said = chosen.2.2;
    above = chosen.1;
    greatest = λ y outside ne. chosen.2.3 y outside.0 (idle_from_outside y outside) ne;
  }

  pub choice_closes : (answers : Cut → ℤ → Type 0) (tolerance : ℕ) (edges : List Edge) →
      Chooses answers edges tolerance group busy None → IsClosed answers tolerance (length busy) edges groups group
  choice_closes answers tolerance edges none = λ y outside. none y outside.0 (idle_from_outside y outside)

module _ (busy : List Bool) (groups : List (List ℕ)) (edges : List Edge) (are : AreEdges (length busy) edges)
    (marks : Marks busy groups) where
  pub idle_from_free : (e : Edge) → Contains edges e → IsFree groups e → IsIdle busy e.low × IsIdle busy e.high
  idle_from_free e there free = let joins = All-contains (Joins (length busy)) edges e are.joins there in
      (marks e.low (omega (arith, joins)) ∙ free.0, marks e.high (omega (arith, joins)) ∙ free.1)

  pub edge_starts : (e : Edge) → FindsHeaviest edges busy (Some e) → Starts edges groups e
  edge_starts e found = let joins = All-contains (Joins (length busy)) edges e are.joins found.0 in
      record {
        there = found.0;
        free = (
          sym (marks e.low (omega (arith, joins))) ∙ found.1.0,
          sym (marks e.high (omega (arith, joins)))
              ∙ found.1.1,
        );
        heaviest = λ f there free ne. found.2 f there (idle_from_free f there free) ne;
      }

  pub none_starts : FindsHeaviest edges busy None → (e : Edge) → Contains edges e → IsFree groups e → ⊥
  none_starts none = λ e there free. none e there (idle_from_free e there free)

pub loop_ends : (e : Edge) → e.low ≡ e.high → ends e ≡ e.low ∷ []
loop_ends e same = rw (eq-eqb e.low e.high same) refl

pub two_ends : (e : Edge) → e.low ≢ e.high → e.low ≤ e.high → ends e ≡ with_member e.high (e.low ∷ [])
two_ends e ne le = let below : nat_lt e.low e.high ≡ true = lt-ltb e.low e.high (omega arith) in
    rw (ne_eqb e.low e.high ne, below) refl
