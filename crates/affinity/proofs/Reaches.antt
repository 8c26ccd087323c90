-- The entries in reach, after one more.
use Rattle.std.proofs.Common.{◌≡◌, ◌<◌, ◌≤◌, ◌+◌, ℕ, nat_le, Bool, true, false, List, [], ◌∷◌, ◌++◌, length, cond, refl}
use Rattle.std.proofs.Common.{ap, sym, ◌∙◌, arith}
use Rattle.std.specs.Prelude.{All}
use Rattle.std.proofs.lemmas.List.Elements.{All-head, All-tail}
use Rattle.affinity.specs.declared.entries.Entry.{Entry}
use Rattle.affinity.specs.Near.{span, in_reach}
use Rattle.affinity.proofs.Comparisons.{far_from}
use Rattle.affinity.proofs.Spans.{far, near, span_push}

reach_at : (t : Bool) (distance : ℕ) (x : Entry) (xs : List Entry) (e : Entry) → nat_le (span (x ∷ xs)) distance ≡ t
    → in_reach distance (in_reach distance xs ++ (e ∷ [])) ≡ in_reach distance (xs ++ (e ∷ []))
    → in_reach distance (cond t (x ∷ xs) (in_reach distance xs) ++ (e ∷ [])) ≡ in_reach distance (x ∷ xs ++ (e ∷ []))
reach_at true distance x xs e is later = refl
reach_at false distance x xs e is later =
    let high : distance < span (x ∷ (xs ++ (e ∷ []))) =
    omega (arith, far_from (span (x ∷ xs)) distance is, span_push (x ∷ xs) e) in
    later ∙ sym (far distance x (xs ++ (e ∷ [])) high)

-- entries that were too far stay so
pub reach_push : (distance : ℕ) (es : List Entry) (e : Entry)
    → in_reach distance (in_reach distance es ++ (e ∷ [])) ≡ in_reach distance (es ++ (e ∷ []))
reach_push distance [] e = refl
reach_push distance (x ∷ xs) e = reach_at (nat_le (span (x ∷ xs)) distance) distance x xs e refl
    (reach_push distance xs e)

back_at : (t : Bool) (distance : ℕ) (x : Entry) (xs front : List Entry) → xs ≡ front ++ in_reach distance xs
    → (before : List Entry) × (x ∷ xs ≡ before ++ cond t (x ∷ xs) (in_reach distance xs))
back_at true distance x xs front is = ([], refl)
back_at false distance x xs front is = (x ∷ front, ap (λ r. x ∷ r) is)

-- what is in reach stands at the end
pub reach_back : (distance : ℕ) (es : List Entry) → (front : List Entry) × (es ≡ front ++ in_reach distance es)
reach_back distance [] = ([], refl)
reach_back distance (x ∷ xs) =
    let later = reach_back distance xs in
    back_at (nat_le (span (x ∷ xs)) distance) distance x xs later.0 later.1

some_at : (t : Bool) (distance : ℕ) (x : Entry) (xs : List Entry) (e : Entry)
    → ((middle : List Entry) × (in_reach distance (xs ++ (e ∷ [])) ≡ middle ++ (e ∷ [])))
    → (middle : List Entry) × (cond t (x ∷ (xs ++ (e ∷ []))) (in_reach distance (xs ++ (e ∷ []))) ≡ middle ++ (e ∷ []))
some_at true distance x xs e later = (x ∷ xs, refl)
some_at false distance x xs e later = later

-- the last entry is in reach
pub reach_last : (distance : ℕ) (es : List Entry) (e : Entry)
    → (middle : List Entry) × (in_reach distance (es ++ (e ∷ [])) ≡ middle ++ (e ∷ []))
reach_last distance [] e = ([], near distance (e ∷ []) (omega arith))
reach_last distance (x ∷ xs) e =
    some_at (nat_le (span (x ∷ (xs ++ (e ∷ [])))) distance) distance x xs e (reach_last distance xs e)

-- entries of some width are no more than their span and one
pub few : (es : List Entry) → All (λ e. 1 ≤ e.width) es → length es ≤ span es + 1
few [] wide = omega arith
few (e ∷ []) wide = omega arith
few (e ∷ f ∷ es) wide =
    omega (
      arith,
      few (f ∷ es) (All-tail (λ x. 1 ≤ x.width) e (f ∷ es) wide),
      All-head (λ x. 1 ≤ x.width) e (f ∷ es) wide,
    )
