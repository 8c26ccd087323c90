-- Numbers in order, from the first that is not below one.
use Rattle.std.proofs.Common.{◌≡◌, ℕ, ◌<◌, ◌≤◌, ◌==◌, true, false, List, get_or, length, ltb, arith, inl, inr}
use Rattle.std.specs.List.{list_any}
use Rattle.std.specs.List.Sorted.{IsNonDecreasing, IsPartitionPoint}
use Rattle.std.proofs.lemmas.Bool.{cases_lt, ltb-false, ltb-true}
use Rattle.std.proofs.lemmas.Bool.Decides.{nat_tests}
use Rattle.std.proofs.lemmas.List.{get_or_default}
use Rattle.std.proofs.lemmas.List.Folds.{list_any_none}

abbrev pub IsFirst : (from : ℕ) → List ℕ → ℕ → Type 0
IsFirst from xs k = IsPartitionPoint (λ x. ltb x from ≡ true) (λ x. ltb x from ≡ false) xs k

differs : (x b : ℕ) → x < b → (x == b) ≡ false
differs x b l = grind (arith, nat_tests)

differs' : (x b : ℕ) → b < x → (x == b) ≡ false
differs' x b l = grind (arith, nat_tests)

-- what is below all of them from there on is not among them
pub missing : (from b k : ℕ) (xs : List ℕ) → IsFirst from xs k → from ≤ b
    → ((i d : ℕ) → k ≤ i → i < length xs → b < get_or xs i d)
    → list_any (λ x. x == b) xs ≡ false
missing from b k xs point l above = list_any_none (λ x. x == b) xs (λ i d m. elim (cases_lt i k) [
  | inl j ↦ let e : get_or xs i d < from = ltb-true _ _ (point.0 i d (omega arith) j) in
      differs (get_or xs i d) b (omega (arith, e, l))
  | inr j ↦ differs' (get_or xs i d) b (above i d j m)
])

pub first_least : (xs : List ℕ) (k b : ℕ) → IsNonDecreasing xs → k < length xs → b < get_or xs k 0 → (i d : ℕ) → k ≤ i
    → i < length xs → b < get_or xs i d
first_least xs k b h l u i d j m =
    let e : get_or xs k d ≡ get_or xs k 0 = get_or_default xs k d 0 l in
    let n : get_or xs k d ≤ get_or xs i d = h k i d j m in
    omega (arith, e, n, u)

pub first_from : (from k : ℕ) (xs : List ℕ) → IsFirst from xs k → k < length xs → from ≤ get_or xs k 0
first_from from k xs point l = ltb-false _ _ (point.1 k 0 (omega arith) l)
