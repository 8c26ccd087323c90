-- What a binary search says of numbers that rise.
use Rattle.std.proofs.Common.{◌≡◌, ℕ, ◌<◌, ◌==◌, true, List, get_or, sym, inl, inr, arith, Result, Ok, Err}
use Rattle.std.specs.List.{list_any}
use Rattle.std.specs.List.Sorted.{IsBinarySearchResult, IsNonDecreasing}
use Rattle.std.specs.Ordering.{nat_cmp}
use Rattle.std.specs.Result.{is_ok}
use Rattle.std.proofs.lemmas.Bool.{cases_lt}
use Rattle.std.proofs.lemmas.Bool.Decides.{nat_tests}
use Rattle.std.proofs.lemmas.List.{get_or_default}
use Rattle.std.proofs.lemmas.List.Folds.{list_any_at, list_any_none}
use Rattle.std.proofs.lemmas.List.Sorted.{searched}

differs : (x y : ℕ) → (x < y → ⊥) → (y < x → ⊥) → (x == y) ≡ true
differs x y a b = grind (arith, nat_tests)

pub among : (xs : List ℕ) (a : ℕ) (r : Result ℕ ℕ) → IsNonDecreasing xs → IsBinarySearchResult (λ y. nat_cmp y a) xs r
    → is_ok r ≡ list_any (λ p. p == a) xs
among xs a (Ok i) up h =
    let (l, e) = searched xs a (Ok i) h (λ i j k m. up i j 0 k m) in
    let t : (get_or xs i 0 == a) ≡ true = grind (arith, nat_tests) in
    sym (list_any_at (λ p. p == a) xs i 0 l t)
among xs a (Err i) up h =
    let (l, below, above) = searched xs a (Err i) h (λ i j k m. up i j 0 k m) in
    sym (list_any_none (λ p. p == a) xs (λ k d m. elim (cases_lt k i) [
      | inl j ↦
          let g : get_or xs k d < a = rw (get_or_default xs k d 0 m) (below k j) in grind (arith, nat_tests)
      | inr j ↦
          let g : a < get_or xs k d = rw (get_or_default xs k d 0 m) (above k (omega (arith, j)) m) in
          grind (arith, nat_tests)
    ]))
