-- Look-ups in a list of policies, by their names.
use Rattle.std.proofs.Common.{◌≡◌, ◌+◌, ◌<◌, ◌≤◌, ℕ, true, false, List, length, map, drop, get_or, Option, None, Some}
use Rattle.std.proofs.Common.{refl, add-one}
use Rattle.std.specs.Str.{bytes_eq}
use Rattle.std.specs.List.{position_from}
use Rattle.std.proofs.lemmas.List.{drop_all}
use Rattle.std.proofs.Math.Seq.{drop-cons}

-- the place of the first policy of a name, from a place on
abbrev pub place_from : {P : Type 0} → (P → List ℕ) → List P → List ℕ → ℕ → Option ℕ
place_from name_of listed name k = position_from (λ other. bytes_eq other name) k (map name_of (drop k listed))

module _ {P : Type 0} (name_of : P → List ℕ) (listed : List P) (name : List ℕ) (k : ℕ) where
  module _ (policy : P) (within : k < length listed) (is : policy ≡ get_or listed k policy) where
    pub place_here : bytes_eq (name_of policy) name ≡ true → place_from name_of listed name k ≡ Some k
    place_here test = rw (drop-cons listed k policy, ← is, test) refl

    pub place_over : bytes_eq (name_of policy) name ≡ false
        → place_from name_of listed name k ≡ place_from name_of listed name (k + 1)
    place_over test = rw (drop-cons listed k policy, ← is, test, add-one) refl

  pub place_past : length listed ≤ k → place_from name_of listed name k ≡ None
  place_past end = rw (drop_all k listed end) refl
