-- Sets of sites that tell a context from others.
use Rattle.std.specs.Prelude.{◌≡◌, ◌≢◌, ◌⊎◌, ℕ, ◌+◌, ◌<◌, ◌==◌, not, Bool, true, false, List, [], length, filter}
use Rattle.std.specs.Prelude.{count_by, take, insert, nat_lt, slice_index_or}
use Rattle.std.specs.List.{list_any, list_all, range_with_len}

-- a number is in a list
abbrev pub is_in : List ℕ → ℕ → Bool
is_in xs x = list_any (λ y. y == x) xs

-- a context, by its number, holds a site
abbrev pub holds_in : List (List ℕ) → ℕ → ℕ → Bool
holds_in contexts d s = is_in (slice_index_or contexts d []) s

-- an ascending set of sites with one more
abbrev pub with_site : ℕ → List ℕ → List ℕ
with_site s sites = insert sites (count_by (λ t. nat_lt t s) sites) s

-- a context, by its number, is in one of some groups
abbrev pub is_in_any : List (List ℕ) → ℕ → Bool
is_in_any groups d = list_any (λ g. is_in g d) groups

-- the contexts below n that are in none of some groups, in ascending order
abbrev pub outside_of : ℕ → List (List ℕ) → List ℕ
outside_of n groups = filter (λ d. not (is_in_any groups d)) (range_with_len 0 n)

-- the contexts below n that are neither in group k nor in an earlier one
abbrev pub others : List (List ℕ) → ℕ → ℕ → List ℕ
others groups n k = outside_of n (take (k + 1) groups)

-- the contexts below n in a group, in ascending order
abbrev pub members_of : ℕ → List ℕ → List ℕ
members_of n group = filter (is_in group) (range_with_len 0 n)

-- no context is in two groups
abbrev pub AreApart : List (List ℕ) → Type 0
AreApart groups = (i j d : ℕ) → is_in (slice_index_or groups i []) d ≡ true → is_in
    (slice_index_or groups j []) d ≡ true →
    i ≡ j

-- for which contexts hold which sites, the contexts of other groups, and the member
module _ (holds : ℕ → ℕ → Bool) (outside : List ℕ) (c : ℕ) where
  -- the contexts outside that hold all sites of a set
  abbrev pub conflicts : List ℕ → List ℕ
  conflicts sites = filter (λ d. list_all (holds d) sites) outside

  -- how many conflicts a set has with one site more
  abbrev pub left : List ℕ → ℕ → ℕ
  left sites s = length (conflicts (with_site s sites))

  -- the next candidate: the site of the member outside the set that leaves the fewest, the lowest of equal ones
  pub record IsNext (sites : List ℕ) (s : ℕ) : Type 0 where
    pub own : holds c s ≡ true
    pub new : is_in sites s ≡ false
    pub fewest : (t : ℕ) → holds c t ≡ true → is_in sites t ≡ false → t ≢ s →
        (left sites s < left sites t) ⊎ ((left sites s ≡ left sites t) × (s < t))

  -- the next candidate is added if the set is empty, or if the conflicts become fewer
  abbrev pub Adds : List ℕ → ℕ → Type 0
  Adds sites s = IsNext sites s × ((sites ≡ []) ⊎ (left sites s < length (conflicts sites)))

  -- a set tells the member from the others: it isn't empty, and has no conflicts
  abbrev pub Tells : List ℕ → Type 0
  Tells sites = (sites ≢ []) × (conflicts sites ≡ [])

  -- a set on the way: it starts empty, and while it doesn't tell, candidates are added
  pub data Chosen : List ℕ → Type 0 where
    none : Chosen []
    more : (sites : List ℕ) (s : ℕ) → Chosen sites → (Tells sites → ⊥) → Adds sites s → Chosen (with_site s sites)

  -- the set of a member: it tells, or no site is added
  abbrev pub IsSetOf : List ℕ → Type 0
  IsSetOf sites = Chosen sites × (Tells sites ⊎ ((s : ℕ) → Adds sites s → ⊥))
