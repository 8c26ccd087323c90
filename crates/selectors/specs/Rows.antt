-- The rows and sites that members give, one after the other.
use Rattle.std.specs.Prelude.{◌≡◌, ℕ, ◌+◌, ◌*◌, ◌<◌, ◌==◌, ◌&&◌, not, nat_lt, nat_le, Bool, List, [], ◌∷◌, ◌++◌, length}
use Rattle.std.specs.Prelude.{filter, if◌then◌else◌, cond, slice_index_or}
use Rattle.std.specs.List.{list_any}
use Rattle.plan_core.specs.declared.types.Row.{Row}
use Rattle.plan_core.specs.declared.types.PlanLine.{PlanLine}
use Rattle.selectors.specs.Made.{Made}
use Rattle.selectors.specs.declared.selecting.Selected.{Selected}
use Rattle.selectors.specs.Sets.{is_in, others, members_of, IsSetOf}

-- nothing yet
abbrev pub nothing : Made
nothing = record { rows = []; sites = []; dropped = 0 }

-- the sites with those of a set that are new, which follow in ascending order
abbrev pub with_new : List ℕ → List ℕ → List ℕ
with_new sites set = sites ++ filter (λ s. not (is_in sites s)) set

-- the bits of a set's sites; bit i is that of the site at place i
abbrev pub mask_of : List ℕ → List ℕ → ℕ
mask_of [] set = 0
mask_of (s ∷ sites) set = cond (is_in set s) 1 0 + 2 * mask_of sites set

-- the row of a set
abbrev pub row_of : List ℕ → ℕ → List ℕ → Row
row_of sites k set = record { group = k; mask = mask_of sites set }

-- a row is one of the rows
abbrev pub is_made : List Row → Row → Bool
is_made rows row = list_any (λ r. r.group == row.group && r.mask == row.mask) rows

-- one member or row more is dropped
abbrev pub drop_one : Made → Made
drop_one m = record m { dropped = m.dropped + 1 }

-- after a member of group k with this set: without a site it is dropped; a row that would need a 33rd bit is dropped;
-- a row that was made isn't made again; a 65th row is dropped; else the row is made
abbrev pub after_member : ℕ → List ℕ → Made → Made
after_member k set m =
    let sites = with_new m.sites set in
    let row = row_of sites k set in
    if length set == 0 then drop_one m
    else if nat_lt 32 (length sites) then drop_one m
    else if is_made m.rows row then m
    else if nat_le 64 (length m.rows) then drop_one m
    else record { rows = m.rows ++ row ∷ []; sites = sites; dropped = m.dropped }

-- the members of group k, in ascending order
abbrev pub members : List (List ℕ) → ℕ → ℕ → List ℕ
members groups n k = members_of n (slice_index_or groups k [])

-- sites, each on the bit of its place, from a bit on
abbrev pub numbered : ℕ → List ℕ → List PlanLine
numbered from [] = []
numbered from (s ∷ sites) = record { bit = from; addr = s } ∷ numbered (from + 1) sites

-- for which contexts hold which sites, how many contexts there are, and the groups
module _ (holds : ℕ → ℕ → Bool) (n : ℕ) (groups : List (List ℕ)) where
  -- what was made before member j of group k
  pub data Selects : ℕ → ℕ → Made → Type 0 where
    start : Selects 0 0 nothing
    member : (k j : ℕ) (m : Made) (set : List ℕ) → Selects k j m → j < length (members groups n k) →
        IsSetOf holds (others groups n k) (slice_index_or (members groups n k) j 0) set →
        Selects k (j + 1) (after_member k set m)
    next : (k : ℕ) (m : Made) → Selects k (length (members groups n k)) m → k < length groups → Selects (k + 1) 0 m

  -- the rows and sites of all groups' members
  abbrev pub Rows : Selected → Type 0
  Rows selected = (m : Made) × Selects (length groups) 0 m × (selected.rows ≡ m.rows)
      × (selected.sites ≡ numbered 0 m.sites)
      × (selected.dropped ≡ m.dropped)
