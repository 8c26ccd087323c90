-- What the parts of the selection compute: sorted sites, counts of holders, and the least of some candidates.
use Rattle.std.specs.Prelude.{◌≡◌, ◌⊎◌, ℕ, ◌+◌, ◌<◌, ◌≤◌, Bool, true, false, List, length, All, count_by, take}
use Rattle.std.specs.Prelude.{slice_index, cond, nat_lt, if◌then◌else◌, ◌==◌, ◌&&◌, ◌||◌, not, Option, None, Some}
use Rattle.selectors.specs.declared.next_site.Candidate.{Candidate}
use Rattle.selectors.specs.Sets.{is_in, holds_in, Tells, Adds}

-- the numbers never fall
abbrev pub IsRising : List ℕ → Type 0
IsRising xs = (i j : ℕ) → i ≤ j → j < length xs → slice_index xs i ≤ slice_index xs j

-- sets that rise and hold what the contexts hold
pub record AreSets (contexts sets : List (List ℕ)) : Type 0 where
  pub count : length sets ≡ length contexts
  pub same : (d s : ℕ) → holds_in sets d s ≡ holds_in contexts d s
  pub rising : All IsRising sets

-- a site stands at a place
abbrev pub is_at : List ℕ → ℕ → ℕ → Bool
is_at set place site = nat_lt place (length set) && (slice_index set place == site)

-- each count is that of a site: how many of the contexts hold it
pub record IsTally (holds : ℕ → ℕ → Bool) (contexts sites counts : List ℕ) : Type 0 where
  pub count : length counts ≡ length sites
  pub each : (i : ℕ) → i < length sites → slice_index counts i ≡ count_by (λ d. holds d (slice_index sites i)) contexts

-- each count is one more where the context holds the site
pub record AddsHolders (holds : ℕ → Bool) (sites old new : List ℕ) : Type 0 where
  pub each : (i : ℕ) → i < length sites → slice_index new i ≡ slice_index old i + cond (holds (slice_index sites i)) 1 0

-- a candidate is before another: it leaves fewer, or as many and is lower
abbrev pub is_before : Candidate → Candidate → Bool
is_before a b = nat_lt a.left b.left || (a.left == b.left && nat_lt a.site b.site)

-- the first of two candidates
abbrev pub first_of : Option Candidate → Candidate → Option Candidate
first_of None b = Some b
first_of (Some a) b = if is_before b a then Some b else Some a

-- a set isn't empty and has no conflicts
abbrev pub told : List ℕ → List ℕ → Bool
told rivals chosen = not (length chosen == 0) && (length rivals == 0)

-- the site of a candidate, where it is added to a set with so many conflicts
abbrev pub added_of : Option Candidate → List ℕ → ℕ → Option ℕ
added_of None chosen rivals = None
added_of (Some c) chosen rivals = if (length chosen == 0) || nat_lt c.left rivals then Some c.site else None

-- a candidate comes before another: it leaves fewer, or as many and is lower
abbrev pub IsBefore : ℕ → ℕ → ℕ → ℕ → Type 0
IsBefore left site other_left other_site = (left < other_left) ⊎ ((left ≡ other_left) × (site < other_site))

-- of the first n sites that aren't chosen yet, a candidate comes first
abbrev pub IsLeast : (ℕ → ℕ) → List ℕ → List ℕ → ℕ → Option Candidate → Type 0
IsLeast left own chosen n None = (i : ℕ) → i < n → is_in chosen (slice_index own i) ≡ true
IsLeast left own chosen n (Some c) =
    (is_in (take n own) c.site ≡ true) × (is_in chosen c.site ≡ false) × (c.left ≡ left c.site)
    × ((i : ℕ) → i < n → is_in chosen (slice_index own i) ≡ false → (slice_index own i ≡ c.site → ⊥) →
    IsBefore c.left c.site (left (slice_index own i)) (slice_index own i))

-- which site is added next to a set, if one is: none where the set tells the member or no site is added
abbrev pub NextOf : (ℕ → ℕ → Bool) → List ℕ → ℕ → List ℕ → Option ℕ → Type 0
NextOf holds outside c sites None = Tells holds outside c sites ⊎ ((s : ℕ) → Adds holds outside c sites s → ⊥)
NextOf holds outside c sites (Some s) = (Tells holds outside c sites → ⊥) × Adds holds outside c sites s
