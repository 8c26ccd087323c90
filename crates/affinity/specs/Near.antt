-- The entries that are kept: the last one and those in reach of it.
use Rattle.std.specs.Prelude.{ℕ, ◌+◌, ◌-◌, ◌==◌, ◌&&◌, nat_le, nat_lt, not, if◌then◌else◌, Bool, false, List, [], ◌∷◌}
use Rattle.std.specs.Prelude.{length, slice_index_or}
use Rattle.std.specs.List.{list_all}
use Rattle.affinity.specs.declared.entries.Entry.{Entry}
use Rattle.affinity.specs.Weights.{block_at, count_below, is_in_reach, co_allocatable, are_of}

-- the widths of all entries but the last: how far the first is from the last
abbrev pub span : List Entry → ℕ
span [] = 0
span (e ∷ []) = 0
span (e ∷ f ∷ es) = e.width + span (f ∷ es)

-- the last entries, from the first on that the distance reaches
abbrev pub in_reach : ℕ → List Entry → List Entry
in_reach distance [] = []
in_reach distance (e ∷ es) = if nat_le (span (e ∷ es)) distance then e ∷ es else in_reach distance es

-- how many entries are in reach of the last, and 1 more for the last; 0 where there is none
abbrev pub kept_of : ℕ → List Entry → ℕ
kept_of distance [] = 0
kept_of distance (e ∷ es) = count_below (λ i. is_in_reach distance (e ∷ es) i (length es)) (length es) + 1

-- the width of the last entry, or 0 where there is none
abbrev pub last_width : List Entry → ℕ
last_width es = (slice_index_or es (length es - 1) (record { block = 0; width = 0 })).width

-- the last entry is of a block
abbrev pub ends_with : List Entry → ℕ → Bool
ends_with es block = nat_lt 0 (length es) && (block_at es (length es - 1) == block)

-- no entry of some is of a block
abbrev pub has_none : List Entry → ℕ → Bool
has_none es block = list_all (λ e. not (e.block == block)) es

-- whether an entry of one block, behind which these entries stand, counts with the last, which is of the other
abbrev pub counts_newest : List ℕ → ℕ → ℕ → ℕ → ℕ → List Entry → Bool
counts_newest contexts block low high other es =
    has_none es other && co_allocatable contexts other block && are_of contexts other block low high

-- whether an entry counts with the last of those behind it, which is of this block
abbrev pub counts_near : List ℕ → ℕ → ℕ → ℕ → Entry → List Entry → Bool
counts_near contexts block low high e [] = false
counts_near contexts block low high e (f ∷ es) = counts_newest contexts block low high e.block (f ∷ es)

-- how many of some entries count with the last one, which is of this block
abbrev pub near_count : List ℕ → ℕ → ℕ → ℕ → List Entry → ℕ
near_count contexts block low high [] = 0
near_count contexts block low high (e ∷ es) =
    (if counts_near contexts block low high e es then 1 else 0) + near_count contexts block low high es
