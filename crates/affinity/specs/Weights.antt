-- The weight of a pair of contexts, as a count over the positions of the whole access list.
use Rattle.std.specs.Prelude.{ℕ, zero, suc, ◌+◌, ◌==◌, ◌&&◌, nat_le, min, max, if◌then◌else◌, not, Bool, List, [], ◌∷◌}
use Rattle.std.specs.Prelude.{length, take, drop, slice_index, slice_index_or}
use Rattle.std.specs.List.{list_all}
use Rattle.plan_core.specs.declared.profiles.Event.{Event}
use Rattle.affinity.specs.declared.entries.Entry.{Entry}
use Rattle.affinity.specs.Histories.{contexts_of, access_list}

-- how many of the numbers below a bound pass a test
abbrev pub count_below : (ℕ → Bool) → ℕ → ℕ
count_below test zero = 0
count_below test (suc n) = count_below test n + (if test n then 1 else 0)

-- the sum of a function over the numbers below a bound
abbrev pub sum_below : (ℕ → ℕ) → ℕ → ℕ
sum_below f zero = 0
sum_below f (suc n) = sum_below f n + f n

-- the items at positions above i and below j
abbrev pub strictly_between : {X : Type 0} → ℕ → ℕ → List X → List X
strictly_between i j xs = drop (i + 1) (take j xs)

-- the sum of the widths of some entries
abbrev pub widths : List Entry → ℕ
widths [] = 0
widths (e ∷ es) = e.width + widths es

-- the block of entry i
abbrev pub block_at : List Entry → ℕ → ℕ
block_at es i = (slice_index_or es i (record { block = 0; width = 0 })).block

-- i is the last entry of its block before entry j, which is of another block
abbrev pub is_last_before : List Entry → ℕ → ℕ → Bool
is_last_before es i j =
    not (block_at es i == block_at es j) && list_all (λ e. not (e.block == block_at es i)) (strictly_between i j es)

-- entry i is in reach of entry j: the widths of entries i to j - 1 add up to at most the distance
abbrev pub is_in_reach : ℕ → List Entry → ℕ → ℕ → Bool
is_in_reach distance es i j = nat_le (widths (drop i (take j es))) distance

-- no grant strictly between those of blocks b and c has the context of either
abbrev pub co_allocatable : List ℕ → ℕ → ℕ → Bool
co_allocatable contexts b c =
    list_all (λ x. not (x == slice_index contexts b) && not (x == slice_index contexts c))
    (strictly_between (min b c) (max b c) contexts)

-- blocks b and c are of the contexts `low` and `high`
abbrev pub are_of : List ℕ → ℕ → ℕ → ℕ → ℕ → Bool
are_of contexts b c low high =
    (min (slice_index contexts b) (slice_index contexts c) == low)
    && (max (slice_index contexts b) (slice_index contexts c) == high)

-- whether entry j and the block of entry i count for a pair of contexts
abbrev pub counts : ℕ → List ℕ → List Entry → ℕ → ℕ → ℕ → ℕ → Bool
counts distance contexts es low high i j =
    is_last_before es i j && is_in_reach distance es i j && co_allocatable contexts (block_at es i) (block_at es j)
    && are_of contexts (block_at es i) (block_at es j) low high

-- how often a pair of contexts counts in an access list: once for each entry j and each last entry i before it
-- that does
unfoldable pub weight_in : ℕ → List ℕ → List Entry → ℕ → ℕ → ℕ
weight_in distance contexts es low high =
    sum_below (λ j. count_below (λ i. counts distance contexts es low high i j) j) (length es)

-- the weight of a pair of contexts in a list of events
abbrev pub weight : ℕ → List Event → ℕ → ℕ → ℕ
weight distance h low high = weight_in distance (contexts_of h) (access_list h) low high
