-- What a list of events says: the contexts of its grants, the blocks released, the access list, whether it is legal.
use Rattle.std.specs.Prelude.{◌≡◌, ℕ, ◌+◌, ◌-◌, ◌^◌, ◌<◌, ◌≤◌, ◌==◌, if◌then◌else◌, Bool, false, List, [], ◌∷◌, ◌++◌}
use Rattle.std.specs.Prelude.{length, filter_map, Option, Some, None}
use Rattle.std.specs.List.{dedup, list_any}
use Rattle.plan_core.specs.declared.profiles.Event.{Event}
use Rattle.plan_core.specs.declared.profiles.Event.TheVariants.{Grant, Access, Release}
use Rattle.affinity.specs.declared.entries.Entry.{Entry}

-- whether a number is in a list
abbrev pub is_in : List ℕ → ℕ → Bool
is_in xs x = list_any (λ y. y == x) xs

-- the context of a grant
abbrev pub context_granted : Event → Option ℕ
context_granted (Grant block context) = Some context
context_granted (Access block width) = None
context_granted (Release block) = None

-- the block of a release
abbrev pub block_released : Event → Option ℕ
block_released (Grant block context) = None
block_released (Access block width) = None
block_released (Release block) = Some block

-- the entry that an access would make
abbrev pub entry_of : Event → Option Entry
entry_of (Grant block context) = None
entry_of (Access block width) = Some (record { block = block; width = width })
entry_of (Release block) = None

-- the contexts of the grants, in order: that of block k stands at k
abbrev pub contexts_of : List Event → List ℕ
contexts_of h = filter_map context_granted h

-- the blocks that were released
abbrev pub released_in : List Event → List ℕ
released_in h = filter_map block_released h

-- the accesses, in order
abbrev pub accesses_of : List Event → List Entry
accesses_of h = filter_map entry_of h

-- whether two entries are of one block
abbrev pub same_block : Entry → Entry → Bool
same_block e f = e.block == f.block

-- the access list: an access to the same block as the last entry makes no entry
abbrev pub access_list : List Event → List Entry
access_list h = dedup same_block (accesses_of h)

-- how many different numbers a list has
abbrev pub different : List ℕ → ℕ
different [] = 0
different (n ∷ ns) = (if is_in ns n then 0 else 1) + different ns

-- a block was granted and not yet released
abbrev pub Lives : List Event → ℕ → Type 0
Lives h block = (block < length (contexts_of h)) × (is_in (released_in h) block ≡ false)

-- an event may come after these
abbrev pub MayFollow : List Event → Event → Type 0
MayFollow h (Grant block context) =
    (length (contexts_of h) < 2 ^ 32 - 1) × (block ≡ length (contexts_of h)) × (context ≤ different (contexts_of h))
MayFollow h (Access block width) = (length (accesses_of h) < 2 ^ 32 - 1) × (1 ≤ width) × Lives h block
MayFollow h (Release block) = Lives h block

-- a list of events is legal where each may come after those before it
abbrev pub Legal : List Event → Type 0
Legal h = (before : List Event) (event : Event) (after : List Event) → h ≡ before ++ event ∷ after
    → MayFollow before event
