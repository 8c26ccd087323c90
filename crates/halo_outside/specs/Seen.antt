-- What contracts see of the outside: what an object tells, its counts, and what calls do to them.
use Rattle.std.specs.Prelude.{◌≡◌, ℕ, ◌+◌, ◌-◌, ◌^◌, ◌<◌, ◌≤◌, min, List, [], ◌∷◌, ◌++◌, length, take, drop, Option}
use Rattle.std.specs.Prelude.{None, Some, is_some, IsSomeAnd, bytes_eq, if◌then◌else◌}
use Rattle.std.specs.Io.KnownBytes.{append_known}

-- named contents: the name and the bytes of each file
abbrev pub Contents : Type 0
Contents = List (List ℕ × List ℕ)

-- what files tell, how often they failed, and how many bytes were taken from them
pub record FilesSeen : Type 0 where
  pub told : Option Contents
  pub faults : ℕ
  pub taken : ℕ

-- the bytes left that a source tells, how often it failed, and how many bytes were taken from it
pub record SourceSeen : Type 0 where
  pub told : Option (List ℕ)
  pub faults : ℕ
  pub taken : ℕ

-- the bytes written that a sink tells, and how often it failed
pub record SinkSeen : Type 0 where
  pub told : Option (List ℕ)
  pub faults : ℕ

-- a count after `more` were added: it stands at the greatest u64
abbrev pub count_after : ℕ → ℕ → ℕ
count_after count more = min (count + more) (2 ^ 64 - 1)

-- a count rose: it is greater at the end than at the start, or stands at its last value at the end
abbrev pub Rose : ℕ → ℕ → Type 0
Rose before now = count_after before 1 ≤ now

-- a count rose by more than `limit`, or stands at its last value at the end
abbrev pub RoseBeyond : ℕ → ℕ → ℕ → Type 0
RoseBeyond limit before now = count_after before (limit + 1) ≤ now

-- the contents of the first file of this name
abbrev pub contents_of : Contents → List ℕ → Option (List ℕ)
contents_of [] name = None
contents_of (file ∷ files) name =
    if bytes_eq file.0 name then Some file.1 else contents_of files name

-- the bytes are the whole told contents of this name; where nothing is told, any bytes
abbrev pub IsToldAt : Option Contents → List ℕ → List ℕ → Type 0
IsToldAt None name bytes = Unit {0}
IsToldAt (Some files) name bytes = contents_of files name ≡ Some bytes

-- contents are told and lack the name
abbrev pub Lacks : Option Contents → List ℕ → Type 0
Lacks None name = ⊥
Lacks (Some files) name = contents_of files name ≡ None

-- contents of this name are told and are longer than the limit
abbrev pub IsLonger : Option Contents → List ℕ → ℕ → Type 0
IsLonger None name limit = ⊥
IsLonger (Some files) name limit =
    IsSomeAnd (contents_of files name) (λ bytes. limit < length bytes)

-- the cause of a refusal for length: told contents are longer;
-- where nothing is told, more bytes were taken
abbrev pub IsTooLong : Option Contents → List ℕ → ℕ → ℕ → ℕ → Type 0
IsTooLong None name limit before now = RoseBeyond limit before now
IsTooLong (Some files) name limit before now = IsLonger (Some files) name limit

-- an object tells before exactly where it tells afterwards
abbrev pub TellsAlike : {A : Type 0} → Option A → Option A → Type 0
TellsAlike old new = is_some new ≡ is_some old

-- told bytes grow by these at their end
abbrev pub Appends : Option (List ℕ) → Option (List ℕ) → List ℕ → Type 0
Appends old new bytes = new ≡ append_known old bytes

-- told bytes grow by a prefix of these at their end
abbrev pub AppendsPrefix : Option (List ℕ) → Option (List ℕ) → List ℕ → Type 0
AppendsPrefix old new bytes = (count : ℕ) × Appends old new (take count bytes)

-- the first `count` bytes left moved to the front of a buffer, whose rest is as before;
-- none exactly where the buffer has no room or nothing is left
pub record IsMoved (left rest : List ℕ) (count : ℕ) (before now : List ℕ) : Type 0 where
  pub within : count ≤ length left
  pub rest_is : rest ≡ drop count left
  pub buffer_is : now ≡ take count left ++ drop count before
  pub some : 0 < length before → 0 < length left → 0 < count

-- what a read moves, where the bytes left are told
abbrev pub Moves : Option (List ℕ) → Option (List ℕ) → ℕ → List ℕ → List ℕ → Type 0
Moves None new count before now = Unit {0}
Moves (Some left) None count before now = ⊥
Moves (Some left) (Some rest) count before now = IsMoved left rest count before now
