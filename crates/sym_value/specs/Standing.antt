-- Which words stand for a value, under a map of return addresses (`back`) and the list of the blocks'
-- addresses (`at`), and where blocks lie so that the tables of operations and decisions are right.
use Rattle.std.specs.Prelude.{◌≡◌, ◌≢◌, ◌⊎◌, ℕ, ◌+◌, ◌/◌, ◌%◌, ◌^◌, ◌<◌, ◌≤◌, List, length, true, Some, max, slice_get}
use Rattle.std.specs.Prelude.{slice_index}
use Rattle.sym_value.specs.declared.Value.{Value}
use Rattle.sym_value.specs.declared.Value.TheVariants.{Num, Ptr, Ret, Mix, Part, Unset}
use Rattle.sym_value.specs.declared.Whole.{Whole}
use Rattle.sym_value.specs.declared.Whole.TheVariants.{Ptr as WholePtr, Ret as WholeRet}
use Rattle.sym_value.specs.declared.live.Life.{Life}
use Rattle.sym_value.specs.Places.{Lives}

-- the address of an offset in a block
abbrev pub address : List ℕ → ℕ → ℕ → ℕ
address at b o = (slice_index at b + o) % 2 ^ 32

-- the word for which a pointer or a return address stands
abbrev pub standing : (ℕ → ℕ) → List ℕ → Whole → ℕ
standing back at (WholePtr b o) = address at b o
standing back at (WholeRet a) = back a

-- byte i of a word, from the lowest
abbrev pub byte_of_word : ℕ → ℕ → ℕ
byte_of_word i w = w / 256 ^ i % 256

-- the value stands for the word
abbrev pub Stands : (ℕ → ℕ) → List ℕ → Value → ℕ → Type 0
Stands back at (Num v) w = v ≡ w
Stands back at (Ptr b o) w = address at b o ≡ w
Stands back at (Ret a) w = back a ≡ w
Stands back at (Mix l) w = (w ≢ 0) × (w % 16 ≡ l)
Stands back at (Part s i) w = w % 256 ≡ byte_of_word i (standing back at s)
Stands back at Unset w = Unit {0}

-- a return address is a word and a multiple of 4
abbrev pub IsReturn : ℕ → Type 0
IsReturn a = (a < 2 ^ 32) × (a % 4 ≡ 0)

-- a block that has an address, and an offset that is a word
abbrev pub IsPointer : List ℕ → ℕ → ℕ → Type 0
IsPointer at b o = (b < length at) × (o < 2 ^ 32)

abbrev pub IsWhole : List ℕ → Whole → Type 0
IsWhole at (WholePtr b o) = IsPointer at b o
IsWhole at (WholeRet a) = IsReturn a

-- the value names blocks that have addresses, and its numbers are in their ranges
abbrev pub IsValue : List ℕ → Value → Type 0
IsValue at (Num v) = Unit {0}
IsValue at (Ptr b o) = IsPointer at b o
IsValue at (Ret a) = IsReturn a
IsValue at (Mix l) = l < 16
IsValue at (Part s i) = IsWhole at s × (i < 4)
IsValue at Unset = Unit {0}

-- a value of this run that stands for the word
pub record Holds (back : ℕ → ℕ) (at : List ℕ) (v : Value) (w : ℕ) : Type 0 where
  pub stands : Stands back at v w
  pub value : IsValue at v

-- numbers that are neither low nor high, with room below for the tables and for near pointers
abbrev pub area_start : Lives → ℕ
area_start live = max 65536 live.end + 16384 + 4096

abbrev pub area_end : ℕ
area_end = 0x7FF00000

-- a block at an address lies in the area
pub record IsPlaced (live : Lives) (a : ℕ) (k : Life) : Type 0 where
  pub low : area_start live ≤ a
  pub high : a + k.capacity < area_end

-- addresses are multiples of 16, each block lies in the area, and living blocks lie apart
pub record Placed (live : Lives) (at : List ℕ) : Type 0 where
  pub aligned : (b : ℕ) → slice_index at b % 16 ≡ 0
  pub each : (b : ℕ) (k : Life) → slice_get live.blocks b ≡ Some k → IsPlaced live (slice_index at b) k
  pub apart : (b c : ℕ) (k l : Life) → b ≢ c → slice_get live.blocks b ≡ Some k → slice_get live.blocks c ≡ Some l
      → k.lives ≡ true → l.lives ≡ true
      → (slice_index at b + k.capacity ≤ slice_index at c) ⊎ (slice_index at c + l.capacity ≤ slice_index at b)
