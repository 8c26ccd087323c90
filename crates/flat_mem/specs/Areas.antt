-- The areas of memory, whose bytes a function of addresses gives, and how they stand in pages.
use Rattle.std.specs.Prelude.{◌≡◌, ℕ, ◌+◌, ◌*◌, ◌-◌, ◌/◌, ◌%◌, ◌<◌, ◌≤◌, ◌⊎◌, List, ◌++◌, Bool, true, ◌&&◌, map}
use Rattle.std.specs.Prelude.{AllPairs, take, drop, find, length, nat_le, nat_lt, Option, Some, None, is_some}
use Rattle.std.specs.Prelude.{if◌then◌else◌, slice_index}
use Rattle.std.specs.List.{range_with_len}
use Rattle.machine_spec.specs.Memory.{Range}
use Rattle.flat_spec.specs.Stores.{allows_store, allows_fetch}
use Rattle.flat_mem.specs.declared.area.Area.{Area}
use Rattle.flat_mem.specs.declared.area.Access.{Access}
use Rattle.flat_mem.specs.declared.area.Access.TheVariants.{Load, Store, Fetch}

abbrev pub has_address : ℕ → Area → Bool
has_address a s = nat_le s.start a && nat_lt a (s.start + s.size)

-- the area at an address
abbrev pub area_of : List Area → ℕ → Option Area
area_of areas a = find (has_address a) areas

-- the range of an area
abbrev pub range_in : (ℕ → ℕ) → Area → Range
range_in byte s = record {
  start = s.start;
  writable = s.writable;
  executable = s.executable;
  bytes = map byte (range_with_len s.start s.size);
}

abbrev pub ranges : (ℕ → ℕ) → List Area → List Range
ranges byte areas = map (range_in byte) areas

-- no address is in both
abbrev pub AreApart : Area → Area → Type 0
AreApart s t = (s.start + s.size ≤ t.start) ⊎ (t.start + t.size ≤ s.start)

-- a range that may be loaded from (any), stored to or run
abbrev pub allows : Access → Option Range → Bool
allows Load r = is_some r
allows Store r = allows_store r
allows Fetch r = allows_fetch r

-- the flag of an access, and the flags of the accesses that an area allows
abbrev pub flag_of : Access → ℕ
flag_of Load = 1
flag_of Store = 2
flag_of Fetch = 4

abbrev pub rights_of : Option Area → ℕ
rights_of None = 0
rights_of (Some s) = 1 + ((if s.writable then 2 else 0) + (if s.executable then 4 else 0))

-- the number of an address's page, and the place of its byte; page 0 is that of all addresses outside
abbrev pub page_at : List ℕ → ℕ → ℕ
page_at directory a = slice_index directory (a / 4096)

abbrev pub place : List ℕ → ℕ → ℕ
place directory a = page_at directory a * 4096 + a % 4096

-- what stands for an address in a buffer of pages
abbrev pub byte_in : List ℕ → List ℕ → ℕ → ℕ
byte_in directory bytes a = slice_index bytes (place directory a)

-- a directory of so many pages, of which each but the first is that of one page of addresses at most
pub record IsDirectory (directory : List ℕ) (count : ℕ) : Type 0 where
  pub long : length directory ≡ 1048576
  pub below : (n : ℕ) → slice_index directory n < count
  pub own : (n m : ℕ) → 0 < slice_index directory n → slice_index directory n ≡ slice_index directory m → n ≡ m

-- each area's bytes stand in pages of its own addresses, and beside each byte what may be done with it
pub record IsPaged (areas : List Area) (directory bytes rights : List ℕ) : Type 0 where
  pub directs : IsDirectory directory (length bytes / 4096)
  pub same : length rights ≡ length bytes
  pub there : (a : ℕ) → is_some (area_of areas a) ≡ true → 0 < page_at directory a
  pub right : (a : ℕ) → byte_in directory rights a ≡ rights_of (area_of areas a)
  pub apart : AllPairs AreApart areas

-- and no byte outside was written
pub record IsBuilt (areas : List Area) (directory bytes rights : List ℕ) : Type 0 where
  pub paged : IsPaged areas directory bytes rights
  pub blank : (a : ℕ) → area_of areas a ≡ None → byte_in directory bytes a ≡ 0

-- a buffer with other bytes from a place on
abbrev pub written : List ℕ → ℕ → List ℕ → List ℕ
written bytes place piece = (take place bytes ++ piece) ++ drop (place + length piece) bytes

-- and a function of addresses with other bytes from an address on
abbrev pub over : (ℕ → ℕ) → ℕ → List ℕ → ℕ → ℕ
over byte a piece k = if nat_le a k && nat_lt k (a + length piece) then slice_index piece (k - a) else byte k
