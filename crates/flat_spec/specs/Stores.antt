-- Loads from memory, stores to it and fetches of code. Numbers stand in memory little-endian (RISC-V
-- unprivileged manual, "Load and Store Instructions").
use Rattle.std.specs.Prelude.{ℕ, zero, suc, ◌+◌, ◌-◌, ◌%◌, ◌==◌, List, [], ◌∷◌, Bool, false, ◌&&◌, Option, Some, None}
use Rattle.std.specs.Prelude.{option_map, option_and_then, if◌then◌else◌, slice_set}
use Rattle.rv_isa.specs.declared.Width.{Width}
use Rattle.machine_spec.specs.Widths.{number_of, low_bytes, size_of, loaded_as}
use Rattle.machine_spec.specs.Memory.{Range, covers, range_at, byte_of, all_from}

abbrev pub allows_store : Option Range → Bool
allows_store (Some r) = r.writable
allows_store None = false

abbrev pub allows_fetch : Option Range → Bool
allows_fetch (Some r) = r.executable
allows_fetch None = false

-- the n bytes from an address on; none where one of them is outside memory
abbrev pub bytes_from : List Range → ℕ → ℕ → Option (List ℕ)
bytes_from memory a zero = Some []
bytes_from memory a (suc n) =
    option_and_then (λ b. option_map (λ bs. b ∷ bs) (bytes_from memory (a + 1) n)) (byte_of memory a)

-- memory with another byte at an address, and with other bytes from an address on
abbrev pub put_byte : List Range → ℕ → ℕ → List Range
put_byte [] a b = []
put_byte (r ∷ rs) a b =
    if covers a r then record r { bytes = slice_set r.bytes (a - r.start) b } ∷ rs
    else r ∷ put_byte rs a b

abbrev pub put_bytes : List Range → ℕ → List ℕ → List Range
put_bytes memory a [] = memory
put_bytes memory a (b ∷ bs) = put_bytes (put_byte memory a b) (a + 1) bs

-- bytes can be stored at the n addresses from a on
abbrev pub can_store : List Range → ℕ → ℕ → Bool
can_store memory a n = all_from (λ k. allows_store (range_at memory k)) a n

-- the word that a load gives; none where the address isn't aligned or a byte is outside memory
unfoldable pub loaded : List Range → Width → ℕ → Option ℕ
loaded memory width a =
    if a % size_of width == 0
    then option_map (λ bs. loaded_as width (number_of bs)) (bytes_from memory a (size_of width))
    else None

-- the memory after a store; none where the address isn't aligned or a byte can't be stored there
unfoldable pub stored : List Range → Width → ℕ → ℕ → Option (List Range)
stored memory width a v =
    if (a % size_of width == 0) && can_store memory a (size_of width)
    then Some (put_bytes memory a (low_bytes (size_of width) v))
    else None

-- the word of code at an address; none where it isn't aligned or a byte isn't code
unfoldable pub fetched : List Range → ℕ → Option ℕ
fetched memory a =
    if (a % 4 == 0) && all_from (λ k. allows_fetch (range_at memory k)) a 4
    then option_map number_of (bytes_from memory a 4)
    else None
