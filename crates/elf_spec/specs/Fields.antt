-- The fields of a file: little-endian numbers at offsets (gABI, "Data Encoding"). A byte past the
-- file's end reads as 0.
use Rattle.std.specs.Prelude.{ℕ, ◌+◌, ◌*◌, ◌^◌, ◌/◌, ◌%◌, ◌==◌, List, [], ◌∷◌, Bool, slice_index, bit_and}

abbrev pub byte_at : List ℕ → ℕ → ℕ
byte_at file at = slice_index file at

-- two bytes
unfoldable pub half_at : List ℕ → ℕ → ℕ
half_at file at = slice_index file at + slice_index file (at + 1) * 2 ^ 8

-- four bytes
unfoldable pub word_at : List ℕ → ℕ → ℕ
word_at file at =
    slice_index file at + slice_index file (at + 1) * 2 ^ 8 + slice_index file (at + 2) * 2 ^ 16 + slice_index file
    (at + 3) * 2 ^ 24

-- the four bytes of a number below 2^32
unfoldable pub word_bytes : ℕ → List ℕ
word_bytes n = n % 256 ∷ n / 256 % 256 ∷ n / 65536 % 256 ∷ n / 16777216 ∷ []

-- the flag is one of the flags
abbrev pub is_set : ℕ → ℕ → Bool
is_set flag flags = bit_and flags flag == flag
