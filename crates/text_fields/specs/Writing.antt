-- How fields of a text are written; a number in decimal is std's `decimal`.
use Rattle.std.specs.Prelude.{ℕ, ◌+◌, ◌/◌, ◌%◌, ◌^◌, nat_lt, if◌then◌else◌, List, [], ◌∷◌}

-- the character of a digit below sixteen, in lower case
abbrev pub hex_digit : ℕ → ℕ
hex_digit d = if nat_lt d 10 then 48 + d else 87 + d

-- a 32-bit number as eight hexadecimal digits, the highest first
unfoldable pub hex8 : ℕ → List ℕ
hex8 n =
    hex_digit (n / 16 ^ 7 % 16) ∷ hex_digit (n / 16 ^ 6 % 16)
    ∷ hex_digit (n / 16 ^ 5 % 16) ∷ hex_digit (n / 16 ^ 4 % 16)
    ∷ hex_digit (n / 16 ^ 3 % 16) ∷ hex_digit (n / 16 ^ 2 % 16)
    ∷ hex_digit (n / 16 % 16) ∷ hex_digit (n % 16) ∷ []
