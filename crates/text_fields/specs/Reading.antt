-- What is found at the front of a text: a value and the rest of the text, or none.
use Rattle.std.specs.Prelude.{◌≡◌, ℕ, ◌+◌, ◌-◌, ◌*◌, ◌^◌, ◌==◌, ◌&&◌, ◌||◌, nat_lt, nat_le, false, if◌then◌else◌, ⊤}
use Rattle.std.specs.Prelude.{List, [], ◌∷◌, length, take, drop, slice_index, Option, Some, None}
use Rattle.std.specs.Option.{option_and_then}
use Rattle.std.specs.Str.{bytes_eq}
use Rattle.std.specs.Char.{is_ascii_digit}

-- a call's answer, seen through `view`, is what is found
abbrev pub Finds : {X Y : Type 0} → (X → Y) → Option X → Option Y → Type 0
Finds view (Some x) found = found ≡ Some (view x)
Finds view None found = found ≡ None

-- the second step, if the first found a value
infixl 10 ◌>>=◌
abbrev pub ◌>>=◌ : {A B : Type 0} → Option A → (A → Option B) → Option B
o >>= f = option_and_then f o

-- the rest of the text behind a fixed front
unfoldable pub after_front : List ℕ → List ℕ → Option (List ℕ)
after_front front bytes =
    if bytes_eq (take (length front) bytes) front then Some (drop (length front) bytes) else None

-- a byte put before the first of two parts
abbrev pub behind : ℕ → Option (List ℕ × List ℕ) → Option (List ℕ × List ℕ)
behind b None = None
behind b (Some parts) = Some (b ∷ parts.0, parts.1)

-- the parts before and behind the first byte `end`
abbrev pub cut_at : ℕ → List ℕ → Option (List ℕ × List ℕ)
cut_at end [] = None
cut_at end (b ∷ bs) = if b == end then Some ([], bs) else behind b (cut_at end bs)

-- the number written by the digits of n and these, if no digit carries it past `max`
abbrev pub number_on : ℕ → ℕ → List ℕ → Option ℕ
number_on max n [] = Some n
number_on max n (c ∷ cs) =
    if is_ascii_digit c && nat_le (10 * n + (c - 48)) max then number_on max (10 * n + (c - 48)) cs else None

-- the number that a word writes in decimal, at most `max` and without a leading zero
unfoldable pub number_of : ℕ → List ℕ → Option ℕ
number_of max word =
    if (length word == 0) || (nat_lt 1 (length word) && (slice_index word 0 == 48))
    then None
    else number_on max 0 word

-- the number up to the byte `end`, and the rest behind that byte
unfoldable pub number_at : ℕ → ℕ → List ℕ → Option (ℕ × List ℕ)
number_at end max bytes = do
  parts ← cut_at end bytes
  number ← number_of max parts.0
  Some (number, parts.1)

-- the decimal digits at the front, and the rest from the first byte on that is none
abbrev pub digits_at : List ℕ → List ℕ × List ℕ
digits_at [] = ([], [])
digits_at (c ∷ cs) = if is_ascii_digit c then (c ∷ (digits_at cs).0, (digits_at cs).1) else ([], c ∷ cs)

-- the number that the digits at the front write, and the rest behind all of them
unfoldable pub leading_at : ℕ → List ℕ → Option (ℕ × List ℕ)
leading_at max bytes = do
  number ← number_of max (digits_at bytes).0
  Some (number, (digits_at bytes).1)

-- the text goes on with no digit
abbrev pub GoesOnWithNoDigit : List ℕ → Type 0
GoesOnWithNoDigit [] = ⊤
GoesOnWithNoDigit (c ∷ cs) = is_ascii_digit c ≡ false

-- the value of a hexadecimal digit in lower case
abbrev pub hex_value : ℕ → Option ℕ
hex_value c =
    if is_ascii_digit c then Some (c - 48)
    else if nat_le 97 c && nat_le c 102 then Some (c - 87)
    else None

-- the number that eight hexadecimal digits write, the highest first
unfoldable pub hex_at : List ℕ → Option (ℕ × List ℕ)
hex_at (a ∷ b ∷ c ∷ d ∷ e ∷ f ∷ g ∷ h ∷ rest) = do
  a7 ← hex_value a
  a6 ← hex_value b
  a5 ← hex_value c
  a4 ← hex_value d
  a3 ← hex_value e
  a2 ← hex_value f
  a1 ← hex_value g
  a0 ← hex_value h
  Some (a7 * 16 ^ 7 + a6 * 16 ^ 6 + a5 * 16 ^ 5 + a4 * 16 ^ 4 + a3 * 16 ^ 3 + a2 * 16 ^ 2 + a1 * 16 + a0, rest)
hex_at _ = None
