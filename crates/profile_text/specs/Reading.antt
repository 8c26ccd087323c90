-- The line that is found at the front of a text, with the rest.
use Rattle.std.specs.Prelude.{ℕ, zero, suc, List, [], ◌∷◌, ◌++◌, length, Option, Some, None, codes}
use Rattle.text_fields.specs.Reading.{◌>>=◌, after_front, number_at, leading_at, hex_at}
use Rattle.profile_text.specs.declared.lines.TextLine.{TextLine}
use Rattle.profile_text.specs.declared.lines.TextLine.TheVariants.{Head, Distance, Granted, Joined, End}

-- the field of a distance line
unfoldable pub distance_at : List ℕ → Option (TextLine × List ℕ)
distance_at text = do
  distance ← number_at 10 4096 text
  Some (Distance distance.0, distance.1)

-- what the fields say where the first word is found, and else another choice
abbrev pub or_else : {A : Type 0} → Option (List ℕ) → (List ℕ → Option A) → Option A → Option A
or_else None fields other = other
or_else (Some rest) fields other = fields rest

-- a space and an address
unfoldable pub addr_at : List ℕ → Option (ℕ × List ℕ)
addr_at text = do
  rest ← after_front (32 ∷ []) text
  hex_at rest

-- an address put before others
abbrev pub put_before : ℕ → Option (List ℕ × List ℕ) → Option (List ℕ × List ℕ)
put_before a None = None
put_before a (Some found) = Some (a ∷ found.0, found.1)

-- an address, and then those that come after it
abbrev pub then_more : Option (ℕ × List ℕ) → (List ℕ → Option (List ℕ × List ℕ)) → Option (List ℕ × List ℕ)
then_more None more = None
then_more (Some found) more = put_before found.0 (more found.1)

-- fewer than k addresses up to the end of the line
abbrev pub addrs_on : ℕ → List ℕ → Option (List ℕ × List ℕ)
addrs_on zero text = None
addrs_on (suc k) text = or_else (after_front (10 ∷ []) text) (λ rest. Some ([], rest))
    (then_more (addr_at text) (addrs_on k))

-- the addresses up to the end of the line
unfoldable pub addrs_at : List ℕ → Option (List ℕ × List ℕ)
addrs_at text = addrs_on (length text) text

-- the numbers of a context line
unfoldable pub numbers_at : List ℕ → Option ((ℕ × ℕ × ℕ) × List ℕ)
numbers_at text = do
  number ← number_at 32 4294967294 text
  grants ← number_at 32 17592186044416 number.1
  accesses ← leading_at 17592186044416 grants.1
  Some ((number.0, grants.0, accesses.0), accesses.1)

-- the fields of a context line
unfoldable pub context_at : List ℕ → Option (TextLine × List ℕ)
context_at text = do
  numbers ← numbers_at text
  addrs ← addrs_at numbers.1
  Some (
    Granted (record { number = numbers.0.0; grants = numbers.0.1; accesses = numbers.0.2; addrs = addrs.0 }),
    addrs.1,
  )

-- the fields of an edge line
unfoldable pub edge_at : List ℕ → Option (TextLine × List ℕ)
edge_at text = do
  low ← number_at 32 4294967295 text
  high ← number_at 32 4294967295 low.1
  weight ← number_at 10 17592186044416 high.1
  Some (Joined (record { low = low.0; high = high.0; weight = weight.0 }), weight.1)

-- a line without fields
unfoldable pub word_line_at : List ℕ → Option (TextLine × List ℕ)
word_line_at text =
    or_else (after_front (codes "halo-profile 1" ++ (10 ∷ [])) text) (λ rest. Some (Head, rest))
    (or_else (after_front (codes "end" ++ (10 ∷ [])) text) (λ rest. Some (End, rest))
    None)

-- a line, chosen by its first word
unfoldable pub line_at : List ℕ → Option (TextLine × List ℕ)
line_at text =
    or_else (after_front (codes "edge ") text) edge_at
    (or_else (after_front (codes "context ") text) context_at
    (or_else (after_front (codes "distance ") text) distance_at
    (word_line_at text)))
