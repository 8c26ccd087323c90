-- How the words behind a command are read, one after the other.
use Rattle.std.specs.Prelude.{◌≡◌, ℕ, ◌+◌, ◌==◌, ◌&&◌, ◌||◌, ◌⊎◌, Bool, true, false, not, List, [], ◌∷◌, ◌++◌, length}
use Rattle.std.specs.Prelude.{take, slice_get, Option, Some, None, is_some, option_map, codes, bytes_eq, if◌then◌else◌}
use Rattle.text_fields.specs.Reading.{after_front, cut_at, ◌>>=◌}
use Rattle.halo_words.specs.Table.{Choice, OperandRule, CommandForm, fits, choice_named, choice_of}
use Rattle.halo_words.specs.Grammar.{is_among}
use Rattle.halo_words.specs.declared.reading.Read.{Read}

-- what the words so far come to: the names of the options that were given, how many operands there were, and the
-- option that waits for its value
pub record Reading : Type 0 where
  pub seen : List (List ℕ)
  pub count : ℕ
  pub waiting : Option Choice

abbrev pub idle : List (List ℕ) → ℕ → Reading
idle seen count = record { seen = seen; count = count; waiting = None }

-- the name in `name` or `name=value`
abbrev pub front_name : List ℕ → Option (List ℕ × List ℕ) → List ℕ
front_name rest None = rest
front_name rest (Some parts) = parts.0

abbrev pub named_behind : Option (List ℕ) → List (List ℕ)
named_behind None = []
named_behind (Some rest) = front_name rest (cut_at 61 rest) ∷ []

-- the name of the option that a word gives, and the names of all options that words give
unfoldable pub named : List ℕ → List (List ℕ)
named word = named_behind (after_front (codes "--") word)

abbrev pub names_in : List (List ℕ) → List (List ℕ)
names_in [] = []
names_in (word ∷ words) = named word ++ names_in words

-- the place of the value that a word at a place gives to an option: behind the word, or the word's own
abbrev pub place_cut : List ℕ → List ℕ → Option (List ℕ × List ℕ) → ℕ → Option ℕ
place_cut name rest None at = if bytes_eq rest name then Some (at + 1) else None
place_cut name rest (Some parts) at = if bytes_eq parts.0 name then Some at else None

abbrev pub place_behind : List ℕ → Option (List ℕ) → ℕ → Option ℕ
place_behind name None at = None
place_behind name (Some rest) at = place_cut name rest (cut_at 61 rest) at

unfoldable pub place_by : List ℕ → List ℕ → ℕ → Option ℕ
place_by name word at = place_behind name (after_front (codes "--") word) at

-- the place of the first value that words from a place on give to an option
abbrev pub place_or : Option ℕ → Option ℕ → Option ℕ
place_or None later = later
place_or (Some place) later = Some place

abbrev pub first_place : List ℕ → ℕ → List (List ℕ) → Option ℕ
first_place name at [] = None
first_place name at (word ∷ words) = place_or (place_by name word at) (first_place name (at + 1) words)

-- a word is the value of the option that waits
abbrev pub value_met : Choice → Reading → List ℕ → Option Reading
value_met choice r word =
    if fits choice.kind word then Some (idle (r.seen ++ named word) r.count) else None

-- a word is the next operand
abbrev pub operand_met : Option OperandRule → Reading → List ℕ → Option Reading
operand_met None r word = None
operand_met (Some place) r word =
    if fits place.kind word then Some (idle (r.seen ++ named word) (r.count + 1)) else None

-- a word names an option, whose value is the next word
abbrev pub apart_met : Option Choice → List ℕ → Reading → List ℕ → Option Reading
apart_met None name r word = None
apart_met (Some choice) name r word = if is_among name r.seen then None
    else Some (record { seen = r.seen ++ named word; count = r.count; waiting = Some choice })

-- a word names an option and has its value
abbrev pub joined_met : Option Choice → List ℕ → List ℕ → Reading → List ℕ → Option Reading
joined_met None name value r word = None
joined_met (Some choice) name value r word = if is_among name r.seen || not (fits choice.kind value) then None
    else Some (idle (r.seen ++ named word) r.count)

abbrev pub option_met : List Choice → List ℕ → Option (List ℕ × List ℕ) → Reading → List ℕ → Option Reading
option_met choices rest None r word = apart_met (choice_named choices rest) rest r word
option_met choices rest (Some parts) r word = joined_met (choice_named choices parts.0) parts.0 parts.1 r word

abbrev pub idle_met : CommandForm → Option (List ℕ) → Reading → List ℕ → Option Reading
idle_met shape None r word = operand_met (slice_get shape.operands r.count) r word
idle_met shape (Some rest) r word = option_met shape.choices rest (cut_at 61 rest) r word

abbrev pub met : CommandForm → Option Choice → Reading → List ℕ → Option Reading
met shape (Some choice) r word = value_met choice r word
met shape None r word = idle_met shape (after_front (codes "--") word) r word

-- what one more word comes to; none, if it may not stand there
unfoldable pub step : CommandForm → Reading → List ℕ → Option Reading
step shape r word = met shape r.waiting r word

abbrev pub read_on : CommandForm → Reading → List (List ℕ) → Option Reading
read_on shape r [] = Some r
read_on shape r (word ∷ words) = step shape r word >>= λ next. read_on shape next words

-- the line may end here
abbrev pub is_end : CommandForm → Reading → Bool
is_end shape r = not (is_some r.waiting) && (length shape.operands == r.count)

-- the words, read on from here, end a line
abbrev pub Ends : CommandForm → Reading → List (List ℕ) → Type 0
Ends shape r words = (last : Reading) × (read_on shape r words ≡ Some last) × (is_end shape last ≡ true)

-- the words up to place `at` are read on, and the word there isn't; or all are, and more would have to follow
abbrev pub StopsAt : CommandForm → List (List ℕ) → ℕ → Type 0
StopsAt shape words at = (r : Reading) × (read_on shape (idle [] 0) (take at words) ≡ Some r)
    × (((word : List ℕ) × (slice_get words at ≡ Some word) × (step shape r word ≡ None))
    ⊎ ((at ≡ length words) × (is_end shape r ≡ false)))

-- what the reader keeps, behind words that give these options
abbrev pub reading_of : List (List ℕ) → Read → Reading
reading_of seen read = record { seen = seen; count = read.count; waiting = option_map choice_of read.waiting }
