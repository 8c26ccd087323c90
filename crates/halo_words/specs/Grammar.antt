-- The grammar of the command line, over a table of commands: what a line of words asks for, and its first wrong word.
use Rattle.std.specs.Prelude.{◌≡◌, ℕ, ◌+◌, ◌⊎◌, Bool, true, false, List, [], ◌∷◌, ◌++◌, length, take, map, slice_get}
use Rattle.std.specs.Prelude.{Option, Some, None, unwrap_or, codes, bytes_eq, if◌then◌else◌, string_bytes, String}
use Rattle.std.specs.declared.alloc.Global.{Global}
use Rattle.halo_words.specs.Table.{Choice, OperandRule, CommandForm, fits, choice_named, shape_named}

-- the bytes of each word
abbrev pub texts : List (String Global) → List (List ℕ)
texts words = map string_bytes words

abbrev pub is_among : List ℕ → List (List ℕ) → Bool
is_among name [] = false
is_among name (first ∷ rest) = if bytes_eq first name then true else is_among name rest

-- a part of a line behind the command: an option with its value in the next word or in the same one, or an operand
pub data Item : Type 0 where
  Apart : (name value : List ℕ) → Item
  Joined : (name value : List ℕ) → Item
  Operand : (word : List ℕ) → Item

-- its words: `--name value`, `--name=value`, `operand`
abbrev pub words_of : Item → List (List ℕ)
words_of (Apart name value) = (codes "--" ++ name) ∷ value ∷ []
words_of (Joined name value) = (codes "--" ++ (name ++ (61 ∷ value))) ∷ []
words_of (Operand word) = word ∷ []

abbrev pub line_of : List Item → List (List ℕ)
line_of [] = []
line_of (item ∷ items) = words_of item ++ line_of items

-- the command has an option of this name, it isn't among those that were given, and the value fits
abbrev pub Gives : CommandForm → List (List ℕ) → List ℕ → List ℕ → Type 0
Gives shape seen name value = (is_among name seen ≡ false)
    × ((choice : Choice) × (choice_named shape.choices name ≡ Some choice) × (fits choice.kind value ≡ true))

-- the command has an operand behind `count` others, which the word fits
abbrev pub IsOperand : CommandForm → ℕ → List ℕ → Type 0
IsOperand shape count word =
    (place : OperandRule) × (slice_get shape.operands count ≡ Some place) × (fits place.kind word ≡ true)

-- behind these options and so many operands, the items are what the command takes: each option at most once, in any
-- place, and every operand
abbrev pub Complete : CommandForm → List (List ℕ) → ℕ → List Item → Type 0
Complete shape seen count [] = length shape.operands ≡ count
Complete shape seen count (Apart name value ∷ items) =
    Gives shape seen name value × Complete shape (seen ++ name ∷ []) count items
Complete shape seen count (Joined name value ∷ items) =
    Gives shape seen name value × Complete shape (seen ++ name ∷ []) count items
Complete shape seen count (Operand word ∷ items) = IsOperand shape count word × Complete shape seen (count + 1) items

-- the value of an option in the items
abbrev pub value_given : List ℕ → List Item → Option (List ℕ)
value_given name [] = None
value_given name (Apart given value ∷ items) = if bytes_eq given name then Some value else value_given name items
value_given name (Joined given value ∷ items) = if bytes_eq given name then Some value else value_given name items
value_given name (Operand word ∷ items) = value_given name items

-- the place of the word that has the value of an option, in items whose first word stands at a place
abbrev pub value_place : List ℕ → ℕ → List Item → Option ℕ
value_place name at [] = None
value_place name at (Apart given value ∷ items) =
    if bytes_eq given name then Some (at + 1) else value_place name (at + 2) items
value_place name at (Joined given value ∷ items) =
    if bytes_eq given name then Some at else value_place name (at + 1) items
value_place name at (Operand word ∷ items) = value_place name (at + 1) items

abbrev pub operands_of : List Item → List (List ℕ)
operands_of [] = []
operands_of (Apart name value ∷ items) = operands_of items
operands_of (Joined name value ∷ items) = operands_of items
operands_of (Operand word ∷ items) = word ∷ operands_of items

-- what a line gives to its command: each option of the command by its name, with its value or its default, and the
-- operands
pub record Given : Type 0 where
  pub options : List (List ℕ × List ℕ)
  pub operands : List (List ℕ)

abbrev pub option_by : List Item → Choice → List ℕ × List ℕ
option_by items choice = (choice.name, unwrap_or (value_given choice.name items) choice.default)

abbrev pub given_by : CommandForm → List Item → Given
given_by shape items = record { options = map (option_by items) shape.choices; operands = operands_of items }

-- the value of an option of this name, and the operand at a place; empty where there is none
abbrev pub value_in : List (List ℕ × List ℕ) → List ℕ → Option (List ℕ)
value_in [] name = None
value_in (option ∷ options) name = if bytes_eq option.0 name then Some option.1 else value_in options name

abbrev pub option_in : Given → List ℕ → List ℕ
option_in given name = unwrap_or (value_in given.options name) []

abbrev pub operand_in : Given → ℕ → List ℕ
operand_in given at = unwrap_or (slice_get given.operands at) []

-- what a line asks for: a command, by its word, and what is given to it
pub record Asked : Type 0 where
  pub word : List ℕ
  pub given : Given

-- the words are the command's and those of the items, and these are what the command takes
pub record IsLineOf (words : List (List ℕ)) (word : List ℕ) (shape : CommandForm) (items : List Item) : Type 0 where
  pub words_are : words ≡ word ∷ line_of items
  pub complete : Complete shape [] 0 items

-- the words are a line of this command of the table
abbrev pub IsLineFor : List CommandForm → List (List ℕ) → CommandForm → Type 0
IsLineFor table words shape =
    (shape_named table shape.word ≡ Some shape) × ((items : List Item) × IsLineOf words shape.word shape items)

-- the words are a line of the table that asks for this
pub record AsksFor (table : List CommandForm) (words : List (List ℕ)) (asked : Asked) : Type 0 where
  pub shape : CommandForm
  pub items : List Item
  pub command : shape_named table asked.word ≡ Some shape
  pub line : IsLineOf words asked.word shape items
  pub given : asked.given ≡ given_by shape items

-- the words are a line of the table
abbrev pub IsLine : List CommandForm → List (List ℕ) → Type 0
IsLine table words = (asked : Asked) × AsksFor table words asked

-- some line of the table begins with these words
abbrev pub BeginsLine : List CommandForm → List (List ℕ) → Type 0
BeginsLine table words = (more : List (List ℕ)) × IsLine table (words ++ more)

-- place `k`, from 0, has the first word that no line has there; or `k` is the number of words, and more would have to
-- follow
pub record IsFirstWrong (table : List CommandForm) (words : List (List ℕ)) (k : ℕ) : Type 0 where
  pub before : BeginsLine table (take k words)
  pub wrong : (BeginsLine table (take (k + 1) words) → ⊥) ⊎ ((k ≡ length words) × (IsLine table words → ⊥))
