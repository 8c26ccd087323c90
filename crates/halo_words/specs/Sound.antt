-- What a table of commands must be for its lines to be read: tests that compute over the whole table.
use Rattle.std.specs.Prelude.{ℕ, ◌==◌, ◌&&◌, ◌^◌, Bool, true, not, nat_lt, nat_le, List, [], ◌∷◌, ◌++◌, length, map}
use Rattle.std.specs.Prelude.{Option, None, Some, codes}
use Rattle.std.specs.List.{list_all, list_any}
use Rattle.std.specs.Fmt.{decimal}
use Rattle.halo_words.specs.declared.forms.Kind.{Kind}
use Rattle.halo_words.specs.declared.forms.Kind.TheVariants.{Number, Name}
use Rattle.halo_words.specs.Table.{Choice, OperandRule, CommandForm, fits}
use Rattle.halo_words.specs.Grammar.{is_among}

-- numbers of the range can be read in a machine word
abbrev pub is_short : Kind → Bool
is_short (Number least most) = nat_lt most (2 ^ 59)
is_short Name = true

abbrev pub is_short_option : Option Choice → Bool
is_short_option None = true
is_short_option (Some choice) = is_short choice.kind

abbrev pub are_short_choices : List Choice → Bool
are_short_choices choices = list_all (λ (choice : Choice). is_short choice.kind) choices

abbrev pub are_short_places : List OperandRule → Bool
are_short_places places = list_all (λ (place : OperandRule). is_short place.kind) places

abbrev pub is_short_shape : CommandForm → Bool
is_short_shape shape = are_short_choices shape.choices && are_short_places shape.operands

-- a name may be cut off at `=`, and isn't empty
abbrev pub is_name : List ℕ → Bool
is_name name = not (length name == 0) && not (list_any (λ (b : ℕ). b == 61) name)

-- a text of each kind
abbrev pub example : Kind → List ℕ
example (Number least most) = decimal most
example Name = codes "name"

abbrev pub is_sound_choice : Choice → Bool
is_sound_choice choice = is_name choice.name && fits choice.kind choice.default

abbrev pub is_sound_place : OperandRule → Bool
is_sound_place place = fits place.kind (example place.kind)

abbrev pub is_sound_shape : CommandForm → Bool
is_sound_shape shape = list_all is_sound_choice shape.choices && list_all is_sound_place shape.operands

-- no name stands twice
abbrev pub are_apart : List (List ℕ) → Bool
are_apart [] = true
are_apart (name ∷ names) = not (is_among name names) && are_apart names

abbrev pub choice_name : Choice → List ℕ
choice_name choice = choice.name

abbrev pub place_name : OperandRule → List ℕ
place_name place = place.name

abbrev pub are_ids_apart : CommandForm → Bool
are_ids_apart shape = are_apart (map choice_name shape.choices ++ map place_name shape.operands)

-- the places of the operands can be counted
abbrev pub has_few_operands : CommandForm → Bool
has_few_operands shape = nat_le (length shape.operands) 64

abbrev pub is_parsed_shape : CommandForm → Bool
is_parsed_shape shape = are_ids_apart shape && has_few_operands shape

abbrev pub is_sound_table : List CommandForm → Bool
is_sound_table table =
    list_all (λ (shape : CommandForm). is_short_shape shape && (is_sound_shape shape && is_parsed_shape shape)) table
