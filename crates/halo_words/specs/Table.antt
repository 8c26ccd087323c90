-- What a command takes: its word, its options and its operands; and the table of all commands.
use Rattle.std.specs.Prelude.{ℕ, ◌==◌, ◌&&◌, Bool, true, false, not, nat_le, List, [], ◌∷◌, map, Option, None, Some}
use Rattle.std.specs.Prelude.{codes, bytes_eq, if◌then◌else◌}
use Rattle.text_fields.specs.Reading.{number_of}
use Rattle.halo_words.specs.declared.forms.Kind.{Kind}
use Rattle.halo_words.specs.declared.forms.Kind.TheVariants.{Number, Name}
use Rattle.halo_words.specs.declared.forms.Setting.{Setting}
use Rattle.halo_words.specs.declared.forms.Operand.{Operand}
use Rattle.halo_words.specs.declared.forms.Form.{Form}

-- an option: its name without dashes, what its value may be, and the value that stands where it isn't given
pub record Choice : Type 0 where
  pub name : List ℕ
  pub kind : Kind
  pub default : List ℕ

-- an operand: its name in texts for people, and what it may be
pub record OperandRule : Type 0 where
  pub name : List ℕ
  pub kind : Kind

-- a command: its word, its options, and its operands in their order
pub record CommandForm : Type 0 where
  pub word : List ℕ
  pub choices : List Choice
  pub operands : List OperandRule

-- a text that isn't empty and doesn't begin with `-`
abbrev pub is_plain : List ℕ → Bool
is_plain [] = false
is_plain (first ∷ rest) = not (first == 45)

-- a number was read, and it is at least this
abbrev pub is_at_least : ℕ → Option ℕ → Bool
is_at_least least None = false
is_at_least least (Some n) = nat_le least n

-- a number in decimal without a leading zero, within its range; or any text
abbrev pub has_kind : Kind → List ℕ → Bool
has_kind (Number least most) text = is_at_least least (number_of most text)
has_kind Name text = true

-- the text may be a value or an operand of this kind
abbrev pub fits : Kind → List ℕ → Bool
fits kind text = is_plain text && has_kind kind text

-- the first option of a name, and the first command of a word
abbrev pub choice_named : List Choice → List ℕ → Option Choice
choice_named [] name = None
choice_named (choice ∷ choices) name = if bytes_eq choice.name name then Some choice else choice_named choices name

abbrev pub shape_named : List CommandForm → List ℕ → Option CommandForm
shape_named [] word = None
shape_named (shape ∷ shapes) word = if bytes_eq shape.word word then Some shape else shape_named shapes word

-- ---- the commands

abbrev pub plan_name : OperandRule
plan_name = record { name = codes "PLAN"; kind = Name }

abbrev pub file_name : OperandRule
file_name = record { name = codes "FILE"; kind = Name }

abbrev pub steps : Choice
steps = record { name = codes "steps"; kind = Number 0 4294967295; default = codes "100000000" }

abbrev pub profile_name : OperandRule
profile_name = record { name = codes "PROFILE"; kind = Name }

-- the area: how many chunks, how many granules each has as a power of 2, and how many granules the fallback has
abbrev pub chunks : Choice
chunks = record { name = codes "chunks"; kind = Number 0 256; default = codes "64" }

abbrev pub log : Choice
log = record { name = codes "log"; kind = Number 0 20; default = codes "8" }

abbrev pub fallback : Choice
fallback = record { name = codes "fallback"; kind = Number 0 1048576; default = codes "65536" }

-- the groups: the thousandths of its density that one may lose, the least weight of a kept edge, and the policy
abbrev pub tolerance : Choice
tolerance = record { name = codes "tolerance"; kind = Number 0 150; default = codes "50" }

abbrev pub edge : Choice
edge = record { name = codes "edge"; kind = Number 1 17592186044416; default = codes "1" }

abbrev pub policy : Choice
policy = record { name = codes "policy"; kind = Name; default = codes "density" }

abbrev pub plan_choices : List Choice
plan_choices = chunks ∷ log ∷ fallback ∷ tolerance ∷ edge ∷ policy ∷ []

-- the profile: how many bytes may be accessed between two blocks that are near each other
abbrev pub distance : Choice
distance = record { name = codes "distance"; kind = Number 0 4096; default = codes "128" }

abbrev pub profile_choices : List Choice
profile_choices = steps ∷ distance ∷ chunks ∷ log ∷ fallback ∷ []

abbrev pub optimise_choices : List Choice
optimise_choices = steps ∷ distance ∷ plan_choices

-- how many nodes a generated program allocates for each of its lists
abbrev pub node_count : OperandRule
node_count = record { name = codes "N"; kind = Number 1 30000 }

-- `rewrite PLAN FILE`, `optimise [OPTION]... FILE`, `run [--steps N] FILE`, `symbols [--steps N] PLAN FILE`,
-- `profile [OPTION]... FILE`, `plan [OPTION]... PROFILE`, `show FILE`, `gen N` and `self N`
unfoldable pub the_table : List CommandForm
the_table = record { word = codes "rewrite"; choices = []; operands = plan_name ∷ file_name ∷ [] }
    ∷ record { word = codes "optimise"; choices = optimise_choices; operands = file_name ∷ [] }
    ∷ record { word = codes "run"; choices = steps ∷ []; operands = file_name ∷ [] }
    ∷ record { word = codes "symbols"; choices = steps ∷ []; operands = plan_name ∷ file_name ∷ [] }
    ∷ record { word = codes "profile"; choices = profile_choices; operands = file_name ∷ [] }
    ∷ record { word = codes "plan"; choices = plan_choices; operands = profile_name ∷ [] }
    ∷ record { word = codes "show"; choices = []; operands = file_name ∷ [] }
    ∷ record { word = codes "gen"; choices = []; operands = node_count ∷ [] }
    ∷ record { word = codes "self"; choices = []; operands = node_count ∷ [] } ∷ []

-- ---- what the types of the program say

abbrev pub choice_of : Setting → Choice
choice_of setting = record { name = setting.name.now; kind = setting.kind; default = setting.default.now }

abbrev pub place_of : Operand → OperandRule
place_of operand = record { name = operand.name.now; kind = operand.kind }

abbrev pub shape_of : Form → CommandForm
shape_of form = record {
  word = form.word.now;
  choices = map choice_of form.settings.now;
  operands = map place_of form.operands.now;
}
