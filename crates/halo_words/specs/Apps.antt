-- The command of clap for a command of the table, and what a parse by it found.
use Rattle.std.specs.Prelude.{ℕ, true, List, [], ◌++◌, map, Some, unwrap_or}
use Rattle.clap.specs.declared.builder.action.ArgAction.TheVariants.{Set}
use Rattle.clap.specs.declared.parser.matches.Found.{Found}
use Rattle.clap.specs.Walk.{Rule}
use Rattle.clap.specs.Simple.{App, new_rule, new_shape, on_top}
use Rattle.clap.specs.Matches.{first_value}
use Rattle.halo_words.specs.Table.{Choice, OperandRule, CommandForm}
use Rattle.halo_words.specs.Grammar.{Given}

-- an option takes one value, behind its name or in the next word
abbrev pub option_rule : Choice → Rule
option_rule choice = record (new_rule choice.name) { long = Some choice.name; action = Some Set }

-- an operand is required
abbrev pub operand_rule : OperandRule → Rule
operand_rule place = record (new_rule place.name) { required = true; action = Some Set }

-- a command without flags for help and version
abbrev pub new_app_for : List ℕ → App
new_app_for word = record {
  top = record (new_shape word) { disable_help_flag = true; disable_version_flag = true };
  subs = [];
}

-- with more arguments
abbrev pub with_rules : App → List Rule → App
with_rules app rules = on_top (λ top. record top { rules = top.rules ++ rules }) app

abbrev pub app_for : CommandForm → App
app_for shape =
    with_rules (new_app_for shape.word) (map option_rule shape.choices ++ map operand_rule shape.operands)

-- the value of an option that was found, or its default
abbrev pub option_found : Found → Choice → List ℕ × List ℕ
option_found found choice = (choice.name, unwrap_or (first_value found choice.name) choice.default)

abbrev pub operand_found : Found → OperandRule → List ℕ
operand_found found place = unwrap_or (first_value found place.name) []

-- what is given by the values that were found
abbrev pub given_found : CommandForm → Found → Given
given_found shape found = record {
  options = map (option_found found) shape.choices;
  operands = map (operand_found found) shape.operands;
}
