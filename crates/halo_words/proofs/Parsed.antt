-- A line of the table is taken by clap, and what it finds is what the line asks for.
use Rattle.std.proofs.Common.{◌≡◌, ◌∙◌, Bool, true, false, List, None, option_map, [], ◌∷◌, ◌++◌, ℕ, map, Some, refl}
use Rattle.std.proofs.Common.{sym, ap, subst, append-nil, append_assoc}
use Rattle.std.specs.Prelude.{unwrap_or}
use Rattle.std.specs.Str.{bytes_eq}
use Rattle.std.proofs.lemmas.Bool.{and_parts}
use Rattle.clap.specs.Matches.{first_value}
use Rattle.clap.specs.declared.parser.matches.Found.{Found}
use Rattle.clap.specs.Walk.{Rule, rows_of}
use Rattle.clap.specs.Simple.{App, is_simple, matches_of, with_rule}
use Rattle.clap.specs.Takes.{takes}
use Rattle.halo_words.specs.Table.{Choice, CommandForm, choice_named, the_table}
use Rattle.halo_words.specs.Sound.{is_sound_shape, are_ids_apart, has_few_operands}
use Rattle.halo_words.specs.Grammar.{IsLineFor, IsLine, AsksFor, given_by, value_in, option_in}
use Rattle.halo_words.specs.Apps.{app_for, with_rules, option_found, given_found}
use Rattle.halo_words.proofs.TableLines.{table_sound, shape_sound, shape_parsed}
use Rattle.halo_words.proofs.ClapRules.{app_simple}
use Rattle.halo_words.proofs.ClapLines.{line_taken, values_found}

module _ (words : List (List ℕ)) (shape : CommandForm) (line : IsLineFor the_table words shape) where
  sound : is_sound_shape shape ≡ true
  sound = shape_sound the_table table_sound shape.word shape line.0

  apart : are_ids_apart shape ≡ true
  apart = (and_parts (are_ids_apart shape) (has_few_operands shape)
      (shape_parsed the_table table_sound shape.word shape line.0)).0

  few : has_few_operands shape ≡ true
  few = (and_parts (are_ids_apart shape) (has_few_operands shape)
      (shape_parsed the_table table_sound shape.word shape line.0)).1

  pub parse_simple : is_simple (app_for shape) ≡ true
  parse_simple = app_simple shape few

  pub parse_taken : takes (app_for shape) words ≡ true
  parse_taken =
      subst (λ ws. takes (app_for shape) ws ≡ true) (sym line.1.1.words_are)
      (line_taken shape sound apart few line.1.0 line.1.1.complete)

  pub parse_asks : (found : Found) → rows_of found ≡ matches_of (app_for shape) words
      → AsksFor the_table words (record { word = shape.word; given = given_found shape found })
  parse_asks found rows = record {
    shape = shape;
    items = line.1.0;
    command = line.0;
    line = line.1.1;
    given = values_found shape sound apart few line.1.0 line.1.1.complete found
        (rows ∙ ap (matches_of (app_for shape)) line.1.1.words_are);
  }

-- one more argument
pub rules_more : (app : App) (rules : List Rule) (rule : Rule)
    → with_rule (with_rules app rules) rule ≡ with_rules app (rules ++ rule ∷ [])
rules_more app rules rule =
    ap (λ rs. (let more : App = record app { top = record app.top { rules = rs } } in more))
    (append_assoc app.top.rules rules (rule ∷ []))

pub rules_none : (app : App) → app ≡ with_rules app []
rules_none app = ap (λ rs. (let more : App = record app { top = record app.top { rules = rs } } in more))
    (sym (append-nil app.top.rules))

-- a line of a command is a line
pub is_line : (words : List (List ℕ)) (shape : CommandForm) → IsLineFor the_table words shape → IsLine the_table words
is_line words shape line = (
  record { word = shape.word; given = given_by shape line.1.0 },
  record { shape = shape; items = line.1.0; command = line.0; line = line.1.1; given = refl },
)

-- the value of the option of a name is that of the first option of the name
value_or : Found → Choice → List ℕ
value_or found choice = unwrap_or (first_value found choice.name) choice.default

value_by : (found : Found) (first : Choice) (choices : List Choice) (name : List ℕ) (test : Bool)
    → bytes_eq first.name name ≡ test
    → value_in (map (option_found found) choices) name ≡ option_map (value_or found) (choice_named choices name)
    → value_in (map (option_found found) (first ∷ choices)) name ≡ option_map (value_or found)
    (choice_named (first ∷ choices) name)
unfolding value_or
value_by found first choices name true test later = rw test refl
value_by found first choices name false test later = rw test later

value_found : (found : Found) (choices : List Choice) (name : List ℕ)
    → value_in (map (option_found found) choices) name ≡ option_map (value_or found) (choice_named choices name)
value_found found [] name = refl
value_found found (first ∷ choices) name =
    value_by found first choices name (bytes_eq first.name name) refl (value_found found choices name)

module _ (found : Found) (shape : CommandForm) (name : List ℕ) where
  pub option_is : (choice : Choice) → choice_named shape.choices name ≡ Some choice
      → option_in (given_found shape found) name ≡ unwrap_or (first_value found choice.name) choice.default
  unfolding value_or
  option_is choice is =
      ap (λ o. unwrap_or o []) (value_found found shape.choices name ∙ ap (option_map (value_or found)) is)

  pub option_lacks : choice_named shape.choices name ≡ None → option_in (given_found shape found) name ≡ []
  option_lacks is = ap (λ o. unwrap_or o []) (value_found found shape.choices name
      ∙ ap (option_map (value_or found)) is)
