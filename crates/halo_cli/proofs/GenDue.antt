-- `gen` comes to one ending, whatever is told, and its operand is a number of its range.
use Rattle.std.proofs.Common.{◌≡◌, ◌∙◌, ℕ, ◌≤◌, [], ◌∷◌, List, Option, None, Some, true, codes, refl, sym, ap, arith}
use Rattle.std.specs.Prelude.{unwrap_or, slice_get}
use Rattle.std.proofs.lemmas.Bool.{and_parts}
use Rattle.std.proofs.lemmas.Bool.Decides.{nat_tests}
use Rattle.text_fields.specs.Reading.{number_of}
use Rattle.rv_build.specs.Generated.{generated}
use Rattle.endings.specs.declared.endings.Ending.TheVariants.{Done}
use Rattle.halo_words.specs.declared.forms.Kind.TheVariants.{Number}
use Rattle.halo_words.specs.Table.{OperandRule, CommandForm, fits, is_plain, has_kind, is_at_least, shape_named}
use Rattle.halo_words.specs.Table.{the_table, node_count}
use Rattle.halo_words.specs.Grammar.{Asked, AsksFor, operand_in}
use Rattle.halo_cli.specs.Generate.{gen_entry, nodes_in}
use Rattle.halo_cli.proofs.CommandLaws.{Laws, text_laws}

pub gen_laws : Laws gen_entry
gen_laws = text_laws (codes "gen")
    (λ given. [])
    (λ given contents ending. ending ≡ Done)
    (λ given before now ending. ending ≡ Done)
    (λ given before now text. text ≡ generated (nodes_in given))
    (λ given contents a b is other. is ∙ sym other)
    (λ given contents before now ending told brings. brings)
    (λ given before now brings. absurd (cc))
    (λ given before now exit steps brings. cc)

-- the command of the table
abbrev gen_shape : CommandForm
gen_shape = record { word = codes "gen"; choices = []; operands = node_count ∷ [] }

gen_named : shape_named the_table (codes "gen") ≡ Some gen_shape
unfolding the_table
gen_named = refl

at_least_one : (o : Option ℕ) → is_at_least 1 o ≡ true → 1 ≤ unwrap_or o 0
at_least_one None is = absurd (cc)
at_least_one (Some n) is = grind (arith, nat_tests)

abbrev self_shape : CommandForm
self_shape = record { word = codes "self"; choices = []; operands = node_count ∷ [] }

self_named : shape_named the_table (codes "self") ≡ Some self_shape
unfolding the_table
self_named = refl

-- what an operand of a line is
abbrev pub OperandsFit : Type 0
OperandsFit = (words : List (List ℕ)) (asked : Asked) (shape : CommandForm) → AsksFor the_table words asked
    → shape_named the_table asked.word ≡ Some shape → (k : ℕ) (place : OperandRule)
    → slice_get shape.operands k ≡ Some place → fits place.kind (operand_in asked.given k) ≡ true

module _ (fits_operand : OperandsFit) (words : List (List ℕ)) (asked : Asked)
    (asks : AsksFor the_table words asked) where
  least_of : (shape : CommandForm) → shape_named the_table asked.word ≡ Some shape
      → slice_get shape.operands 0 ≡ Some node_count → 1 ≤ nodes_in asked.given
  least_of shape named first =
      let text : List ℕ = operand_in asked.given 0 in
      let fit : fits node_count.kind text ≡ true =
      fits_operand words asked shape asks named 0 node_count first in
      at_least_one (number_of 30000 text) (and_parts (is_plain text) (has_kind (Number 1 30000) text) fit).1

  -- the number of a line is at least 1
  pub nodes_least : asked.word ≡ codes "gen" → 1 ≤ nodes_in asked.given
  nodes_least is = least_of gen_shape (ap (shape_named the_table) is ∙ gen_named) refl

  pub self_nodes_least : asked.word ≡ codes "self" → 1 ≤ nodes_in asked.given
  self_nodes_least is = least_of self_shape (ap (shape_named the_table) is ∙ self_named) refl
