-- The lines that are taken: they ask for one thing, and words with a wrong one are none.
use Rattle.std.proofs.Common.{◌≡◌, ◌∙◌, ℕ, ◌==◌, ◌≤◌, inl, inr, true, false, List, [], ◌∷◌, length, Option, None, Some}
use Rattle.std.proofs.Common.{codes, refl, sym, ap, subst, arith}
use Rattle.std.specs.Prelude.{bytes_eq, is_some, unwrap_or}
use Rattle.std.proofs.lemmas.Bool.{both_ways, and_parts}
use Rattle.std.proofs.lemmas.Bool.Decides.{nat_tests}
use Rattle.text_fields.specs.Reading.{number_of}
use Rattle.halo_words.specs.declared.forms.Kind.TheVariants.{Number, Name}
use Rattle.halo_words.specs.Table.{Choice, CommandForm, fits, is_plain, has_kind, is_at_least, choice_named}
use Rattle.halo_words.specs.Table.{shape_named, the_table, plan_choices, optimise_choices, file_name, profile_name}
use Rattle.halo_words.specs.Table.{edge, policy}
use Rattle.halo_words.specs.Grammar.{Asked, AsksFor, IsLine, IsFirstWrong, option_in}
use Rattle.halo_cli.specs.Options.{options_in, policy_in, default_policy, policy_of, place_named, has_policy}
use Rattle.halo_cli.specs.Valid.{Passes, Asks, IsValid, IsLastWrong, IsWrongAt}

module _ (asks_once : (words : List (List ℕ)) (a b : Asked) → AsksFor the_table words a → AsksFor the_table words b
    → a ≡ b)
    (first_wrong : (words : List (List ℕ)) (place : ℕ) → IsFirstWrong the_table words place → IsLine the_table words
    → ⊥) (names : List (List ℕ)) where
  pub valid_once : (words : List (List ℕ)) (a b : Asked) → Asks names words a → Asks names words b → a ≡ b
  valid_once words a b asks other = asks_once words a b asks.line other.line

  last_wrong : (words : List (List ℕ)) (asked : Asked) (asks : AsksFor the_table words asked) (place : ℕ)
      → IsLastWrong names words asked asks place → Passes names asked → ⊥
  last_wrong words asked asks place (inl (lacks, is)) passes =
      both_ways (has_policy names (policy_of asked)) lacks passes.policy
  last_wrong words asked asks place (inr (has, large, is)) passes = let small = passes.area in omega arith

  pub wrong_is_not_valid : (words : List (List ℕ)) (place : ℕ) → IsWrongAt names words place → IsValid names words → ⊥
  wrong_is_not_valid words place (inl wrong) (asked, valid) = first_wrong words place wrong (asked, valid.line)
  wrong_is_not_valid words place (inr (asked, asks, wrong)) (other, valid) =
      last_wrong words asked asks place wrong
      (subst (λ (a : Asked). Passes names a) (sym (asks_once words asked other asks valid.line)) valid.passes)

-- where there is a policy of this name, and the name isn't empty, it has a place
pub named_some : (names : List (List ℕ)) (name : List ℕ) → is_plain name ≡ true → has_policy names name ≡ true
    → place_named names name ≡ None → ⊥
named_some names [] plain has none = absurd (cc)
named_some names (c ∷ name) plain has none =
    let some : (length (c ∷ name) == 0) ≡ false = grind (arith, nat_tests) in
    let test : is_some (place_named names (c ∷ name)) ≡ true = rw some at has in
    let no : is_some (place_named names (c ∷ name)) ≡ false = ap is_some none in
    both_ways (is_some (place_named names (c ∷ name))) no test

at_least : (least : ℕ) (o : Option ℕ) → is_at_least least o ≡ true → least ≤ unwrap_or o 0
at_least least None is = absurd (cc)
at_least least (Some n) is = grind (arith, nat_tests)

-- ---- what a line of a command gives that takes a policy as its option

-- its policy is that of the option
pub policy_by_option : (asked : Asked) (word : List ℕ) → asked.word ≡ word → bytes_eq word (codes "self") ≡ false
    → policy_of asked ≡ policy_in asked.given
policy_by_option asked word is other =
    let test : bytes_eq asked.word (codes "self") ≡ false = ap (λ w. bytes_eq w (codes "self")) is ∙ other in
    rw test refl

-- so the line's policy is there where that of its option is
pub has_by_option : (names : List (List ℕ)) (asked : Asked) (word : List ℕ) → asked.word ≡ word
    → bytes_eq word (codes "self") ≡ false → has_policy names (policy_of asked) ≡ true
    → has_policy names (policy_in asked.given) ≡ true
has_by_option names asked word is other has =
    subst (λ name. has_policy names name ≡ true) (policy_by_option asked word is other) has

-- and of `self` the default
pub policy_by_default : (asked : Asked) → asked.word ≡ codes "self" → policy_of asked ≡ default_policy
policy_by_default asked is =
    let test : bytes_eq asked.word (codes "self") ≡ true = ap (λ w. bytes_eq w (codes "self")) is ∙ refl in
    rw test refl

pub has_by_default : (names : List (List ℕ)) (asked : Asked) → asked.word ≡ codes "self"
    → has_policy names (policy_of asked) ≡ true → has_policy names default_policy ≡ true
has_by_default names asked is has =
    subst (λ name. has_policy names name ≡ true) (policy_by_default asked is) has

abbrev plan_shape : CommandForm
plan_shape = record { word = codes "plan"; choices = plan_choices; operands = profile_name ∷ [] }

abbrev optimise_shape : CommandForm
optimise_shape = record { word = codes "optimise"; choices = optimise_choices; operands = file_name ∷ [] }

pub plan_named : shape_named the_table (codes "plan") ≡ Some plan_shape
unfolding the_table
plan_named = refl

pub optimise_named : shape_named the_table (codes "optimise") ≡ Some optimise_shape
unfolding the_table
optimise_named = refl

-- what an option of a line is
abbrev pub OptionsFit : Type 0
OptionsFit = (words : List (List ℕ)) (asked : Asked) (shape : CommandForm) → AsksFor the_table words asked
    → shape_named the_table asked.word ≡ Some shape → (name : List ℕ) (choice : Choice)
    → choice_named shape.choices name ≡ Some choice → fits choice.kind (option_in asked.given name) ≡ true

module _ (fits_option : OptionsFit) (words : List (List ℕ)) (asked : Asked) (asks : AsksFor the_table words asked)
    (shape : CommandForm) (named : shape_named the_table asked.word ≡ Some shape) where
  -- the policy's name isn't empty
  policy_is_plain : choice_named shape.choices (codes "policy") ≡ Some policy → is_plain (policy_in asked.given) ≡ true
  policy_is_plain has =
      let fit : fits policy.kind (option_in asked.given (codes "policy")) ≡ true =
      fits_option words asked shape asks named (codes "policy") policy has in
      (and_parts (is_plain (policy_in asked.given)) (has_kind Name (policy_in asked.given)) fit).0

  -- the least weight of a kept edge is at least 1
  edge_is_some : choice_named shape.choices (codes "edge") ≡ Some edge → 1 ≤ (options_in asked.given).least_edge
  edge_is_some has =
      let text : List ℕ = option_in asked.given (codes "edge") in
      let fit : fits edge.kind text ≡ true =
      fits_option words asked shape asks named (codes "edge") edge has in
      at_least 1 (number_of 17592186044416 text)
      (and_parts (is_plain text) (has_kind (Number 1 17592186044416) text) fit).1

-- a line of `plan`, and one of `optimise`
module _ (fits_option : OptionsFit) (words : List (List ℕ)) (asked : Asked) (asks : AsksFor the_table words asked) where
  pub policy_plain : asked.word ≡ codes "plan" → is_plain (policy_in asked.given) ≡ true
  policy_plain is = policy_is_plain fits_option words asked asks plan_shape (ap (shape_named the_table) is ∙ plan_named)
      refl

  pub least_edge : asked.word ≡ codes "plan" → 1 ≤ (options_in asked.given).least_edge
  least_edge is = edge_is_some fits_option words asked asks plan_shape (ap (shape_named the_table) is ∙ plan_named) refl

  pub optimise_policy_plain : asked.word ≡ codes "optimise" → is_plain (policy_in asked.given) ≡ true
  optimise_policy_plain is = policy_is_plain fits_option words asked asks optimise_shape
      (ap (shape_named the_table) is ∙ optimise_named) refl

  pub optimise_least_edge : asked.word ≡ codes "optimise" → 1 ≤ (options_in asked.given).least_edge
  optimise_least_edge is = edge_is_some fits_option words asked asks optimise_shape
      (ap (shape_named the_table) is ∙ optimise_named) refl
