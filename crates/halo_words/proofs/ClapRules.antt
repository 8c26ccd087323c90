-- What clap builds of a command of the table, and which argument it finds by a name, an id and a place.
use Rattle.std.proofs.Common.{◌≡◌, ◌∙◌, ◌==◌, ◌&&◌, ◌+◌, ◌≤◌, ℕ, zero, suc, Bool, true, false, List, [], ◌∷◌, ◌++◌}
use Rattle.std.proofs.Common.{length, map, take, slice_get, min, Some, is_some, refl, ap, arith}
use Rattle.std.specs.Prelude.{count_by}
use Rattle.std.specs.List.{list_all, list_any}
use Rattle.std.specs.Str.{bytes_eq}
use Rattle.std.proofs.lemmas.Bool.Decides.{nat_tests}
use Rattle.clap.specs.declared.builder.value_parser.ValueParser.TheVariants as vp
use Rattle.clap.specs.Lexer.{usize_max}
use Rattle.clap.specs.Walk.{Rule, arg_by_id, arg_by_long, arg_by_index, is_early_multiple}
use Rattle.clap.specs.Simple as clap
use Rattle.halo_words.specs.Table.{Choice, OperandRule, CommandForm, choice_named}
use Rattle.halo_words.specs.Sound.{choice_name, place_name, has_few_operands}
use Rattle.halo_words.specs.Grammar.{is_among}
use Rattle.halo_words.specs.Apps.{option_rule, operand_rule, app_for}

-- the arguments, built
abbrev pub built_option : Choice → Rule
built_option choice =
    record (option_rule choice) {
      parser = Some vp.String;
      range = Some
          (record { start_inclusive = 1; end_inclusive = 1 });
    }

abbrev pub built_operand : ℕ → OperandRule → Rule
built_operand index place = record (operand_rule place) {
  index = Some index;
  parser = Some vp.String;
  range = Some (record { start_inclusive = 1; end_inclusive = 1 });
}

abbrev pub operands_from : ℕ → List OperandRule → List Rule
operands_from i [] = []
operands_from i (place ∷ places) = built_operand i place ∷ operands_from (i + 1) places

abbrev pub built_rules : CommandForm → List Rule
built_rules shape = map built_option shape.choices ++ operands_from 1 shape.operands

filled_operands : (i : ℕ) (places : List OperandRule) → i + length places ≤ usize_max
    → clap.filled_from i (map operand_rule places) ≡ operands_from i places
filled_operands i [] few = refl
filled_operands i (place ∷ places) few =
    let next : min (i + 1) usize_max ≡ i + 1 = omega arith in
    rw next (ap (λ rules. built_operand i place ∷ rules) (filled_operands (i + 1) places (omega arith)))

filled_options : (choices : List Choice) (places : List OperandRule) → 1 + length places ≤ usize_max
    → clap.filled_from 1 (map option_rule choices ++ map operand_rule places) ≡ map built_option choices ++
    operands_from 1 places
filled_options [] places few = filled_operands 1 places few
filled_options (choice ∷ choices) places few =
    ap (λ rules. built_option choice ∷ rules) (filled_options choices places few)

-- the command, built
abbrev pub built_shape : CommandForm → clap.Shape
built_shape shape = record (clap.new_shape shape.word) {
  rules = built_rules shape;
  disable_help_flag = true;
  disable_version_flag = true;
  disable_help_subcommand = true;
  is_built = true;
}

abbrev pub built_app : CommandForm → clap.App
built_app shape = record { top = built_shape shape; subs = [] }

app_of_rules : CommandForm → List Rule → clap.App
app_of_rules shape rules = record { top = record (built_shape shape) { rules = rules }; subs = [] }

pub app_built : (shape : CommandForm) → has_few_operands shape ≡ true → clap.built (app_for shape) ≡ built_app shape
unfolding app_of_rules
app_built shape few =
    let fits : length shape.operands ≤ 64 = grind (arith, nat_tests) in
    ap (app_of_rules shape) (filled_options shape.choices shape.operands (omega (arith, fits)))

-- ---- look-ups

long_by : (first choice : Choice) (choices : List Choice) (rest : List Rule) (name : List ℕ) (test : Bool)
    → bytes_eq first.name name ≡ test
    → choice_named (first ∷ choices) name ≡ Some choice → (choice_named choices name ≡ Some choice
    → arg_by_long (map built_option choices ++ rest) name ≡ Some (built_option choice))
    → arg_by_long (map built_option (first ∷ choices) ++ rest) name ≡ Some (built_option choice)
long_by first choice choices rest name true test is later =
    let found : Some first ≡ Some choice = rw test at is in
    let same : first ≡ choice = cc in
    rw test (ap (λ c. Some (built_option c)) same)
long_by first choice choices rest name false test is later = rw test (later (rw test at is))

pub long_found : (choices : List Choice) (rest : List Rule) (name : List ℕ) (choice : Choice)
    → choice_named choices name ≡ Some choice
    → arg_by_long (map built_option choices ++ rest) name ≡ Some (built_option choice)
long_found [] rest name choice is = absurd (cc)
long_found (first ∷ choices) rest name choice is =
    long_by first choice choices rest name (bytes_eq first.name name) refl is (long_found choices rest name choice)

id_by : (first choice : Choice) (choices : List Choice) (rest : List Rule) (name : List ℕ) (test : Bool)
    → bytes_eq first.name name ≡ test
    → choice_named (first ∷ choices) name ≡ Some choice → (choice_named choices name ≡ Some choice
    → arg_by_id (map built_option choices ++ rest) name ≡ Some (built_option choice))
    → arg_by_id (map built_option (first ∷ choices) ++ rest) name ≡ Some (built_option choice)
id_by first choice choices rest name true test is later =
    let found : Some first ≡ Some choice = rw test at is in
    let same : first ≡ choice = cc in
    rw test (ap (λ c. Some (built_option c)) same)
id_by first choice choices rest name false test is later = rw test (later (rw test at is))

pub id_found : (choices : List Choice) (rest : List Rule) (name : List ℕ) (choice : Choice)
    → choice_named choices name ≡ Some choice
    → arg_by_id (map built_option choices ++ rest) name ≡ Some (built_option choice)
id_found [] rest name choice is = absurd (cc)
id_found (first ∷ choices) rest name choice is =
    id_by first choice choices rest name (bytes_eq first.name name) refl is (id_found choices rest name choice)

-- a name that isn't among others is none of them
pub not_among : (name first : List ℕ) (rest : List (List ℕ)) → is_among name (first ∷ rest) ≡ false
    → (bytes_eq first name ≡ false) × (is_among name rest ≡ false)
not_among name first rest is = at (bytes_eq first name) refl
  where
    at : (test : Bool) → bytes_eq first name ≡ test → (bytes_eq first name ≡ false) × (is_among name rest ≡ false)
    at true test = let wrong : true ≡ false = rw test at is in absurd (cc)
    at false test = (test, rw test at is)

id_in_operands : (i : ℕ) (places : List OperandRule) (k n : ℕ) (place : OperandRule) → n ≡ i + k
    → slice_get places k ≡ Some place
    → is_among place.name (take k (map place_name places)) ≡ false → bytes_eq place.name place.name ≡ true
    → arg_by_id (operands_from i places) place.name ≡ Some (built_operand n place)
id_in_operands i [] k n place at is fresh same = absurd (cc)
id_in_operands i (first ∷ places) zero n place at is fresh same =
    let first_is : first ≡ place = cc in
    let n_is : i ≡ n = omega arith in
    rw (first_is, same) (ap (λ m. Some (built_operand m place)) n_is)
id_in_operands i (first ∷ places) (suc k) n place at is fresh same =
    let parts = not_among place.name first.name (take k (map place_name places)) fresh in
    let other : bytes_eq first.name place.name ≡ false = parts.0 in
    rw other (id_in_operands (i + 1) places k n place (omega arith) is parts.1 same)

pub id_of_operand : (choices : List Choice) (i : ℕ) (places : List OperandRule) (k n : ℕ) (place : OperandRule)
    → n ≡ i + k → slice_get places k ≡ Some place
    → is_among place.name (map choice_name choices) ≡ false → is_among place.name
    (take k (map place_name places)) ≡ false → bytes_eq place.name place.name ≡ true
    → arg_by_id (map built_option choices ++ operands_from i places) place.name ≡ Some (built_operand n place)
id_of_operand [] i places k n place at is apart fresh same = id_in_operands i places k n place at is fresh same
id_of_operand (choice ∷ choices) i places k n place at is apart fresh same =
    let parts = not_among place.name choice.name (map choice_name choices) apart in
    let other : bytes_eq choice.name place.name ≡ false = parts.0 in
    rw other (id_of_operand choices i places k n place at is parts.1 fresh same)

index_in_operands : (i : ℕ) (places : List OperandRule) (k n : ℕ) (place : OperandRule) → n ≡ i + k
    → slice_get places k ≡ Some place
    → arg_by_index (operands_from i places) n ≡ Some (built_operand n place)
index_in_operands i [] k n place at is = absurd (cc)
index_in_operands i (first ∷ places) zero n place at is =
    let first_is : first ≡ place = cc in
    let test : (i == n) ≡ true = grind (arith, nat_tests) in
    let n_is : i ≡ n = omega arith in
    rw test (ap (λ m. Some (built_operand m first)) n_is ∙ ap (λ p. Some (built_operand n p)) first_is)
index_in_operands i (first ∷ places) (suc k) n place at is =
    let test : (i == n) ≡ false = grind (arith, nat_tests) in
    rw test (index_in_operands (i + 1) places k n place (omega arith) is)

pub index_of_operand : (choices : List Choice) (i : ℕ) (places : List OperandRule) (k n : ℕ) (place : OperandRule)
    → n ≡ i + k → slice_get places k ≡ Some place
    → arg_by_index (map built_option choices ++ operands_from i places) n ≡ Some (built_operand n place)
index_of_operand [] i places k n place at is = index_in_operands i places k n place at is
index_of_operand (choice ∷ choices) i places k n place at is = index_of_operand choices i places k n place at is

-- ---- tests over all built arguments

each_operand : (p : Rule → Bool) → ((i : ℕ) (place : OperandRule) → p (built_operand i place) ≡ true)
    → (i : ℕ) (places : List OperandRule) → list_all p (operands_from i places) ≡ true
each_operand p operand i [] = refl
each_operand p operand i (place ∷ places) = rw (operand i place) (each_operand p operand (i + 1) places)

pub each_rule : (p : Rule → Bool) → ((choice : Choice) → p (built_option choice) ≡ true)
    → ((i : ℕ) (place : OperandRule) → p (built_operand i place) ≡ true)
    → (choices : List Choice) (i : ℕ) (places : List OperandRule) → list_all p
    (map built_option choices ++ operands_from i places) ≡ true
each_rule p option operand [] i places = each_operand p operand i places
each_rule p option operand (choice ∷ choices) i places =
    rw (option choice) (each_rule p option operand choices i places)

no_operand : (p : Rule → Bool) → ((i : ℕ) (place : OperandRule) → p (built_operand i place) ≡ false)
    → (i : ℕ) (places : List OperandRule) → list_any p (operands_from i places) ≡ false
no_operand p operand i [] = refl
no_operand p operand i (place ∷ places) = rw (operand i place) (no_operand p operand (i + 1) places)

no_rule : (p : Rule → Bool) → ((choice : Choice) → p (built_option choice) ≡ false)
    → ((i : ℕ) (place : OperandRule) → p (built_operand i place) ≡ false)
    → (choices : List Choice) (i : ℕ) (places : List OperandRule) → list_any p
    (map built_option choices ++ operands_from i places) ≡ false
no_rule p option operand [] i places = no_operand p operand i places
no_rule p option operand (choice ∷ choices) i places = rw (option choice) (no_rule p option operand choices i places)

simple_options : (choices : List Choice) (places : List OperandRule)
    → list_all (λ (a : Rule). a.is_simple) (map option_rule choices ++ map operand_rule places) ≡ true
simple_options [] [] = refl
simple_options [] (place ∷ places) = simple_options [] places
simple_options (choice ∷ choices) places = simple_options choices places

pub in_order : (shape : CommandForm) → clap.is_in_order (built_rules shape) ≡ true
in_order shape =
    let n = count_by (λ (a : Rule). is_some a.index) (built_rules shape) in
    rw (no_rule (is_early_multiple n) (λ choice. refl) (λ i place. refl) shape.choices 1 shape.operands) refl

pub both_true : (a b : Bool) → a ≡ true → b ≡ true → (a && b) ≡ true
both_true true b is other = other
both_true false b is other = absurd (cc)

is_simple_by : CommandForm → clap.App → Bool
is_simple_by shape app =
    clap.is_buildable (app_for shape) && (clap.is_ready app.top && list_all clap.is_ready_leaf app.subs)

pub app_simple : (shape : CommandForm) → has_few_operands shape ≡ true → clap.is_simple (app_for shape) ≡ true
unfolding is_simple_by
app_simple shape few =
    let rules : list_all (λ (a : Rule). a.is_simple) (map option_rule shape.choices ++ map operand_rule
    shape.operands) ≡ true = simple_options shape.choices shape.operands in
    let built : list_all (λ (a : Rule). a.is_simple) (built_rules shape) ≡ true =
    each_rule (λ (a : Rule). a.is_simple) (λ choice. refl) (λ i place. refl) shape.choices 1 shape.operands in
    let buildable : clap.is_buildable (app_for shape) ≡ true = both_true _ true (both_true true _ refl rules) refl in
    let ready : clap.is_ready (built_shape shape) ≡ true =
    both_true _ _ (both_true true _ refl built) (in_order shape) in
    ap (is_simple_by shape) (app_built shape few) ∙ both_true (clap.is_buildable (app_for shape)) _ buildable
    (both_true (clap.is_ready (built_shape shape)) true ready refl)
