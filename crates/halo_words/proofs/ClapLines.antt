-- A line that the grammar has is taken by clap, and the values that it finds are those of the items.
use Rattle.std.proofs.Common.{◌≡◌, ◌∙◌, ◌&&◌, ◌||◌, ◌+◌, ◌<◌, ℕ, zero, suc, Bool, true, false, not, cond, List, [], ◌∷◌}
use Rattle.std.proofs.Common.{◌++◌, length, map, take, slice_get, Some, refl, sym, ap, subst, arith, zero-add}
use Rattle.std.specs.Prelude.{find, fold, unwrap_or}
use Rattle.std.specs.List.{list_all}
use Rattle.std.specs.Option.{option_and_then}
use Rattle.std.specs.Str.{bytes_eq}
use Rattle.std.proofs.lemmas.Slice.Eq.{bytes_eq-Decides}
use Rattle.clap.specs.declared.parser.matches.Found.{Found}
use Rattle.clap.specs.Matches.{first_value}
use Rattle.clap.specs.Walk.{Rule, Row, Held, first_of, rows_of, has_row, settled, Walk, walk, walk_from, nothing_held}
use Rattle.clap.specs.Walk.{with_default, finished}
use Rattle.clap.specs.Simple.{App, is_simple, built, matches_of, names_of}
use Rattle.clap.specs.Takes.{is_given, is_valid, default_passes, settle_passes, walk_passes, level_passes, built_takes}
use Rattle.clap.specs.Takes.{takes}
use Rattle.clap.proofs.TakesLemmas.{leaf_takes}
use Rattle.clap.proofs.WalkLemmas.{first_value-rows}
use Rattle.halo_words.specs.Table.{Choice, OperandRule, CommandForm}
use Rattle.halo_words.specs.Sound.{choice_name, place_name, is_sound_shape, are_ids_apart, has_few_operands}
use Rattle.halo_words.specs.Grammar.{Item, Given, is_among, line_of, Complete, value_given, operands_of, option_by}
use Rattle.halo_words.specs.Grammar.{given_by}
use Rattle.halo_words.specs.Grammar.Item.{Apart, Joined, Operand}
use Rattle.halo_words.specs.Apps.{app_for, option_found, operand_found, given_found}
use Rattle.halo_words.proofs.ClapRules.{built_option, operands_from, built_rules, built_shape, built_app, app_built}
use Rattle.halo_words.proofs.ClapRules.{app_simple, each_rule, both_true}
use Rattle.halo_words.proofs.ClapWalk.{row}
use Rattle.halo_words.proofs.ClapIds.{true_or_false, get_among, choice_among, name_at, operand_is_no_option}
use Rattle.halo_words.proofs.ClapIds.{operand_is_not_taken}
use Rattle.halo_words.proofs.ClapItems.{id_at, item_rows, Walks, walks, stands_at_start}
use Rattle.halo_words.proofs.Items.{get_below, get_within}

cond_same : {X : Type 0} (b : Bool) (x : X) → cond b x x ≡ x
cond_same true x = refl
cond_same false x = refl

-- no argument has a default of clap's
operands_keep : (i : ℕ) (places : List OperandRule) (rows : List Row)
    → fold with_default rows (operands_from i places) ≡ rows
operands_keep i [] rows = refl
operands_keep i (place ∷ places) rows =
    ap (λ r. fold with_default r (operands_from (i + 1) places)) (cond_same (has_row place.name rows) rows)
    ∙ operands_keep (i + 1) places rows

rules_keep : (choices : List Choice) (i : ℕ) (places : List OperandRule) (rows : List Row)
    → fold with_default rows (map built_option choices ++ operands_from i places) ≡ rows
rules_keep [] i places rows = operands_keep i places rows
rules_keep (choice ∷ choices) i places rows =
    ap (λ r. fold with_default r (map built_option choices ++ operands_from i places))
    (cond_same (has_row choice.name rows) rows) ∙ rules_keep choices i places rows

-- what is required was given
abbrev is_there : List Row → Rule → Bool
is_there rows a = not a.required || is_given a.id rows

operands_there : (i : ℕ) (places : List OperandRule) (rows : List Row)
    → ((j : ℕ) (place : OperandRule) → slice_get places j ≡ Some place → is_given place.name rows ≡ true)
    → list_all (is_there rows) (operands_from i places) ≡ true
operands_there i [] rows given = refl
operands_there i (place ∷ places) rows given =
    let here : is_given place.name rows ≡ true = given 0 place refl in
    rw here (operands_there (i + 1) places rows (λ j p is. given (suc j) p is))

all_there : (choices : List Choice) (i : ℕ) (places : List OperandRule) (rows : List Row)
    → ((j : ℕ) (place : OperandRule) → slice_get places j ≡ Some place → is_given place.name rows ≡ true)
    → list_all (is_there rows) (map built_option choices ++ operands_from i places) ≡ true
all_there [] i places rows given = operands_there i places rows given
all_there (choice ∷ choices) i places rows given = all_there choices i places rows given

-- lists that are alike at each place
map_same : {X Y : Type 0} (f g : X → Y) (xs : List X) → ((j : ℕ) (x : X) → slice_get xs j ≡ Some x → f x ≡ g x)
    → map f xs ≡ map g xs
map_same f g [] same = refl
map_same f g (x ∷ xs) same =
    ap (λ y. y ∷ map f xs) (same 0 x refl) ∙ ap (λ ys. g x ∷ ys) (map_same f g xs (λ j y is. same (suc j) y is))

map_to : (f : OperandRule → List ℕ) (places : List OperandRule) (words : List (List ℕ)) → length places ≡ length words
    → ((j : ℕ) (place : OperandRule) → slice_get places j ≡ Some place → slice_get words j ≡ Some (f place))
    → map f places ≡ words
map_to f [] [] lengths same = refl
map_to f [] (w ∷ words) lengths same = absurd (omega arith)
map_to f (place ∷ places) [] lengths same = absurd (omega arith)
map_to f (place ∷ places) (w ∷ words) lengths same =
    let here : Some w ≡ Some (f place) = same 0 place refl in
    let first : f place ≡ w = cc in
    ap (λ v. v ∷ map f places) first ∙ ap (λ ws. w ∷ ws) (map_to f places words (omega arith)
    (λ j p is. same (suc j) p is))

choice_at : (choices : List Choice) (j : ℕ) (choice : Choice) → slice_get choices j ≡ Some choice
    → slice_get (map choice_name choices) j ≡ Some choice.name
choice_at [] j choice is = absurd (cc)
choice_at (first ∷ choices) zero choice is = let same : first ≡ choice = cc in ap (λ (c : Choice). Some c.name) same
choice_at (first ∷ choices) (suc j) choice is = choice_at choices j choice is

-- a name below a place is among the first ones
get_taken : (names : List (List ℕ)) (i k : ℕ) (name : List ℕ) → i < k → slice_get names i ≡ Some name
    → is_among name (take k names) ≡ true
get_taken names i zero name below is = absurd (omega arith)
get_taken [] i (suc k) name below is = absurd (cc)
get_taken (first ∷ names) zero (suc k) name below is =
    let same : first ≡ name = cc in
    let test : bytes_eq first name ≡ true = (bytes_eq-Decides first name).1 same in
    rw test refl
get_taken (first ∷ names) (suc i) (suc k) name below is =
    true_or_false (bytes_eq first name) (λ test. rw test refl)
    (λ test. rw test (get_taken names i k name (omega arith) is))

-- names of which one is among others and one isn't
differ : (names : List (List ℕ)) (a b : List ℕ) → is_among a names ≡ true → is_among b names ≡ false
    → bytes_eq a b ≡ false
differ names a b in_them not_in = true_or_false (bytes_eq a b)
    (λ test.
    (let same : a ≡ b = (bytes_eq-Decides a b).0 test in
    let wrong : true ≡ false = sym in_them ∙ (ap (λ n. is_among n names) same ∙ not_in) in
    absurd (cc)))
    (λ test. test)

differ_back : (names : List (List ℕ)) (a b : List ℕ) → is_among a names ≡ true → is_among b names ≡ false
    → bytes_eq b a ≡ false
differ_back names a b in_them not_in = true_or_false (bytes_eq b a)
    (λ test.
    (let same : b ≡ a = (bytes_eq-Decides b a).0 test in
    let wrong : true ≡ false = sym in_them ∙ (ap (λ n. is_among n names) (sym same) ∙ not_in) in
    absurd (cc)))
    (λ test. test)

module _ (shape : CommandForm) (sound : is_sound_shape shape ≡ true) (apart : are_ids_apart shape ≡ true)
    (few : has_few_operands shape ≡ true) where
  -- ---- the values in the rows

  count_is : (items : List Item) (seen : List (List ℕ)) (count : ℕ) → Complete shape seen count items
      → length shape.operands ≡ count + length (operands_of items)
  count_is [] seen count complete = omega (arith, complete)
  count_is (Apart name value ∷ items) seen count (gives, rest) = count_is items (seen ++ name ∷ []) count rest
  count_is (Joined name value ∷ items) seen count (gives, rest) = count_is items (seen ++ name ∷ []) count rest
  count_is (Operand word ∷ items) seen count (is, rest) = let later =
      count_is items seen (count + 1) rest in omega arith

  option_row : (name given value : List ℕ) (rows : List Row) (items : List Item)
      → first_of name rows ≡ value_given name items
      → first_of name (row given value ∷ rows) ≡ value_given name (Apart given value ∷ items)
  option_row name given value rows items later =
      true_or_false (bytes_eq given name) (λ test. rw test refl) (λ test. rw test later)

  option_value : (name : List ℕ) → is_among name (map choice_name shape.choices) ≡ true
      → (items : List Item) (seen : List (List ℕ)) (count : ℕ) → Complete shape seen count items
      → first_of name (item_rows shape count items) ≡ value_given name items
  option_value name among [] seen count complete = refl
  option_value name among (Apart given value ∷ items) seen count (gives, rest) =
      option_row name given value (item_rows shape count items) items
      (option_value name among items (seen ++ given ∷ []) count rest)
  option_value name among (Joined given value ∷ items) seen count (gives, rest) =
      option_row name given value (item_rows shape count items) items
      (option_value name among items (seen ++ given ∷ []) count rest)
  option_value name among (Operand word ∷ items) seen count ((place, is, fit), rest) =
      let id : id_at shape.operands count ≡ place.name = rw is refl in
      let other : bytes_eq (id_at shape.operands count) name ≡ false =
      rw id (differ_back (map choice_name shape.choices) name place.name among
      (operand_is_no_option shape apart count place is)) in
      rw other (option_value name among items seen (count + 1) rest)

  operand_row : (k : ℕ) (place : OperandRule) → slice_get shape.operands k ≡ Some place
      → (items : List Item) (seen : List (List ℕ)) (count j : ℕ) (word : List ℕ) → Complete shape seen count items
      → k ≡ count + j → slice_get (operands_of items) j ≡ Some word
      → find (λ (r : Row). bytes_eq r.id place.name) (item_rows shape count items) ≡ Some (row place.name word)
  operand_row k place at [] seen count j word complete where_is given = absurd (cc)
  operand_row k place at (Apart name value ∷ items) seen count j word
      ((fresh, (choice, is, fit)), rest) where_is given =
      let other : bytes_eq name place.name ≡ false =
      differ (map choice_name shape.choices) name place.name (choice_among shape.choices name choice is)
      (operand_is_no_option shape apart k place at) in
      rw other (operand_row k place at items (seen ++ name ∷ []) count j word rest where_is given)
  operand_row k place at (Joined name value ∷ items) seen count j word
      ((fresh, (choice, is, fit)), rest) where_is given =
      let other : bytes_eq name place.name ≡ false =
      differ (map choice_name shape.choices) name place.name (choice_among shape.choices name choice is)
      (operand_is_no_option shape apart k place at) in
      rw other (operand_row k place at items (seen ++ name ∷ []) count j word rest where_is given)
  operand_row k place at (Operand first ∷ items) seen count zero word ((here, is, fit), rest) where_is given =
      let place_is : k ≡ count = omega arith in
      let found : Some place ≡ Some here = sym at ∙ (ap (slice_get shape.operands) place_is ∙ is) in
      let same : here ≡ place = cc in
      let id : id_at shape.operands count ≡ place.name = rw is (ap (λ (p : OperandRule). p.name) same) in
      let word_is : first ≡ word = cc in
      let itself : bytes_eq place.name place.name ≡ true = (bytes_eq-Decides place.name place.name).1 refl in
      rw (id, itself) (ap (λ w. Some (row place.name w)) word_is)
  operand_row k place at (Operand first ∷ items) seen count (suc j) word ((here, is, fit), rest) where_is given =
      let id : id_at shape.operands count ≡ here.name = rw is refl in
      let other : bytes_eq (id_at shape.operands count) place.name ≡ false =
      rw id (differ (take k (map place_name shape.operands)) here.name place.name
      (get_taken (map place_name shape.operands) count k here.name (omega arith)
      (name_at shape.operands count here is)) (operand_is_not_taken shape apart k place at)) in
      rw other (operand_row k place at items seen (count + 1) j word rest (omega arith) given)

  module _ (items : List Item) (complete : Complete shape [] 0 items) where
    rows : List Row
    rows = item_rows shape 0 items

    operand_value : (k : ℕ) (place : OperandRule) → slice_get shape.operands k ≡ Some place
        → (word : List ℕ) × (slice_get (operands_of items) k ≡ Some word)
        × (find (λ (r : Row). bytes_eq r.id place.name) (item_rows shape 0 items) ≡ Some (row place.name word))
    operand_value k place at =
        let count = count_is items [] 0 complete in
        let within = get_within shape.operands k place at in
        let word = get_below (operands_of items) k (omega arith) in
        (word.0, word.1, operand_row k place at items [] 0 k word.0 complete (omega arith) word.1)

    given_operand : (k : ℕ) (place : OperandRule) → slice_get shape.operands k ≡ Some place
        → is_given place.name (item_rows shape 0 items) ≡ true
    given_operand k place at = rw (operand_value k place at).2 refl

    -- ---- clap takes the line

    whole : Walks shape sound apart few nothing_held 0 [] items
    whole = walks shape sound apart few items [] 0 nothing_held [] complete
        (record { rows_are = refl; passes = refl }) (stands_at_start shape)

    held_is : (walk (built_rules shape) [] nothing_held (line_of items)).held ≡ whole.last
    held_is = ap (λ (w : Walk). w.held) whole.goes.leads

    finished_is : finished (built_rules shape) whole.last ≡ item_rows shape 0 items
    finished_is = rules_keep shape.choices 1 shape.operands (settled (built_rules shape) whole.last).rows
        ∙ whole.holds.rows_are

    valid_rows : is_valid (built_shape shape) (item_rows shape 0 items) false ≡ true
    valid_rows =
        let free : list_all (λ (a : Rule). a.is_free) (built_rules shape) ≡ true =
        each_rule (λ (a : Rule). a.is_free) (λ choice. refl) (λ i place. refl) shape.choices 1 shape.operands in
        both_true (list_all (λ (a : Rule). a.is_free) (built_rules shape))
        (list_all (is_there (item_rows shape 0 items)) (built_rules shape)) free
        (all_there shape.choices 1 shape.operands (item_rows shape 0 items) given_operand)

    passes_with : Held → Bool
    passes_with end =
        walk_passes (built_shape shape) [] (walk_from nothing_held) (line_of items)
        && (settle_passes (built_rules shape) false end
        && (list_all default_passes (built_rules shape) && is_valid (built_shape shape)
        (finished (built_rules shape) end) false))

    level : level_passes (built_shape shape) [] nothing_held (line_of items) false ≡ true
    unfolding passes_with
    level =
        let defaults : list_all default_passes (built_rules shape) ≡ true =
        each_rule default_passes (λ choice. refl) (λ i place. refl) shape.choices 1 shape.operands in
        let valid : is_valid (built_shape shape) (finished (built_rules shape) whole.last) false ≡ true =
        ap (λ r. is_valid (built_shape shape) r false) finished_is ∙ valid_rows in
        ap passes_with held_is
        ∙ both_true (walk_passes (built_shape shape) [] (walk_from nothing_held) (line_of items)) _ whole.goes.passes
        (both_true (settle_passes (built_rules shape) false whole.last) _ whole.holds.passes
        (both_true (list_all default_passes (built_rules shape)) _ defaults valid))

    pub line_taken : takes (app_for shape) (shape.word ∷ line_of items) ≡ true
    line_taken =
        both_true (is_simple (app_for shape)) (built_takes (built (app_for shape)) nothing_held (line_of items))
        (app_simple shape few)
        (subst (λ a. built_takes a nothing_held (line_of items) ≡ true) (sym (app_built shape few))
        (leaf_takes (built_app shape) nothing_held (line_of items) refl level))

    rows_by : App → List Row
    rows_by app = finished app.top.rules (walk app.top.rules (names_of app) nothing_held (line_of items)).held

    pub line_rows : matches_of (app_for shape) (shape.word ∷ line_of items) ≡ item_rows shape 0 items
    unfolding rows_by
    line_rows = ap rows_by (app_built shape few) ∙ (ap (finished (built_rules shape)) held_is ∙ finished_is)

    -- the values that are found are those of the items
    module _ (found : Found) (is : rows_of found ≡ matches_of (app_for shape) (shape.word ∷ line_of items)) where
      first_is : (id : List ℕ) → first_value found id ≡ first_of id (item_rows shape 0 items)
      first_is id = first_value-rows found id ∙ ap (first_of id) (is ∙ line_rows)

      option_is : (j : ℕ) (choice : Choice) → slice_get shape.choices j ≡ Some choice
          → option_found found choice ≡ option_by items choice
      option_is j choice at =
          let among : is_among choice.name (map choice_name shape.choices) ≡ true =
          get_among (map choice_name shape.choices) j choice.name (choice_at shape.choices j choice at) in
          ap (λ o. (let pair : List ℕ × List ℕ = (choice.name, unwrap_or o choice.default) in pair))
          (first_is choice.name ∙ option_value choice.name among items [] 0 complete)

      operand_is : (k : ℕ) (place : OperandRule) → slice_get shape.operands k ≡ Some place
          → slice_get (operands_of items) k ≡ Some (operand_found found place)
      operand_is k place at =
          let value = operand_value k place at in
          let first : first_value found place.name ≡ Some value.0 =
          first_is place.name ∙ ap (option_and_then (λ (r : Row). slice_get r.values 0)) value.2 in
          value.1 ∙ ap (λ o. Some (unwrap_or o [])) (sym first)

      pub values_found : given_found shape found ≡ given_by shape items
      values_found =
          let options : map (option_found found) shape.choices ≡ map (option_by items) shape.choices =
          map_same (option_found found) (option_by items) shape.choices option_is in
          let operands : map (operand_found found) shape.operands ≡ operands_of items =
          map_to (operand_found found) shape.operands (operands_of items)
          (count_is items [] 0 complete ∙ zero-add (length (operands_of items))) operand_is in
          ap (λ o. (let given : Given =
          record { options = o; operands = map (operand_found found) shape.operands } in given)) options
          ∙ ap (λ o. (let given : Given =
          record { options = map (option_by items) shape.choices; operands = o } in given)) operands
