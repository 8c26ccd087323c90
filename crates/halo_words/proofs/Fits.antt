-- Each value that a line gives is one that its option or operand may have.
use Rattle.std.proofs.Common.{◌≡◌, ◌∙◌, ◌+◌, ℕ, zero, suc, Bool, true, false, List, [], ◌∷◌, ◌++◌, map, slice_get}
use Rattle.std.proofs.Common.{Option, Some, None, option_map, refl, sym, ap, subst, arith}
use Rattle.std.specs.Prelude.{unwrap_or}
use Rattle.std.specs.List.{list_all}
use Rattle.std.specs.Str.{bytes_eq}
use Rattle.std.proofs.lemmas.Bool.{and_parts}
use Rattle.std.proofs.lemmas.Slice.Eq.{bytes_eq-Decides}
use Rattle.halo_words.specs.Table.{Choice, OperandRule, CommandForm, fits, choice_named, shape_named, the_table}
use Rattle.halo_words.specs.Sound.{is_name, is_sound_choice, is_sound_place, is_sound_shape}
use Rattle.halo_words.specs.Grammar.{Item, Asked, Gives, Complete, value_given, operands_of, option_by, given_by}
use Rattle.halo_words.specs.Grammar.{value_in, option_in, operand_in, AsksFor}
use Rattle.halo_words.specs.Grammar.Item.{Apart, Joined, Operand}
use Rattle.halo_words.proofs.ClapIds.{true_or_false}
use Rattle.halo_words.proofs.Items.{choice_sound, get_within}
use Rattle.halo_words.proofs.TableLines.{table_sound, shape_sound}

value_or : List Item → Choice → List ℕ
value_or items choice = unwrap_or (value_given choice.name items) choice.default

value_by : (items : List Item) (first : Choice) (choices : List Choice) (name : List ℕ) (test : Bool)
    → bytes_eq first.name name ≡ test
    → value_in (map (option_by items) choices) name ≡ option_map (value_or items) (choice_named choices name)
    → value_in (map (option_by items) (first ∷ choices)) name ≡ option_map (value_or items)
    (choice_named (first ∷ choices) name)
unfolding value_or
value_by items first choices name true test later = rw test refl
value_by items first choices name false test later = rw test later

-- the value of the option of a name is that of the first option of the name
value_found : (items : List Item) (choices : List Choice) (name : List ℕ)
    → value_in (map (option_by items) choices) name ≡ option_map (value_or items) (choice_named choices name)
value_found items [] name = refl
value_found items (first ∷ choices) name =
    value_by items first choices name (bytes_eq first.name name) refl (value_found items choices name)

module _ (shape : CommandForm) (sound : is_sound_shape shape ≡ true) where
  choices_sound : list_all is_sound_choice shape.choices ≡ true
  choices_sound = (and_parts (list_all is_sound_choice shape.choices) (list_all is_sound_place shape.operands) sound).0

  module _ (name : List ℕ) (choice : Choice) (is : choice_named shape.choices name ≡ Some choice) where
    -- a value of another item, or of this one
    option_by_name : (given : List ℕ) (v value : List ℕ) (seen : List (List ℕ)) (items : List Item)
        → Gives shape seen given v
        → value_given name (Apart given v ∷ items) ≡ Some value
        → (value_given name items ≡ Some value → fits choice.kind value ≡ true) → fits choice.kind value ≡ true
    option_by_name given v value seen items (fresh, (other, named, fit)) found later =
        true_or_false (bytes_eq given name)
        (λ test.
        (let same : given ≡ name = (bytes_eq-Decides given name).0 test in
        let both : Some other ≡ Some choice = sym named ∙ (ap (choice_named shape.choices) same ∙ is) in
        let choice_is : other ≡ choice = cc in
        let here : Some v ≡ Some value = rw test at found in
        let value_is : v ≡ value = cc in
        subst (λ x. fits choice.kind x ≡ true) value_is (subst (λ (c : Choice). fits c.kind v ≡ true) choice_is fit)))
        (λ test. later (rw test at found))

    given_fits : (items : List Item) (seen : List (List ℕ)) (count : ℕ) → Complete shape seen count items
        → (value : List ℕ) → value_given name items ≡ Some value → fits choice.kind value ≡ true
    given_fits [] seen count complete value found = absurd (cc)
    given_fits (Apart given v ∷ items) seen count (gives, rest) value found =
        option_by_name given v value seen items gives found (given_fits items (seen ++ given ∷ []) count rest value)
    given_fits (Joined given v ∷ items) seen count (gives, rest) value found =
        option_by_name given v value seen items gives found (given_fits items (seen ++ given ∷ []) count rest value)
    given_fits (Operand word ∷ items) seen count (operand, rest) value found =
        given_fits items seen (count + 1) rest value found

    pub option_fits : (items : List Item) → Complete shape [] 0 items
        → fits choice.kind (option_in (given_by shape items) name) ≡ true
    unfolding value_or
    option_fits items complete =
        let found = choice_sound shape.choices name choice choices_sound is in
        let value : option_in (given_by shape items) name ≡ value_or items choice =
        ap (λ o. unwrap_or o []) (value_found items shape.choices name ∙ ap (option_map (value_or items)) is) in
        let default : fits choice.kind choice.default ≡ true =
        (and_parts (is_name choice.name) (fits choice.kind choice.default) found.1).1 in
        subst (λ v. fits choice.kind v ≡ true) (sym value)
        (subst (λ n. fits choice.kind (unwrap_or (value_given n items) choice.default) ≡ true) (sym found.0)
        (by_value (value_given name items) refl default))
      where
        by_value : (o : Option (List ℕ)) → value_given name items ≡ o → fits choice.kind choice.default ≡ true
            → fits choice.kind (unwrap_or o choice.default) ≡ true
        by_value None none default = default
        by_value (Some value) some default = given_fits items [] 0 complete value some

  operand_at : (k : ℕ) (place : OperandRule) → slice_get shape.operands k ≡ Some place
      → (items : List Item) (seen : List (List ℕ)) (count j : ℕ)
      → Complete shape seen count items → k ≡ count + j → fits place.kind
      (unwrap_or (slice_get (operands_of items) j) []) ≡ true
  operand_at k place at [] seen count j complete where_is =
      let within = get_within shape.operands k place at in absurd (omega (arith, complete))
  operand_at k place at (Apart name value ∷ items) seen count j (gives, rest) where_is =
      operand_at k place at items (seen ++ name ∷ []) count j rest where_is
  operand_at k place at (Joined name value ∷ items) seen count j (gives, rest) where_is =
      operand_at k place at items (seen ++ name ∷ []) count j rest where_is
  operand_at k place at (Operand word ∷ items) seen count zero ((here, is, fit), rest) where_is =
      let place_is : k ≡ count = omega arith in
      let found : Some place ≡ Some here = sym at ∙ (ap (slice_get shape.operands) place_is ∙ is) in
      let same : here ≡ place = cc in
      subst (λ (p : OperandRule). fits p.kind word ≡ true) same fit
  operand_at k place at (Operand word ∷ items) seen count (suc j) (operand, rest) where_is =
      operand_at k place at items seen (count + 1) j rest (omega arith)

  pub operand_fits : (k : ℕ) (place : OperandRule) → slice_get shape.operands k ≡ Some place → (items : List Item)
      → Complete shape [] 0 items
      → fits place.kind (operand_in (given_by shape items) k) ≡ true
  operand_fits k place at items complete = operand_at k place at items [] 0 k complete (omega arith)

-- what a line gives, by the command of its word
module _ (words : List (List ℕ)) (asked : Asked) (shape : CommandForm) (asks : AsksFor the_table words asked)
    (named : shape_named the_table asked.word ≡ Some shape) where
  shape_is : asks.shape ≡ shape
  shape_is = let both : Some asks.shape ≡ Some shape = sym asks.command ∙ named in cc

  complete : Complete shape [] 0 asks.items
  complete = subst (λ s. Complete s [] 0 asks.items) shape_is asks.line.complete

  given_is : asked.given ≡ given_by shape asks.items
  given_is = asks.given ∙ ap (λ s. given_by s asks.items) shape_is

  sound : is_sound_shape shape ≡ true
  sound = shape_sound the_table table_sound asked.word shape named

  pub option_of_line_fits : (name : List ℕ) (choice : Choice) → choice_named shape.choices name ≡ Some choice
      → fits choice.kind (option_in asked.given name) ≡ true
  option_of_line_fits name choice is =
      subst (λ g. fits choice.kind (option_in g name) ≡ true) (sym given_is)
      (option_fits shape sound name choice is asks.items complete)

  pub operand_of_line_fits : (k : ℕ) (place : OperandRule) → slice_get shape.operands k ≡ Some place
      → fits place.kind (operand_in asked.given k) ≡ true
  operand_of_line_fits k place at =
      subst (λ g. fits place.kind (operand_in g k) ≡ true) (sym given_is)
      (operand_fits shape sound k place at asks.items complete)
