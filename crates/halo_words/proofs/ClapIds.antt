-- No two arguments of a command have one id, so each value is found under its own.
use Rattle.std.proofs.Common.{◌≡◌, ◌∙◌, ◌||◌, ℕ, zero, suc, Bool, true, false, not, List, [], ◌∷◌, ◌++◌, map, take}
use Rattle.std.proofs.Common.{slice_get, Some, refl, sym, ap, subst}
use Rattle.std.specs.Str.{bytes_eq}
use Rattle.std.proofs.lemmas.Bool.{and_parts}
use Rattle.std.proofs.lemmas.Slice.Eq.{bytes_eq-Decides}
use Rattle.halo_words.specs.Table.{Choice, OperandRule, CommandForm, choice_named}
use Rattle.halo_words.specs.Sound.{choice_name, place_name, are_apart, are_ids_apart}
use Rattle.halo_words.specs.Grammar.{is_among}
use Rattle.halo_words.proofs.LookUps.{among-append}
use Rattle.halo_words.proofs.ClapRules.{not_among}

pub or_parts : (a b : Bool) → (a || b) ≡ false → (a ≡ false) × (b ≡ false)
or_parts true b is = absurd (cc)
or_parts false b is = (refl, is)

not_true : (b : Bool) → not b ≡ true → b ≡ false
not_true true is = absurd (cc)
not_true false is = refl

pub true_or_false : {P : Type 0} (b : Bool) → (b ≡ true → P) → (b ≡ false → P) → P
true_or_false true so other = so refl
true_or_false false so other = other refl

-- the first of more names, or one of the others
pub among_first : (name first : List ℕ) (rest : List (List ℕ)) → bytes_eq first name ≡ true
    → is_among name (first ∷ rest) ≡ true
among_first name first rest is = rw is refl

pub among_rest : (name first : List ℕ) (rest : List (List ℕ)) → is_among name rest ≡ true
    → is_among name (first ∷ rest) ≡ true
among_rest name first rest is = true_or_false (bytes_eq first name) (λ test. rw test refl) (λ test. rw test is)

-- the name at a place is among them
pub get_among : (names : List (List ℕ)) (k : ℕ) (name : List ℕ) → slice_get names k ≡ Some name
    → is_among name names ≡ true
get_among [] k name is = absurd (cc)
get_among (first ∷ names) zero name is =
    let same : first ≡ name = cc in among_first name first names ((bytes_eq-Decides first name).1 same)
get_among (first ∷ names) (suc k) name is = among_rest name first names (get_among names k name is)

-- a name that is found is among the names of the options
pub choice_among : (choices : List Choice) (name : List ℕ) (choice : Choice) → choice_named choices name ≡ Some choice
    → is_among name (map choice_name choices) ≡ true
choice_among [] name choice is = absurd (cc)
choice_among (first ∷ choices) name choice is =
    true_or_false (bytes_eq first.name name) (λ test. among_first name first.name (map choice_name choices) test)
    (λ test. among_rest name first.name (map choice_name choices) (choice_among choices name choice (rw test at is)))

-- names of two parts are apart
first_apart : (xs ys : List (List ℕ)) → are_apart (xs ++ ys) ≡ true → (id : List ℕ) → is_among id xs ≡ true
    → is_among id ys ≡ false
first_apart [] ys apart id among = absurd (cc)
first_apart (x ∷ xs) ys apart id among =
    let parts = and_parts (not (is_among x (xs ++ ys))) (are_apart (xs ++ ys)) apart in
    let none : (is_among x xs || is_among x ys) ≡ false =
    sym (among-append x xs ys) ∙ not_true (is_among x (xs ++ ys)) parts.0 in
    let fresh = or_parts (is_among x xs) (is_among x ys) none in
    true_or_false (bytes_eq x id)
    (λ test. subst (λ n. is_among n ys ≡ false) ((bytes_eq-Decides x id).0 test) fresh.1)
    (λ test. first_apart xs ys parts.1 id (rw test at among))

second_apart : (xs ys : List (List ℕ)) → are_apart (xs ++ ys) ≡ true → are_apart ys ≡ true
second_apart [] ys apart = apart
second_apart (x ∷ xs) ys apart =
    second_apart xs ys (and_parts (not (is_among x (xs ++ ys))) (are_apart (xs ++ ys)) apart).1

fresh_at : (names : List (List ℕ)) (k : ℕ) (name : List ℕ) → are_apart names ≡ true → slice_get names k ≡ Some name
    → is_among name (take k names) ≡ false
fresh_at [] k name apart is = absurd (cc)
fresh_at (first ∷ names) zero name apart is = refl
fresh_at (first ∷ names) (suc k) name apart is =
    let parts = and_parts (not (is_among first names)) (are_apart names) apart in
    let fresh : is_among first names ≡ false = not_true (is_among first names) parts.0 in
    true_or_false (bytes_eq first name)
    (λ test.
    (let same : first ≡ name = (bytes_eq-Decides first name).0 test in
    let among : is_among name names ≡ true = get_among names k name is in
    let wrong : false ≡ true = sym fresh ∙ (ap (λ n. is_among n names) same ∙ among) in
    absurd (cc)))
    (λ test. rw test (fresh_at names k name parts.1 is))

taken_apart : (id : List ℕ) (names : List (List ℕ)) (k : ℕ) → is_among id names ≡ false
    → is_among id (take k names) ≡ false
taken_apart id names zero none = refl
taken_apart id [] (suc k) none = refl
taken_apart id (first ∷ names) (suc k) none =
    let parts = not_among id first names none in
    let other : bytes_eq first id ≡ false = parts.0 in
    rw other (taken_apart id names k parts.1)

pub name_at : (places : List OperandRule) (k : ℕ) (place : OperandRule) → slice_get places k ≡ Some place
    → slice_get (map place_name places) k ≡ Some place.name
name_at [] k place is = absurd (cc)
name_at (first ∷ places) zero place is = let same : first ≡ place = cc in ap (λ (p : OperandRule). Some p.name) same
name_at (first ∷ places) (suc k) place is = name_at places k place is

module _ (shape : CommandForm) (apart : are_ids_apart shape ≡ true) where
  abbrev choice_names : List (List ℕ)
  choice_names = map choice_name shape.choices

  abbrev place_names : List (List ℕ)
  place_names = map place_name shape.operands

  -- an option's name is no operand's
  pub option_is_no_operand : (id : List ℕ) → is_among id (map choice_name shape.choices) ≡ true
      → is_among id (map place_name shape.operands) ≡ false
  option_is_no_operand id among = first_apart choice_names place_names apart id among

  pub option_is_not_taken : (id : List ℕ) (k : ℕ) → is_among id (map choice_name shape.choices) ≡ true
      → is_among id (take k (map place_name shape.operands)) ≡ false
  option_is_not_taken id k among = taken_apart id place_names k (option_is_no_operand id among)

  pub operand_is_no_option : (k : ℕ) (place : OperandRule) → slice_get shape.operands k ≡ Some place
      → is_among place.name (map choice_name shape.choices) ≡ false
  operand_is_no_option k place is =
      true_or_false (is_among place.name choice_names)
      (λ among.
      (let found : is_among place.name place_names ≡ true =
      get_among place_names k place.name (name_at shape.operands k place is) in
      let wrong : true ≡ false = sym found ∙ option_is_no_operand place.name among in
      absurd (cc)))
      (λ none. none)

  pub operand_is_not_taken : (k : ℕ) (place : OperandRule) → slice_get shape.operands k ≡ Some place
      → is_among place.name (take k (map place_name shape.operands)) ≡ false
  operand_is_not_taken k place is =
      fresh_at place_names k place.name (second_apart choice_names place_names apart)
      (name_at shape.operands k place is)
