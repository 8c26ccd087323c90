-- clap takes a line's words, and finds the value of each option and operand that the items give.
use Rattle.std.proofs.Common.{◌≡◌, ◌∙◌, ◌||◌, ◌+◌, ◌<◌, ◌≤◌, ℕ, Bool, true, false, List, [], ◌∷◌, ◌++◌, length, map}
use Rattle.std.proofs.Common.{take, slice_get, Some, codes, refl, sym, ap, subst, arith, append-nil, append_assoc}
use Rattle.std.proofs.Common.{add-one}
use Rattle.std.specs.List.{list_all, list_any}
use Rattle.std.specs.Option.{option_map_or}
use Rattle.std.specs.Str.{bytes_eq}
use Rattle.std.proofs.lemmas.Bool.{and_parts}
use Rattle.std.proofs.lemmas.Bool.Decides.{nat_tests}
use Rattle.std.proofs.lemmas.Slice.Eq.{bytes_eq-Decides}
use Rattle.clap.specs.Walk.{Row, Held, idle, arg_by_id, has_row, settled}
use Rattle.clap.specs.Takes.{walk_passes}
use Rattle.halo_words.specs.Table.{Choice, OperandRule, CommandForm, is_plain, has_kind, choice_named}
use Rattle.halo_words.specs.Sound.{choice_name, place_name, is_sound_choice, is_sound_place, is_sound_shape}
use Rattle.halo_words.specs.Sound.{are_ids_apart, has_few_operands, is_name}
use Rattle.halo_words.specs.Grammar.{Item, is_among, line_of, Complete}
use Rattle.halo_words.specs.Grammar.Item.{Apart, Joined, Operand}
use Rattle.halo_words.proofs.ClapRules.{built_operand, built_rules, id_of_operand}
use Rattle.halo_words.proofs.ClapWalk.{row, walk_at, Goes, goes_on, Holds, pends, has_used, operand_turn, joined_turn}
use Rattle.halo_words.proofs.ClapWalk.{apart_turn, value_turn, pending_option, used_option, pending_operand}
use Rattle.halo_words.proofs.ClapIds.{true_or_false, choice_among, name_at, option_is_not_taken, operand_is_no_option}
use Rattle.halo_words.proofs.ClapIds.{operand_is_not_taken}
use Rattle.halo_words.proofs.Items.{choice_sound, name_sound, get_within}
use Rattle.halo_words.proofs.LookUps.{among-append}
use Rattle.halo_words.proofs.Loops.{take-get}

any-append : (p : Row → Bool) (xs ys : List Row) → list_any p (xs ++ ys) ≡ (list_any p xs || list_any p ys)
any-append p [] ys = refl
any-append p (x ∷ xs) ys = at (p x) (any-append p xs ys)
  where
    at : (b : Bool) → list_any p (xs ++ ys) ≡ (list_any p xs || list_any p ys)
        → (b || list_any p (xs ++ ys)) ≡ ((b || list_any p xs) || list_any p ys)
    at true later = refl
    at false later = later

or_swap : (a p n : Bool) → ((a || p) || n) ≡ ((a || n) || p)
or_swap true p n = refl
or_swap false true true = refl
or_swap false true false = refl
or_swap false false true = refl
or_swap false false false = refl

or_assoc : (a p n : Bool) → ((a || p) || n) ≡ (a || (p || n))
or_assoc true p n = refl
or_assoc false p n = refl

-- a row of one id, and a list of one name
one_row : (id name value : List ℕ) → has_row id (row name value ∷ []) ≡ is_among id (name ∷ [])
one_row id name value = true_or_false (bytes_eq name id) (λ test. rw test refl) (λ test. rw test refl)

-- the id of the operand at a place
abbrev pub id_at : List OperandRule → ℕ → List ℕ
id_at places count = option_map_or place_name (slice_get places count) []

module _ (shape : CommandForm) where
  abbrev pub item_rows : ℕ → List Item → List Row
  item_rows count [] = []
  item_rows count (Apart name value ∷ items) = row name value ∷ item_rows count items
  item_rows count (Joined name value ∷ items) = row name value ∷ item_rows count items
  item_rows count (Operand word ∷ items) = row (id_at shape.operands count) word ∷ item_rows (count + 1) items

  -- the options that were given are the command's, and they and the first operands have their rows
  pub record Stands (seen : List (List ℕ)) (count : ℕ) (rows : List Row) : Type 0 where
    pub own : (id : List ℕ) → is_among id seen ≡ true → is_among id (map choice_name shape.choices) ≡ true
    pub ids : (id : List ℕ) → has_row id rows ≡ (is_among id seen || is_among id
        (take count (map place_name shape.operands)))

  pub stands_at_start : Stands [] 0 []
  stands_at_start = record { own = λ id among. absurd (cc); ids = λ id. refl }

  option_stands : (seen : List (List ℕ)) (count : ℕ) (rows : List Row) (name value : List ℕ)
      → is_among name (map choice_name shape.choices) ≡ true
      → Stands seen count rows → Stands (seen ++ name ∷ []) count (rows ++ row name value ∷ [])
  option_stands seen count rows name value among stands = record {
    own = λ id is. own_by id (is_among id seen) refl (sym (among-append id seen (name ∷ [])) ∙ is);
    ids = λ id.
        any-append (λ (r : Row). bytes_eq r.id id) rows (row name value ∷ [])
        ∙ (ap (λ b. b || has_row id (row name value ∷ [])) (stands.ids id)
        ∙ (or_swap (is_among id seen) (is_among id (take count (map place_name shape.operands)))
        (has_row id (row name value ∷ []))
        ∙ (ap (λ b. (is_among id seen || b) || is_among id (take count (map place_name shape.operands)))
        (one_row id name value)
        ∙ ap (λ b. b || is_among id (take count (map place_name shape.operands)))
        (sym (among-append id seen (name ∷ []))))));
  }
    where
      own_by : (id : List ℕ) (b : Bool) → is_among id seen ≡ b → (b || is_among id (name ∷ [])) ≡ true
          → is_among id (map choice_name shape.choices) ≡ true
      own_by id true is either = stands.own id is
      own_by id false is either = true_or_false (bytes_eq name id)
          (λ test. subst (λ n. is_among n (map choice_name shape.choices) ≡ true)
          ((bytes_eq-Decides name id).0 test) among)
          (λ test. (let wrong : false ≡ true = rw test at either in absurd (cc)))

  operand_stands : (seen : List (List ℕ)) (count : ℕ) (rows : List Row) (place : OperandRule) (word : List ℕ)
      → slice_get shape.operands count ≡ Some place
      → Stands seen count rows → Stands seen (count + 1) (rows ++ row place.name word ∷ [])
  operand_stands seen count rows place word is stands = record {
    own = stands.own;
    ids = λ id.
        any-append (λ (r : Row). bytes_eq r.id id) rows (row place.name word ∷ [])
        ∙ (ap (λ b. b || has_row id (row place.name word ∷ [])) (stands.ids id)
        ∙ (or_assoc (is_among id seen) (is_among id (take count (map place_name shape.operands)))
        (has_row id (row place.name word ∷ []))
        ∙ ap (λ b. is_among id seen || b) (ap (λ b. is_among id (take count (map place_name shape.operands)) || b)
        (one_row id place.name word) ∙ taken id)));
  }
    where
      taken : (id : List ℕ) → (is_among id (take count (map place_name shape.operands)) || is_among id
          (place.name ∷ [])) ≡ is_among id (take (count + 1) (map place_name shape.operands))
      taken id = rw (
        add-one,
        take-get (map place_name shape.operands) count place.name
            (name_at shape.operands count place is),
      ) (sym (among-append id (take count (map place_name shape.operands))
          (place.name ∷ [])))

  module _ (sound : is_sound_shape shape ≡ true) (apart : are_ids_apart shape ≡ true)
      (few : has_few_operands shape ≡ true) where
    choices_sound : list_all is_sound_choice shape.choices ≡ true
    choices_sound = (and_parts (list_all is_sound_choice shape.choices)
        (list_all is_sound_place shape.operands) sound).0

    fresh_option : (seen : List (List ℕ)) (count : ℕ) (rows : List Row) (name : List ℕ) (choice : Choice)
        → choice_named shape.choices name ≡ Some choice
        → is_among name seen ≡ false → Stands seen count rows → has_row name rows ≡ false
    fresh_option seen count rows name choice is fresh stands =
        stands.ids name ∙ rw (
          fresh,
          option_is_not_taken shape apart name count
              (choice_among shape.choices name choice is),
        ) refl

    fresh_operand : (seen : List (List ℕ)) (count : ℕ) (rows : List Row) (place : OperandRule)
        → slice_get shape.operands count ≡ Some place
        → Stands seen count rows → has_row place.name rows ≡ false
    fresh_operand seen count rows place is stands =
        let no_option : is_among place.name seen ≡ false = true_or_false (is_among place.name seen)
        (λ among. (let wrong : true ≡ false =
        sym (stands.own place.name among) ∙ operand_is_no_option shape apart count place is in absurd (cc)))
        (λ none. none) in
        stands.ids place.name ∙ rw (no_option, operand_is_not_taken shape apart count place is) refl

    pub record Walks (h : Held) (count : ℕ) (rows : List Row) (items : List Item) : Type 0 where
      pub last : Held
      pub goes : Goes shape (walk_at shape h count idle) (line_of items)
          (walk_at shape last (length shape.operands) idle)
      pub holds : Holds shape last (rows ++ item_rows count items)

    -- behind the first words of an item the others are walked
    regroup : (last : Held) (rows rest : List Row) (id value : List ℕ)
        → Holds shape last ((rows ++ row id value ∷ []) ++ rest) → Holds shape last (rows ++ (row id value ∷ rest))
    regroup last rows rest id value holds =
        subst (λ r. Holds shape last r) (append_assoc rows (row id value ∷ []) rest) holds

    pub walks : (items : List Item) (seen : List (List ℕ)) (count : ℕ) (h : Held) (rows : List Row)
        → Complete shape seen count items → Holds shape h rows → Stands seen count rows → Walks h count rows items
    unfolding walk_passes
    walks [] seen count h rows complete holds stands = record {
      last = h;
      goes = record { passes = refl; leads = ap (λ n. walk_at shape h n idle) (sym complete) };
      holds = subst (λ r. Holds shape h r) (sym (append-nil rows)) holds;
    }
    walks (Apart name value ∷ items) seen count h rows ((fresh, (choice, is, fit)), rest) holds stands =
        let same : choice.name ≡ name = (choice_sound shape.choices name choice choices_sound is).0 in
        let named : is_name name ≡ true = name_sound shape sound name choice is in
        let plain : is_plain value ≡ true = (and_parts (is_plain value) (has_kind choice.kind value) fit).0 in
        let none : has_row name rows ≡ false = fresh_option seen count rows name choice is fresh stands in
        let more : Walks (pends shape h name value) count (rows ++ row name value ∷ []) items =
        walks items (seen ++ name ∷ []) count (pends shape h name value) (rows ++ row name value ∷ []) rest
        (pending_option shape h rows name value choice same is holds none)
        (option_stands seen count rows name value (choice_among shape.choices name choice is) stands) in
        record {
          last = more.last;
          goes = goes_on shape _ _ _ (codes "--" ++ name) (value ∷ line_of items)
              (apart_turn shape h count name choice named same is holds.passes)
              (goes_on shape _ _ _ value (line_of items) (value_turn shape h count name value choice same is plain)
              more.goes);
          holds = regroup more.last rows (item_rows count items) name value more.holds;
        }
    walks (Joined name value ∷ items) seen count h rows ((fresh, (choice, is, fit)), rest) holds stands =
        let same : choice.name ≡ name = (choice_sound shape.choices name choice choices_sound is).0 in
        let named : is_name name ≡ true = name_sound shape sound name choice is in
        let none : has_row name rows ≡ false = fresh_option seen count rows name choice is fresh stands in
        let settled_none : has_row name (settled (built_rules shape) h).rows ≡ false = rw holds.rows_are none in
        let more : Walks (has_used shape h name value) count (rows ++ row name value ∷ []) items =
        walks items (seen ++ name ∷ []) count (has_used shape h name value) (rows ++ row name value ∷ []) rest
        (used_option shape h rows name value holds none)
        (option_stands seen count rows name value (choice_among shape.choices name choice is) stands) in
        record {
          last = more.last;
          goes = goes_on shape _ _ _ (codes "--" ++ (name ++ (61 ∷ value))) (line_of items)
              (joined_turn shape h count name value choice named same is holds.passes settled_none) more.goes;
          holds = regroup more.last rows (item_rows count items) name value more.holds;
        }
    walks (Operand word ∷ items) seen count h rows ((place, is, fit), rest) holds stands =
        let plain : is_plain word ≡ true = (and_parts (is_plain word) (has_kind place.kind word) fit).0 in
        let none : has_row place.name rows ≡ false = fresh_operand seen count rows place is stands in
        let itself : bytes_eq place.name place.name ≡ true = (bytes_eq-Decides place.name place.name).1 refl in
        let by_id : arg_by_id (built_rules shape) place.name ≡ Some (built_operand (count + 1) place) =
        id_of_operand shape.choices 1 shape.operands count (count + 1) place (omega arith) is
        (operand_is_no_option shape apart count place is) (operand_is_not_taken shape apart count place is) itself in
        let few_enough : count < 64 =
        (let all : length shape.operands ≤ 64 = grind (arith, nat_tests) in let within =
        get_within shape.operands count place is in omega arith) in
        let more : Walks (pends shape h place.name word) (count + 1) (rows ++ row place.name word ∷ []) items =
        walks items seen (count + 1) (pends shape h place.name word) (rows ++ row place.name word ∷ []) rest
        (pending_operand shape h rows count word place by_id holds none)
        (operand_stands seen count rows place word is stands) in
        let id : id_at shape.operands count ≡ place.name = rw is refl in
        record {
          last = more.last;
          goes = goes_on shape _ _ _ word (line_of items) (operand_turn shape h count word place few_enough is plain
              holds.passes) more.goes;
          holds = subst (λ i. Holds shape more.last (rows ++ (row i word ∷ item_rows (count + 1) items))) (sym id)
              (regroup more.last rows (item_rows (count + 1) items) place.name word more.holds);
        }
