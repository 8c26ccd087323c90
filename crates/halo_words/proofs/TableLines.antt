-- Lines of a table: what a command's words come to is what the grammar says of the line.
use Rattle.std.proofs.Common.{◌≡◌, ◌∙◌, ◌+◌, ◌&&◌, ℕ, suc, inl, inr, ⊎_elim, Bool, true, false, List, [], ◌∷◌, ◌++◌}
use Rattle.std.proofs.Common.{take, drop, slice_get, Option, Some, None, codes, refl, sym, ap, subst, arith, add-one}
use Rattle.std.proofs.Common.{take-append-drop}
use Rattle.std.specs.Fmt.{digits}
use Rattle.std.specs.Str.{bytes_eq}
use Rattle.std.proofs.lemmas.Slice.Eq.{bytes_eq-Decides}
use Rattle.std.proofs.lemmas.Bool.{and_parts}
use Rattle.std.proofs.lemmas.List.{take_all}
use Rattle.text_fields.specs.Reading.{after_front, cut_at, number_of}
use Rattle.halo_words.specs.Table.{CommandForm, is_plain, has_kind, shape_named, the_table, file_name}
use Rattle.halo_words.specs.Sound.{is_short_shape, is_sound_shape, is_parsed_shape, is_sound_table}
use Rattle.halo_words.specs.Grammar.{Item, Asked, line_of, Complete, given_by, IsLineOf, IsLineFor, AsksFor, IsLine}
use Rattle.halo_words.specs.Grammar.{BeginsLine, IsFirstWrong}
use Rattle.halo_words.specs.Grammar.Item.{Apart, Joined, Operand}
use Rattle.halo_words.specs.Reading.{Reading, idle, step, read_on, is_end, Ends, StopsAt}
use Rattle.halo_words.proofs.Fronts.{dashes, plain_has_none, apart_uncut, joined_cut}
use Rattle.halo_words.proofs.Loops.{read-append, take-get}
use Rattle.halo_words.proofs.Items.{items_end, made, name_sound, completes, good_read, good_start}

-- ---- the items of words, which are one list

joined_or_apart : List ℕ → Option (List ℕ × List ℕ) → List ℕ → List Item → List Item → List Item
joined_or_apart rest None value one two = Apart rest value ∷ two
joined_or_apart rest (Some parts) value one two = Joined parts.0 parts.1 ∷ one

item_of : Option (List ℕ) → List ℕ → List ℕ → List Item → List Item → List Item
item_of None word value one two = Operand word ∷ one
item_of (Some rest) word value one two = joined_or_apart rest (cut_at 61 rest) value one two

-- by the first word, the next one, and the items behind one word or two
items_from : List (List ℕ) → List Item
items_from [] = []
items_from (word ∷ []) = item_of (after_front (codes "--") word) word [] [] []
items_from (word ∷ value ∷ words) =
    item_of (after_front (codes "--") word) word value (items_from (value ∷ words)) (items_from words)

operand_from : (word : List ℕ) (words : List (List ℕ)) → after_front (codes "--") word ≡ None
    → items_from (word ∷ words) ≡ Operand word ∷ items_from words
unfolding items_from item_of
operand_from word [] front = rw front refl
operand_from word (value ∷ words) front = rw front refl

joined_from : (word rest : List ℕ) (parts : List ℕ × List ℕ) (words : List (List ℕ))
    → after_front (codes "--") word ≡ Some rest → cut_at 61 rest ≡ Some parts
    → items_from (word ∷ words) ≡ Joined parts.0 parts.1 ∷ items_from words
unfolding items_from item_of joined_or_apart
joined_from word rest parts [] front cut = rw (front, cut) refl
joined_from word rest parts (value ∷ words) front cut = rw (front, cut) refl

apart_from : (name value : List ℕ) (words : List (List ℕ)) → cut_at 61 name ≡ None
    → items_from ((codes "--" ++ name) ∷ value ∷ words) ≡ Apart name value ∷ items_from words
unfolding items_from item_of joined_or_apart
apart_from name value words cut = rw (dashes name, cut) refl

none_from : items_from [] ≡ []
unfolding items_from
none_from = refl

module _ (shape : CommandForm) (sound : is_sound_shape shape ≡ true) where
  again : (items : List Item) (seen : List (List ℕ)) (count : ℕ) → Complete shape seen count items
      → items_from (line_of items) ≡ items
  again [] seen count complete = none_from
  again (Apart name value ∷ items) seen count ((fresh, (choice, is, fit)), rest) =
      apart_from name value (line_of items) (apart_uncut name (name_sound shape sound name choice is))
      ∙ ap (λ more. Apart name value ∷ more) (again items (seen ++ name ∷ []) count rest)
  again (Joined name value ∷ items) seen count ((fresh, (choice, is, fit)), rest) =
      joined_from (codes "--" ++ (name ++ (61 ∷ value))) (name ++ (61 ∷ value)) (name, value) (line_of items)
      (dashes (name ++ (61 ∷ value)))
      (joined_cut name value (name_sound shape sound name choice is))
      ∙ ap (λ more. Joined name value ∷ more) (again items (seen ++ name ∷ []) count rest)
  again (Operand word ∷ items) seen count ((place, is, fit), rest) =
      operand_from word (line_of items) (plain_has_none word
      (and_parts (is_plain word) (has_kind place.kind word) fit).0)
      ∙ ap (λ more. Operand word ∷ more) (again items seen (count + 1) rest)

  pub items_once : (a b : List Item) → Complete shape [] 0 a → Complete shape [] 0 b → line_of a ≡ line_of b → a ≡ b
  items_once a b complete_a complete_b same =
      sym (again a [] 0 complete_a) ∙ (ap items_from same ∙ again b [] 0 complete_b)

-- ---- a table

abbrev IsSoundFor : CommandForm → Type 0
IsSoundFor shape = (is_short_shape shape && (is_sound_shape shape && is_parsed_shape shape)) ≡ true

sound_by : (first shape : CommandForm) (table : List CommandForm) (word : List ℕ) (test : Bool)
    → bytes_eq first.word word ≡ test → is_sound_table (first ∷ table) ≡ true
    → shape_named (first ∷ table) word ≡ Some shape → (shape_named table word ≡ Some shape → IsSoundFor shape)
    → IsSoundFor shape
sound_by first shape table word true test sound is later =
    let found : Some first ≡ Some shape = rw test at is in
    let same : first ≡ shape = cc in
    subst IsSoundFor same (and_parts (is_short_shape first && (is_sound_shape first && is_parsed_shape first))
    (is_sound_table table) sound).0
sound_by first shape table word false test sound is later = later (rw test at is)

shape_is_sound : (table : List CommandForm) (word : List ℕ) (shape : CommandForm) → is_sound_table table ≡ true
    → shape_named table word ≡ Some shape → IsSoundFor shape
shape_is_sound [] word shape sound is = absurd (cc)
shape_is_sound (first ∷ table) word shape sound is =
    sound_by first shape table word (bytes_eq first.word word) refl sound is
    (shape_is_sound table word shape (and_parts (is_short_shape first
    && (is_sound_shape first && is_parsed_shape first)) (is_sound_table table) sound).1)

asked_same : (a b : Asked) → a.word ≡ b.word → a.given ≡ b.given → a ≡ b
asked_same a b word given =
    ap (λ w. (let asked : Asked = record { word = w; given = a.given } in asked)) word
    ∙ ap (λ g. (let asked : Asked = record { word = b.word; given = g } in asked)) given

-- the command that is found has the word
word_by : (first shape : CommandForm) (table : List CommandForm) (word : List ℕ) (test : Bool)
    → bytes_eq first.word word ≡ test → shape_named (first ∷ table) word ≡ Some shape
    → (shape_named table word ≡ Some shape → shape.word ≡ word) → shape.word ≡ word
word_by first shape table word true test is later =
    let found : Some first ≡ Some shape = rw test at is in
    let same : first ≡ shape = cc in
    ap (λ (s : CommandForm). s.word) (sym same) ∙ (bytes_eq-Decides first.word word).0 test
word_by first shape table word false test is later = later (rw test at is)

pub shape_word : (table : List CommandForm) (word : List ℕ) (shape : CommandForm) → shape_named table word ≡ Some shape
    → shape.word ≡ word
shape_word [] word shape is = absurd (cc)
shape_word (first ∷ table) word shape is =
    word_by first shape table word (bytes_eq first.word word) refl is (shape_word table word shape)

module _ (table : List CommandForm) (sound : is_sound_table table ≡ true) where
  pub shape_short : (word : List ℕ) (shape : CommandForm) → shape_named table word ≡ Some shape
      → is_short_shape shape ≡ true
  shape_short word shape is = (and_parts _ _ (shape_is_sound table word shape sound is)).0

  pub shape_sound : (word : List ℕ) (shape : CommandForm) → shape_named table word ≡ Some shape
      → is_sound_shape shape ≡ true
  shape_sound word shape is = (and_parts _ _ (and_parts _ _ (shape_is_sound table word shape sound is)).1).0

  pub shape_parsed : (word : List ℕ) (shape : CommandForm) → shape_named table word ≡ Some shape
      → is_parsed_shape shape ≡ true
  shape_parsed word shape is = (and_parts _ _ (and_parts _ _ (shape_is_sound table word shape sound is)).1).1

  -- what a line's words begin with
  command_of : (word : List ℕ) (words : List (List ℕ)) (asked : Asked) (items : List Item)
      → word ∷ words ≡ asked.word ∷ line_of items → word ≡ asked.word
  command_of word words asked items is = cc

  rest_of : (word : List ℕ) (words : List (List ℕ)) (asked : Asked) (items : List Item)
      → word ∷ words ≡ asked.word ∷ line_of items → words ≡ line_of items
  rest_of word words asked items is = cc

  -- a line's words behind its command end it
  pub line_ends : (word : List ℕ) (words : List (List ℕ)) (shape : CommandForm) → shape_named table word ≡ Some shape
      → IsLine table (word ∷ words) → Ends shape (idle [] 0) words
  line_ends word words shape is (asked, asks) =
      let command : word ≡ asked.word = command_of word words asked asks.items asks.line.words_are in
      let rest : words ≡ line_of asks.items = rest_of word words asked asks.items asks.line.words_are in
      let found : Some asks.shape ≡ Some shape = sym asks.command ∙ (ap (shape_named table) (sym command) ∙ is) in
      let same : asks.shape ≡ shape = cc in
      let complete : Complete shape [] 0 asks.items = subst (λ s. Complete s [] 0 asks.items) same asks.line.complete in
      subst (λ ws. Ends shape (idle [] 0) ws) (sym rest) (items_end shape
      (shape_sound word shape is) asks.items [] 0 complete)

  -- what ends a line asks for a command
  pub asks_from : (word : List ℕ) (words : List (List ℕ)) (shape : CommandForm) → shape_named table word ≡ Some shape
      → Ends shape (idle [] 0) words
      → (items : List Item) × IsLineOf (word ∷ words) word shape items
  asks_from word words shape is ends =
      let found = made shape words [] 0 ends in
      (found.0, record { words_are = ap (λ ws. word ∷ ws) found.1; complete = found.2 })

  pub line_from : (word : List ℕ) (words : List (List ℕ)) (shape : CommandForm) → shape_named table word ≡ Some shape
      → Ends shape (idle [] 0) words → IsLine table (word ∷ words)
  line_from word words shape is ends =
      let found = asks_from word words shape is ends in (
        record { word = word; given = given_by shape found.0 },
        record { shape = shape; items = found.0; command = is; line = found.1; given = refl },
      )

  -- a line has a command
  pub no_line : (word : List ℕ) (words : List (List ℕ)) → shape_named table word ≡ None → IsLine table (word ∷ words)
      → ⊥
  no_line word words none (asked, asks) =
      let command : word ≡ asked.word = command_of word words asked asks.items asks.line.words_are in
      let found : None ≡ Some asks.shape = sym none ∙ (ap (shape_named table) command ∙ asks.command) in
      cc

  pub empty_is_no_line : IsLine table [] → ⊥
  empty_is_no_line (asked, asks) = let is : [] ≡ asked.word ∷ line_of asks.items = asks.line.words_are in cc

  -- ---- the first wrong word

  module _ (word : List ℕ) (shape : CommandForm) (is : shape_named table word ≡ Some shape) where
    -- words that are read on begin a line
    pub begins : (words : List (List ℕ)) (r : Reading) → read_on shape (idle [] 0) words ≡ Some r
        → BeginsLine table (word ∷ words)
    begins words r read =
        let sound_shape = shape_sound word shape is in
        let more = completes shape sound_shape r (good_read shape sound_shape words (idle [] 0) r
        (good_start shape sound_shape) read) in
        let whole : read_on shape (idle [] 0) (words ++ more.0) ≡ Some more.1.0 = rw (read-append, read) more.1.1 in
        (more.0, line_from word (words ++ more.0) shape is (more.1.0, whole, more.1.2))

    -- where one isn't, none does
    pub not_begun : (words : List (List ℕ)) (at : ℕ) (r : Reading) (next : List ℕ)
        → read_on shape (idle [] 0) (take at words) ≡ Some r
        → slice_get words at ≡ Some next → step shape r next ≡ None → BeginsLine table (word ∷ take (suc at) words) → ⊥
    not_begun words at r next read here none (more, line) =
        let ends = line_ends word (take (suc at) words ++ more) shape is line in
        let refused : read_on shape (idle [] 0) (take (suc at) words ++ more) ≡ None =
        rw (take-get words at next here, read-append, read-append, read, none) refl in
        let found : None ≡ Some ends.0 = sym refused ∙ ends.1 in
        cc

    not_ended : (words : List (List ℕ)) (r : Reading) → read_on shape (idle [] 0) words ≡ Some r
        → is_end shape r ≡ false → IsLine table (word ∷ words) → ⊥
    not_ended words r read end line =
        let ends = line_ends word words shape is line in
        let found : Some r ≡ Some ends.0 = sym read ∙ ends.1 in
        let same : r ≡ ends.0 = cc in
        let both : false ≡ true = sym end ∙ (ap (is_end shape) same ∙ ends.2) in
        cc

    pub first_wrong : (words : List (List ℕ)) (at : ℕ) → StopsAt shape words at
        → IsFirstWrong table (word ∷ words) (at + 1)
    first_wrong words at (r, read, inl (next, here, none)) = record {
      before = rw add-one (begins (take at words) r read);
      wrong = inl (rw (add-one, add-one) (not_begun words at r next read here none));
    }
    first_wrong words at (r, read, inr (last, end)) =
        let whole : take at words ≡ words = take_all at words (omega (arith, last)) in
        record {
          before = rw add-one (begins (take at words) r read);
          wrong = inr (rw (last, add-one) refl, not_ended words r (rw whole at read) end);
        }

  pub unknown_command : (word : List ℕ) (words : List (List ℕ)) → shape_named table word ≡ None → BeginsLine table []
      → IsFirstWrong table (word ∷ words) 0
  unknown_command word words none begun = record {
    before = begun;
    wrong = inl (λ line. no_line word line.0 none line.1);
  }

  pub no_words : BeginsLine table [] → IsFirstWrong table [] 0
  no_words begun = record { before = begun; wrong = inr (refl, empty_is_no_line) }

  pub first_wrong_is_no_line : (words : List (List ℕ)) (place : ℕ) → IsFirstWrong table words place
      → IsLine table words → ⊥
  first_wrong_is_no_line words place wrong line = ⊎_elim
      (λ none. none (
        drop (place + 1) words,
        subst (λ all. IsLine table all)
            (sym (take-append-drop (place + 1) words)) line,
      ))
      (λ last. last.1 line)
      wrong.wrong

  -- words ask for one thing
  pub asks_once : (words : List (List ℕ)) (a b : Asked) → AsksFor table words a → AsksFor table words b → a ≡ b
  asks_once words a b asks_a asks_b =
      let lines : a.word ∷ line_of asks_a.items ≡ b.word ∷ line_of asks_b.items =
      sym asks_a.line.words_are ∙ asks_b.line.words_are in
      let word : a.word ≡ b.word = cc in
      let rest : line_of asks_a.items ≡ line_of asks_b.items = cc in
      let shapes : Some asks_a.shape ≡ Some asks_b.shape =
      sym asks_a.command ∙ (ap (shape_named table) word ∙ asks_b.command) in
      let shape : asks_a.shape ≡ asks_b.shape = cc in
      let complete : Complete asks_b.shape [] 0 asks_a.items =
      subst (λ s. Complete s [] 0 asks_a.items) shape asks_a.line.complete in
      let items : asks_a.items ≡ asks_b.items =
      items_once asks_b.shape (shape_sound b.word asks_b.shape asks_b.command) asks_a.items asks_b.items complete
      asks_b.line.complete rest in
      let given : a.given ≡ b.given =
      asks_a.given ∙ (ap (λ s. given_by s asks_a.items) shape
      ∙ (ap (λ is. given_by asks_b.shape is) items ∙ sym asks_b.given)) in
      asked_same a b word given

-- ---- the table of all commands

pub table_sound : is_sound_table the_table ≡ true
unfolding the_table number_of digits
table_sound = refl

shows : CommandForm
shows = record { word = codes "show"; choices = []; operands = file_name ∷ [] }

shown : Asked
shown = record { word = codes "show"; given = record { options = []; operands = codes "name" ∷ [] } }

pub table_begins : BeginsLine the_table []
unfolding the_table shows shown
table_begins = (
  codes "show" ∷ codes "name" ∷ [],
  (
    shown,
    record {
      shape = shows;
      items = Operand (codes "name") ∷ [];
      command = refl;
      line = record { words_are = refl; complete = ((file_name, refl, refl), refl) };
      given = refl;
    },
  ),
)

-- what the reader finds in words

module _ (words : List (List ℕ)) where
  pub line_empty : words ≡ [] → IsFirstWrong the_table words 0
  line_empty is = subst (λ ws. IsFirstWrong the_table ws 0) (sym is) (no_words the_table table_sound table_begins)

  module _ (command : List ℕ) (rest : List (List ℕ)) (is : words ≡ command ∷ rest) where
    pub line_unknown : shape_named the_table command ≡ None → IsFirstWrong the_table words 0
    line_unknown none = subst (λ ws. IsFirstWrong the_table ws 0) (sym is)
        (unknown_command the_table table_sound command rest none table_begins)

    module _ (shape : CommandForm) (named : shape_named the_table command ≡ Some shape) where
      pub line_found : Ends shape (idle [] 0) rest → IsLineFor the_table words shape
      line_found ends =
          let word : shape.word ≡ command = shape_word the_table command shape named in
          let found = asks_from the_table table_sound command rest shape named ends in (
            subst (λ w. shape_named the_table w ≡ Some shape) (sym word) named,
            (
              found.0,
              subst (λ w. IsLineOf words w shape found.0) (sym word)
                  (subst (λ ws. IsLineOf ws command shape found.0) (sym is) found.1),
            ),
          )

      pub line_wrong : (at : ℕ) → StopsAt shape rest at → IsFirstWrong the_table words (at + 1)
      line_wrong at stops =
          subst (λ ws. IsFirstWrong the_table ws (at + 1)) (sym is)
          (first_wrong the_table table_sound command shape named rest at stops)

      pub form_short : is_short_shape shape ≡ true
      form_short = shape_short the_table table_sound command shape named
