-- The place of a value in words is that in their items.
use Rattle.std.proofs.Common.{◌≡◌, ◌∙◌, ◌+◌, ◌<◌, ◌≤◌, ℕ, zero, suc, Bool, true, false, List, [], ◌∷◌, ◌++◌, length}
use Rattle.std.proofs.Common.{drop, slice_get, Option, Some, None, codes, refl, sym, ap, add-one, arith}
use Rattle.std.specs.Prelude.{unwrap_or, if◌then◌else◌}
use Rattle.std.specs.Str.{bytes_eq}
use Rattle.std.proofs.lemmas.Bool.{and_parts}
use Rattle.text_fields.specs.Reading.{after_front, cut_at}
use Rattle.halo_words.specs.Table.{Choice, OperandRule, CommandForm, fits, is_plain, has_kind, the_table}
use Rattle.halo_words.specs.Sound.{is_name, is_sound_shape}
use Rattle.halo_words.specs.Grammar.{Item, Asked, line_of, Complete, value_place, AsksFor}
use Rattle.halo_words.specs.Grammar.Item.{Apart, Joined, Operand}
use Rattle.halo_words.specs.Reading.{place_by, first_place}
use Rattle.halo_words.proofs.Fronts.{dashes, plain_has_none, apart_uncut, joined_cut}
use Rattle.halo_words.proofs.LookUps.{drop-get}
use Rattle.halo_words.proofs.Items.{name_sound}
use Rattle.halo_words.proofs.TableLines.{table_sound, shape_sound}

-- a plain word gives no value
plain_gives : (name word : List ℕ) (at : ℕ) → is_plain word ≡ true → place_by name word at ≡ None
unfolding place_by
plain_gives name word at plain = rw (plain_has_none word plain) refl

module _ (name : List ℕ) (shape : CommandForm) (sound : is_sound_shape shape ≡ true) where
  apart_here : (given value : List ℕ) (at : ℕ) (rest : List (List ℕ)) (later : Option ℕ) (test : Bool)
      → bytes_eq given name ≡ test → is_name given ≡ true → is_plain value ≡ true
      → first_place name (at + 2) rest ≡ later
      → first_place name at ((codes "--" ++ given) ∷ value ∷ rest) ≡ (if test then Some (at + 1) else later)
  unfolding place_by
  apart_here given value at rest later true test named plain more =
      rw (dashes given, apart_uncut given named, test) refl
  apart_here given value at rest later false test named plain more =
      let next : at + 1 + 1 ≡ at + 2 = omega arith in
      rw (dashes given, apart_uncut given named, test, plain_has_none value plain, next) more

  joined_here : (given value : List ℕ) (at : ℕ) (rest : List (List ℕ)) (later : Option ℕ) (test : Bool)
      → bytes_eq given name ≡ test → is_name given ≡ true → first_place name (at + 1) rest ≡ later
      → first_place name at ((codes "--" ++ (given ++ (61 ∷ value))) ∷ rest) ≡ (if test then Some at else later)
  unfolding place_by
  joined_here given value at rest later true test named more =
      rw (dashes (given ++ (61 ∷ value)), joined_cut given value named, test) refl
  joined_here given value at rest later false test named more =
      rw (dashes (given ++ (61 ∷ value)), joined_cut given value named, test) more

  pub place_in_items : (items : List Item) (seen : List (List ℕ)) (count at : ℕ) → Complete shape seen count items
      → first_place name at (line_of items) ≡ value_place name at items
  place_in_items [] seen count at complete = refl
  place_in_items (Apart given value ∷ items) seen count at ((fresh, (choice, is, fit)), rest) =
      let plain = (and_parts (is_plain value) (has_kind choice.kind value) fit).0 in
      apart_here given value at (line_of items) _ (bytes_eq given name) refl (name_sound shape sound given choice is)
      plain
      (place_in_items items (seen ++ given ∷ []) count (at + 2) rest)
  place_in_items (Joined given value ∷ items) seen count at ((fresh, (choice, is, fit)), rest) =
      joined_here given value at (line_of items) _ (bytes_eq given name) refl (name_sound shape sound given choice is)
      (place_in_items items (seen ++ given ∷ []) count (at + 1) rest)
  place_in_items (Operand word ∷ items) seen count at ((place, is, fit), rest) =
      let plain = (and_parts (is_plain word) (has_kind place.kind word) fit).0 in
      rw (plain_gives name word at plain) (place_in_items items seen (count + 1) (at + 1) rest)

-- the words behind the command are those of the items
pub place_in_line : (name : List ℕ) (words : List (List ℕ)) (asked : Asked) (asks : AsksFor the_table words asked)
    → first_place name 1 (drop 1 words) ≡ value_place name 1 asks.items
place_in_line name words asked asks =
    ap (λ ws. first_place name 1 (drop 1 ws)) asks.line.words_are
    ∙ place_in_items name asks.shape (shape_sound the_table table_sound asked.word asks.shape asks.command) asks.items
    [] 0 1 asks.line.complete

-- one more word is passed over, or gives the value
module _ (name : List ℕ) (words : List (List ℕ)) (at : ℕ) (word : List ℕ) (here : slice_get words at ≡ Some word) where
  pub passed : place_by name word at ≡ None
      → first_place name (at + 1) (drop (at + 1) words) ≡ first_place name at (drop at words)
  passed none = rw (drop-get words at word here, none, add-one) refl

  pub given_here : (place : ℕ) → place_by name word at ≡ Some place → first_place name at (drop at words) ≡ Some place
  given_here place is = rw (drop-get words at word here, is) refl

pub none_left : (name : List ℕ) (words : List (List ℕ)) (at from : ℕ) → length words ≤ at
    → first_place name from (drop at words) ≡ None
none_left name [] zero from end = refl
none_left name [] (suc at) from end = refl
none_left name (w ∷ ws) zero from end = absurd (omega arith)
none_left name (w ∷ ws) (suc at) from end = none_left name ws at from (omega arith)
