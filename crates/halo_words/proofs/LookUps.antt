-- Look-ups in the table, and names among those that words give.
use Rattle.std.proofs.Common.{◌≡◌, ◌∙◌, ◌||◌, ◌+◌, ◌<◌, ℕ, zero, suc, Bool, true, false, List, [], ◌∷◌, ◌++◌, length}
use Rattle.std.proofs.Common.{map, drop, get_or, slice_get, Option, Some, None, option_map, refl, sym, ap, add-one}
use Rattle.std.specs.Prelude.{IfSome}
use Rattle.std.specs.List.{list_all}
use Rattle.std.specs.Str.{bytes_eq}
use Rattle.std.specs.Prelude.{String, string_bytes}
use Rattle.std.specs.declared.alloc.Global.{Global}
use Rattle.std.proofs.lemmas.Bool.{and_parts}
use Rattle.std.proofs.Math.Seq.{drop-cons}
use Rattle.halo_words.specs.declared.forms.Setting.{Setting}
use Rattle.halo_words.specs.declared.forms.Operand.{Operand}
use Rattle.halo_words.specs.declared.forms.Form.{Form}
use Rattle.halo_words.specs.Table.{Choice, OperandRule, choice_of, place_of, shape_of, choice_named, shape_named}
use Rattle.halo_words.specs.Sound.{is_short, is_short_option, are_short_choices, are_short_places}
use Rattle.halo_words.specs.Grammar.{texts, is_among}
use Rattle.halo_words.specs.Reading.{named, names_in}

-- what a test says of all elements it says of one that is found
pub all_at : {X : Type 0} (p : X → Bool) (xs : List X) (i : ℕ) (x : X) → list_all p xs ≡ true
    → slice_get xs i ≡ Some x → p x ≡ true
all_at p [] i x all is = absurd (cc)
all_at p (y ∷ ys) zero x all is = let same : y ≡ x = cc in ap p (sym same) ∙ (and_parts _ _ all).0
all_at p (y ∷ ys) (suc i) x all is = all_at p ys i x (and_parts _ _ all).1 is

pub place_short : (operands : List Operand) (count : ℕ) (found : Option Operand)
    → option_map place_of found ≡ slice_get (map place_of operands) count
    → are_short_places (map place_of operands) ≡ true → IfSome found (λ operand. is_short operand.kind ≡ true)
place_short operands count None is short = tt
place_short operands count (Some operand) is short =
    all_at (λ (place : OperandRule). is_short place.kind) (map place_of operands) count (place_of operand) short
    (sym is)

short_by : (choice : Choice) (choices : List Choice) (name : List ℕ) (test : Bool) → bytes_eq choice.name name ≡ test
    → are_short_choices (choice ∷ choices) ≡ true → is_short_option (choice_named choices name) ≡ true
    → is_short_option (choice_named (choice ∷ choices) name) ≡ true
short_by choice choices name true is short later = rw is ((and_parts _ _ short).0)
short_by choice choices name false is short later = rw is later

pub choice_short : (choices : List Choice) (name : List ℕ) → are_short_choices choices ≡ true
    → is_short_option (choice_named choices name) ≡ true
choice_short [] name short = refl
choice_short (choice ∷ choices) name short =
    short_by choice choices name (bytes_eq choice.name name) refl short
    (choice_short choices name (and_parts (is_short choice.kind) (are_short_choices choices) short).1)

-- the elements from a place on
pub drop-get : {X : Type 0} (xs : List X) (i : ℕ) (x : X) → slice_get xs i ≡ Some x → drop i xs ≡ x ∷ drop (suc i) xs
drop-get [] i x is = absurd (cc)
drop-get (y ∷ ys) zero x is = let same : y ≡ x = cc in ap (λ z. z ∷ ys) same
drop-get (y ∷ ys) (suc i) x is = drop-get ys i x is

-- the option at a place is the first of its name from there on, or another name is behind it
pub found_here : (settings : List Setting) (at : ℕ) (setting : Setting) (name : List ℕ)
    → slice_get settings at ≡ Some setting
    → bytes_eq setting.name.now name ≡ true → choice_named (map choice_of (drop at settings)) name ≡ Some
    (choice_of setting)
found_here settings at setting name is test = rw (drop-get settings at setting is, test) refl

pub passed_over : (settings : List Setting) (at : ℕ) (setting : Setting) (name : List ℕ)
    → slice_get settings at ≡ Some setting
    → bytes_eq setting.name.now name ≡ false → choice_named (map choice_of (drop at settings)) name ≡ choice_named
    (map choice_of (drop (at + 1) settings)) name
passed_over settings at setting name is test = rw (drop-get settings at setting is, test, add-one) refl

-- the same of commands
pub form_here : (forms : List Form) (at : ℕ) (form : Form) (word : List ℕ) → slice_get forms at ≡ Some form
    → bytes_eq form.word.now word ≡ true → shape_named (map shape_of (drop at forms)) word ≡ Some (shape_of form)
form_here forms at form word is test = rw (drop-get forms at form is, test) refl

pub form_over : (forms : List Form) (at : ℕ) (form : Form) (word : List ℕ) → slice_get forms at ≡ Some form
    → bytes_eq form.word.now word ≡ false → shape_named (map shape_of (drop at forms)) word ≡ shape_named
    (map shape_of (drop (at + 1) forms)) word
form_over forms at form word is test = rw (drop-get forms at form is, test, add-one) refl

append_by : (name x : List ℕ) (xs ys : List (List ℕ)) (test : Bool) → bytes_eq x name ≡ test
    → is_among name (xs ++ ys) ≡ (is_among name xs || is_among name ys)
    → is_among name (x ∷ xs ++ ys) ≡ (is_among name (x ∷ xs) || is_among name ys)
append_by name x xs ys true is later = rw is refl
append_by name x xs ys false is later = rw is later

pub among-append : (name : List ℕ) (xs ys : List (List ℕ)) → is_among name (xs ++ ys) ≡
    (is_among name xs || is_among name ys)
among-append name [] ys = refl
among-append name (x ∷ xs) ys = append_by name x xs ys (bytes_eq x name) refl (among-append name xs ys)

-- the names that words give from a place on
pub names_from : (words : List (String Global)) (at : ℕ) (word : String Global) → at < length words
    → word ≡ get_or words at word
    → names_in (texts (drop at words)) ≡ named (string_bytes word) ++ names_in (texts (drop (at + 1) words))
names_from words at word within is = rw (drop-cons words at word, ← is, add-one) refl

pub named_here : (words : List (String Global)) (at : ℕ) (word : String Global) (name : List ℕ) → at < length words
    → word ≡ get_or words at word
    → is_among name (named (string_bytes word)) ≡ true → is_among name (names_in (texts (drop at words))) ≡ true
named_here words at word name within is test = rw (names_from words at word within is, among-append, test) refl

pub named_later : (words : List (String Global)) (at : ℕ) (word : String Global) (name : List ℕ) → at < length words
    → word ≡ get_or words at word
    → is_among name (named (string_bytes word)) ≡ false
    → is_among name (names_in (texts (drop at words))) ≡ is_among name (names_in (texts (drop (at + 1) words)))
named_later words at word name within is test = rw (names_from words at word within is, among-append, test) refl
