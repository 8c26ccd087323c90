-- Items and the words that they are: what is complete ends a line, and what ends a line is complete items.
use Rattle.std.proofs.Common.{◌≡◌, ◌∙◌, ◌+◌, ◌==◌, ◌||◌, ◌≤◌, ◌<◌, ℕ, zero, suc, Bool, true, false, not, cond, List, []}
use Rattle.std.proofs.Common.{◌∷◌, ◌++◌, length, slice_get, Option, Some, None, codes, refl, sym, ap, subst, arith}
use Rattle.std.proofs.Common.{append-nil, ◌-◌}
use Rattle.std.specs.List.{list_all}
use Rattle.std.specs.Str.{bytes_eq}
use Rattle.std.proofs.lemmas.Bool.{and_parts}
use Rattle.std.proofs.lemmas.Bool.Decides.{nat_tests}
use Rattle.std.proofs.lemmas.Option.{cond_some}
use Rattle.std.proofs.lemmas.Slice.Eq.{bytes_eq-Decides}
use Rattle.text_fields.specs.Reading.{after_front, cut_at, ◌>>=◌}
use Rattle.halo_words.specs.Table.{Choice, OperandRule, CommandForm, fits, is_plain, has_kind, choice_named}
use Rattle.halo_words.specs.Sound.{is_name, is_sound_choice, is_sound_place, is_sound_shape, example}
use Rattle.halo_words.specs.Grammar.{Item, is_among, line_of, Gives, IsOperand, Complete}
use Rattle.halo_words.specs.Grammar.Item.{Apart, Joined, Operand}
use Rattle.halo_words.specs.Reading.{Reading, idle, named, operand_met, apart_met, joined_met, option_met, idle_met}
use Rattle.halo_words.specs.Reading.{met, step, read_on, is_end, Ends}
use Rattle.halo_words.proofs.Fronts.{dashes, behind_dashes, plain_has_none, apart_uncut, joined_cut, named_apart}
use Rattle.halo_words.proofs.Fronts.{named_joined, named_plain, cut_parts}
use Rattle.halo_words.proofs.LookUps.{all_at}

-- ---- what is found in a sound command

sound_by : (first choice : Choice) (choices : List Choice) (name : List ℕ) (test : Bool)
    → bytes_eq first.name name ≡ test → list_all is_sound_choice (first ∷ choices) ≡ true
    → choice_named (first ∷ choices) name ≡ Some choice → (choice_named choices name ≡ Some choice
    → (choice.name ≡ name) × (is_sound_choice choice ≡ true))
    → (choice.name ≡ name) × (is_sound_choice choice ≡ true)
sound_by first choice choices name true test sound is later =
    let found : Some first ≡ Some choice = rw test at is in
    let same : first ≡ choice = cc in (
      ap (λ (c : Choice). c.name) (sym same) ∙ (bytes_eq-Decides first.name name).0 test,
      subst
          (λ c. is_sound_choice c ≡ true) same (and_parts (is_sound_choice first)
          (list_all is_sound_choice choices) sound).0,
    )
sound_by first choice choices name false test sound is later = later (rw test at is)

pub choice_sound : (choices : List Choice) (name : List ℕ) (choice : Choice) → list_all is_sound_choice choices ≡ true
    → choice_named choices name ≡ Some choice
    → (choice.name ≡ name) × (is_sound_choice choice ≡ true)
choice_sound [] name choice sound is = absurd (cc)
choice_sound (first ∷ choices) name choice sound is =
    sound_by first choice choices name (bytes_eq first.name name) refl sound is
    (choice_sound choices name choice (and_parts (is_sound_choice first) (list_all is_sound_choice choices) sound).1)

cond_none : {A : Type 0} (b : Bool) (x y : A) → cond b None (Some x) ≡ Some y → (b ≡ false) × (x ≡ y)
cond_none true x y is = absurd (cc)
cond_none false x y is = (refl, cc)

or_parts : (a b : Bool) → (a || b) ≡ false → (a ≡ false) × (b ≡ false)
or_parts true b is = absurd (cc)
or_parts false b is = (refl, is)

not_false : (b : Bool) → not b ≡ false → b ≡ true
not_false true is = refl
not_false false is = absurd (cc)

-- one of the elements below the length
pub get_below : {X : Type 0} (xs : List X) (i : ℕ) → i < length xs → (x : X) × (slice_get xs i ≡ Some x)
get_below [] i within = absurd (omega arith)
get_below (x ∷ xs) zero within = (x, refl)
get_below (x ∷ xs) (suc i) within = get_below xs i (omega arith)

pub get_within : {X : Type 0} (xs : List X) (i : ℕ) (x : X) → slice_get xs i ≡ Some x → i < length xs
get_within [] i x is = absurd (cc)
get_within (y ∷ ys) zero x is = omega arith
get_within (y ∷ ys) (suc i) x is = let later = get_within ys i x is in omega arith

module _ (shape : CommandForm) where
  -- ---- what a word comes to

  -- behind an option's name
  abbrev pub waits : List (List ℕ) → ℕ → Choice → Reading
  waits seen count choice = record { seen = seen; count = count; waiting = Some choice }

  pub ends_step : (r next : Reading) (word : List ℕ) (words : List (List ℕ)) → step shape r word ≡ Some next
      → Ends shape next words → Ends shape r (word ∷ words)
  ends_step r next word words is ends = (ends.0, rw is ends.1, ends.2)

  pub value_read : (seen : List (List ℕ)) (count : ℕ) (choice : Choice) (value : List ℕ)
      → fits choice.kind value ≡ true → step shape (waits seen count choice) value ≡ Some (idle seen count)
  unfolding step
  value_read seen count choice value fit =
      let plain = named_plain value (and_parts (is_plain value) (has_kind choice.kind value) fit).0 in
      rw (fit, plain, append-nil) refl

  pub operand_read : (seen : List (List ℕ)) (count : ℕ) (word : List ℕ) → IsOperand shape count word
      → step shape (idle seen count) word ≡ Some (idle seen (count + 1))
  unfolding step
  operand_read seen count word (place, is, fit) =
      let plain = (and_parts (is_plain word) (has_kind place.kind word) fit).0 in
      rw (plain_has_none word plain, is, fit, named_plain word plain, append-nil) refl

  -- what one more word is, behind an item
  pub data Took (seen : List (List ℕ)) (count : ℕ) (word : List ℕ) (next : Reading) : Type 0 where
    took_operand : IsOperand shape count word → next ≡ idle seen (count + 1) → Took seen count word next
    took_joined : (name value : List ℕ) → word ≡ codes "--" ++ (name ++ (61 ∷ value)) → Gives shape seen name value
        → next ≡ idle (seen ++ name ∷ []) count → Took seen count word next
    took_apart : (name : List ℕ) (choice : Choice) → word ≡ codes "--" ++ name → is_among name seen ≡ false
        → choice_named shape.choices name ≡ Some choice
        → next ≡ waits (seen ++ name ∷ []) count choice → Took seen count word next

  module _ (seen : List (List ℕ)) (count : ℕ) (word : List ℕ) (next : Reading) where
    by_place : (o : Option OperandRule) → slice_get shape.operands count ≡ o → named word ≡ []
        → operand_met o (idle seen count) word ≡ Some next → Took seen count word next
    by_place None is plain met = absurd (cc)
    by_place (Some place) is plain met =
        let both = cond_some (fits place.kind word) (idle (seen ++ named word) (count + 1)) next met in
        took_operand (place, is, both.0) (sym both.1 ∙ rw (plain, append-nil) refl)

    by_choice_apart : (name : List ℕ) (o : Option Choice) → choice_named shape.choices name ≡ o
        → word ≡ codes "--" ++ name → named word ≡ name ∷ []
        → apart_met o name (idle seen count) word ≡ Some next → Took seen count word next
    by_choice_apart name None is word_is names met = absurd (cc)
    by_choice_apart name (Some choice) is word_is names met =
        let both = cond_none (is_among name seen) (waits (seen ++ named word) count choice) next met in
        took_apart name choice word_is both.0 is (sym both.1 ∙ rw names refl)

    by_choice_joined : (name value : List ℕ) (o : Option Choice) → choice_named shape.choices name ≡ o
        → word ≡ codes "--" ++ (name ++ (61 ∷ value)) → named word ≡ name ∷ []
        → joined_met o name value (idle seen count) word ≡ Some next → Took seen count word next
    by_choice_joined name value None is word_is names met = absurd (cc)
    by_choice_joined name value (Some choice) is word_is names met =
        let both = cond_none (is_among name seen || not (fits choice.kind value))
        (idle (seen ++ named word) count) next met in
        let tests = or_parts (is_among name seen) (not (fits choice.kind value)) both.0 in
        took_joined name value word_is (tests.0, (choice, is, not_false (fits choice.kind value) tests.1))
        (sym both.1 ∙ rw names refl)

    by_cut : (rest : List ℕ) (o : Option (List ℕ × List ℕ)) → cut_at 61 rest ≡ o
        → after_front (codes "--") word ≡ Some rest
        → option_met shape.choices rest o (idle seen count) word ≡ Some next → Took seen count word next
    unfolding named
    by_cut rest None cut front met =
        by_choice_apart rest (choice_named shape.choices rest) refl (behind_dashes word rest front)
        (rw (front, cut) refl) met
    by_cut rest (Some parts) cut front met =
        by_choice_joined parts.0 parts.1 (choice_named shape.choices parts.0) refl
        (behind_dashes word rest front ∙ ap (λ r. codes "--" ++ r) (cut_parts rest parts cut))
        (rw (front, cut) refl) met

    by_front : (o : Option (List ℕ)) → after_front (codes "--") word ≡ o
        → idle_met shape o (idle seen count) word ≡ Some next → Took seen count word next
    unfolding named
    by_front None front met = by_place (slice_get shape.operands count) refl (rw front refl) met
    by_front (Some rest) front met = by_cut rest (cut_at 61 rest) refl front met

    pub took : step shape (idle seen count) word ≡ Some next → Took seen count word next
    unfolding step
    took met = by_front (after_front (codes "--") word) refl met

  pub took_value : (seen : List (List ℕ)) (count : ℕ) (choice : Choice) (word : List ℕ) (next : Reading)
      → step shape (waits seen count choice) word ≡ Some next
      → (fits choice.kind word ≡ true) × (next ≡ idle seen count)
  unfolding step
  took_value seen count choice word next met =
      let both = cond_some (fits choice.kind word) (idle (seen ++ named word) count) next met in
      let plain = named_plain word (and_parts (is_plain word) (has_kind choice.kind word) both.0).0 in
      (both.0, sym both.1 ∙ rw (plain, append-nil) refl)

  -- ---- what ends a line is complete items

  abbrev pub Made : List (List ℕ) → ℕ → List (List ℕ) → Type 0
  Made seen count words = (items : List Item) × (words ≡ line_of items) × Complete shape seen count items

  -- the first word is read, and the others after it
  first_read : (r : Reading) (word : List ℕ) (words : List (List ℕ)) (last : Reading) (o : Option Reading)
      → step shape r word ≡ o → (o >>= λ next. read_on shape next words) ≡ Some last
      → (next : Reading) × (step shape r word ≡ Some next) × (read_on shape next words ≡ Some last)
  first_read r word words last None is read = absurd (cc)
  first_read r word words last (Some next) is read = (next, is, read)

  pub first_of : (r : Reading) (word : List ℕ) (words : List (List ℕ)) → Ends shape r (word ∷ words)
      → (next : Reading) × (step shape r word ≡ Some next) × Ends shape next words
  first_of r word words ends =
      let first = first_read r word words ends.0 (step shape r word) refl ends.1 in
      (first.0, first.1, (ends.0, first.2, ends.2))

  none_waits : (seen : List (List ℕ)) (count : ℕ) (choice : Choice) → Ends shape (waits seen count choice) [] → ⊥
  none_waits seen count choice (last, read, end) =
      let same : waits seen count choice ≡ last = cc in
      let wrong : is_end shape (waits seen count choice) ≡ true = subst (λ r. is_end shape r ≡ true) (sym same) end in
      cc

  by_took : (word : List ℕ) (words : List (List ℕ)) (seen : List (List ℕ)) (count : ℕ) (next : Reading)
      → Ends shape next words
      → ((s : List (List ℕ)) (n : ℕ) → Ends shape (idle s n) words → Made s n words)
      → ((v : List ℕ) (rest : List (List ℕ)) → words ≡ v ∷ rest → (s : List (List ℕ)) (n : ℕ)
      → Ends shape (idle s n) rest → Made s n rest)
      → Took seen count word next → Made seen count (word ∷ words)
  by_took word words seen count next ends later last (took_operand is next_is) =
      let more = later seen (count + 1) (subst (λ r. Ends shape r words) next_is ends) in
      (Operand word ∷ more.0, ap (λ ws. word ∷ ws) more.1, (is, more.2))
  by_took word words seen count next ends later last (took_joined name value word_is gives next_is) =
      let more = later (seen ++ name ∷ []) count (subst (λ r. Ends shape r words) next_is ends) in (
        Joined name value ∷ more.0,
        ap (λ w. w ∷ words) word_is
            ∙ ap (λ ws. (codes "--" ++ (name ++ (61 ∷ value))) ∷ ws) more.1,
        (gives, more.2),
      )
  by_took word [] seen count next ends later last (took_apart name choice word_is fresh is next_is) =
      absurd (none_waits (seen ++ name ∷ []) count choice (subst (λ r. Ends shape r []) next_is ends))
  by_took word (v ∷ rest) seen count next ends later last (took_apart name choice word_is fresh is next_is) =
      let waiting : Ends shape (waits (seen ++ name ∷ []) count choice) (v ∷ rest) =
      subst (λ r. Ends shape r (v ∷ rest)) next_is ends in
      let first = first_of (waits (seen ++ name ∷ []) count choice) v rest waiting in
      let value = took_value (seen ++ name ∷ []) count choice v first.0 first.1 in
      let more = last v rest refl (seen ++ name ∷ []) count (subst (λ r. Ends shape r rest) value.1 first.2) in (
        Apart name v ∷ more.0,
        ap (λ w. w ∷ v ∷ rest) word_is ∙ ap (λ ws. (codes "--" ++ name) ∷ v ∷ ws) more.1,
        ((fresh, (choice, is, value.0)), more.2),
      )

  made_more : (word : List ℕ) (words : List (List ℕ)) (seen : List (List ℕ)) (count : ℕ)
      → Ends shape (idle seen count) (word ∷ words)
      → ((s : List (List ℕ)) (n : ℕ) → Ends shape (idle s n) words → Made s n words)
      → ((v : List ℕ) (rest : List (List ℕ)) → words ≡ v ∷ rest → (s : List (List ℕ)) (n : ℕ)
      → Ends shape (idle s n) rest → Made s n rest)
      → Made seen count (word ∷ words)
  made_more word words seen count ends later last =
      let first = first_of (idle seen count) word words ends in
      by_took word words seen count first.0 first.2 later last (took seen count word first.0 first.1)

  tail_is : (v w : List ℕ) (rest more : List (List ℕ)) → v ∷ rest ≡ w ∷ more → rest ≡ more
  tail_is v w rest more is = cc

  pub made : (words : List (List ℕ)) (seen : List (List ℕ)) (count : ℕ) → Ends shape (idle seen count) words
      → Made seen count words
  made [] seen count (last, read, end) =
      let same : idle seen count ≡ last = cc in
      let test : (length shape.operands == count) ≡ true = subst (λ r. is_end shape r ≡ true) (sym same) end in
      ([], refl, grind (arith, nat_tests))
  made (word ∷ []) seen count ends =
      made_more word [] seen count ends (λ s n e. made [] s n e) (λ v rest is. absurd (cc))
  made (word ∷ v ∷ rest) seen count ends =
      made_more word (v ∷ rest) seen count ends (λ s n e. made (v ∷ rest) s n e)
      (λ w more is s n e. subst (λ ws. Made s n ws) (tail_is v w rest more is)
      (made rest s n (subst (λ ws. Ends shape (idle s n) ws) (sym (tail_is v w rest more is)) e)))

  -- ---- what is complete ends a line

  module _ (sound : is_sound_shape shape ≡ true) where
    choices_sound : list_all is_sound_choice shape.choices ≡ true
    choices_sound = (and_parts (list_all is_sound_choice shape.choices)
        (list_all is_sound_place shape.operands) sound).0

    places_sound : list_all is_sound_place shape.operands ≡ true
    places_sound = (and_parts (list_all is_sound_choice shape.choices) (list_all is_sound_place shape.operands) sound).1

    pub name_sound : (name : List ℕ) (choice : Choice) → choice_named shape.choices name ≡ Some choice
        → is_name name ≡ true
    name_sound name choice is =
        let found = choice_sound shape.choices name choice choices_sound is in
        subst (λ n. is_name n ≡ true) found.0 (and_parts (is_name choice.name)
        (fits choice.kind choice.default) found.1).0

    pub apart_read : (seen : List (List ℕ)) (count : ℕ) (name : List ℕ) (choice : Choice) → is_among name seen ≡ false
        → choice_named shape.choices name ≡ Some choice
        → step shape (idle seen count) (codes "--" ++ name) ≡ Some (waits (seen ++ name ∷ []) count choice)
    unfolding step
    apart_read seen count name choice fresh is =
        let sound_name = name_sound name choice is in
        rw (dashes name, apart_uncut name sound_name, is, fresh, named_apart name sound_name) refl

    pub joined_read : (seen : List (List ℕ)) (count : ℕ) (name value : List ℕ) → Gives shape seen name value
        → step shape (idle seen count) (codes "--" ++ (name ++ (61 ∷ value))) ≡ Some (idle (seen ++ name ∷ []) count)
    unfolding step
    joined_read seen count name value (fresh, (choice, is, fit)) =
        let sound_name = name_sound name choice is in
        rw (
          dashes (name ++ (61 ∷ value)),
          joined_cut name value sound_name,
          is,
          fresh,
          fit,
          named_joined name value
              sound_name,
        ) refl

    pub items_end : (items : List Item) (seen : List (List ℕ)) (count : ℕ) → Complete shape seen count items
        → Ends shape (idle seen count) (line_of items)
    items_end [] seen count complete = (idle seen count, refl, grind (arith, nat_tests))
    items_end (Apart name value ∷ items) seen count ((fresh, (choice, is, fit)), rest) =
        ends_step (idle seen count) (waits (seen ++ name ∷ []) count choice) (codes "--" ++ name)
        (value ∷ line_of items) (apart_read seen count name choice fresh is)
        (ends_step (waits (seen ++ name ∷ []) count choice) (idle (seen ++ name ∷ []) count) value (line_of items)
        (value_read (seen ++ name ∷ []) count choice value fit)
        (items_end items (seen ++ name ∷ []) count rest))
    items_end (Joined name value ∷ items) seen count (gives, rest) =
        ends_step (idle seen count) (idle (seen ++ name ∷ []) count) (codes "--" ++ (name ++ (61 ∷ value)))
        (line_of items) (joined_read seen count name value gives)
        (items_end items (seen ++ name ∷ []) count rest)
    items_end (Operand word ∷ items) seen count (is, rest) =
        ends_step (idle seen count) (idle seen (count + 1)) word (line_of items) (operand_read seen count word is)
        (items_end items seen (count + 1) rest)

    -- ---- every line that was begun can be ended

    abbrev pub IsSoundWaiting : Option Choice → Type 0
    IsSoundWaiting None = Unit {0}
    IsSoundWaiting (Some choice) = fits choice.kind choice.default ≡ true

    pub record IsGood (r : Reading) : Type 0 where
      pub within : r.count ≤ length shape.operands
      pub waiting : IsSoundWaiting r.waiting

    default_fits : (name : List ℕ) (choice : Choice) → choice_named shape.choices name ≡ Some choice
        → fits choice.kind choice.default ≡ true
    default_fits name choice is =
        (and_parts (is_name choice.name) (fits choice.kind choice.default)
        (choice_sound shape.choices name choice choices_sound is).1).1

    good_took : (seen : List (List ℕ)) (count : ℕ) (word : List ℕ) (next : Reading) → count ≤ length shape.operands
        → Took seen count word next → IsGood next
    good_took seen count word next within (took_operand (place, is, fit) next_is) =
        subst IsGood (sym next_is) (record {
          within = let below = get_within shape.operands count place is in omega
              arith;
          waiting = tt;
        })
    good_took seen count word next within (took_joined name value word_is gives next_is) =
        subst IsGood (sym next_is) (record { within = within; waiting = tt })
    good_took seen count word next within (took_apart name choice word_is fresh is next_is) =
        subst IsGood (sym next_is) (record { within = within; waiting = default_fits name choice is })

    good_by : (seen : List (List ℕ)) (count : ℕ) (waiting : Option Choice) (word : List ℕ) (next : Reading)
        → count ≤ length shape.operands
        → step shape (record { seen = seen; count = count; waiting = waiting }) word ≡ Some next → IsGood next
    good_by seen count None word next within is = good_took seen count word next within (took seen count word next is)
    good_by seen count (Some choice) word next within is =
        subst IsGood (sym (took_value seen count choice word next is).1) (record { within = within; waiting = tt })

    pub good_read : (words : List (List ℕ)) (r last : Reading) → IsGood r → read_on shape r words ≡ Some last
        → IsGood last
    good_read [] r last good read = let same : r ≡ last = cc in subst IsGood same good
    good_read (word ∷ words) r last good read =
        let first = first_read r word words last (step shape r word) refl read in
        good_read words first.0 last (good_by r.seen r.count r.waiting word first.0 good.within first.1) first.2

    pub good_start : IsGood (idle [] 0)
    good_start = record { within = omega arith; waiting = tt }

    operands_left : (n : ℕ) (seen : List (List ℕ)) (count : ℕ) → count + n ≡ length shape.operands
        → (more : List (List ℕ)) × Ends shape (idle seen count) more
    operands_left zero seen count is = ([], (idle seen count, refl, grind (arith, nat_tests)))
    operands_left (suc n) seen count is =
        let place = get_below shape.operands count (omega arith) in
        let fit : fits place.0.kind (example place.0.kind) ≡ true =
        all_at is_sound_place shape.operands count place.0 places_sound place.1 in
        let more = operands_left n seen (count + 1) (omega arith) in (
          example place.0.kind ∷ more.0,
          ends_step (idle seen count) (idle seen (count + 1)) (example place.0.kind) more.0
              (operand_read seen count (example place.0.kind) (place.0, place.1, fit)) more.1,
        )

    completes_by : (seen : List (List ℕ)) (count : ℕ) (waiting : Option Choice)
        → IsGood (record { seen = seen; count = count; waiting = waiting })
        → (more : List (List ℕ)) × Ends shape (record { seen = seen; count = count; waiting = waiting }) more
    completes_by seen count None good =
        operands_left (length shape.operands - count) seen count (let w = good.within in omega arith)
    completes_by seen count (Some choice) good =
        let more = operands_left (length shape.operands - count) seen count (let w = good.within in omega arith) in (
          choice.default ∷ more.0,
          ends_step (waits seen count choice) (idle seen count) choice.default more.0
              (value_read seen count choice choice.default good.waiting) more.1,
        )

    pub completes : (r : Reading) → IsGood r → (more : List (List ℕ)) × Ends shape r more
    completes r good = completes_by r.seen r.count r.waiting good
