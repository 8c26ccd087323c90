-- The walk of clap over the words of a line's items: each turn passes, and leaves one more value.
use Rattle.std.proofs.Common.{◌≡◌, ◌∙◌, ◌&&◌, ◌+◌, ◌<◌, ℕ, Bool, true, false, List, [], ◌∷◌, ◌++◌, slice_get, min, Some}
use Rattle.std.proofs.Common.{None, codes, refl, sym, ap, subst, arith, append-nil}
use Rattle.std.specs.Prelude.{fold}
use Rattle.std.specs.Str.{bytes_eq}
use Rattle.std.proofs.lemmas.Slice.Eq.{bytes_eq-Decides}
use Rattle.clap.specs.declared.parser.matches.ValueSource.TheVariants.{CommandLine}
use Rattle.clap.specs.declared.builder.value_parser.ValueParser.TheVariants as vp
use Rattle.clap.specs.Lexer.{usize_max, long_of, short_of}
use Rattle.clap.specs.Values.{reading_of}
use Rattle.clap.specs.Walk.{Row, Held, Waiting, Walk, idle, option, arg_by_id, arg_by_long, arg_by_index, has_row}
use Rattle.clap.specs.Walk.{at_row, more_values, without, with_values, is_pending, settled, walked}
use Rattle.clap.specs.Takes.{settle_passes, turn_passes, walk_passes}
use Rattle.halo_words.specs.Table.{Choice, OperandRule, CommandForm, is_plain, choice_named}
use Rattle.halo_words.specs.Sound.{is_name}
use Rattle.halo_words.proofs.ClapWords.{no_dashes, no_long, no_short, long_apart, long_joined, apart_is_no_end}
use Rattle.halo_words.proofs.ClapWords.{joined_is_no_end}
use Rattle.halo_words.proofs.ClapRules.{built_option, built_operand, operands_from, built_rules, built_shape}
use Rattle.halo_words.proofs.ClapRules.{long_found, id_found, index_of_operand, both_true}

-- what was found for an argument with one value
abbrev pub row : List ℕ → List ℕ → Row
row id value = record {
  id = id;
  values = value ∷ [];
  count = None;
  source = Some CommandLine;
  reading = reading_of vp.String;
}

no_row_by : (id : List ℕ) (r : Row) (change : Row → List Row) (missing rows : List Row) (test : Bool)
    → bytes_eq r.id id ≡ test → has_row id (r ∷ rows) ≡ false
    → (has_row id rows ≡ false → at_row id change missing rows ≡ rows ++ missing)
    → at_row id change missing (r ∷ rows) ≡ r ∷ (rows ++ missing)
no_row_by id r change missing rows true test none later = let wrong : true ≡ false = rw test at none in absurd (cc)
no_row_by id r change missing rows false test none later = rw test (ap (λ rs. r ∷ rs) (later (rw test at none)))

-- rows without one of this id
no_row : (id : List ℕ) (change : Row → List Row) (missing rows : List Row) → has_row id rows ≡ false
    → at_row id change missing rows ≡ rows ++ missing
no_row id change missing [] none = refl
no_row id change missing (r ∷ rows) none =
    no_row_by id r change missing rows (bytes_eq r.id id) refl none (no_row id change missing rows)

pub one_more_row : (id value : List ℕ) (rows : List Row) → has_row id rows ≡ false
    → with_values id (reading_of vp.String) CommandLine (value ∷ []) (without id rows) ≡ rows ++ row id value ∷ []
one_more_row id value rows none =
    let kept : without id rows ≡ rows = no_row id (λ r. []) [] rows none ∙ append-nil rows in
    ap (with_values id (reading_of vp.String) CommandLine (value ∷ [])) kept
    ∙ no_row id (more_values CommandLine (value ∷ [])) (row id value ∷ []) rows none

and_false : (b : Bool) → (b && false) ≡ false
and_false true = refl
and_false false = refl

module _ (shape : CommandForm) where
  -- the walk behind so many operands
  abbrev pub walk_at : Held → ℕ → Waiting → Walk
  walk_at h count waiting =
      record { held = h; waiting = waiting; position = count + 1; is_trailing = false; stopped = None }

  -- a word is taken, and leads there
  pub record Turn (w : Walk) (word : List ℕ) (next : Walk) : Type 0 where
    pub passes : turn_passes (built_shape shape) [] w word ≡ true
    pub leads : walked (built_rules shape) [] w word ≡ next

  pub record Goes (w : Walk) (words : List (List ℕ)) (end : Walk) : Type 0 where
    pub passes : walk_passes (built_shape shape) [] w words ≡ true
    pub leads : fold (walked (built_rules shape) []) w words ≡ end

  pub goes_on : (w next end : Walk) (word : List ℕ) (words : List (List ℕ)) → Turn w word next → Goes next words end
      → Goes w (word ∷ words) end
  unfolding walk_passes
  goes_on w next end word words turn goes = record {
    passes = both_true _ _ turn.passes (subst (λ n. walk_passes (built_shape shape) [] n words ≡ true)
        (sym turn.leads) goes.passes);
    leads = ap (λ n. fold (walked (built_rules shape) []) n words) turn.leads ∙ goes.leads;
  }

  -- the pending argument can be used, and then these are the rows
  pub record Holds (h : Held) (rows : List Row) : Type 0 where
    pub rows_are : (settled (built_rules shape) h).rows ≡ rows
    pub passes : settle_passes (built_rules shape) false h ≡ true

  -- one value is pending, or was just used
  abbrev pub pends : Held → List ℕ → List ℕ → Held
  pends h id value = record (settled (built_rules shape) h) { pending = Some (id, value ∷ []) }

  abbrev pub has_used : Held → List ℕ → List ℕ → Held
  has_used h id value = record h {
    rows = with_values id (reading_of vp.String) CommandLine (value ∷ [])
        (without id (settled (built_rules shape) h).rows);
    pending = None;
  }

  -- ---- the turns

  pub operand_turn : (h : Held) (count : ℕ) (word : List ℕ) (place : OperandRule) → count < 64
      → slice_get shape.operands count ≡ Some place → is_plain word ≡ true
      → settle_passes (built_rules shape) false h ≡ true → Turn (walk_at h count idle) word
      (walk_at (pends h place.name word) (count + 1) idle)
  unfolding walked
  operand_turn h count word place few is plain passes =
      let dashes : bytes_eq word (45 ∷ 45 ∷ []) ≡ false = no_dashes word plain in
      let long : long_of word ≡ None = no_long word plain in
      let short : short_of word ≡ None = no_short word plain in
      let by_index : arg_by_index (built_rules shape) (count + 1) ≡ Some (built_operand (count + 1) place) =
      index_of_operand shape.choices 1 shape.operands count (count + 1) place (omega arith) is in
      let capped : min (count + 1 + 1) usize_max ≡ count + 1 + 1 = omega arith in
      let never : (is_pending (built_operand (count + 1) place) h.pending && false) ≡ false =
      and_false (is_pending (built_operand (count + 1) place) h.pending) in
      record {
        passes = rw (dashes, long, short, by_index, never, passes) refl;
        leads = rw (dashes, long, short, by_index, capped, never) refl;
      }

  pub joined_turn : (h : Held) (count : ℕ) (name value : List ℕ) (choice : Choice) → is_name name ≡ true
      → choice.name ≡ name → choice_named shape.choices name ≡ Some choice
      → settle_passes (built_rules shape) false h ≡ true → has_row name (settled (built_rules shape) h).rows ≡ false
      → Turn (walk_at h count idle) (codes "--" ++ (name ++ (61 ∷ value))) (walk_at (has_used h name value) count idle)
  unfolding walked
  joined_turn h count name value choice sound same is passes fresh =
      let dashes : bytes_eq (codes "--" ++ (name ++ (61 ∷ value))) (45 ∷ 45 ∷ []) ≡ false =
      joined_is_no_end name sound value in
      let long : long_of (codes "--" ++ (name ++ (61 ∷ value))) ≡ Some (name, Some value) =
      long_joined name sound value in
      let by_long : arg_by_long (built_rules shape) name ≡ Some (built_option choice) =
      long_found shape.choices (operands_from 1 shape.operands) name choice is in
      record {
        passes = rw (dashes, long, by_long, same, passes, fresh) refl;
        leads = rw (dashes, long, by_long, same) refl;
      }

  pub apart_turn : (h : Held) (count : ℕ) (name : List ℕ) (choice : Choice) → is_name name ≡ true → choice.name ≡ name
      → choice_named shape.choices name ≡ Some choice
      → settle_passes (built_rules shape) false h ≡ true
      → Turn (walk_at h count idle) (codes "--" ++ name) (walk_at
      (record (settled (built_rules shape) h) { pending = Some (name, []) }) count (option name))
  unfolding walked
  apart_turn h count name choice sound same is passes =
      let dashes : bytes_eq (codes "--" ++ name) (45 ∷ 45 ∷ []) ≡ false = apart_is_no_end name sound in
      let long : long_of (codes "--" ++ name) ≡ Some (name, None) = long_apart name sound in
      let by_long : arg_by_long (built_rules shape) name ≡ Some (built_option choice) =
      long_found shape.choices (operands_from 1 shape.operands) name choice is in
      record {
        passes = rw (dashes, long, by_long, passes) refl;
        leads = rw (dashes, long, by_long, same) refl;
      }

  pub value_turn : (h : Held) (count : ℕ) (name value : List ℕ) (choice : Choice) → choice.name ≡ name
      → choice_named shape.choices name ≡ Some choice → is_plain value ≡ true
      → Turn (walk_at (record (settled (built_rules shape) h) { pending = Some (name, []) }) count (option name))
      value (walk_at (pends h name value) count idle)
  unfolding walked
  value_turn h count name value choice same is plain =
      let dashes : bytes_eq value (45 ∷ 45 ∷ []) ≡ false = no_dashes value plain in
      let long : long_of value ≡ None = no_long value plain in
      let short : short_of value ≡ None = no_short value plain in
      let by_id : arg_by_id (built_rules shape) name ≡ Some (built_option choice) =
      id_found shape.choices (operands_from 1 shape.operands) name choice is in
      let itself : bytes_eq name name ≡ true = (bytes_eq-Decides name name).1 refl in
      record {
        passes = rw (dashes, long, short) refl;
        leads = rw (dashes, long, short, by_id, same, itself) refl;
      }

  -- ---- what is held behind an item

  pub pending_option : (h : Held) (rows : List Row) (name value : List ℕ) (choice : Choice) → choice.name ≡ name
      → choice_named shape.choices name ≡ Some choice
      → Holds h rows → has_row name rows ≡ false → Holds (pends h name value) (rows ++ row name value ∷ [])
  pending_option h rows name value choice same is holds fresh =
      let by_id : arg_by_id (built_rules shape) name ≡ Some (built_option choice) =
      id_found shape.choices (operands_from 1 shape.operands) name choice is in
      let none : has_row name (settled (built_rules shape) h).rows ≡ false = rw holds.rows_are fresh in
      record {
        rows_are = rw (by_id, same, holds.rows_are) (one_more_row name value rows fresh);
        passes = rw (by_id, same, none) refl;
      }

  pub used_option : (h : Held) (rows : List Row) (name value : List ℕ) → Holds h rows → has_row name rows ≡ false
      → Holds (has_used h name value) (rows ++ row name value ∷ [])
  used_option h rows name value holds fresh = record {
    rows_are = rw holds.rows_are (one_more_row name value rows fresh);
    passes = refl;
  }

  pub pending_operand : (h : Held) (rows : List Row) (count : ℕ) (word : List ℕ) (place : OperandRule)
      → arg_by_id (built_rules shape) place.name ≡ Some (built_operand (count + 1) place)
      → Holds h rows → has_row place.name rows ≡ false → Holds (pends h place.name word)
      (rows ++ row place.name word ∷ [])
  pending_operand h rows count word place by_id holds fresh =
      let none : has_row place.name (settled (built_rules shape) h).rows ≡ false = rw holds.rows_are fresh in
      record {
        rows_are = rw (by_id, holds.rows_are) (one_more_row place.name word rows fresh);
        passes = rw (by_id, none) refl;
      }
