use Rattle.std.proofs.Common.{◌≡◌, ◌∙◌, [], inl, inr, take, slice_get, length, Some, sym, rules, arith}
use Rattle.std.specs.Prelude.{string_bytes}
use Rattle.std.proofs.lemmas.List.{length-map, take_all}
use Rattle.halo_words.specs.Table.{shape_of}
use Rattle.halo_words.specs.Grammar.{texts}
use Rattle.halo_words.specs.Reading.{Reading, idle, read_on, names_in, reading_of}
use Rattle.halo_words.proofs.Loops.{text_at, one_more, names_more, all_read, taken_texts}
use Rattle.halo_words.proofs.reading.read_items.Goals as goal

pub returns-in-None-clause-wrong : goal.returns-in-None-clause-wrong
returns-in-None-clause-wrong c =
    let here : slice_get (texts c.args.words.now) c.loop-at.at ≡ Some (string_bytes c.index-words-at.result) =
    text_at c.args.words.now c.loop-at.at c.index-words-at.result c.loop-at-test.true c.index-words-at.is in (
      _,
      c.loop-at.invariant.read,
      inl (
        string_bytes c.index-words-at.result,
        here,
        rw (← c.as_str.ensures.value, taken_texts c.args.words.now c.loop-at.at) c.in-None.ensures.met,
      ),
    )

pub loop-at-preserved : goal.loop-at-preserved
loop-at-preserved c =
    let here : slice_get (texts c.args.words.now) c.loop-at.at ≡ Some (string_bytes c.index-words-at.result) =
    text_at c.args.words.now c.loop-at.at c.index-words-at.result c.loop-at-test.true c.index-words-at.is in
    let met = rw (c.as_str.ensures.value, ← taken_texts c.args.words.now c.loop-at.at) at c.in-Some.ensures.met in
    record {
      read = rw (names_more (texts c.args.words.now) c.loop-at.at (string_bytes c.index-words-at.result) here)
          (one_more (texts c.args.words.now) c.loop-at.at (string_bytes c.index-words-at.result) here
          (shape_of c.args.form) (idle [] 0) _ _ c.loop-at.invariant.read met);
      waits = search rules;
    }

pub returns-then-ends-clause-ok : goal.returns-then-ends-clause-ok
returns-then-ends-clause-ok c = (
  _,
  all_read (shape_of c.args.form) (idle [] 0) _ c.args.words.now c.loop-at.at c.loop-at-test.false
      c.loop-at.invariant.read,
  sym (c.ends.ensures (names_in (take c.loop-at.at (texts c.args.words.now)))) ∙ c.if-ends.true,
)

pub returns-else-ends-clause-wrong : goal.returns-else-ends-clause-wrong
returns-else-ends-clause-wrong c =
    let whole : take (length c.args.words.now) (texts c.args.words.now) ≡ texts c.args.words.now =
    take_all (length c.args.words.now) (texts c.args.words.now) (simp length-map (omega arith)) in
    let last : Reading = reading_of (names_in (take c.loop-at.at (texts c.args.words.now))) c.loop-at.read in
    let read : read_on (shape_of c.args.form) (idle [] 0) (texts c.args.words.now) ≡ Some last =
    all_read (shape_of c.args.form) (idle [] 0) last c.args.words.now c.loop-at.at c.loop-at-test.false
    c.loop-at.invariant.read in (
      last,
      rw whole read,
      inr (
        simp length-map,
        sym (c.ends.ensures (names_in (take c.loop-at.at (texts c.args.words.now))))
            ∙ c.if-ends.false,
      ),
    )
