use Rattle.std.proofs.Common.{◌≡◌, ◌∙◌, ◌+◌, ◌≤◌, length, drop, slice_get, Option, Some, None, sym, ap, arith, rules}
use Rattle.std.specs.Prelude.{string_bytes, unwrap_or}
use Rattle.std.proofs.lemmas.List.{length-map}
use Rattle.halo_words.specs.Grammar.{texts}
use Rattle.halo_words.specs.Reading.{place_by, first_place}
use Rattle.halo_words.proofs.Loops.{text_at}
use Rattle.halo_words.proofs.Placing.{passed, given_here, none_left}
use Rattle.halo_words.proofs.places.first_given.Goals as goal

pub returns-in-Some : goal.returns-in-Some
returns-in-Some c =
    let here : slice_get (texts c.args.words.now) c.loop-at.at ≡ Some (string_bytes c.index-words-at.result) =
    text_at c.args.words.now c.loop-at.at c.index-words-at.result c.loop-at-test.true c.index-words-at.is in
    let place : place_by c.args.name.now (string_bytes c.index-words-at.result) c.loop-at.at ≡ Some c.in-Some.place =
    sym (rw (c.as_str.ensures.value) at c.in-Some.ensures) in
    ap (λ o. unwrap_or o (length c.args.words.now))
    (sym (given_here c.args.name.now (texts c.args.words.now) c.loop-at.at _ here c.in-Some.place place)
    ∙ c.loop-at.invariant)

pub loop-at-preserved : goal.loop-at-preserved
loop-at-preserved c =
    let here : slice_get (texts c.args.words.now) c.loop-at.at ≡ Some (string_bytes c.index-words-at.result) =
    text_at c.args.words.now c.loop-at.at c.index-words-at.result c.loop-at-test.true c.index-words-at.is in
    let none : place_by c.args.name.now (string_bytes c.index-words-at.result) c.loop-at.at ≡ None =
    sym (rw (c.as_str.ensures.value) at c.in_default.ensures) in
    passed c.args.name.now (texts c.args.words.now) c.loop-at.at _ here none ∙ c.loop-at.invariant

pub returns : goal.returns
returns c =
    ap (λ o. unwrap_or o (length c.args.words.now))
    (sym (none_left c.args.name.now (texts c.args.words.now) c.loop-at.at c.loop-at.at
    (simp length-map (omega (arith, c.loop-at-test.false))))
    ∙ c.loop-at.invariant)
