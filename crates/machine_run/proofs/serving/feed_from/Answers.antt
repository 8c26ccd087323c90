use Rattle.std.proofs.Common.{rules, arith, ◌≡◌, ◌<◌, ◌≤◌, ℕ, List, [], ◌++◌, length, take, drop, ◌∙◌, refl}
use Rattle.std.proofs.lemmas.List.{length-take, length-append, length-drop}
use Rattle.machine_run.proofs.Drawing.{draws_none, draws_kept, draws_next}
use Rattle.machine_run.proofs.Feeding.{err_kept, fed_none, fed_end, fed_all, fed_more, piece_long, still_waits}
use Rattle.machine_run.proofs.serving.feed_from.Goals as goal

pub loop-fed-init : goal.loop-fed-init
loop-fed-init g c = record {
  within = omega arith;
  room = search rules;
  waits = c.requires;
  runs = search rules;
  lasts = refl;
  bytes = λ m is. ([], is);
  tells = search rules;
  later = omega arith;
  more = omega arith;
  counted = λ left. draws_none left _ _;
  told = λ m left. fed_none _ _ m left _ _;
}

pub returns-in_err-count-clause-part : goal.returns-in_err-count-clause-part
returns-in_err-count-clause-part g c = err_kept _ _ _ _ _ _ _ _ _
    c.loop-fed.invariant.told c.in_err-count.ensures.kept c.loop-fed-test.true

pub returns-in_err-count-clause-counted : goal.returns-in_err-count-clause-counted
returns-in_err-count-clause-counted g c = λ left told fits.
    draws_kept left _ _ _ _ _ (c.loop-fed.invariant.counted left told fits) c.in_err-count.ensures.kept
    c.in_err-count.ensures.none_taken

pub returns-then-count-eq0-clause-counted : goal.returns-then-count-eq0-clause-counted
returns-then-count-eq0-clause-counted g c = λ left told fits.
    draws_next left _ _ _ _ _ _ _ _ (c.loop-fed.invariant.counted left told fits) c.in_ok-count.ensures.moved
    c.in_ok-count.ensures.counted

pub returns-then-count-eq0-clause-whole : goal.returns-then-count-eq0-clause-whole
returns-then-count-eq0-clause-whole g c = λ m left is told.
    let room : 0 < length (take c.min-most.result c.loop-fed.buffer) =
    omega (arith, c.loop-fed.invariant.room, length-take c.min-most.result c.loop-fed.buffer) in
    fed_end _ _ m left _ _ _ _ _ _ _ (c.loop-fed.invariant.told m left is told) c.in_ok-count.ensures.moved
    (search rules) room

pub loop-fed-preserved : goal.loop-fed-preserved
loop-fed-preserved g c =
    let few : c.in_ok-count.count ≤ length c.read.new.into =
    omega (arith, c.in_ok-count.ensures.within, length-take c.min-most.result c.loop-fed.buffer, c.read.auto.into) in
    let piece : List ℕ = take c.in_ok-count.count (c.read.new.into ++ drop c.min-most.result c.loop-fed.buffer) in
    record {
      within = omega (arith, c.in_ok-count.ensures.within, length-take c.min-most.result c.loop-fed.buffer);
      room = omega (
        arith,
        c.loop-fed.invariant.room,
        c.read.auto.into,
        length-take c.min-most.result c.loop-fed.buffer,
        length-drop c.min-most.result c.loop-fed.buffer,
        length-append c.read.new.into (drop c.min-most.result c.loop-fed.buffer),
      );
      waits = still_waits _ _ _ _ (length piece) _ c.take_piece.ensures.waits c.loop-fed.invariant.waits
          (piece_long _ _ _ few);
      runs = c.take_piece.ensures.runs ∙ c.loop-fed.invariant.runs;
      lasts = c.take_piece.ensures.lasts ∙ c.loop-fed.invariant.lasts;
      bytes = λ m is.
          (let fed = c.loop-fed.invariant.bytes m is in
          (fed.0 ++ piece, c.take_piece.ensures.adds_up m c.args.len fed.0 fed.1));
      tells = search rules;
      later = omega arith;
      more = omega arith;
      counted = λ left told fits.
          draws_next left _ _ _ _ _ _ _ _ (c.loop-fed.invariant.counted left told fits) c.in_ok-count.ensures.moved
          c.in_ok-count.ensures.counted;
      told = λ m left is told.
          fed_more _ _ m left _ _ _ _ _ _ _ _ _ _ (c.loop-fed.invariant.told m left is told) c.in_ok-count.ensures.moved
          refl c.take_piece.ensures.adds_up;
    }

pub returns-clause-whole : goal.returns-clause-whole
returns-clause-whole g c = λ m left is told.
    let all : c.loop-fed.fed ≡ c.args.len = omega arith in
    fed_all _ _ m left _ _ _ (c.loop-fed.invariant.told m left is told) all
