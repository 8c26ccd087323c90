use Rattle.std.proofs.Common.{◌≡◌, ◌∙◌, true, false, sym}
use Rattle.std.specs.Prelude.{string_bytes}
use Rattle.halo_words.specs.Grammar.{is_among}
use Rattle.halo_words.specs.Reading.{named}
use Rattle.halo_words.proofs.LookUps.{named_here, named_later}
use Rattle.halo_words.proofs.reading.is_named.Goals as goal

pub returns-then-gives : goal.returns-then-gives
returns-then-gives c =
    let test : is_among c.args.name.now (named (string_bytes c.word-item.result)) ≡ true = cc in
    sym (named_here _ _ _ _ c.loop-word-test.true c.word-item.is test) ∙ c.loop-word.invariant

pub loop-word-preserved : goal.loop-word-preserved
loop-word-preserved c =
    let test : is_among c.args.name.now (named (string_bytes c.word-item.result)) ≡ false = cc in
    sym (named_later _ _ _ _ c.loop-word-test.true c.word-item.is test) ∙ c.loop-word.invariant
