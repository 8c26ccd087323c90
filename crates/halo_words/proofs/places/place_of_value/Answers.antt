use Rattle.std.proofs.Common.{◌≡◌, ◌∙◌, ap, length, rules}
use Rattle.std.specs.Prelude.{unwrap_or}
use Rattle.halo_words.specs.Grammar.{texts}
use Rattle.halo_words.proofs.Placing.{place_in_line}
use Rattle.halo_words.proofs.places.place_of_value.Goals as goal

pub returns : goal.returns
returns c = λ asked asks.
    let name : c.as_bytes.result.now ≡ c.args.name.now = search rules in
    (rw name at c.first_given.ensures)
    ∙ ap (λ o. unwrap_or o (length c.args.words.now))
    (place_in_line c.args.name.now (texts c.args.words.now) asked asks)
