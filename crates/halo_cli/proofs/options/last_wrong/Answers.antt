use Rattle.std.proofs.Common.{◌≡◌, ◌∙◌, false, inl, length, sym, ap, rules, codes}
use Rattle.std.specs.Prelude.{unwrap_or}
use Rattle.std.proofs.lemmas.List.{length-map}
use Rattle.halo_words.specs.Grammar.{texts, value_place}
use Rattle.halo_cli.proofs.options.last_wrong.Goals as goal

pub returns-then-not-is_there : goal.returns-then-not-is_there
returns-then-not-is_there g c = λ asks.
    let test : c.is_there.result ≡ false = search rules in
    let all : length (texts c.args.words.now) ≡ length c.args.words.now = simp length-map in inl (
      sym (rw c.policy_name.ensures at c.is_there.ensures) ∙ test,
      c.place_of_value.ensures c.args.values.now asks
          ∙ ap (unwrap_or (value_place (codes "policy") 1 asks.items)) (sym all),
    )
