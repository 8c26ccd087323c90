use Rattle.std.proofs.Common.{◌≡◌, ◌∙◌, map, Some, None, sym}
use Rattle.clap.specs.Words.{found_of}
use Rattle.halo_words.specs.Table.{choice_of, shape_of, choice_named}
use Rattle.halo_words.proofs.Parsed.{option_is, option_lacks}
use Rattle.halo_words.proofs.values.value_named.Goals as goal

pub returns-in-Some : goal.returns-in-Some
returns-in-Some c =
    let named : choice_named (map choice_of c.args.form.settings.now) c.args.name.now ≡ Some
    (choice_of c.in-Some.setting) = cc (c.in-Some.ensures) in
    c.value_of.ensures ∙ sym (option_is (found_of c.args.matches.now) (shape_of c.args.form) c.args.name.now
    (choice_of c.in-Some.setting) named)

pub returns-in-None : goal.returns-in-None
returns-in-None c =
    let named : choice_named (map choice_of c.args.form.settings.now) c.args.name.now ≡ None = cc (c.in-None.ensures) in
    sym (option_lacks (found_of c.args.matches.now) (shape_of c.args.form) c.args.name.now named)
