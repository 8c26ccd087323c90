use Rattle.std.proofs.Common.{◌≡◌, ◌∙◌, ap}
use Rattle.std.proofs.lemmas.Result.{IfOk-weaker, IfErr-weaker}
use Rattle.clap.specs.Words.{app_of, found_of, is_simple, matches_of, takes}
use Rattle.halo_words.specs.Table.{shape_of}
use Rattle.halo_words.specs.Grammar.{texts}
use Rattle.halo_words.specs.Apps.{app_for}
use Rattle.halo_words.proofs.Parsed.{parse_simple, parse_taken, parse_asks}
use Rattle.halo_words.proofs.values.parse.Goals as goal

pub returns-clause-refused : goal.returns-clause-refused
returns-clause-refused c =
    let app_is : app_of c.in_ok-command.command ≡ app_for (shape_of c.args.form) = c.in_ok-command.ensures in
    IfErr-weaker c.try_get_matches_from.result _ _
    (λ e refused. refused (ap (λ a. takes a (texts c.args.words.now)) app_is
    ∙ parse_taken (texts c.args.words.now) (shape_of c.args.form) c.requires))
    c.try_get_matches_from.ensures.passes

pub returns-clause-found : goal.returns-clause-found
returns-clause-found c =
    let app_is : app_of c.in_ok-command.command ≡ app_for (shape_of c.args.form) = c.in_ok-command.ensures in
    IfOk-weaker c.try_get_matches_from.result _ _
    (λ m found. parse_asks (texts c.args.words.now) (shape_of c.args.form) c.requires (found_of m)
    ((found (ap is_simple app_is ∙ parse_simple (texts c.args.words.now) (shape_of c.args.form) c.requires)).0
    ∙ ap (λ a. matches_of a (texts c.args.words.now)) app_is))
    c.try_get_matches_from.ensures.matches
