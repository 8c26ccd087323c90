use Rattle.std.proofs.Common.{◌≡◌, ◌∙◌, true, false, sym}
use Rattle.std.specs.Str.{bytes_eq}
use Rattle.halo_words.proofs.LookUps.{form_here, form_over}
use Rattle.halo_words.proofs.lines.form_named.Goals as goal

pub returns-then-eq : goal.returns-then-eq
returns-then-eq c =
    let test : bytes_eq c.form_at-form.result.word.now c.args.word.now ≡ true = cc in
    sym (form_here c.args.forms.now c.loop-at.at c.form_at-form.result c.args.word.now c.form_at-form.ensures test)
    ∙ c.loop-at.invariant

pub loop-at-preserved : goal.loop-at-preserved
loop-at-preserved c =
    let test : bytes_eq c.form_at-form.result.word.now c.args.word.now ≡ false = cc in
    sym (form_over c.args.forms.now c.loop-at.at c.form_at-form.result c.args.word.now c.form_at-form.ensures test)
    ∙ c.loop-at.invariant
