use Rattle.std.proofs.Common.{◌≡◌, ◌∙◌, true, false, sym}
use Rattle.std.specs.Str.{bytes_eq}
use Rattle.halo_words.proofs.LookUps.{found_here, passed_over}
use Rattle.halo_words.proofs.reading.find_setting.Goals as goal

pub returns-then-eq : goal.returns-then-eq
returns-then-eq c =
    let test : bytes_eq c.setting_at-setting.result.name.now c.args.name.now ≡ true = cc in
    sym (found_here c.args.settings.now c.loop-at.at c.setting_at-setting.result c.args.name.now
    c.setting_at-setting.ensures test) ∙ c.loop-at.invariant

pub loop-at-preserved : goal.loop-at-preserved
loop-at-preserved c =
    let test : bytes_eq c.setting_at-setting.result.name.now c.args.name.now ≡ false = cc in
    sym (passed_over c.args.settings.now c.loop-at.at c.setting_at-setting.result c.args.name.now
    c.setting_at-setting.ensures test) ∙ c.loop-at.invariant
