use Rattle.std.proofs.Common.{◌∙◌, ap, ap₂, sym, map, take}
use Rattle.clap.specs.Words.{app_of, with_rule}
use Rattle.halo_words.specs.Table.{choice_of}
use Rattle.halo_words.specs.Apps.{option_rule, with_rules}
use Rattle.halo_words.proofs.Loops.{mapped_more}
use Rattle.halo_words.proofs.Parsed.{rules_more}
use Rattle.halo_words.proofs.values.with_options.Goals as goal

pub loop-at-preserved : goal.loop-at-preserved
loop-at-preserved c =
    c.in_ok-command.ensures.shape c.option_arg.ensures.local
    ∙ (ap₂ with_rule c.loop-at.invariant c.option_arg.ensures.rule
    ∙ (rules_more (app_of c.args.command) (map option_rule (map choice_of (take c.loop-at.at c.args.settings.now)))
    (option_rule (choice_of c.setting_at-setting.result))
    ∙ ap (with_rules (app_of c.args.command)) (sym (mapped_more option_rule choice_of c.args.settings.now c.loop-at.at
    c.setting_at-setting.result c.setting_at-setting.ensures))))
