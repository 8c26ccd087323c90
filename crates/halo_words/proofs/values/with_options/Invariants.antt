use Rattle.std.proofs.Common.{◌≡◌, map, take}
use Rattle.clap.specs.Words.{app_of}
use Rattle.halo_words.specs.Table.{choice_of}
use Rattle.halo_words.specs.Apps.{option_rule, with_rules}
use Rattle.halo_words.proofs.values.with_options.Given as goal

abbrev pub invariant-loop-at : goal.invariant-loop-at
invariant-loop-at l =
    app_of l.command ≡ with_rules (app_of l.fn.command) (map option_rule (map choice_of (take l.at l.settings)))
