use Rattle.std.proofs.Common.{◌≡◌, map, take}
use Rattle.clap.specs.Words.{app_of}
use Rattle.halo_words.specs.Table.{place_of}
use Rattle.halo_words.specs.Apps.{operand_rule, with_rules}
use Rattle.halo_words.proofs.values.with_operands.Given as goal

abbrev pub invariant-loop-at : goal.invariant-loop-at
invariant-loop-at l =
    app_of l.command ≡ with_rules (app_of l.fn.command) (map operand_rule (map place_of (take l.at l.operands)))
