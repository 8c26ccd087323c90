use Rattle.std.proofs.Common.{◌∙◌, ap, ap₂, sym, map, take}
use Rattle.clap.specs.Words.{app_of, with_rule}
use Rattle.halo_words.specs.Table.{place_of}
use Rattle.halo_words.specs.Apps.{operand_rule, with_rules}
use Rattle.halo_words.proofs.Loops.{mapped_more}
use Rattle.halo_words.proofs.Parsed.{rules_more}
use Rattle.halo_words.proofs.values.with_operands.Goals as goal

pub loop-at-preserved : goal.loop-at-preserved
loop-at-preserved c =
    c.in_ok-command.ensures.shape c.operand_arg.ensures.local
    ∙ (ap₂ with_rule c.loop-at.invariant c.operand_arg.ensures.rule
    ∙ (rules_more (app_of c.args.command) (map operand_rule (map place_of (take c.loop-at.at c.args.operands.now)))
    (operand_rule (place_of c.operand_at-operand.result))
    ∙ ap (with_rules (app_of c.args.command)) (sym (mapped_more operand_rule place_of c.args.operands.now c.loop-at.at
    c.operand_at-operand.result c.operand_at-operand.ensures))))
