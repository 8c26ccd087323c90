use Rattle.std.proofs.Common.{◌≡◌, ◌<◌, ◌++◌, List, ℕ, length, take, get_or, ap, sym, ◌∙◌, arith, append_assoc}
use Rattle.std.proofs.lemmas.List.{get_or_default}
use Rattle.plan_core.specs.declared.profiles.Node.{Node}
use Rattle.profile_text.specs.Profile.{line_text, text_of, context_line, context_lines}
use Rattle.profile_text.proofs.Stages.{contexts_more}
use Rattle.profile_text.proofs.writer.write_contexts.Goals as goal

pub loop-at-preserved : goal.loop-at-preserved
loop-at-preserved c =
    let node : Node = get_or c.args.nodes.now c.loop-at.at (record { grants = 0; accesses = 0 }) in
    let same : length c.args.nodes.now ≡ length c.args.contexts.now = c.requires in
    let in_nodes : c.loop-at.at < length c.args.nodes.now = omega arith in
    let more = contexts_more c.args.contexts.now c.args.nodes.now c.loop-at.at c.index-contexts-at.result
    (get_or c.args.nodes.now c.loop-at.at (record { grants = 0; accesses = 0 }))
    same (omega arith) c.index-contexts-at.is (get_or_default c.args.nodes.now c.loop-at.at _ _ in_nodes) in
    let front : List ℕ = text_of (context_lines 0 (take c.loop-at.at c.args.contexts.now)
    (take c.loop-at.at c.args.nodes.now)) in
    let line : List ℕ = line_text (context_line c.loop-at.at c.index-contexts-at.result
    (get_or c.args.nodes.now c.loop-at.at (record { grants = 0; accesses = 0 }))) in
    c.in_ok-write_context.ensures
    ∙ (ap (λ o. o ++ line) c.loop-at.invariant
    ∙ (append_assoc c.args.out.now.items front line ∙ ap (λ t. c.args.out.now.items ++ t) (sym more)))
