use Rattle.std.proofs.Common.{ℤ, ap, ◌<◌, ◌≤◌, ◌∙◌, length, get_or, arith, rules, true, false}
use Rattle.std.proofs.lemmas.List.{get_or_default, places}
use Rattle.std.proofs.lemmas.Bool.{both_ways}
use Rattle.std.proofs.lemmas.Int.{to_z-of_z}
use mir.Syntax.{w128}
use Rattle.grouping.specs.Choosing.{better_of}
use Rattle.grouping.proofs.Weighing.{in_range}
use Rattle.grouping.proofs.Candidates.{best_skip, best_more}
use Rattle.grouping.proofs.choice.best.Goals as goal
use Rattle.grouping.proofs.choice.best.Goals.{then-not-busy-context, else-not-busy-context}

pub ask-answer-requires : goal.ask-answer-requires
ask-answer-requires g c =
    let x = c.loop-context.context in
    let es = c.args.kept.now.edges.items in
    let group = c.args.growth.now.members.items in
    let below : x < length c.args.kept.now.loops.items = omega
    (arith, c.requires.kept.count, c.loop-context-test.true) in
    let own = c.index.ensures ∙ get_or_default _ _ _ 0 below ∙ c.requires.kept.loops x below in
    let some : 1 ≤ length group = search (rules, places) in
    let few : length group < 8 = search (rules, places) in
    rw (c.cut.ensures es c.requires.counted own)
    (in_range _ es c.args.tolerance group x c.requires.kept.edges some few c.requires.tolerance)

pub loop-context-preserved : goal.loop-context-preserved
loop-context-preserved g c =
    let x = c.loop-context.context in
    let es = c.args.kept.now.edges.items in
    let h = c.loop-context-test.true in
    elim c.if-not-busy-context.branch [
      | then-not-busy-context w ↦
          let idle = get_or_default c.args.busy.now x true false h ∙ w.if-not-busy-context.true in
          let below : x < length c.args.kept.now.loops.items = omega (arith, c.requires.kept.count, h) in
          let own = w.index.ensures ∙ get_or_default _ _ _ 0 below ∙ c.requires.kept.loops x below in
          let counts = w.cut.ensures es c.requires.counted own in
          let same = to_z-of_z w128 w.ask-answer.result (search rules) in
          let better = w.better-best.ensures ∙ ap (λ (a : ℤ). better_of c.loop-context.best record
          { context = x; answer = a }) same in
          rw (w.best-is, better)
          (best_more _ _ x c.loop-context.best w.ask-answer.result idle (rw counts at w.ask-answer.ensures.answer)
          c.loop-context.invariant)
      | else-not-busy-context w ↦ rw w.best-is (best_skip _ _ x c.loop-context.best
          (λ idle. both_ways (get_or c.args.busy.now x true) idle
          (get_or_default c.args.busy.now x true false h ∙ w.if-not-busy-context.false)) c.loop-context.invariant)
    ]
