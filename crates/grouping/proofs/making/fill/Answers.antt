use Rattle.std.proofs.Common.{◌≡◌, ◌+◌, ◌<◌, ◌∙◌, ap, length, rules, arith, inl, inr}
use Rattle.std.proofs.lemmas.List.{places}
use Rattle.grouping.specs.Greedy.Grown.{joined}
use Rattle.grouping.proofs.Weighing.{length_with}
use Rattle.grouping.proofs.Marking.{choice_joins, choice_closes, marks_more}
use Rattle.grouping.proofs.making.fill.Goals as goal

pub returns-in_default : goal.returns-in_default
returns-in_default g c = λ groups marks grown.
    let before = c.loop-growth.invariant.grown groups marks grown in
    let closes = choice_closes c.loop-growth.busy groups c.loop-growth.growth.members.items before.0
    (λ cut answer. (goal.Fn-dyn g).post (c.args.policy.now.rule.vtable, c.args.policy.now.rule.value) (cut, tt) answer)
    c.args.tolerance
    c.args.kept.now.edges.items c.in_default.ensures in
    ((before.1, inr (rw c.loop-growth.auto.busy at closes)), before.0)

pub loop-growth-preserved : goal.loop-growth-preserved
loop-growth-preserved g c =
    let old = c.loop-growth.growth.members.items in
    let x = c.in-Some.next in
    let below : x < length c.loop-growth.busy = c.in-Some.ensures.2.0 in
    let more : length c.take.new.growth.members.items ≡ length old + 1 = ap length c.in_ok-take.ensures.members
    ∙ length_with x old in
    record {
      counted = c.in_ok-take.ensures.counted;
      sizes = search (rules, places);
      members = let l = c.take.new.growth.members.ok.0 in let m = c.loop-growth.growth.members.ok.0 in
          (omega (arith, more, l, m), omega (arith, more, l, m, c.loop-growth-test.true, c.len.ensures));
      grown = λ groups marks grown.
          let before = c.loop-growth.invariant.grown groups marks grown in
          let joins = choice_joins c.loop-growth.busy groups old before.0
          (λ cut answer. (goal.Fn-dyn g).post (c.args.policy.now.rule.vtable, c.args.policy.now.rule.value) (cut, tt)
          answer)
          c.args.tolerance c.args.kept.now.edges.items x
          c.in-Some.ensures in
          let m = c.loop-growth.growth.members.ok.0 in
          let room : length old < 8 = omega (arith, m, c.loop-growth-test.true, c.len.ensures) in
          rw (c.in_ok-take.ensures.members, c.in_ok-take.ensures.busy) (
            marks_more c.loop-growth.busy groups old x below before.0,
            joined old x before.1 room (rw c.loop-growth.auto.busy at joins),
          );
    }

pub returns : goal.returns
returns g c = λ groups marks grown.
    let before = c.loop-growth.invariant.grown groups marks grown in
    let m = c.loop-growth.growth.members.ok.0 in
    let full : length c.loop-growth.growth.members.items ≡ 8 =
    omega (arith, m, c.loop-growth-test.false, c.len.ensures, c.loop-growth.invariant.members) in
    ((before.1, inl full), before.0)
