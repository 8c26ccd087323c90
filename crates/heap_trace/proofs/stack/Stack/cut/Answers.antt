use Rattle.std.proofs.Common.{◌≡◌, true, false, ap, sym, ◌∙◌}
use Rattle.std.specs.List.{list_any}
use Rattle.sym_spec.specs.Contexts.{comes_back_to, cut}
use Rattle.heap_trace.proofs.Frames.{cut_none, cut_here, cut_later, any_left, same_back, other_back}
use Rattle.heap_trace.proofs.stack.Stack.cut.Goals as goal

pub returns-then-not-comes_back_to : goal.returns-then-not-comes_back_to
returns-then-not-comes_back_to c =
    sym (cut_none c.args.back c.args.self.now (sym c.comes_back_to.ensures ∙ c.if-not-comes_back_to.true))

pub returns-then-site-back : goal.returns-then-site-back
returns-then-site-back c =
    sym (cut_here c.args.back c.pop.new.self c.in-Some.site (same_back c.args.back c.in-Some.site c.if-site-back.true))
    ∙ ap (cut c.args.back) (sym c.in-Some.ensures) ∙ c.loop-site.invariant.same

pub loop-site-preserved : goal.loop-site-preserved
loop-site-preserved c =
    let other : comes_back_to c.args.back c.in-Some.site ≡ false =
    other_back c.args.back c.in-Some.site c.if-site-back.false in
    let there : list_any (comes_back_to c.args.back) c.pop.new.self ≡ true =
    any_left c.args.back c.pop.new.self c.in-Some.site other
    (ap (list_any (comes_back_to c.args.back)) (sym c.in-Some.ensures) ∙ c.loop-site.invariant.there) in
    record {
      there = there;
      same = sym (cut_later c.args.back c.pop.new.self c.in-Some.site other there)
          ∙ ap (cut c.args.back) (sym c.in-Some.ensures) ∙ c.loop-site.invariant.same;
    }
