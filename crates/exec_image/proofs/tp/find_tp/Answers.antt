-- Each code word is looked at, and between them there is none.
use Rattle.std.proofs.Common.{◌≡◌, ◌+◌, false, rules, arith}
use Rattle.exec_image.specs.Checks.{uses_tp_at}
use Rattle.exec_image.proofs.TpWords.{behind_use, next_use}
use Rattle.exec_image.proofs.tp.find_tp.Goals as goal

pub returns-then-is_tp_word-clause-found : goal.returns-then-is_tp_word-clause-found
unfolding uses_tp_at
returns-then-is_tp_word-clause-found c = search rules

pub returns-then-is_tp_word-clause-first : goal.returns-then-is_tp_word-clause-first
returns-then-is_tp_word-clause-first c =
    next_use c.args.file.now c.loop-a.from c.in-Some.a c.loop-a.invariant c.in-Some.ensures.first

pub loop-a-preserved : goal.loop-a-preserved
unfolding uses_tp_at
loop-a-preserved c =
    let here : uses_tp_at c.args.file.now c.in-Some.a ≡ false = search rules in
    behind_use c.args.file.now c.loop-a.from c.in-Some.a c.loop-a.invariant c.in-Some.ensures.first
    c.in-Some.ensures.found.2 here

pub returns-clause-none : goal.returns-clause-none
returns-clause-none c = λ b. next_use c.args.file.now c.loop-a.from (b + 1) c.loop-a.invariant
    (λ d l u. c.in_default.ensures.none d l) b (omega arith)
