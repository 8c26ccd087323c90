-- The next word begins at the address, or with the first part that ends above it.
use Rattle.std.proofs.Common.{◌≡◌, ◌+◌, ◌*◌, ◌%◌, ◌<◌, ◌≤◌, arith}
use Rattle.exec_image.specs.declared.parts.Part.{Part}
use Rattle.exec_image.proofs.NextWords.{IsNextWord, gap_behind, next_word, no_word}
use Rattle.exec_image.proofs.code.next_code_word.Goals as goal

next : (c : goal.After-max) → IsNextWord c.args.file.now c.args.from c.max.result
next c =
    let d : Part = record { start = 0; end = 0 } in
    let m : c.div_ceil-at.result * 4 % 4 ≡ 0 = omega arith in
    let least : c.args.from ≤ c.div_ceil-at.result * 4 = omega arith in
    let near : c.div_ceil-at.result * 4 < c.args.from + 4 = omega arith in
    next_word c.args.file.now c.args.segments.now c.args.code.now c.first_above-first.result c.args.from
    (c.div_ceil-at.result * 4) c.max.result d c.requires
    c.if-first-code.true m least near c.first_above-first.ensures.below
    (c.first_above-first.ensures.above c.first_above-first.result d (omega arith) c.if-first-code.true) c.max.ensures

pub overflow_cast-result : goal.overflow_cast-result
overflow_cast-result c = let l = (next c).low in omega (arith, l)

pub returns-then-first-code-clause-found : goal.returns-then-first-code-clause-found
returns-then-first-code-clause-found c = ((next c).reached, (next c).end, (next c).word)

pub returns-then-first-code-clause-low : goal.returns-then-first-code-clause-low
returns-then-first-code-clause-low c = (next c).low

pub returns-then-first-code-clause-first : goal.returns-then-first-code-clause-first
returns-then-first-code-clause-first c = (next c).gap

pub returns-else-first-code-clause-none : goal.returns-else-first-code-clause-none
returns-else-first-code-clause-none c = λ b l.
    let m : c.div_ceil-at.result * 4 % 4 ≡ 0 = omega arith in
    let near : c.div_ceil-at.result * 4 < c.args.from + 4 = omega arith in
    no_word c.args.file.now b
    (gap_behind c.args.file.now c.args.segments.now c.args.code.now c.first_above-first.result c.args.from
    (c.div_ceil-at.result * 4) b c.requires
    c.first_above-first.ensures.below m near l (omega arith))
