-- An aligned address in the parts with code is that of a code word, and no other is.
use Rattle.std.proofs.Common.{◌≡◌, ◌%◌, ◌∙◌, nat_eq, true, false, arith}
use Rattle.std.proofs.lemmas.Bool.Decides.{nat_tests}
use Rattle.exec_image.proofs.CodePlaces.{code_test}
use Rattle.exec_image.proofs.code.is_code_word.Goals as goal

pub returns-then-addr-eq0 : goal.returns-then-addr-eq0
returns-then-addr-eq0 c =
    let e : nat_eq (c.args.addr % 4) 0 ≡ true = grind (arith, nat_tests) in
    c.meets.ensures ∙ rw e at (code_test c.args.file.now c.args.segments.now c.args.code.now c.args.addr c.requires)

pub returns-else-addr-eq0 : goal.returns-else-addr-eq0
returns-else-addr-eq0 c =
    let e : nat_eq (c.args.addr % 4) 0 ≡ false = grind (arith, nat_tests) in
    e ∙ rw e at (code_test c.args.file.now c.args.segments.now c.args.code.now c.args.addr c.requires)
