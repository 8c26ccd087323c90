use Rattle.std.proofs.Common.{◌≡◌, Some, None, rules}
use Rattle.halo_words.specs.Table.{the_table, shape_of, shape_named}
use Rattle.halo_words.specs.Grammar.{texts}
use Rattle.halo_words.proofs.TableLines.{line_empty, line_unknown, line_found, line_wrong, form_short}
use Rattle.halo_words.proofs.lines.read_line.Goals as goal

pub returns-in_default-clause-wrong : goal.returns-in_default-clause-wrong
returns-in_default-clause-wrong c = line_empty (texts c.args.words.now) (search rules)

pub returns-in_default-form_named-clause-wrong : goal.returns-in_default-form_named-clause-wrong
returns-in_default-form_named-clause-wrong c =
    let none : shape_named the_table c.in-Some.command.now ≡ None = cc (c.in_default-form_named.ensures) in
    line_unknown (texts c.args.words.now) c.in-Some.command.now (texts c.in-Some.rest.now) c.in-Some.ensures.some none

pub read_items-requires : goal.read_items-requires
read_items-requires c =
    let named : shape_named the_table c.in-Some.command.now ≡ Some (shape_of c.in-Some-form_named.form) =
    cc (c.in-Some-form_named.ensures) in
    form_short (texts c.args.words.now) c.in-Some.command.now (texts c.in-Some.rest.now) c.in-Some.ensures.some
    (shape_of c.in-Some-form_named.form) named

pub returns-in-Ok-clause-line : goal.returns-in-Ok-clause-line
returns-in-Ok-clause-line c =
    let named : shape_named the_table c.in-Some.command.now ≡ Some (shape_of c.in-Some-form_named.form) =
    cc (c.in-Some-form_named.ensures) in
    line_found (texts c.args.words.now) c.in-Some.command.now (texts c.in-Some.rest.now) c.in-Some.ensures.some
    (shape_of c.in-Some-form_named.form) named c.in-Ok.ensures.ok

pub returns-in-Err-clause-wrong : goal.returns-in-Err-clause-wrong
returns-in-Err-clause-wrong c =
    let named : shape_named the_table c.in-Some.command.now ≡ Some (shape_of c.in-Some-form_named.form) =
    cc (c.in-Some-form_named.ensures) in
    line_wrong (texts c.args.words.now) c.in-Some.command.now (texts c.in-Some.rest.now) c.in-Some.ensures.some
    (shape_of c.in-Some-form_named.form) named c.in-Err.at c.in-Err.ensures.wrong
