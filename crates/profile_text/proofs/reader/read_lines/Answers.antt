use Rattle.std.proofs.Common.{rules, ◌≡◌, []}
use Rattle.profile_text.specs.declared.steps.Stage.TheVariants.{Ended}
use Rattle.profile_text.proofs.Laws.{TextLaws}
use Rattle.profile_text.proofs.Begun.{went_on, goes_down, refused, trailing}
use Rattle.profile_text.proofs.reader.read_lines.Goals as goal

pub returns-in-Err-clause-refused : goal.returns-in-Err-clause-refused
returns-in-Err-clause-refused c =
    let laws : TextLaws = record {
      field = c.numbers_are_read_as_they_are_written.ensures.field;
      leading = c.numbers_are_read_as_they_are_written.ensures.leading;
      hexadecimal = c.numbers_are_read_as_they_are_written.ensures.hexadecimal;
      front = c.parts_are_read_where_they_stand.ensures.front;
    } in
    let going : c.loop-alloc.stage ≡ Ended → ⊥ = search rules in
    refused laws _ c.loop-alloc.profile c.loop-alloc.stage c.loop-alloc.rest.now _ _ c.loop-alloc.invariant going
    c.in-Err.ensures

pub loop-alloc-preserved : goal.loop-alloc-preserved
loop-alloc-preserved c =
    let laws : TextLaws = record {
      field = c.numbers_are_read_as_they_are_written.ensures.field;
      leading = c.numbers_are_read_as_they_are_written.ensures.leading;
      hexadecimal = c.numbers_are_read_as_they_are_written.ensures.hexadecimal;
      front = c.parts_are_read_where_they_stand.ensures.front;
    } in
    went_on laws _ c.loop-alloc.profile c.loop-alloc.stage c.loop-alloc.rest.now _ _ _ _ c.loop-alloc.invariant
    c.in-Ok.ensures

pub loop-alloc-smaller : goal.loop-alloc-smaller
loop-alloc-smaller c =
    let laws : TextLaws = record {
      field = c.numbers_are_read_as_they_are_written.ensures.field;
      leading = c.numbers_are_read_as_they_are_written.ensures.leading;
      hexadecimal = c.numbers_are_read_as_they_are_written.ensures.hexadecimal;
      front = c.parts_are_read_where_they_stand.ensures.front;
    } in
    goes_down laws c.loop-alloc.profile c.loop-alloc.stage c.loop-alloc.rest.now _ _ _ c.in-Ok.ensures

pub returns-then-not-is_empty-clause-refused : goal.returns-then-not-is_empty-clause-refused
returns-then-not-is_empty-clause-refused c =
    let laws : TextLaws = record {
      field = c.numbers_are_read_as_they_are_written.ensures.field;
      leading = c.numbers_are_read_as_they_are_written.ensures.leading;
      hexadecimal = c.numbers_are_read_as_they_are_written.ensures.hexadecimal;
      front = c.parts_are_read_where_they_stand.ensures.front;
    } in
    let ended : c.loop-alloc.stage ≡ Ended = search rules in
    let some : c.loop-alloc.rest.now ≡ [] → ⊥ = search rules in
    trailing laws _ c.loop-alloc.profile _ _ _ c.loop-alloc.invariant ended some
