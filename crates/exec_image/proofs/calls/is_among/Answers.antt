-- A number that is not found is among none.
use Rattle.std.proofs.Common.{◌∙◌}
use Rattle.exec_image.proofs.Searching.{among}
use Rattle.exec_image.proofs.calls.is_among.Goals as goal

pub returns : goal.returns
returns c = c.is_ok.ensures.value ∙ among c.args.list.now c.args.a c.binary_search.result c.requires
    c.binary_search.ensures.position
