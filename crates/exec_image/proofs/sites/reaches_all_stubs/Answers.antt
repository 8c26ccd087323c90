-- The first and the last stub stand for all.
use Rattle.std.proofs.Common.{◌∙◌}
use Rattle.exec_image.proofs.Stubs.{all_stubs}
use Rattle.exec_image.proofs.sites.reaches_all_stubs.Goals as goal

pub returns : goal.returns
returns c = c.reaches_both.ensures ∙ rw (c.stub_place.ensures, c.stub_place-2.ensures, c.requires.text)
    (all_stubs c.args.file.now c.args.addr)
