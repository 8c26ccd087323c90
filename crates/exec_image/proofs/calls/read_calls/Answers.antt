-- The three lists have the places of their kinds.
use Rattle.std.proofs.Common.{◌∙◌}
use Rattle.exec_image.proofs.CallKinds.{one, three, two}
use Rattle.exec_image.proofs.calls.read_calls.Goals as goal

pub returns : goal.returns
returns c =
    record {
      jals_rise = c.in_ok-jals.ensures.rise;
      jals = λ a. c.in_ok-jals.ensures.all a ∙ one c.args.relocs.now a;
      pairs_rise = c.in_ok-pairs.ensures.rise;
      pairs = λ a. c.in_ok-pairs.ensures.all a ∙ two c.args.relocs.now a;
      all_rise = c.in_ok-all.ensures.rise;
      all = λ a. c.in_ok-all.ensures.all a ∙ three c.args.relocs.now a;
    }
