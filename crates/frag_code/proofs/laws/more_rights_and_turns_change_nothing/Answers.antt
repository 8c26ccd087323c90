use Rattle.frag_code.proofs.Frames.{run_grows}
use Rattle.frag_code.proofs.laws.more_rights_and_turns_change_nothing.Goals as goal

pub returns : goal.returns
returns c = λ g more f w most s t h few run. run_grows g more h w most few f s t run
