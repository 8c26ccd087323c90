use Rattle.place_spec.proofs.SoundParts.{parts}
use Rattle.place_spec.proofs.Ways.{filled_again}
use Rattle.place_spec.proofs.laws.an_emptied_chunk_is_filled_from_its_front.Goals as goal

pub returns : goal.returns
returns c = λ rows area layout k g granule need bits b s cur one found i l e.
    filled_again rows area layout k g granule need bits b (parts area layout s) cur one found i l e
