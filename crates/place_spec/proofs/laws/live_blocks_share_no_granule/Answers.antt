use Rattle.place_spec.proofs.SoundParts.{sound}
use Rattle.place_spec.proofs.Sounds.{reached_parts}
use Rattle.place_spec.proofs.Ways.{no_shared}
use Rattle.place_spec.proofs.laws.live_blocks_share_no_granule.Goals as goal

pub returns-clause-sound : goal.returns-clause-sound
returns-clause-sound c = no_shared

pub returns-clause-reached : goal.returns-clause-reached
returns-clause-reached c = λ rows area layout h r. no_shared area layout
    (sound area layout (reached_parts rows area layout h r))
