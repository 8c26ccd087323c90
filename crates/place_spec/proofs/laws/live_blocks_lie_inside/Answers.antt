use Rattle.place_spec.proofs.SoundParts.{sound}
use Rattle.place_spec.proofs.Sounds.{reached_parts}
use Rattle.place_spec.proofs.Ways.{all_in_parts}
use Rattle.place_spec.proofs.laws.live_blocks_lie_inside.Goals as goal

pub returns-clause-part : goal.returns-clause-part
returns-clause-part c = all_in_parts

pub returns-clause-reached_area : goal.returns-clause-reached_area
returns-clause-reached_area c = λ rows area layout h r. (sound area layout
    (reached_parts rows area layout h r)).blocks_inside

pub returns-clause-reached_part : goal.returns-clause-reached_part
returns-clause-reached_part c = λ rows area layout h r. all_in_parts area layout
    (sound area layout (reached_parts rows area layout h r))
