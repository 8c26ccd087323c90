use Rattle.place_spec.proofs.SoundParts.{parts}
use Rattle.place_spec.proofs.Sounds.{reached_parts}
use Rattle.place_spec.proofs.Ways.{has_owner}
use Rattle.place_spec.proofs.laws.blocks_of_a_chunk_have_its_owner_as_group.Goals as goal

pub returns-clause-sound : goal.returns-clause-sound
returns-clause-sound c = λ area layout s. has_owner area layout (parts area layout s)

pub returns-clause-reached : goal.returns-clause-reached
returns-clause-reached c = λ rows area layout h r. has_owner area layout (reached_parts rows area layout h r)
