use Rattle.place_spec.specs.Reached.{IsAllowed}
use Rattle.place_spec.proofs.Lists.{each}
use Rattle.place_spec.proofs.SoundParts.{parts}
use Rattle.place_spec.proofs.Ways.{next_begins}
use Rattle.place_spec.proofs.laws.the_next_block_begins_where_the_last_ends.Goals as goal

pub returns : goal.returns
returns c = λ rows area layout k need bits p between next_need next_bits q h s m some e i a u more f j.
    next_begins rows area layout k need bits p between next_need next_bits q h (parts area layout s) m some e i
    (each IsAllowed between a) u more f j
