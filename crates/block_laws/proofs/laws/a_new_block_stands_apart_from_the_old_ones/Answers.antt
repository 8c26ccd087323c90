use Rattle.block_laws.proofs.Placing.{stands_beside}
use Rattle.block_laws.proofs.laws.a_new_block_stands_apart_from_the_old_ones.Goals as goal

pub returns : goal.returns
returns c = λ rows area layout need bits p groups sound some found.
    stands_beside rows area layout need bits p
    (c.layouts_stay_sound.ensures.placing rows area layout need bits p groups sound some found) found
