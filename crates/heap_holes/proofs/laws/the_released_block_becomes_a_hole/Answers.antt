use Rattle.heap_holes.proofs.Releases.{release_low_releases}
use Rattle.heap_holes.proofs.laws.the_released_block_becomes_a_hole.Goals as goal

pub returns : goal.returns
returns c = release_low_releases
