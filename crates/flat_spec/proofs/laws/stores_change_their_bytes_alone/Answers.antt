use Rattle.flat_spec.proofs.Pieces.{put_bytes_shape, put_bytes_elsewhere, put_bytes_there}
use Rattle.flat_spec.proofs.laws.stores_change_their_bytes_alone.Goals as goal

pub returns : goal.returns
returns c = record {
  ranges = put_bytes_shape;
  elsewhere = put_bytes_elsewhere;
  there = put_bytes_there;
}
