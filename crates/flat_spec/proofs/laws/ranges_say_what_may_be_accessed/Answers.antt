use Rattle.flat_spec.proofs.Memories.{byte_there, same_executable, same_there, same_writable}
use Rattle.flat_spec.proofs.Pieces.{storable_same, writable_there}
use Rattle.flat_spec.proofs.laws.ranges_say_what_may_be_accessed.Goals as goal

pub returns : goal.returns
returns c = record {
  places = same_there;
  stores = same_writable;
  fetches = same_executable;
  pieces = storable_same;
  bytes = byte_there;
  storable = writable_there;
}
