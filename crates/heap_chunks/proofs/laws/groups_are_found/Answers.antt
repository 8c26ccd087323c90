use Rattle.heap_chunks.proofs.Testing.{group_ends}
use Rattle.heap_chunks.proofs.laws.groups_are_found.Goals as goal

pub returns : goal.returns
returns c = group_ends
