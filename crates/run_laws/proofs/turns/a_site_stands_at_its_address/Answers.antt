use Rattle.run_laws.proofs.Sites.{site_is}
use Rattle.run_laws.proofs.turns.a_site_stands_at_its_address.Goals as goal

pub returns : goal.returns
returns c = λ file a s is. (site_is file a s is).1
