use Rattle.first_check.proofs.Below.{below_hit, below_none, below_all, below_some}
use Rattle.first_check.proofs.laws.the_first_number_that_passes_is_found.Goals as goal

pub returns : goal.returns
returns c = record {
  first = λ p bound n. (below_some p bound n, λ is. below_hit p n bound (below_all p n is.2) is.1 is.0);
  none = λ p bound. (below_none p bound, below_all p bound);
}
