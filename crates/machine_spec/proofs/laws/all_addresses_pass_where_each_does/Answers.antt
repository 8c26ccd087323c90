use Rattle.machine_spec.proofs.AllFrom.{all_agree, all_pass, each_passes}
use Rattle.machine_spec.proofs.laws.all_addresses_pass_where_each_does.Goals as goal

pub returns : goal.returns
returns c = record {
  together = λ test a n. (each_passes test a n, all_pass test a n);
  agree = all_agree;
}
