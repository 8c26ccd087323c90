use Rattle.new_file_laws.proofs.Lines.{few_sites}
use Rattle.new_file_laws.proofs.laws.fitting_plans_have_few_sites.Goals as goal

pub returns : goal.returns
returns c = few_sites
