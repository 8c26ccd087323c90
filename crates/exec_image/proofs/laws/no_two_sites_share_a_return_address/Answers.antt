-- A JAL is no JALR.
use Rattle.exec_image.proofs.SiteShape.{one_back}
use Rattle.exec_image.proofs.laws.no_two_sites_share_a_return_address.Goals as goal

pub returns : goal.returns
returns c = one_back
