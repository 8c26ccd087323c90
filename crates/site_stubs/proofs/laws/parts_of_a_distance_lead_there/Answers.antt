use Rattle.site_stubs.proofs.Way.{goes_there, split_lower, split_upper}
use Rattle.site_stubs.proofs.laws.parts_of_a_distance_lead_there.Goals as goal

pub returns : goal.returns
returns c = record { upper = split_upper; lower = split_lower; there = goes_there }
