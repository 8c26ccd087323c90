-- Joined lists regrouped to the right.
use Rattle.std.proofs.Common.{append_assoc}

pub ruleset assoc = (append_assoc)
