use Rattle.std.proofs.Common.{◌≡◌, ◌-◌, length}
use Rattle.profile_text.specs.Reading.{addrs_on}
use Rattle.profile_text.proofs.Addresses.{with_addrs}
use Rattle.profile_text.proofs.lines.read_addrs.Given as goal

abbrev pub invariant-loop-at : goal.invariant-loop-at
invariant-loop-at l = with_addrs l.addrs (addrs_on (length l.fn.text - l.at) l.rest)
    ≡ addrs_on (length l.fn.text) l.fn.text
