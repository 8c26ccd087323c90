use Rattle.std.proofs.Common.{◌≡◌, ◌++◌, take}
use Rattle.std.specs.List.{flat_map}
use Rattle.profile_text.specs.Profile.{addr_text}
use Rattle.profile_text.proofs.writer.write_addrs.Given as goal

abbrev pub invariant-loop-addr : goal.invariant-loop-addr
invariant-loop-addr l = l.out.items ≡ l.fn.out.items ++ flat_map addr_text (take l.addr-index l.addrs)
