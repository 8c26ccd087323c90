use Rattle.std.proofs.Common.{◌∙◌, sym}
use Rattle.flat_mem.proofs.Numbers.{bytes_there}
use Rattle.flat_mem.proofs.storage.Storage.holds.Goals as goal

pub returns : goal.returns
returns c =
    c.allows_all.ensures
    ∙ sym (bytes_there c.ranges_say_what_may_be_accessed.ensures.bytes c.args.self.now c.args.addr c.args.len)
