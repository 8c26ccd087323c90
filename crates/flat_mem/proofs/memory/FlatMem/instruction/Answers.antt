use Rattle.std.proofs.Common.{sym}
use Rattle.std.specs.List.{All}
use Rattle.flat_mem.specs.Decoded.{IsKnown}
use Rattle.flat_mem.proofs.memory.FlatMem.instruction.Goals as goal

pub returns-then-known-addr-clause-is : goal.returns-then-known-addr-clause-is
returns-then-known-addr-clause-is c =
    let all : All (IsKnown c.self.inside.storage) c.deref.result.now =
    rw c.deref.ensures.value c.self.invariant.known in
    let known : IsKnown c.self.inside.storage c.look_up-known.result =
    c.look_up-known.ensures c.self.inside.storage all in
    rw (← c.self.view_is, ← c.if-known-addr.true) (sym known.is)

pub returns-then-known-addr-clause-registers : goal.returns-then-known-addr-clause-registers
returns-then-known-addr-clause-registers c =
    let all : All (IsKnown c.self.inside.storage) c.deref.result.now =
    rw c.deref.ensures.value c.self.invariant.known in
    let known : IsKnown c.self.inside.storage c.look_up-known.result =
    c.look_up-known.ensures c.self.inside.storage all in
    known.registers
