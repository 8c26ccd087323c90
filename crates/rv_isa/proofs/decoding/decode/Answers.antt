use Rattle.rv_isa.proofs.RoundTrip.{IfSome-formed, IfSome-registers}
use Rattle.rv_isa.proofs.SharedWords.{decoded-none}
use Rattle.rv_isa.proofs.decoding.decode.Goals as goal
use Rattle.std.proofs.Common.{arith}

pub returns-clause-registers : goal.returns-clause-registers
returns-clause-registers c = IfSome-registers c.args.word (omega arith) c.read.result c.read.ensures

pub returns-clause-formed : goal.returns-clause-formed
returns-clause-formed c = IfSome-formed c.args.word (omega arith) c.read.result c.read.ensures

pub returns-clause-none : goal.returns-clause-none
returns-clause-none c = rw c.read.ensures (decoded-none c.args.word)
