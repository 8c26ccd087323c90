-- The word by the format is read back, and no other word is.
use Rattle.std.proofs.Common.{◌∙◌, ap, sym}
use Rattle.rv_isa.specs.Table.{decoded}
use Rattle.rv_isa.proofs.RoundTrip.{decoded-encoded, encoded_only}
use Rattle.rv_isa.proofs.encoding.encode.Goals as goal

pub returns-clause-decodes : goal.returns-clause-decodes
returns-clause-decodes c = ap decoded c.word_of.ensures ∙ decoded-encoded c.args.i c.requires

pub returns-clause-only : goal.returns-clause-only
returns-clause-only c = λ w m e. encoded_only c.args.i w m e ∙ sym c.word_of.ensures
