-- An instruction is formed where its word by the format is read back.
use Rattle.std.proofs.Common.{◌∙◌, ap, sym, arith}
use Rattle.rv_isa.specs.Table.{decoded}
use Rattle.rv_isa.proofs.RoundTrip.{decoded-encoded, encoded_only, formed_decoded}
use Rattle.rv_isa.proofs.encoding.is_formed.Goals as goal

pub returns-clause-formed : goal.returns-clause-formed
returns-clause-formed c =
    let i = c.args.i.now in
    let reads = c.reads_as.ensures in (
      λ t. formed_decoded c.word_of.result (omega arith) i (reads.0 t),
      λ h. reads.1 (ap decoded c.word_of.ensures ∙ decoded-encoded i h),
    )

pub returns-clause-some_word : goal.returns-clause-some_word
returns-clause-some_word c =
    let i = c.args.i.now in
    let reads = c.reads_as.ensures in (
      λ t. (c.word_of.result, omega arith, reads.0 t),
      λ s. reads.1 (ap decoded (c.word_of.ensures ∙ sym (encoded_only i s.0 s.1 s.2)) ∙ s.2),
    )
