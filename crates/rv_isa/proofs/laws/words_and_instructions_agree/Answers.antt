use Rattle.rv_isa.proofs.Bounds.{encoded-lt}
use Rattle.rv_isa.proofs.RoundTrip.{decoded-encoded, encoded_only, formed_decoded}
use Rattle.rv_isa.proofs.laws.words_and_instructions_agree.Goals as goal

pub returns : goal.returns
returns c =
    record {
      bound = encoded-lt;
      decodes = decoded-encoded;
      formed = λ w i m e. formed_decoded w m i e;
      only = λ w i m e. encoded_only i w m e;
    }
