-- The bytes are those of the site's stub.
use Rattle.rewriter.proofs.ChosenSites.{stub_bytes}
use Rattle.rewriter.proofs.text.push_stub.Goals as goal

pub returns-in_ok-push_words-clause-is : goal.returns-in_ok-push_words-clause-is
returns-in_ok-push_words-clause-is c =
    stub_bytes _ _ _ c.stub_place-at.result _ _ _ c.in-Some.site c.in_ok-push_words.ensures.is c.stub.ensures.words
    c.stub_place-at.ensures.exact c.in-Some.ensures.exact
