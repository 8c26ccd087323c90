-- By the laws of words.
use Rattle.rv_build.specs.Generated.{program}
use Rattle.rv_build.proofs.Formed.{all_decoded}
use Rattle.rv_build.proofs.laws.the_words_decode_to_the_listing.Goals as goal

pub returns : goal.returns
unfolding program
returns c = all_decoded c.words_and_instructions_agree.ensures.decodes
