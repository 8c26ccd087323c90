use Rattle.frag_code.proofs.Frames.{register_stays, memory_stays, word_stays, words_stay, cost_rises}
use Rattle.frag_code.proofs.laws.a_run_changes_what_it_may.Goals as goal

pub returns : goal.returns
returns c = record {
  registers = λ g f w r s t h run. register_stays g r f w s t h run;
  without_stores = λ g f w s t h run. memory_stays g f w s t h run;
  words = λ g f w a s t h run. word_stays g a h f w s t run;
  sizes = λ g f w s t h run. words_stay c.results_are_words.ensures g f w s t h run;
  cost = λ g f w s t run. cost_rises g f w s t run;
}
