use Rattle.frag_rules.proofs.Checked.{fields, words_are}
use Rattle.frag_rules.proofs.fields_are_tested_and_words_counted_by_parts.Goals as goal

pub returns : goal.returns
returns c = record { fields = fields; words = words_are }
