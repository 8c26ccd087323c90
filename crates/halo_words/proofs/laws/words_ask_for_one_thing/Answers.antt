use Rattle.halo_words.specs.Table.{the_table}
use Rattle.halo_words.proofs.TableLines.{asks_once, table_sound}
use Rattle.halo_words.proofs.laws.words_ask_for_one_thing.Goals as goal

pub returns : goal.returns
returns c = asks_once the_table table_sound
