use Rattle.halo_words.specs.Table.{the_table}
use Rattle.halo_words.proofs.TableLines.{first_wrong_is_no_line, table_sound}
use Rattle.halo_words.proofs.laws.words_with_a_wrong_one_are_no_line.Goals as goal

pub returns : goal.returns
returns c = first_wrong_is_no_line the_table table_sound
