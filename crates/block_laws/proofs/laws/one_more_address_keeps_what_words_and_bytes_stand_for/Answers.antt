use Rattle.block_laws.proofs.Standing.{holds_more, region_more}
use Rattle.block_laws.proofs.laws.one_more_address_keeps_what_words_and_bytes_stand_for.Goals as goal

pub returns : goal.returns
returns c = record { value = holds_more; region = region_more }
