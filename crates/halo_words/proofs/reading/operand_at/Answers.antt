use Rattle.halo_words.proofs.LookUps.{place_short}
use Rattle.halo_words.proofs.reading.operand_at.Goals as goal

pub returns-clause-short : goal.returns-clause-short
returns-clause-short c =
    place_short c.args.operands.now c.args.count c.find_operand.result c.find_operand.ensures c.requires
