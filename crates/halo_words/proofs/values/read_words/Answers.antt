use Rattle.halo_words.specs.Table.{shape_of}
use Rattle.halo_words.specs.Grammar.{texts}
use Rattle.halo_words.proofs.Parsed.{is_line}
use Rattle.halo_words.proofs.values.read_words.Goals as goal

pub returns-clause-stops : goal.returns-clause-stops
returns-clause-stops c = is_line (texts c.args.words.now) (shape_of c.in-Ok.form) c.in-Ok.ensures.line
